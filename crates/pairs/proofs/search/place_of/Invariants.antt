use Rattle.std.proofs.Common.{◌≡◌, ℕ, true, drop}
use Rattle.pairs.specs.Pairs.{in_order, place}
use Rattle.pairs.proofs.search.place_of.Given as goal

-- the pairs that are left are in order, and give the answer at what is left of the number
abbrev pub invariant-loop-pair : goal.invariant-loop-pair
invariant-loop-pair l = ((from : ℕ) × (in_order from (drop l.pair-index l.pairs) ≡ true)) × (place (drop l.pair-index l.pairs) l.rest ≡ place l.pairs l.sector)
