-- Pairs of offset and length, in their order: which may be added, and the sectors that they hold.
use Rattle.std.specs.Prelude.{ℕ, ◌+◌, ◌-◌, ◌^◌, min, Bool, true, cond, ◌&&◌, ◌||◌, List, [], ◌∷◌, ◌++◌, length, Some, None, Ok, Err, Option, Result, ◌==◌, nat_le, nat_lt}
use Rattle.std.specs.List.{list_any, sum_by}
use Rattle.pairs.specs.declared.pair.Pair.{Pair}
use Rattle.pairs.specs.declared.fault.PairFault.{PairFault}
use Rattle.pairs.specs.declared.fault.PairFault.TheVariants.{OffLimits, OutOfOrder, PastTheEnd}

-- the most pairs that a layer keeps
abbrev pub most_pairs : ℕ
most_pairs = 8

-- the first sector past a pair
abbrev pub pair_end : Pair → ℕ
pair_end p = p.offset + p.length

-- where the last pair ends, or a start where there is none
abbrev pub end_after : ℕ → List Pair → ℕ
end_after from [] = from
end_after from (p ∷ ps) = end_after (pair_end p) ps

-- each pair starts at or past the end of the one before, the first at or past a start; has a length; and ends within 32 bits
abbrev pub in_order : ℕ → List Pair → Bool
in_order from [] = true
in_order from (p ∷ ps) = nat_le from p.offset && (nat_lt 0 p.length && (nat_lt (pair_end p) (2 ^ 32) && in_order (pair_end p) ps))

-- a pair added over a device of n sectors: the answer, and the pairs after it
abbrev pub added : List Pair → Pair → ℕ → Result (Unit {0}) PairFault × List Pair
added ps p n =
    cond (nat_le most_pairs (length ps) || p.length == 0) (Err OffLimits, ps)
    (cond (nat_lt p.offset (end_after 0 ps)) (Err OutOfOrder, ps)
    (cond (nat_lt n (pair_end p)) (Err PastTheEnd, ps)
    (Ok tt, ps ++ p ∷ [])))

-- the sector below that has the number s among the pairs' sectors
unfoldable pub place : List Pair → ℕ → Option ℕ
place [] s = None
place (p ∷ ps) s = cond (nat_lt s p.length) (Some (p.offset + s)) (place ps (s - p.length))

-- whether a sector below lies inside a pair, and inside one of some pairs
abbrev pub holds : Pair → ℕ → Bool
holds p s = nat_le p.offset s && nat_lt s (pair_end p)

unfoldable pub within : List Pair → ℕ → Bool
within ps s = list_any (λ p. holds p s) ps

-- how many of the pairs' sectors a device of n sectors has
unfoldable pub reached : List Pair → ℕ → ℕ
reached ps n = sum_by (λ p. min (pair_end p) n - p.offset) ps
