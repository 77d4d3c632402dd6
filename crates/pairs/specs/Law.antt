-- Pairs in the subject's own words: when one is accepted, and which sectors they hold.
use Rattle.std.specs.Prelude.{◌≡◌, ℕ, ◌<◌, ◌≤◌, List, [], ◌∷◌, ◌++◌, length, Ok, Err, Option, Result}
use Rattle.std.specs.List.{slice_get, flat_map, range_with_len, AllByRecursion}
use Rattle.descriptor.specs.Law.{Exactly}
use Rattle.pairs.specs.declared.pair.Pair.{Pair}
use Rattle.pairs.specs.declared.fault.PairFault.{PairFault}
use Rattle.pairs.specs.declared.fault.PairFault.TheVariants.{OffLimits, OutOfOrder, PastTheEnd}
use Rattle.pairs.specs.Pairs.{most_pairs, pair_end}

-- within limits: fewer than eight pairs so far, and a length of one or more
pub record WithinLimits (ps : List Pair) (p : Pair) : Type 0 where
  pub few : length ps < most_pairs
  pub long : 0 < p.length

-- in order: it starts at or past the end of each pair before it
abbrev pub Behind : List Pair → Pair → Type 0
Behind ps p = AllByRecursion (λ q. pair_end q ≤ p.offset) ps

-- on the device: it ends at or before its count
abbrev pub OnDevice : Pair → ℕ → Type 0
OnDevice p n = pair_end p ≤ n

-- a pair is accepted exactly where the three conditions hold, and then stands behind the others; a refusal is that of the
-- first condition that fails, and changes nothing
pub record Adding (ps : List Pair) (p : Pair) (n : ℕ) (r : Result (Unit {0}) PairFault) (after : List Pair) : Type 0 where
  pub accepted : Exactly (r ≡ Ok tt) (WithinLimits ps p × Behind ps p × OnDevice p n)
  pub off_limits : Exactly (r ≡ Err OffLimits) (WithinLimits ps p → ⊥)
  pub out_of_order : Exactly (r ≡ Err OutOfOrder) (WithinLimits ps p × (Behind ps p → ⊥))
  pub past_the_end : Exactly (r ≡ Err PastTheEnd) (WithinLimits ps p × Behind ps p × (OnDevice p n → ⊥))
  pub then : r ≡ Ok tt → after ≡ ps ++ p ∷ []
  pub else : (f : PairFault) → r ≡ Err f → after ≡ ps

-- the sectors of some pairs, in the order of the pairs
abbrev pub sectors : List Pair → List ℕ
sectors ps = flat_map (λ p. range_with_len p.offset p.length) ps

-- r is the sector with the number s among them, if there is one
abbrev pub Numbered : List Pair → ℕ → Option ℕ → Type 0
Numbered ps s r = r ≡ slice_get (sectors ps) s
