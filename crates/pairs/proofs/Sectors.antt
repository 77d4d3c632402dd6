-- The sectors of pairs: their numbers, and which lie inside.
-- Assumes nothing.
use Rattle.std.proofs.Common.{◌≡◌, ℕ, zero, suc, ◌+◌, ◌-◌, ◌<◌, ◌≤◌, true, ltb, leb, ◌⊎◌, List, [], ◌∷◌, ◌++◌, Some, Decides, Option, sym, refl, ap, ◌∙◌, inl, inr, ⊎_elim, add-zero, arith}
use Rattle.std.specs.List.{slice_get, range_with_len}
use Rattle.std.proofs.lemmas.Bool.{cases_lt, cond-true, cond-false, lt-ltb, le-ltb, leb-true, ltb-true, le-leb, and_parts, and_from, or_cases, or_left, or_right}
use Rattle.device.specs.Cuts.{Among}
use Rattle.pairs.specs.declared.pair.Pair.{Pair}
use Rattle.pairs.specs.Pairs.{pair_end, place, holds, within}
use Rattle.pairs.specs.Law.{sectors}

-- a number in a run, and behind it
nth_run : (first n : ℕ) (rest : List ℕ) (s : ℕ) → s < n → slice_get (range_with_len first n ++ rest) s ≡ Some (first + s)
nth_run first zero rest s lt = absurd (omega arith)
nth_run first (suc n) rest zero lt = ap {B = Option ℕ} Some (sym (add-zero first))
nth_run first (suc n) rest (suc s) lt = nth_run (first + 1) n rest s (omega arith) ∙ ap {B = Option ℕ} Some (omega arith)

nth_behind : (first n : ℕ) (rest : List ℕ) (s : ℕ) → n ≤ s → slice_get (range_with_len first n ++ rest) s ≡ slice_get rest (s - n)
nth_behind first zero rest s le = ap (slice_get rest) (omega arith)
nth_behind first (suc n) rest zero le = absurd (omega arith)
nth_behind first (suc n) rest (suc s) le = nth_behind (first + 1) n rest s (omega arith) ∙ ap (slice_get rest) (omega arith)

pub place_nth : (ps : List Pair) (s : ℕ) → place ps s ≡ slice_get (sectors ps) s
unfolding place
place_nth [] s = refl
place_nth (p ∷ ps) s =
    ⊎_elim
    (λ lt. cond-true (ltb s p.length) _ _ (lt-ltb _ _ lt) ∙ sym (nth_run p.offset p.length (sectors ps) s lt))
    (λ le. cond-false (ltb s p.length) _ _ (le-ltb _ _ le) ∙ (place_nth ps (s - p.length) ∙ sym (nth_behind p.offset p.length (sectors ps) s le)))
    (cases_lt s p.length)

-- what is among the numbers of a run, or behind it
run_or_rest : (first n : ℕ) (rest : List ℕ) (x : ℕ) → Among x (range_with_len first n ++ rest) → ((first ≤ x) × (x < first + n)) ⊎ Among x rest
run_or_rest first zero rest x a = inr a
run_or_rest first (suc n) rest x (inl e) = inl (omega arith, omega arith)
run_or_rest first (suc n) rest x (inr a) =
    elim (run_or_rest (first + 1) n rest x a) [ inl h ↦ inl (omega (arith, h.0), omega (arith, h.1)) | inr b ↦ inr b ]

among_run : (first n : ℕ) (rest : List ℕ) (x : ℕ) → first ≤ x → x < first + n → Among x (range_with_len first n ++ rest)
among_run first zero rest x le lt = absurd (omega arith)
among_run first (suc n) rest x le lt = ⊎_elim (λ lt'. inr (among_run (first + 1) n rest x (omega arith) (omega arith))) (λ ge. inl (omega arith)) (cases_lt first x)

among_rest : (first n : ℕ) (rest : List ℕ) (x : ℕ) → Among x rest → Among x (range_with_len first n ++ rest)
among_rest first zero rest x a = a
among_rest first (suc n) rest x a = inr (among_rest (first + 1) n rest x a)

to_among : (ps : List Pair) (s : ℕ) → within ps s ≡ true → Among s (sectors ps)
unfolding within
to_among [] s h = let z : ◌≡◌ {A = ℕ} 0 1 = cc in absurd (omega arith)
to_among (p ∷ ps) s h = here_or_later (to_among ps s)
  where
    here_or_later : (within ps s ≡ true → Among s (sectors ps)) → Among s (range_with_len p.offset p.length ++ sectors ps)
    here_or_later later =
        ⊎_elim
        (λ e. let parts = and_parts (leb p.offset s) (ltb s (pair_end p)) e in among_run p.offset p.length (sectors ps) s (leb-true _ _ parts.0) (ltb-true _ _ parts.1))
        (λ e. among_rest p.offset p.length (sectors ps) s (later e))
        (or_cases (holds p s) (within ps s) h)

from_among : (ps : List Pair) (s : ℕ) → Among s (sectors ps) → within ps s ≡ true
unfolding within
from_among [] s a = elim a [ ]
from_among (p ∷ ps) s a =
    ⊎_elim
    (λ h. or_left (holds p s) (within ps s) (and_from (leb p.offset s) (ltb s (pair_end p)) (le-leb _ _ h.0) (lt-ltb _ _ h.1)))
    (λ b. or_right (holds p s) (within ps s) (from_among ps s b))
    (run_or_rest p.offset p.length (sectors ps) s a)

pub within_decides : (ps : List Pair) (s : ℕ) → Decides (within ps s) (Among s (sectors ps))
within_decides ps s = (to_among ps s, from_among ps s)
