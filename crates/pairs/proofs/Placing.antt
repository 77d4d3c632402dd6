-- Where the sectors of pairs lie below: no two in one place, and how many of them a device has.
-- Assumes nothing.
use Rattle.std.proofs.Common.{◌≡◌, ℕ, ◌+◌, ◌-◌, ◌<◌, ◌≤◌, true, ltb, ◌⊎◌, List, [], ◌∷◌, ◌++◌, length, IfOk, Some, None, Ok, Err, Result, sym, refl, ap, ◌∙◌, inl, inr, ⊎_elim, arith}
use Rattle.std.specs.List.{range_with_len}
use Rattle.std.proofs.lemmas.List.{length-append}
use Rattle.std.proofs.lemmas.List.FromFn.{length-range_with_len}
use Rattle.std.proofs.lemmas.Bool.{cases_lt, cond-true, cond-false, lt-ltb, le-ltb}
use Rattle.std.proofs.lemmas.Bool.Decides.{same_from_decides, Decides-like, Decides-ltb}
use Rattle.std.proofs.lemmas.Option.{same_Some, none-some}
use Rattle.pairs.specs.declared.pair.Pair.{Pair}
use Rattle.pairs.specs.declared.fault.PairFault.{PairFault}
use Rattle.pairs.specs.Pairs.{pair_end, end_after, in_order, place, reached}
use Rattle.pairs.specs.Law.{sectors, Adding}
use Rattle.pairs.proofs.Ordering.{order, end_after_push, reached_nil, reached_cons, reached_none}
use Rattle.pairs.proofs.Adding.{end_grows}

-- a number among the sectors of a first pair, or of those behind it
place_split : (p : Pair) (ps : List Pair) (s t : ℕ) → place (p ∷ ps) s ≡ Some t → ((s < p.length) × (p.offset + s ≡ t)) ⊎ ((p.length ≤ s) × (place ps (s - p.length) ≡ Some t))
unfolding place
place_split p ps s t e =
    ⊎_elim
    (λ lt. inl (lt, same_Some (p.offset + s) t (sym (cond-true (ltb s p.length) _ _ (lt-ltb _ _ lt)) ∙ e)))
    (λ le. inr (le, sym (cond-false (ltb s p.length) _ _ (le-ltb _ _ le)) ∙ e))
    (cases_lt s p.length)

-- each lies at or past the start of the pairs
pub place_above : (from : ℕ) (ps : List Pair) (s t : ℕ) → in_order from ps ≡ true → place ps s ≡ Some t → from ≤ t
unfolding place
place_above from [] s t h e = absurd (none-some t e)
place_above from (p ∷ ps) s t h e =
    let o = order from p ps h in
    let start : from ≤ p.offset = o.start in
    ⊎_elim
    (λ x. let same = x.1 in omega arith)
    (λ x. let above : pair_end p ≤ t = place_above (pair_end p) ps (s - p.length) t o.rest x.1 in omega arith)
    (place_split p ps s t e)

-- two numbers never stand for one sector below
pub place_one : (from : ℕ) (ps : List Pair) (s u t : ℕ) → in_order from ps ≡ true → place ps s ≡ Some t → place ps u ≡ Some t → s ≡ u
unfolding place
place_one from [] s u t h e f = absurd (none-some t e)
place_one from (p ∷ ps) s u t h e f =
    let o = order from p ps h in
    ⊎_elim
    (λ x. ⊎_elim
    (λ y. let a = x.1 in let b = y.1 in omega arith)
    (λ y. let a = x.0 in let b = x.1 in let above : pair_end p ≤ t = place_above (pair_end p) ps (u - p.length) t o.rest y.1 in absurd (omega arith))
    (place_split p ps u t f))
    (λ x. ⊎_elim
    (λ y. let a = y.0 in let b = y.1 in let above : pair_end p ≤ t = place_above (pair_end p) ps (s - p.length) t o.rest x.1 in absurd (omega arith))
    (λ y. let a = x.0 in let b = y.0 in let same : s - p.length ≡ u - p.length = place_one (pair_end p) ps (s - p.length) (u - p.length) t o.rest x.1 y.1 in omega arith)
    (place_split p ps u t f))
    (place_split p ps s t e)

-- a sector is one of those that the device has exactly if the device has it below
pub reached_only : (from : ℕ) (ps : List Pair) (n s t : ℕ) → in_order from ps ≡ true → place ps s ≡ Some t → s < reached ps n → t < n
unfolding place
reached_only from [] n s t h e lt = absurd (none-some t e)
reached_only from (p ∷ ps) n s t h e lt =
    let o = order from p ps h in
    let step = reached_cons p ps n in
    ⊎_elim
    (λ x. let a = x.0 in let b = x.1 in ⊎_elim
    (λ past. let none : reached ps n ≡ 0 = reached_none (pair_end p) ps n o.rest (omega arith) in omega arith)
    (λ inside. omega arith)
    (cases_lt n (pair_end p)))
    (λ x. let a = x.0 in ⊎_elim
    (λ past. let none : reached ps n ≡ 0 = reached_none (pair_end p) ps n o.rest (omega arith) in absurd (omega arith))
    (λ inside. reached_only (pair_end p) ps n (s - p.length) t o.rest x.1 (omega arith))
    (cases_lt n (pair_end p)))
    (place_split p ps s t e)

pub reached_every : (from : ℕ) (ps : List Pair) (n s t : ℕ) → in_order from ps ≡ true → place ps s ≡ Some t → t < n → s < reached ps n
unfolding place
reached_every from [] n s t h e lt = absurd (none-some t e)
reached_every from (p ∷ ps) n s t h e lt =
    let o = order from p ps h in
    let step = reached_cons p ps n in
    ⊎_elim
    (λ x. let a = x.0 in let b = x.1 in omega arith)
    (λ x.
    let a = x.0 in
    let above : pair_end p ≤ t = place_above (pair_end p) ps (s - p.length) t o.rest x.1 in
    let more : s - p.length < reached ps n = reached_every (pair_end p) ps n (s - p.length) t o.rest x.1 lt in
    omega arith)
    (place_split p ps s t e)

pub reached_as : (ps : List Pair) (n s t : ℕ) → in_order 0 ps ≡ true → place ps s ≡ Some t → ltb s (reached ps n) ≡ ltb t n
reached_as ps n s t h e =
    same_from_decides (ltb s (reached ps n)) (ltb t n)
    (Decides-like (ltb s (reached ps n)) (reached_only 0 ps n s t h e) (reached_every 0 ps n s t h e) (Decides-ltb s (reached ps n)))
    (Decides-ltb t n)

-- a number that none of the pairs' sectors has
pub reached_out : (ps : List Pair) (n s : ℕ) → place ps s ≡ None → reached ps n ≤ s
unfolding place
reached_out [] n s e = omega (arith, reached_nil n)
reached_out (p ∷ ps) n s e =
    let step = reached_cons p ps n in
    ⊎_elim
    (λ lt. absurd (none-some (p.offset + s) (sym e ∙ cond-true (ltb s p.length) _ _ (lt-ltb _ _ lt))))
    (λ le. let rest : reached ps n ≤ s - p.length = reached_out ps n (s - p.length) (sym (cond-false (ltb s p.length) _ _ (le-ltb _ _ le)) ∙ e) in omega arith)
    (cases_lt s p.length)

-- a device that has them all
pub reached_all : (from : ℕ) (ps : List Pair) (n : ℕ) → in_order from ps ≡ true → end_after from ps ≤ n → reached ps n ≡ length (sectors ps)
reached_all from [] n h le = reached_nil n
reached_all from (p ∷ ps) n h le =
    let o = order from p ps h in
    let step = reached_cons p ps n in
    let grows : pair_end p ≤ end_after (pair_end p) ps = end_grows (pair_end p) ps o.rest in
    let rest : reached ps n ≡ length (sectors ps) = reached_all (pair_end p) ps n o.rest le in
    let long : length (range_with_len p.offset p.length ++ sectors ps) ≡ length (range_with_len p.offset p.length) + length (sectors ps) = length-append (range_with_len p.offset p.length) (sectors ps) in
    let first : length (range_with_len p.offset p.length) ≡ p.length = length-range_with_len p.offset p.length in
    omega arith

-- once a pair is accepted, the device has all sectors of the pairs
pub whole_added : (ps : List Pair) (p : Pair) (n : ℕ) (r : Result (Unit {0}) PairFault) (after : List Pair) → Adding ps p n r after → in_order 0 after ≡ true → IfOk r (λ _. reached after n ≡ length (sectors after))
whole_added ps p n (Err f) after law h = tt
whole_added ps p n (Ok x) after law h =
    let on : pair_end p ≤ n = (law.accepted.0 refl).2 in
    let end : end_after 0 after ≡ pair_end p = ap (end_after 0) (law.then refl) ∙ end_after_push 0 ps p in
    reached_all 0 after n h (omega arith)
