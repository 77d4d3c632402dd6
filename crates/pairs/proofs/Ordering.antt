-- Pairs in their order.
-- Assumes nothing.
use Rattle.std.proofs.Common.{◌≡◌, ℕ, ◌+◌, ◌-◌, ◌^◌, ◌<◌, ◌≤◌, min, true, ltb, leb, List, [], ◌∷◌, ◌++◌, refl, ⊎_elim, arith}
use Rattle.std.proofs.lemmas.List.Sums.{sum_by-cons}
use Rattle.std.proofs.lemmas.Bool.{leb-true, ltb-true, le-leb, lt-ltb, and_parts, and_from, cases_lt}
use Rattle.pairs.specs.declared.pair.Pair.{Pair}
use Rattle.pairs.specs.Pairs.{pair_end, end_after, in_order, reached}

-- what the test says of a first pair and the rest
pub record Order (from : ℕ) (p : Pair) (ps : List Pair) : Type 0 where
  pub start : from ≤ p.offset
  pub long : 0 < p.length
  pub fits : pair_end p < 2 ^ 32
  pub rest : in_order (pair_end p) ps ≡ true

pub order : (from : ℕ) (p : Pair) (ps : List Pair) → in_order from (p ∷ ps) ≡ true → Order from p ps
order from p ps h =
    let a = and_parts (leb from p.offset) _ h in
    let b = and_parts (ltb 0 p.length) _ a.1 in
    let c = and_parts (ltb (pair_end p) (2 ^ 32)) (in_order (pair_end p) ps) b.1 in
    record { start = leb-true _ _ a.0; long = ltb-true _ _ b.0; fits = ltb-true _ _ c.0; rest = c.1 }

pub ordered : (from : ℕ) (p : Pair) (ps : List Pair) → Order from p ps → in_order from (p ∷ ps) ≡ true
ordered from p ps o =
    and_from (leb from p.offset) _ (le-leb _ _ o.start)
    (and_from (ltb 0 p.length) _ (lt-ltb _ _ o.long) (and_from (ltb (pair_end p) (2 ^ 32)) _ (lt-ltb _ _ o.fits) o.rest))

-- one more pair at the end
pub in_order_push : (from : ℕ) (ps : List Pair) (p : Pair) → in_order from ps ≡ true → end_after from ps ≤ p.offset → 0 < p.length → pair_end p < 2 ^ 32 → in_order from (ps ++ p ∷ []) ≡ true
in_order_push from [] p h e l f = ordered from p [] (record { start = e; long = l; fits = f; rest = refl })
in_order_push from (q ∷ qs) p h e l f =
    let o = order from q qs h in
    ordered from q (qs ++ p ∷ []) (record { start = o.start; long = o.long; fits = o.fits; rest = in_order_push (pair_end q) qs p o.rest e l f })

pub end_after_push : (from : ℕ) (ps : List Pair) (p : Pair) → end_after from (ps ++ p ∷ []) ≡ pair_end p
end_after_push from [] p = refl
end_after_push from (q ∷ qs) p = end_after_push (pair_end q) qs p

-- how many sectors of no pair, and of a first pair and the rest
pub reached_nil : (n : ℕ) → reached [] n ≡ 0
unfolding reached
reached_nil n = refl

pub reached_cons : (p : Pair) (ps : List Pair) (n : ℕ) → reached (p ∷ ps) n ≡ (min (pair_end p) n - p.offset) + reached ps n
unfolding reached
reached_cons p ps n = sum_by-cons (λ q. min (pair_end q) n - q.offset) p ps

-- of pairs that start past a device it has no sector, and it never has more than it has
pub reached_none : (from : ℕ) (ps : List Pair) (n : ℕ) → in_order from ps ≡ true → n ≤ from → reached ps n ≡ 0
reached_none from [] n h le = reached_nil n
reached_none from (p ∷ ps) n h le =
    let o = order from p ps h in
    let start = o.start in
    let rest = reached_none (pair_end p) ps n o.rest (omega arith) in
    let step = reached_cons p ps n in
    omega arith

-- one step: what holds of the rest holds with one pair more
reached_step : (from : ℕ) (p : Pair) (ps : List Pair) (n : ℕ) → Order from p ps → from ≤ n → (pair_end p ≤ n → pair_end p + reached ps n ≤ n) → from + ((min (pair_end p) n - p.offset) + reached ps n) ≤ n
reached_step from p ps n o le later = ⊎_elim past inside (cases_lt n (pair_end p))
  where
    past : n < pair_end p → from + ((min (pair_end p) n - p.offset) + reached ps n) ≤ n
    past lt =
        let start : from ≤ p.offset = o.start in
        let rest : reached ps n ≡ 0 = reached_none (pair_end p) ps n o.rest (omega arith) in
        omega arith

    inside : pair_end p ≤ n → from + ((min (pair_end p) n - p.offset) + reached ps n) ≤ n
    inside ge =
        let start : from ≤ p.offset = o.start in
        let rest : pair_end p + reached ps n ≤ n = later ge in
        omega arith

pub reached_most : (from : ℕ) (ps : List Pair) (n : ℕ) → in_order from ps ≡ true → from ≤ n → from + reached ps n ≤ n
reached_most from [] n h le = omega (arith, reached_nil n)
reached_most from (p ∷ ps) n h le =
    let o = order from p ps h in
    rw (reached_cons p ps n) (reached_step from p ps n o le (λ ge. reached_most (pair_end p) ps n o.rest ge))
