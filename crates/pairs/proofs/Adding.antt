-- When a pair is accepted.
-- Assumes nothing.
use Rattle.std.proofs.Common.{◌≡◌, ℕ, ◌<◌, ◌≤◌, Bool, true, false, ◌||◌, eqb, ltb, leb, List, [], ◌∷◌, ◌++◌, length, Ok, Err, Result, sym, refl, ◌∙◌, subst, ⊎_elim, arith}
use Rattle.std.specs.List.{AllByRecursion}
use Rattle.std.proofs.lemmas.Bool.{cases_Bool, cond-true, cond-false, or_cases, or_parts, or_from, leb-true, leb-false, lt-leb, ltb-true, ltb-false, le-ltb, eqb-true, eqb-false, ne_eqb}
use Rattle.pairs.specs.declared.pair.Pair.{Pair}
use Rattle.pairs.specs.declared.fault.PairFault.{PairFault}
use Rattle.pairs.specs.declared.fault.PairFault.TheVariants.{OffLimits, OutOfOrder, PastTheEnd}
use Rattle.pairs.specs.Pairs.{most_pairs, pair_end, end_after, in_order, added}
use Rattle.pairs.specs.Law.{WithinLimits, Behind, OnDevice, Adding}
use Rattle.pairs.proofs.Ordering.{order}

-- the test of the limits
abbrev off_limits : List Pair → Pair → Bool
off_limits ps p = leb most_pairs (length ps) || eqb p.length 0

inside_limits : (ps : List Pair) (p : Pair) → off_limits ps p ≡ false → WithinLimits ps p
inside_limits ps p h =
    let parts = or_parts (leb most_pairs (length ps)) (eqb p.length 0) h in
    let few = leb-false most_pairs (length ps) parts.0 in
    let long = eqb-false p.length 0 parts.1 in
    record { few = omega arith; long = omega arith }

outside_limits : (ps : List Pair) (p : Pair) → off_limits ps p ≡ true → WithinLimits ps p → ⊥
outside_limits ps p h w =
    let few = w.few in
    let long = w.long in
    ⊎_elim (λ e. omega (arith, leb-true most_pairs (length ps) e)) (λ e. omega (arith, eqb-true p.length 0 e)) (or_cases (leb most_pairs (length ps)) (eqb p.length 0) h)

-- the end of the last pair is the end of them all
pub end_grows : (from : ℕ) (ps : List Pair) → in_order from ps ≡ true → from ≤ end_after from ps
end_grows from [] h = omega arith
end_grows from (p ∷ ps) h =
    let o = order from p ps h in
    let start = o.start in
    let more = end_grows (pair_end p) ps o.rest in
    omega arith

behind_all : (from : ℕ) (ps : List Pair) (x : ℕ) → in_order from ps ≡ true → end_after from ps ≤ x → AllByRecursion (λ q. pair_end q ≤ x) ps
behind_all from [] x h le = tt
behind_all from (p ∷ ps) x h le =
    let o = order from p ps h in
    let more = end_grows (pair_end p) ps o.rest in
    (omega arith, behind_all (pair_end p) ps x o.rest le)

end_behind : (from : ℕ) (ps : List Pair) (x : ℕ) → from ≤ x → AllByRecursion (λ q. pair_end q ≤ x) ps → end_after from ps ≤ x
end_behind from [] x le all = le
end_behind from (p ∷ ps) x le all = end_behind (pair_end p) ps x all.0 all.1

-- the answer by the first condition that fails
module _ (ps : List Pair) (p : Pair) (n : ℕ) where
  pub refused_limits : off_limits ps p ≡ true → added ps p n ≡ (Err OffLimits, ps)
  refused_limits a = cond-true (off_limits ps p) _ _ a

  pub refused_order : off_limits ps p ≡ false → ltb p.offset (end_after 0 ps) ≡ true → added ps p n ≡ (Err OutOfOrder, ps)
  refused_order a b = cond-false (off_limits ps p) _ _ a ∙ cond-true (ltb p.offset (end_after 0 ps)) _ _ b

  pub refused_end : off_limits ps p ≡ false → ltb p.offset (end_after 0 ps) ≡ false → ltb n (pair_end p) ≡ true → added ps p n ≡ (Err PastTheEnd, ps)
  refused_end a b c = cond-false (off_limits ps p) _ _ a ∙ (cond-false (ltb p.offset (end_after 0 ps)) _ _ b ∙ cond-true (ltb n (pair_end p)) _ _ c)

  pub accepted_pair : off_limits ps p ≡ false → ltb p.offset (end_after 0 ps) ≡ false → ltb n (pair_end p) ≡ false → added ps p n ≡ (Ok tt, ps ++ p ∷ [])
  accepted_pair a b c = cond-false (off_limits ps p) _ _ a ∙ (cond-false (ltb p.offset (end_after 0 ps)) _ _ b ∙ cond-false (ltb n (pair_end p)) _ _ c)

  -- the same from the facts that the code finds
  pub accepted_from : length ps < most_pairs → 0 < p.length → end_after 0 ps ≤ p.offset → pair_end p ≤ n → added ps p n ≡ (Ok tt, ps ++ p ∷ [])
  accepted_from few long behind on =
      accepted_pair (or_from (leb most_pairs (length ps)) (eqb p.length 0) (lt-leb _ _ few) (ne_eqb _ _ (λ e. omega arith))) (le-ltb _ _ behind) (le-ltb _ _ on)

module _ (ps : List Pair) (p : Pair) (n : ℕ) where
  limits_fail : (WithinLimits ps p → ⊥) → Adding ps p n (Err OffLimits) ps
  limits_fail none = record {
    accepted = (λ e. cc, λ h. absurd (none h.0));
    off_limits = (λ _. none, λ _. refl);
    out_of_order = (λ e. cc, λ h. absurd (none h.0));
    past_the_end = (λ e. cc, λ h. absurd (none h.0));
    then = λ e. cc;
    else = λ _ _. refl;
  }

  order_fails : WithinLimits ps p → (Behind ps p → ⊥) → Adding ps p n (Err OutOfOrder) ps
  order_fails w none = record {
    accepted = (λ e. cc, λ h. absurd (none h.1));
    off_limits = (λ e. cc, λ h. absurd (h w));
    out_of_order = (λ _. (w, none), λ _. refl);
    past_the_end = (λ e. cc, λ h. absurd (none h.1));
    then = λ e. cc;
    else = λ _ _. refl;
  }

  end_fails : WithinLimits ps p → Behind ps p → (OnDevice p n → ⊥) → Adding ps p n (Err PastTheEnd) ps
  end_fails w b none = record {
    accepted = (λ e. cc, λ h. absurd (none h.2));
    off_limits = (λ e. cc, λ h. absurd (h w));
    out_of_order = (λ e. cc, λ h. absurd (h.1 b));
    past_the_end = (λ _. (w, b, none), λ _. refl);
    then = λ e. cc;
    else = λ _ _. refl;
  }

  all_hold : WithinLimits ps p → Behind ps p → OnDevice p n → Adding ps p n (Ok tt) (ps ++ p ∷ [])
  all_hold w b d = record {
    accepted = (λ _. (w, b, d), λ _. refl);
    off_limits = (λ e. cc, λ h. absurd (h w));
    out_of_order = (λ e. cc, λ h. absurd (h.1 b));
    past_the_end = (λ e. cc, λ h. absurd (h.2 d));
    then = λ _. refl;
    else = λ f e. cc;
  }

  pub adding : in_order 0 ps ≡ true → (r : Result (Unit {0}) PairFault) (after : List Pair) → ◌≡◌ {A = Result (Unit {0}) PairFault × List Pair} (r, after) (added ps p n) → Adding ps p n r after
  adding ordered r after e = ⊎_elim (λ a. by (e ∙ refused_limits ps p n a) (limits_fail (outside_limits ps p a))) limits_hold (cases_Bool (off_limits ps p))
    where
      by : {r₁ : Result (Unit {0}) PairFault} {after₁ : List Pair} → ◌≡◌ {A = Result (Unit {0}) PairFault × List Pair} (r, after) (r₁, after₁) → Adding ps p n r₁ after₁ → Adding ps p n r after
      by same h = subst (λ (x : Result (Unit {0}) PairFault × List Pair). Adding ps p n x.0 x.1) (sym same) h

      order_holds : off_limits ps p ≡ false → ltb p.offset (end_after 0 ps) ≡ false → Adding ps p n r after
      order_holds a b =
          let w = inside_limits ps p a in
          let behind = behind_all 0 ps p.offset ordered (ltb-false _ _ b) in
          ⊎_elim
          (λ c. by (e ∙ refused_end ps p n a b c) (end_fails w behind (λ d. omega (arith, ltb-true n (pair_end p) c))))
          (λ c. by (e ∙ accepted_pair ps p n a b c) (all_hold w behind (ltb-false _ _ c)))
          (cases_Bool (ltb n (pair_end p)))

      limits_hold : off_limits ps p ≡ false → Adding ps p n r after
      limits_hold a =
          ⊎_elim
          (λ b. by (e ∙ refused_order ps p n a b) (order_fails (inside_limits ps p a) (λ h. omega (arith, ltb-true _ _ b, end_behind 0 ps p.offset (omega arith) h))))
          (order_holds a)
          (cases_Bool (ltb p.offset (end_after 0 ps)))
