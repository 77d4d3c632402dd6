-- The law of examining a sector.
-- Assumes nothing.
use Rattle.std.proofs.Common.{◌≡◌, ℕ, true, false, List, Some, None, Ok, Err, Option, Result, sym, refl, ap, ◌∙◌, subst, ⊎_elim}
use Rattle.std.proofs.lemmas.Bool.{cases_Bool, cond-true, cond-false}
use Rattle.descriptor.specs.declared.kinds.Place.{Place}
use Rattle.descriptor.specs.declared.kinds.Place.TheVariants.{Anchor, Sequence, IntegrityExtent}
use Rattle.recognition.specs.declared.structure.Structure.{Structure}
use Rattle.descriptor.specs.declared.refusal.Refusal.{Refusal}
use Rattle.descriptor.specs.Checks.{sum_stands}
use Rattle.descriptor.specs.Decode.{decoded}
use Rattle.descriptor.specs.Kinds.{Fields}
use Rattle.recognition.specs.Structure.{structure_in}
use Rattle.descriptor.proofs.Decoding.{refusals_agree}
use Rattle.inspection.specs.Findings.{Found, descriptor, structure, refused, blank, other, tag_blank, no_descriptor, at_last, next_place, first_place, examined, Examined}

module _ (bs : List ℕ) (number : ℕ) where
  -- accepted in a place
  in_place : (p : Place) (d : Fields) → decoded bs number p ≡ Ok d → Examined bs number (descriptor p d)
  in_place p d ok = record {
    is_descriptor = λ q e same.
        subst (λ w. decoded bs number w ≡ Ok e) (cc) (ok ∙ ap {B = Result Fields Refusal} Ok (cc));
    descriptor_found = λ _ _ _. (p, d, refl);
    is_refused = λ why. λ e. cc;
    refused_found = λ none _ _ _. absurd (none p d ok);
  }

  module _ (x y z : Refusal) (a : decoded bs number Anchor ≡ Err x) (b : decoded bs number Sequence ≡ Err y) (c : decoded bs number IntegrityExtent ≡ Err z) where
    every_place : (p : Place) → decoded bs number p ≡ Err z
    every_place Anchor = a ∙ ap {B = Result Fields Refusal} Err (refusals_agree bs number Anchor IntegrityExtent x z a c)
    every_place Sequence = b ∙ ap {B = Result Fields Refusal} Err (refusals_agree bs number Sequence IntegrityExtent y z b c)
    every_place IntegrityExtent = c

    -- refused in all, and then a structure, blank, refused or something else
    undescribed : (f : Found) → ((p : Place) (d : Fields) → f ≡ descriptor p d → ⊥) → ((why : Refusal) → f ≡ refused why → (z ≡ why) × (tag_blank bs ≡ false) × (sum_stands bs ≡ true)) → (structure_in bs ≡ None → tag_blank bs ≡ false → sum_stands bs ≡ true → f ≡ refused z) → Examined bs number f
    undescribed f no-descr is-it found_it = record {
      is_descriptor = λ p d e. absurd (no-descr p d e);
      descriptor_found = λ p d ok. let z' = every_place p in cc;
      is_refused = λ why e. let h = is-it why e in
          ((λ p. every_place p ∙ ap {B = Result Fields Refusal} Err h.0), h.1, h.2);
      refused_found = λ _ s t u. (z, found_it s t u);
    }

    by_structure : (o : Option Structure) → structure_in bs ≡ o → Examined bs number (no_descriptor bs z o)
    by_structure (Some s) e =
        undescribed (structure s) (λ p d e. cc) (λ why e. cc)
        (λ n _ _. cc)
    by_structure None e =
        ⊎_elim
        (λ t. at (cond-true (tag_blank bs) _ _ t)
        (undescribed blank (λ p d e. cc) (λ why e. cc)
        (λ _ f _. cc)))
        (λ f. ⊎_elim
        (λ t. at (cond-false (tag_blank bs) _ _ f ∙ cond-true (sum_stands bs) _ _ t)
        (undescribed (refused z) (λ p d e. cc) (λ why same. ((cc), f, t)) (λ _ _ _. refl)))
        (λ g. at (cond-false (tag_blank bs) _ _ f ∙ cond-false (sum_stands bs) _ _ g)
        (undescribed other (λ p d e. cc) (λ why e. cc)
        (λ _ _ t. cc)))
        (cases_Bool (sum_stands bs)))
        (cases_Bool (tag_blank bs))
      where
        at : {f : Found} → no_descriptor bs z None ≡ f → Examined bs number f → Examined bs number (no_descriptor bs z None)
        at e' h = subst (Examined bs number) (sym e') h

  last_of : (x y : Refusal) → decoded bs number Anchor ≡ Err x → decoded bs number Sequence ≡ Err y → (r : Result Fields Refusal) → decoded bs number IntegrityExtent ≡ r → Examined bs number (at_last bs r)
  last_of x y a b (Ok d) e = in_place IntegrityExtent d e
  last_of x y a b (Err z) e = by_structure x y z a b e (structure_in bs) refl

  next_of : (x : Refusal) → decoded bs number Anchor ≡ Err x → (r : Result Fields Refusal) → decoded bs number Sequence ≡ r → Examined bs number (next_place bs number r)
  next_of x a (Ok d) e = in_place Sequence d e
  next_of x a (Err y) e = last_of x y a e (decoded bs number IntegrityExtent) refl

  first_of : (r : Result Fields Refusal) → decoded bs number Anchor ≡ r → Examined bs number (first_place bs number r)
  first_of (Ok d) e = in_place Anchor d e
  first_of (Err x) e = next_of x e (decoded bs number Sequence) refl

  pub examining : Examined bs number (examined bs number)
  unfolding examined
  examining = first_of (decoded bs number Anchor) refl
