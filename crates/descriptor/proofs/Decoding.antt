-- What `decoded` is, check by check.
-- Assumes nothing.
use Rattle.std.proofs.Common.{◌≡◌, ℕ, true, false, List, Some, None, Err, Option, Result, sym, ◌∙◌, ⊎_elim, arith}
use Rattle.std.specs.Option.{ok_or}
use Rattle.std.proofs.lemmas.Bool.{cond-true, cond-false, cases_Bool}
use Rattle.descriptor.specs.declared.kinds.Place.{Place}
use Rattle.descriptor.specs.declared.refusal.Refusal.{Refusal}
use Rattle.descriptor.specs.declared.refusal.Refusal.TheVariants as refusal
use Rattle.descriptor.specs.Kinds.{Fields}
use Rattle.descriptor.specs.Checks.{tag_stands, location_stands, crc_stands}
use Rattle.descriptor.specs.Decode.{kind_in, decoded}

module _ (bs : List ℕ) (number : ℕ) (place : Place) where
  pub fails_tag : tag_stands bs ≡ false → decoded bs number place ≡ Err refusal.Tag
  unfolding decoded
  fails_tag t = cond-false (tag_stands bs) _ _ t

  pub fails_location : tag_stands bs ≡ true → location_stands bs number ≡ false → decoded bs number place ≡ Err refusal.Location
  unfolding decoded
  fails_location t l = cond-true (tag_stands bs) _ _ t ∙ cond-false (location_stands bs number) _ _ l

  pub fails_crc : tag_stands bs ≡ true → location_stands bs number ≡ true → crc_stands bs ≡ false → decoded bs number place ≡ Err refusal.Crc
  unfolding decoded
  fails_crc t l c = cond-true (tag_stands bs) _ _ t ∙ (cond-true (location_stands bs number) _ _ l ∙ cond-false (crc_stands bs) _ _ c)

  pub by_kind : tag_stands bs ≡ true → location_stands bs number ≡ true → crc_stands bs ≡ true → decoded bs number place ≡ ok_or (kind_in place bs) refusal.Kind
  unfolding decoded
  by_kind t l c = cond-true (tag_stands bs) _ _ t ∙ (cond-true (location_stands bs number) _ _ l ∙ cond-true (crc_stands bs) _ _ c)

-- two places that refuse a sector do so for one reason
refusal_same : (x y : Refusal) → ◌≡◌ {A = Result Fields Refusal} (Err x) (Err y) → x ≡ y
refusal_same x y e = cc

ok_or-kind : (o : Option Fields) (x : Refusal) → ok_or o refusal.Kind ≡ Err x → refusal.Kind ≡ x
ok_or-kind None x e = refusal_same refusal.Kind x e
ok_or-kind (Some d) x e = let z : ◌≡◌ {A = ℕ} 0 1 = cc in absurd (omega arith)

pub refusals_agree : (bs : List ℕ) (number : ℕ) (p q : Place) (x y : Refusal) → decoded bs number p ≡ Err x → decoded bs number q ≡ Err y → x ≡ y
refusals_agree bs number p q x y ex ey =
    ⊎_elim
    (λ t. ⊎_elim
    (λ l. ⊎_elim
    (λ c. sym (ok_or-kind (kind_in p bs) x (sym (by_kind bs number p t l c) ∙ ex)) ∙ ok_or-kind (kind_in q bs) y (sym (by_kind bs number q t l c) ∙ ey))
    (λ c. one (fails_crc bs number p t l c) (fails_crc bs number q t l c))
    (cases_Bool (crc_stands bs)))
    (λ l. one (fails_location bs number p t l) (fails_location bs number q t l))
    (cases_Bool (location_stands bs number)))
    (λ t. one (fails_tag bs number p t) (fails_tag bs number q t))
    (cases_Bool (tag_stands bs))
  where
    one : {w : Refusal} → decoded bs number p ≡ Err w → decoded bs number q ≡ Err w → x ≡ y
    one {w} a b = refusal_same x w (sym ex ∙ a) ∙ refusal_same w y (sym b ∙ ey)
