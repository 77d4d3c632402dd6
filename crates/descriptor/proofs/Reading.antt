-- The law of reading a sector.
-- Assumes nothing.
use Rattle.std.proofs.Common.{◌≡◌, ℕ, List, Some, None, Ok, Err, Option, Result, sym, refl, ap, ◌∙◌, subst, ⊎_elim}
use Rattle.std.specs.Option.{ok_or}
use Rattle.std.proofs.lemmas.Bool.{cases_Bool}
use Rattle.std.proofs.lemmas.Bool.Decides.{not_from_Decides}
use Rattle.std.proofs.lemmas.Option.{same_Some, none-some}
use Rattle.descriptor.specs.declared.kinds.Place.{Place}
use Rattle.descriptor.specs.declared.refusal.Refusal.{Refusal}
use Rattle.descriptor.specs.declared.refusal.Refusal.TheVariants as refusal
use Rattle.descriptor.specs.Kinds.{Fields}
use Rattle.descriptor.specs.Checks.{tag_stands, location_stands, crc_stands}
use Rattle.descriptor.specs.Decode.{kind_in, decoded}
use Rattle.descriptor.specs.Law.{TagRight, LocationRight, CrcRight, Suits, Reading}
use Rattle.descriptor.proofs.Conditions.{tag_decides, location_decides, crc_decides, from_kind, to_kind}
use Rattle.descriptor.proofs.Decoding.{fails_tag, fails_location, fails_crc, by_kind}

module _ (bs : List ℕ) (number : ℕ) (place : Place) where
  tag_fails : (TagRight bs → ⊥) → Reading bs number place (Err refusal.Tag)
  tag_fails none = record {
    accepted = λ d. (λ e. cc, λ h. absurd (none h.0));
    tag = (λ _. none, λ _. refl);
    location = (λ e. cc, λ h. absurd (none h.0));
    crc = (λ e. cc, λ h. absurd (none h.0));
    kind = (λ e. cc, λ h. absurd (none h.0));
  }

  location_fails : TagRight bs → (LocationRight bs number → ⊥) → Reading bs number place (Err refusal.Location)
  location_fails t none = record {
    accepted = λ d. (λ e. cc, λ h. absurd (none h.1));
    tag = (λ e. cc, λ h. absurd (h t));
    location = (λ _. (t, none), λ _. refl);
    crc = (λ e. cc, λ h. absurd (none h.1));
    kind = (λ e. cc, λ h. absurd (none h.1));
  }

  crc_fails : TagRight bs → LocationRight bs number → (CrcRight bs → ⊥) → Reading bs number place (Err refusal.Crc)
  crc_fails t l none = record {
    accepted = λ d. (λ e. cc, λ h. absurd (none h.2));
    tag = (λ e. cc, λ h. absurd (h t));
    location = (λ e. cc, λ h. absurd (h.1 l));
    crc = (λ _. (t, l, none), λ _. refl);
    kind = (λ e. cc, λ h. absurd (none h.2));
  }

  kind_fails : TagRight bs → LocationRight bs number → CrcRight bs → ((d : Fields) → Suits bs place d → ⊥) → Reading bs number place (Err refusal.Kind)
  kind_fails t l c none = record {
    accepted = λ d. (λ e. cc, λ h. absurd (none d h.3));
    tag = (λ e. cc, λ h. absurd (h t));
    location = (λ e. cc, λ h. absurd (h.1 l));
    crc = (λ e. cc, λ h. absurd (h.2 c));
    kind = (λ _. (t, l, c, none), λ _. refl);
  }

  all_hold : TagRight bs → LocationRight bs number → CrcRight bs → (x : Fields) → kind_in place bs ≡ Some x → Reading bs number place (Ok x)
  all_hold t l c x found = record {
    accepted = λ d. (
      λ e. (t, l, c, subst (Suits bs place) (cc) (from_kind bs place x found)),
      λ h. ap {B = Result Fields Refusal} Ok (same_Some x d (sym found ∙ to_kind bs place d h.3)),
    );
    tag = (λ e. cc, λ h. absurd (h t));
    location = (λ e. cc, λ h. absurd (h.1 l));
    crc = (λ e. cc, λ h. absurd (h.2 c));
    kind = (λ e. cc, λ h. absurd (h.3 x (from_kind bs place x found)));
  }

  by_place : TagRight bs → LocationRight bs number → CrcRight bs → (o : Option Fields) → kind_in place bs ≡ o → Reading bs number place (ok_or o refusal.Kind)
  by_place t l c None e = kind_fails t l c (λ d h. none-some d (sym e ∙ to_kind bs place d h))
  by_place t l c (Some x) e = all_hold t l c x e

  pub reading : Reading bs number place (decoded bs number place)
  reading =
      ⊎_elim
      (λ t. ⊎_elim
      (λ l. ⊎_elim
      (λ c. at (by_kind bs number place t l c) (by_place ((tag_decides bs).0 t) ((location_decides bs number).0 l) ((crc_decides bs).0 c) (kind_in place bs) refl))
      (λ c. at (fails_crc bs number place t l c) (crc_fails ((tag_decides bs).0 t) ((location_decides bs number).0 l) (not_from_Decides (crc_stands bs) (crc_decides bs) c)))
      (cases_Bool (crc_stands bs)))
      (λ l. at (fails_location bs number place t l) (location_fails ((tag_decides bs).0 t) (not_from_Decides (location_stands bs number) (location_decides bs number) l)))
      (cases_Bool (location_stands bs number)))
      (λ t. at (fails_tag bs number place t) (tag_fails (not_from_Decides (tag_stands bs) (tag_decides bs) t)))
      (cases_Bool (tag_stands bs))
    where
      at : {r : Result Fields Refusal} → decoded bs number place ≡ r → Reading bs number place r → Reading bs number place (decoded bs number place)
      at e h = subst (Reading bs number place) (sym e) h
