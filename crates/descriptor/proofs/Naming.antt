-- A sector whose kind has a number that names nothing is no descriptor in any place.
-- Assumes nothing.
use Rattle.std.proofs.Common.{◌≡◌, ◌∙◌, eqb, List, ℕ, None}
use Rattle.std.proofs.lemmas.Bool.{cond-false, ne_eqb}
use Rattle.octets.specs.Fields.{u16_at}
use Rattle.descriptor.specs.declared.kinds.Kind.TheVariants as kind
use Rattle.descriptor.specs.declared.kinds.Place.{Place}
use Rattle.descriptor.specs.declared.kinds.Place.TheVariants.{Anchor, Sequence, IntegrityExtent}
use Rattle.descriptor.specs.Named.{NamesNothing}
use Rattle.descriptor.specs.Numbers.{kind_number}
use Rattle.descriptor.specs.Decode.{kind_in}

module _ (bs : List ℕ) (none : NamesNothing kind_number (u16_at bs 0)) where
  pub no_kind : (place : Place) → kind_in place bs ≡ None
  no_kind Anchor = cond-false (eqb (u16_at bs 0) 2) _ _ (ne_eqb _ _ (none kind.Anchor))
  no_kind Sequence =
      cond-false (eqb (u16_at bs 0) 1) _ _ (ne_eqb _ _ (none kind.Primary))
      ∙ (cond-false (eqb (u16_at bs 0) 4) _ _ (ne_eqb _ _ (none kind.ImplementationUse))
      ∙ (cond-false (eqb (u16_at bs 0) 5) _ _ (ne_eqb _ _ (none kind.Partition))
      ∙ (cond-false (eqb (u16_at bs 0) 6) _ _ (ne_eqb _ _ (none kind.LogicalVolume))
      ∙ (cond-false (eqb (u16_at bs 0) 7) _ _ (ne_eqb _ _ (none kind.UnallocatedSpace))
      ∙ cond-false (eqb (u16_at bs 0) 8) _ _ (ne_eqb _ _ (none kind.Terminating))))))
  no_kind IntegrityExtent =
      cond-false (eqb (u16_at bs 0) 8) _ _ (ne_eqb _ _ (none kind.Terminating))
      ∙ cond-false (eqb (u16_at bs 0) 9) _ _ (ne_eqb _ _ (none kind.Integrity))
