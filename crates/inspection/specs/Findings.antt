-- What is found in a sector whose place is not known.
use Rattle.std.specs.Prelude.{◌≡◌, ℕ, Bool, true, false, cond, List, take, Some, None, Ok, Err, Option, Result, ◌≢◌, nat_eq}
use Rattle.std.specs.List.{list_all}
use Rattle.descriptor.specs.declared.kinds.Place.{Place}
use Rattle.descriptor.specs.declared.kinds.Place.TheVariants.{Anchor, Sequence, IntegrityExtent}
use Rattle.recognition.specs.declared.structure.Structure.{Structure}
use Rattle.descriptor.specs.declared.refusal.Refusal.{Refusal}
use Rattle.descriptor.specs.Checks.{sum_stands}
use Rattle.descriptor.specs.Decode.{decoded}
use Rattle.descriptor.specs.Kinds.{Fields, fields_of}
use Rattle.recognition.specs.Structure.{structure_in}
use Rattle.inspection.specs.declared.finding.Finding.{Finding}
use Rattle.inspection.specs.declared.finding.Finding.TheVariants as case

-- a descriptor in some place; a volume structure descriptor; what looks like a descriptor and is refused;
-- a sector whose tag is all zeros; anything else
pub data Found : Type 0 where
  descriptor : Place → Fields → Found
  structure : Structure → Found
  refused : Refusal → Found
  blank : Found
  other : Found

-- the tag's sixteen bytes are all zero: nothing was recorded there
abbrev pub tag_blank : List ℕ → Bool
tag_blank bs = list_all (λ b. nat_eq b 0) (take 16 bs)

-- a sector that is a descriptor in no place, for a reason
abbrev pub no_descriptor : List ℕ → Refusal → Option Structure → Found
no_descriptor bs reason (Some s) = structure s
no_descriptor bs reason None = cond (tag_blank bs) blank (cond (sum_stands bs) (refused reason) other)

-- the places are tried in this order: an anchor's, a sequence's, the integrity extent's
abbrev pub at_last : List ℕ → Result Fields Refusal → Found
at_last bs (Ok d) = descriptor IntegrityExtent d
at_last bs (Err reason) = no_descriptor bs reason (structure_in bs)

abbrev pub next_place : List ℕ → ℕ → Result Fields Refusal → Found
next_place bs number (Ok d) = descriptor Sequence d
next_place bs number (Err reason) = at_last bs (decoded bs number IntegrityExtent)

abbrev pub first_place : List ℕ → ℕ → Result Fields Refusal → Found
first_place bs number (Ok d) = descriptor Anchor d
first_place bs number (Err reason) = next_place bs number (decoded bs number Sequence)

unfoldable pub examined : List ℕ → ℕ → Found
examined bs number = first_place bs number (decoded bs number Anchor)

-- the code's finding, with what it borrows as the bytes themselves
abbrev pub found_in : Finding → Found
found_in (case.Descriptor place d) = descriptor place (fields_of d)
found_in (case.Structure s) = structure s
found_in (case.Refused f) = refused f
found_in case.Blank = blank
found_in case.Other = other

-- what a finding says of its sector: it is a descriptor exactly where some place accepts it; where it is refused, every
-- place refuses it, for that reason, though its tag is not blank and its sum is right
pub record Examined (bs : List ℕ) (number : ℕ) (f : Found) : Type 0 where
  pub is_descriptor : (p : Place) (d : Fields) → f ≡ descriptor p d → decoded bs number p ≡ Ok d
  pub descriptor_found : (p : Place) (d : Fields) → decoded bs number p ≡ Ok d → (q : Place) × (e : Fields) × (f ≡ descriptor q e)
  pub is_refused : (why : Refusal) → f ≡ refused why → ((p : Place) → decoded bs number p ≡ Err why) × (tag_blank bs ≡ false) × (sum_stands bs ≡ true)
  pub refused_found : ((p : Place) (d : Fields) → decoded bs number p ≢ Ok d) → structure_in bs ≡ None → tag_blank bs ≡ false → sum_stands bs ≡ true → (why : Refusal) × (f ≡ refused why)
