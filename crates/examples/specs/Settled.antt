-- The settled examples: what the definitions answer for inputs whose answers are given beforehand.
use Rattle.std.specs.Prelude.{◌≡◌, ℕ, List, [], ◌∷◌, Ok, Err, Result}
use Rattle.octets.specs.Crc.{crc}
use Rattle.octets.specs.Fields.{put, zeros}
use Rattle.descriptor.specs.declared.kinds.Place.TheVariants.{Sequence}
use Rattle.descriptor.specs.declared.refusal.Refusal.{Refusal}
use Rattle.descriptor.specs.Decode.{decoded}
use Rattle.descriptor.specs.Kinds.{Fields, terminating}
use Rattle.descriptor.specs.Refusals.{number_of}

-- the tag 08 00 03 00 22 00 01 00 00 00 F0 01 25 00 00 00 over zeros
abbrev pub example_tag : List ℕ
example_tag = 0x08 ∷ 0x00 ∷ 0x03 ∷ 0x00 ∷ 0x22 ∷ 0x00 ∷ 0x01 ∷ 0x00 ∷ 0x00 ∷ 0x00 ∷ 0xF0 ∷ 0x01 ∷ 0x25 ∷ 0x00 ∷ 0x00 ∷ 0x00 ∷ []

abbrev pub example_sector : List ℕ
example_sector = put 0 example_tag (zeros 2048)

-- the number of the refusal, or 0 where there is none
abbrev pub refusal_number : Result Fields Refusal → ℕ
refusal_number (Ok d) = 0
refusal_number (Err e) = number_of e

pub record Settled : Type 0 where
  -- the CRC of 70 6A 77 is 3299
  pub crc_of_three : crc (0x70 ∷ 0x6A ∷ 0x77 ∷ []) ≡ 0x3299
  -- in sector 37 the example passes as a Terminating Descriptor, with serial 1
  pub terminating_at_37 : decoded example_sector 37 Sequence ≡ Ok (terminating 1)
  -- in sector 53 it gives 11
  pub refused_at_53 : refusal_number (decoded example_sector 53 Sequence) ≡ 11
