-- Torn contents: what a sector may hold after a power cut besides the contents of its list.
use Rattle.std.specs.Prelude.{◌≡◌, ℕ, Bool, true, false, not, ◌||◌, List, take, is_ok, ◌==◌, ◌≢◌}
use Rattle.octets.specs.Fields.{byte_at, u16_at}
use Rattle.octets.specs.Tag.{tag_sum}
use Rattle.descriptor.specs.Checks.{sum_stands, crc_stands}
use Rattle.descriptor.specs.declared.kinds.Place.{Place}
use Rattle.descriptor.specs.Decode.{decoded}
use Rattle.descriptor.specs.Law.{CrcRight}
use Rattle.device.specs.Content.{Content, unreadable, holding}

-- torn: it cannot be read; or the sum of its tag is wrong; or its version is neither 2 nor 3; or its CRC covers too many
-- bytes or is wrong
pub data Torn : Content → Type 0 where
  unread : Torn unreadable
  wrong_sum : {bytes : List ℕ} → (byte_at bytes 4 ≢ tag_sum (take 16 bytes)) → Torn (holding bytes)
  wrong_version : {bytes : List ℕ} → (u16_at bytes 2 ≢ 2) → (u16_at bytes 2 ≢ 3) → Torn (holding bytes)
  wrong_crc : {bytes : List ℕ} → (CrcRight bytes → ⊥) → Torn (holding bytes)

-- the same as a test
abbrev pub version_known : List ℕ → Bool
version_known bytes = u16_at bytes 2 == 2 || u16_at bytes 2 == 3

abbrev pub torn : Content → Bool
torn unreadable = true
torn (holding bytes) = not (sum_stands bytes) || (not (version_known bytes) || not (crc_stands bytes))

-- no torn sector passes as a descriptor, whatever its number and its place
abbrev pub NoTornPasses : Type 0
NoTornPasses = (bytes : List ℕ) → Torn (holding bytes) → (number : ℕ) (place : Place) → is_ok (decoded bytes number place) ≡ false
