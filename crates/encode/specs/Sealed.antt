-- A descriptor under its tag: version 3, CRC of the 496 bytes after the tag, serial and location as given.
use Rattle.std.specs.Prelude.{ℕ, List, ◌∷◌, ◌++◌, drop}
use Rattle.octets.specs.Fields.{part, le16, le32}
use Rattle.octets.specs.Crc.{crc}
use Rattle.octets.specs.Tag.{tag_sum}
use Rattle.encode.specs.declared.seal.Stamp.{Stamp}

-- the tag's sixteen bytes, with a given byte 4
abbrev pub tag_with : (sum kind : ℕ) → Stamp → (crc : ℕ) → List ℕ
tag_with sum kind stamp crc =
    le16 kind ++ (le16 3 ++ (sum ∷ 0 ∷ (le16 stamp.serial ++ (le16 crc ++ (le16 496 ++ le32 stamp.location)))))

-- the tag: byte 4 is the sum of the others
unfoldable pub tag : ℕ → Stamp → ℕ → List ℕ
tag kind stamp crc = tag_with (tag_sum (tag_with 0 kind stamp crc)) kind stamp crc

-- a body of 2,048 bytes, of which the first 16 give way to the tag
unfoldable pub sealed : ℕ → Stamp → List ℕ → List ℕ
sealed kind stamp body = tag kind stamp (crc (part body 16 496)) ++ drop 16 body
