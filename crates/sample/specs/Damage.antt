-- Ways in which a sector comes to harm.
use Rattle.std.specs.Prelude.{ℕ, List, take, bit_xor, slice_index, slice_set}
use Rattle.octets.specs.Fields.{put, le16, le32}
use Rattle.octets.specs.Tag.{tag_sum}

-- the lowest bit of a byte is turned
abbrev pub bit_turned : ℕ → List ℕ → List ℕ
bit_turned at bs = slice_set bs at (bit_xor (slice_index bs at) 1)

-- the tag's sum is made right again
abbrev pub sum_mended : List ℕ → List ℕ
sum_mended bs = slice_set bs 4 (tag_sum (take 16 bs))

-- version 2, with the sum made right
abbrev pub aged : List ℕ → List ℕ
aged bs = sum_mended (put 2 (le16 2) bs)

-- blocks of 512 bytes, with no byte under the CRC, and the sum made right
abbrev pub small_blocks : List ℕ → List ℕ
small_blocks bs = sum_mended (put 8 (le16 0) (put 10 (le16 0) (put 212 (le32 512) bs)))
