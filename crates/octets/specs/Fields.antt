-- Runs of bytes as lists of numbers, and the little-endian fields in them.
-- Past its end a run reads as 0, and what would be put past its end is left out, so that every offset has a meaning.
use Rattle.std.specs.Prelude.{◌≡◌, ℕ, zero, suc, ◌+◌, ◌*◌, ◌/◌, ◌%◌, ◌<◌, ◌≤◌, List, [], ◌∷◌, length, take, drop, replicate, slice_index}

-- the byte at an offset
abbrev pub byte_at : List ℕ → ℕ → ℕ
byte_at bs at = slice_index bs at

-- the number of 16 bits at an offset, the low byte first
abbrev pub u16_at : List ℕ → ℕ → ℕ
u16_at bs at = byte_at bs at + 256 * byte_at bs (at + 1)

-- the number of 32 bits at an offset, the lowest byte first
abbrev pub u32_at : List ℕ → ℕ → ℕ
u32_at bs at = u16_at bs at + 65536 * u16_at bs (at + 2)

-- the n bytes from an offset on
abbrev pub part : List ℕ → ℕ → ℕ → List ℕ
part bs at n = take n (drop at bs)

-- a number of 16 bits as its two bytes, and one of 32 bits as its four, the lowest first
abbrev pub le16 : ℕ → List ℕ
le16 v = v % 256 ∷ v / 256 % 256 ∷ []

abbrev pub le32 : ℕ → List ℕ
le32 v = v % 256 ∷ v / 256 % 256 ∷ v / 65536 % 256 ∷ v / 16777216 % 256 ∷ []

-- a run written over the front of another, which keeps its length
unfoldable pub over : List ℕ → List ℕ → List ℕ
over [] bs = bs
over (x ∷ xs) [] = []
over (x ∷ xs) (b ∷ bs) = x ∷ over xs bs

-- the bytes xs put at an offset into bs, which keeps its length
unfoldable pub put : ℕ → List ℕ → List ℕ → List ℕ
unfolding over
put zero xs bs = over xs bs
put (suc at) xs [] = []
put (suc at) xs (b ∷ bs) = b ∷ put at xs bs

-- fields put one after the other, each an offset with its bytes
abbrev pub laid : List (ℕ × List ℕ) → List ℕ → List ℕ
laid [] bs = bs
laid (f ∷ fs) bs = laid fs (put f.0 f.1 bs)

-- n zero bytes
unfoldable pub zeros : ℕ → List ℕ
zeros n = replicate n 0

-- the first n bytes of a run, with zeros where it is shorter
unfoldable pub exactly : ℕ → List ℕ → List ℕ
exactly zero bs = []
exactly (suc n) bs = byte_at bs 0 ∷ exactly n (drop 1 bs)

-- what `put` does, byte by byte: the run stands at its offset as far as the area goes, and all else is as it was
pub record Puts (at : ℕ) (run area after : List ℕ) : Type 0 where
  pub long : length after ≡ length area
  pub inside : (k : ℕ) → k < length run → at + k < length area → byte_at after (at + k) ≡ byte_at run k
  pub before : (k : ℕ) → k < at → byte_at after k ≡ byte_at area k
  pub behind : (k : ℕ) → at + length run ≤ k → byte_at after k ≡ byte_at area k
