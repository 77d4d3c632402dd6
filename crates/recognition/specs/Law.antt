-- When a sector is a volume structure descriptor, in the subject's own words.
use Rattle.std.specs.Prelude.{◌≡◌, ℕ, List, Some, Option}
use Rattle.octets.specs.Fields.{byte_at, part}
use Rattle.descriptor.specs.Law.{Exactly}
use Rattle.recognition.specs.declared.structure.Structure.{Structure}
use Rattle.recognition.specs.Structure.{code_of}

-- what an answer r to recognising a sector says of it: a structure is named exactly where byte 0 is 0, byte 6 is 1 and
-- bytes 1 to 5 are its identifier
abbrev pub Recognition : List ℕ → Option Structure → Type 0
Recognition bs r = (s : Structure) → Exactly (r ≡ Some s) ((byte_at bs 0 ≡ 0) × (byte_at bs 6 ≡ 1) × (part bs 1 5 ≡ code_of s))
