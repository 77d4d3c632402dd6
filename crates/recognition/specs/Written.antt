-- The bytes of the volume structure descriptors that are written: type 0, an identifier, version 1, and zeros.
use Rattle.std.specs.Prelude.{ℕ, List, [], ◌∷◌}
use Rattle.octets.specs.Fields.{laid, zeros}
use Rattle.descriptor.specs.Limits.{sector_bytes}
use Rattle.recognition.specs.declared.structure.Structure.{Structure}
use Rattle.recognition.specs.Structure.{code_of}

unfoldable pub named_bytes : (identifier : List ℕ) → List ℕ
named_bytes identifier = laid ((1, identifier) ∷ (6, 1 ∷ []) ∷ []) (zeros sector_bytes)

abbrev pub structure_bytes : Structure → List ℕ
structure_bytes which = named_bytes (code_of which)
