-- A sector as a volume structure descriptor.
use Rattle.std.specs.Prelude.{ℕ, Bool, true, false, cond, ◌&&◌, List, [], ◌∷◌, Some, None, codes, Option, ◌==◌}
use Rattle.octets.specs.Fields.{byte_at, part}
use Rattle.recognition.specs.declared.structure.Structure.{Structure}
use Rattle.recognition.specs.declared.structure.Structure.TheVariants.{Bea01, Boot2, Nsr03, Tea01}

-- whether two runs of bytes are the same
abbrev pub same_run : List ℕ → List ℕ → Bool
same_run [] [] = true
same_run [] (y ∷ ys) = false
same_run (x ∷ xs) [] = false
same_run (x ∷ xs) (y ∷ ys) = x == y && same_run xs ys

-- the identifier's five bytes
abbrev pub code_of : Structure → List ℕ
code_of Bea01 = codes "BEA01"
code_of Boot2 = codes "BOOT2"
code_of Nsr03 = codes "NSR03"
code_of Tea01 = codes "TEA01"

abbrev pub named : List ℕ → Option Structure
named id =
    cond (same_run id (code_of Bea01)) (Some Bea01)
    (cond (same_run id (code_of Boot2)) (Some Boot2)
    (cond (same_run id (code_of Nsr03)) (Some Nsr03)
    (cond (same_run id (code_of Tea01)) (Some Tea01) None)))

-- byte 0 is 0, byte 6 is 1, and bytes 1 to 5 are an identifier
abbrev pub structure_in : List ℕ → Option Structure
structure_in bs = cond (byte_at bs 0 == 0 && byte_at bs 6 == 1) (named (part bs 1 5)) None
