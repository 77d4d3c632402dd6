-- What is written is recognised, whichever identifier it names.
-- Assumes nothing.
use Rattle.std.proofs.Common.{◌≡◌, Some, refl}
use Rattle.octets.specs.Fields.{put, over, zeros}
use Rattle.recognition.specs.declared.structure.Structure.{Structure}
use Rattle.recognition.specs.declared.structure.Structure.TheVariants.{Bea01, Boot2, Nsr03, Tea01}
use Rattle.recognition.specs.Structure.{structure_in}
use Rattle.recognition.specs.Written.{named_bytes, structure_bytes}

pub recognised : (which : Structure) → structure_in (structure_bytes which) ≡ Some which
unfolding named_bytes put over zeros
recognised Bea01 = refl
recognised Boot2 = refl
recognised Nsr03 = refl
recognised Tea01 = refl
