use Rattle.std.proofs.Common.{refl}
use Rattle.octets.specs.Fields.{zeros}
use Rattle.encode.proofs.seal.blank.Goals as goal

pub returns : goal.returns
unfolding zeros
returns c = refl
