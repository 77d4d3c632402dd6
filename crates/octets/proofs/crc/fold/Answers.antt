use Rattle.std.proofs.Common.{rules}
use Rattle.octets.specs.Crc.{crc}
use Rattle.octets.proofs.crc.fold.Goals as goal

pub returns : goal.returns
unfolding crc
returns c = search rules
