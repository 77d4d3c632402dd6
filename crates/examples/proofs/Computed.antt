-- The settled examples, computed.
-- Assumes nothing.
use Rattle.std.proofs.Common.{refl}
use Rattle.octets.specs.Crc.{crc, absorbed, shifts, shifted}
use Rattle.octets.specs.Fields.{put, over, zeros}
use Rattle.octets.specs.Tag.{tag_sum}
use Rattle.descriptor.specs.Decode.{decoded}
use Rattle.examples.specs.Settled.{Settled}

pub settled : Settled
unfolding crc absorbed shifts shifted put over zeros tag_sum decoded
settled = record { crc_of_three = refl; terminating_at_37 = refl; refused_at_53 = refl }
