use Rattle.octets.specs.Fields.{zeros}
use Rattle.sample.proofs.volume.name.Goals as goal

pub returns : goal.returns
unfolding zeros
returns g c = c.put_bytes.ensures.value
