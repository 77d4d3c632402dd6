use Rattle.octets.specs.Fields.{zeros}
use Rattle.examples.proofs.Computed.{settled}
use Rattle.examples.proofs.terminating_example.Goals as goal

pub returns : goal.returns
unfolding zeros
returns c = record { value = c.put_bytes.ensures.value; settled = settled }
