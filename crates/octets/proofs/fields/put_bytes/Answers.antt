use Rattle.std.proofs.Common.{sym, subst}
use Rattle.octets.specs.Fields.{Puts}
use Rattle.octets.proofs.Runs.{puts}
use Rattle.octets.proofs.fields.put_bytes.Goals as goal

pub returns-clause-law : goal.returns-clause-law
returns-clause-law c = subst (Puts c.args.at c.args.run.now c.args.area.now) (sym c.copy_in.ensures) (puts c.args.at c.args.run.now c.args.area.now)
