use Rattle.std.proofs.Common.{sym, subst}
use Rattle.descriptor.specs.Law.{Reading}
use Rattle.descriptor.proofs.Reading.{reading}
use Rattle.descriptor.proofs.decode.decode.Goals as goal

pub returns-clause-law : goal.returns-clause-law
returns-clause-law c = subst (Reading c.args.sector.now c.args.number c.args.place) (sym c.checked.ensures) (reading c.args.sector.now c.args.number c.args.place)
