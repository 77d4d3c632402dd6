use Rattle.std.proofs.Common.{sym, subst}
use Rattle.inspection.specs.Findings.{Examined}
use Rattle.inspection.proofs.Examining.{examining}
use Rattle.inspection.proofs.finding.examine.Goals as goal

pub returns-clause-law : goal.returns-clause-law
returns-clause-law c = subst (Examined c.args.sector.now c.args.number) (sym c.tried.ensures) (examining c.args.sector.now c.args.number)
