use Rattle.std.proofs.Common.{Bool, Decides, sym, subst}
use Rattle.device.specs.Content.{holding}
use Rattle.device.specs.Torn.{Torn}
use Rattle.device.proofs.Tearing.{torn_decides, no_torn_passes}
use Rattle.device.proofs.torn.is_torn.Goals as goal

pub returns-clause-law : goal.returns-clause-law
returns-clause-law c =
    subst (λ (b : Bool). Decides b (Torn (holding c.args.sector.now))) (sym c.some_check_fails.ensures) (torn_decides c.args.sector.now)

pub returns-clause-never : goal.returns-clause-never
returns-clause-never c = no_torn_passes
