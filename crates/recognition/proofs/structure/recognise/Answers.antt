use Rattle.std.proofs.Common.{sym, subst}
use Rattle.recognition.specs.Law.{Recognition}
use Rattle.recognition.proofs.Recognising.{recognition}
use Rattle.recognition.proofs.structure.recognise.Goals as goal

pub returns-clause-law : goal.returns-clause-law
returns-clause-law c = subst (Recognition c.args.sector.now) (sym c.named.ensures) (recognition c.args.sector.now)
