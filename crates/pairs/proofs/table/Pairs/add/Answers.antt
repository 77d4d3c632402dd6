use Rattle.pairs.specs.View.{pairs_of}
use Rattle.pairs.proofs.Adding.{adding}
use Rattle.pairs.proofs.table.Pairs.add.Goals as goal

pub returns-clause-law : goal.returns-clause-law
returns-clause-law c = adding (pairs_of c.args.self.now) c.args.pair c.args.count c.args.self.now.ordered c.accept.result (pairs_of c.accept.new.self) c.accept.ensures
