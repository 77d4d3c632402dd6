use Rattle.std.proofs.lemmas.Bool.Decides.{Decides-at}
use Rattle.pairs.specs.Pairs.{within}
use Rattle.pairs.specs.View.{pairs_of}
use Rattle.pairs.proofs.Sectors.{within_decides}
use Rattle.pairs.proofs.table.Pairs.hold.Goals as goal

pub returns-clause-law : goal.returns-clause-law
returns-clause-law c =
    let ps = pairs_of c.args.self.now in
    let found = c.one_holds.ensures in
    Decides-at c.one_holds.result (within ps c.args.sector) (cc) (within_decides ps c.args.sector)
