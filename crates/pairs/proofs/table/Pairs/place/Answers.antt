use Rattle.pairs.specs.View.{pairs_of}
use Rattle.pairs.proofs.Sectors.{place_nth}
use Rattle.pairs.proofs.table.Pairs.place.Goals as goal

pub returns-clause-law : goal.returns-clause-law
returns-clause-law c = let nth = place_nth (pairs_of c.args.self.now) c.args.sector in cc
