use Rattle.std.proofs.Common.{rules, ◌^◌, ◌<◌, arith}
use Rattle.pairs.specs.Pairs.{reached}
use Rattle.pairs.specs.View.{pairs_of}
use Rattle.pairs.proofs.Ordering.{reached_most}
use Rattle.pairs.proofs.table.Pairs.reached.Goals as goal

pub sum-requires-clause-fits : goal.sum-requires-clause-fits
unfolding reached
sum-requires-clause-fits c =
    let most = reached_most 0 (pairs_of c.args.self.now) c.args.count c.args.self.now.ordered (omega arith) in
    let fits : reached (pairs_of c.args.self.now) c.args.count < 2 ^ 32 = omega arith in
    search rules
