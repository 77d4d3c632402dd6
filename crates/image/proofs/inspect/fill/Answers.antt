use Rattle.std.proofs.Common.{arith, rules}
use Rattle.std.proofs.lemmas.List.{places}
use Rattle.image.proofs.inspect.fill.Goals as goal

pub loop-filled-preserved : goal.loop-filled-preserved
loop-filled-preserved g c = (omega (arith, c.in_ok-count.ensures.bound.0, c.read.auto.buf), search (rules, places))
