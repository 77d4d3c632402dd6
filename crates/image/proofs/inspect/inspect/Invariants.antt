use Rattle.std.proofs.Common.{◌≡◌, length}
use Rattle.inspection.specs.Counts.{all_met}
use Rattle.image.proofs.inspect.inspect.Given as goal

-- every sector so far is counted once
abbrev pub invariant-loop-number : goal.invariant-loop-number
invariant-loop-number l = (all_met l.summary ≡ l.number) × (length l.sector ≡ 2048)
