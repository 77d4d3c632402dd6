use Rattle.std.proofs.Common.{◌≡◌, length}
use Rattle.vectors.proofs.kinds.with_fields.Given as goal

abbrev pub invariant-loop-at : goal.invariant-loop-at
invariant-loop-at l = length l.sector ≡ 2048
