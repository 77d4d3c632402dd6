use Rattle.std.proofs.Common.{◌≡◌, ◌-◌, ◌≤◌, length}
use Rattle.image.proofs.inspect.fill.Given as goal

abbrev pub invariant-loop-filled : goal.invariant-loop-filled
invariant-loop-filled g l = (l.filled ≤ 2048) × (length l.sector ≡ 2048)

-- the room that is left
abbrev pub decreases-loop-filled : goal.decreases-loop-filled
decreases-loop-filled g l = 2048 - l.filled
