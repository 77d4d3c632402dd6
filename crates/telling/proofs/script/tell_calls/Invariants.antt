use Rattle.std.proofs.Common.{◌≡◌, ◌+◌, ◌%◌, ◌^◌}
use Rattle.telling.proofs.script.tell_calls.Given as goal

-- the tally rose by what was accepted so far
abbrev pub invariant-loop-call : goal.invariant-loop-call
invariant-loop-call g l = (g.D.Device.model l.device).tally ≡ ((g.D.Device.model l.initial.device).tally + l.accepted) % 2 ^ 64
