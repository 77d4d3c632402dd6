use Rattle.std.proofs.Common.{◌≡◌, ◌-◌}
use Rattle.octets.specs.Crc.{shifts}
use Rattle.octets.proofs.crc.absorb.Given as goal

-- the bits that are left, moved out of the register as it stands, give the answer
abbrev pub invariant-loop-bit : goal.invariant-loop-bit
invariant-loop-bit l = shifts (8 - l.bit) l.register ≡ shifts 8 l.initial.register
