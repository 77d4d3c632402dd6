use Rattle.std.proofs.Common.{◌≡◌, take}
use Rattle.octets.specs.Tag.{tag_sum}
use Rattle.octets.proofs.tag.sum_of.Given as goal

abbrev pub invariant-loop-i : goal.invariant-loop-i
invariant-loop-i l = l.sum ≡ tag_sum (take l.i l.tag)
