use Rattle.std.proofs.Common.{refl, arith}
use Rattle.std.proofs.lemmas.List.{take_all}
use Rattle.octets.specs.Tag.{tag_sum}
use Rattle.octets.proofs.Steps.{sum_more, sum_more_skipped}
use Rattle.octets.proofs.tag.sum_of.Goals as goal
use Rattle.octets.proofs.tag.sum_of.Goals.{then-i-ne-SUM_AT, else-i-ne-SUM_AT}

pub loop-i-init : goal.loop-i-init
unfolding tag_sum
loop-i-init c = refl

pub loop-i-preserved : goal.loop-i-preserved
loop-i-preserved c =
    elim c.if-i-ne-SUM_AT.branch [
      | then-i-ne-SUM_AT w ↦ (let e = sum_more c.args.tag.now c.loop-i.i (omega arith) w.if-i-ne-SUM_AT.true in cc)
      | else-i-ne-SUM_AT w ↦ (let e = sum_more_skipped c.args.tag.now c.loop-i.i (omega arith) w.if-i-ne-SUM_AT.false in cc)
    ]

pub returns : goal.returns
returns c = let e = take_all c.loop-i.i c.args.tag.now (omega arith) in cc
