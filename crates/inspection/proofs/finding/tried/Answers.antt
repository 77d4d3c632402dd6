use Rattle.std.proofs.Common.{ap, ◌∙◌}
use Rattle.inspection.specs.Findings.{examined, first_place, next_place, at_last}
use Rattle.inspection.proofs.finding.tried.Goals as goal

pub returns-in-Ok : goal.returns-in-Ok
unfolding examined
returns-in-Ok c = ap (first_place c.args.sector.now c.args.number) c.in-Ok.ensures.value

pub returns-in-Ok-decode : goal.returns-in-Ok-decode
unfolding examined
returns-in-Ok-decode c =
    ap (next_place c.args.sector.now c.args.number) c.in-Ok-decode.ensures.value
    ∙ ap (first_place c.args.sector.now c.args.number) c.in_default.ensures.value

pub returns-in-Ok-decode-2 : goal.returns-in-Ok-decode-2
unfolding examined
returns-in-Ok-decode-2 c =
    ap (at_last c.args.sector.now) c.in-Ok-decode-2.ensures.value
    ∙ (ap (next_place c.args.sector.now c.args.number) c.in_default-decode.ensures.value
    ∙ ap (first_place c.args.sector.now c.args.number) c.in_default.ensures.value)

pub returns-in-Err : goal.returns-in-Err
unfolding examined
returns-in-Err c =
    c.undescribed.ensures
    ∙ (ap (at_last c.args.sector.now) c.in-Err.ensures.value
    ∙ (ap (next_place c.args.sector.now c.args.number) c.in_default-decode.ensures.value
    ∙ ap (first_place c.args.sector.now c.args.number) c.in_default.ensures.value))
