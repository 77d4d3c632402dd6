use Rattle.std.proofs.Common.{ℕ, ◌≡◌, ◌+◌, ◌-◌, List, ap₂, sym, ◌∙◌, arith}
use borrow.Rule.Slice.PartMut.{put_mid}
use Rattle.octets.proofs.Runs.{put_room, put_past}
use Rattle.octets.proofs.fields.copy_in.Goals as goal

pub returns-then-at-area : goal.returns-then-at-area
returns-then-at-area c =
    let count : c.args.at + c.min-count.result - c.args.at ≡ c.min-count.result = omega arith in
    ap₂ (λ (k : ℕ) (l : List ℕ). put_mid c.args.at k c.args.area.now l) count c.copy_from_slice.ensures.after
    ∙ put_room c.args.at c.min-count.result c.args.run.now c.args.area.now (omega arith) c.min-count.ensures

pub returns-else-at-area : goal.returns-else-at-area
returns-else-at-area c = sym (put_past c.args.at c.args.run.now c.args.area.now c.if-at-area.false)
