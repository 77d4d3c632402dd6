use Rattle.std.proofs.Common.{ap, ◌∙◌, arith}
use Rattle.octets.specs.Fields.{put, le32}
use Rattle.octets.proofs.Runs.{saturated_put}
use Rattle.tables.proofs.rows.ExtentRow.put.Goals as goal

pub returns-clause-after : goal.returns-clause-after
returns-clause-after c =
    let n = le32 c.args.self.length in
    let l = le32 c.args.self.location in
    c.put_u32-2.ensures
    ∙ (ap (put c.saturating_add.result l) c.put_u32.ensures
    ∙ saturated_put c.args.at c.saturating_add.result n l c.args.area.now (omega arith) c.saturating_add.ensures)
