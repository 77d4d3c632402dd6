use Rattle.std.proofs.Common.{◌+◌, length, arith}
use Rattle.octets.specs.Fields.{u16_at}
use Rattle.octets.proofs.Runs.{saturated_at, u16_past}
use Rattle.octets.proofs.fields.u32_at.Goals as goal

pub returns : goal.returns
returns c =
    let bs = c.args.bytes.now in
    let e = saturated_at (u16_at bs) (length bs) (c.args.at + 2) c.saturating_add.result (u16_past bs) (omega arith) c.saturating_add.ensures in
    omega arith
