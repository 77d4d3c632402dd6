use Rattle.std.proofs.Common.{◌+◌, length, arith}
use Rattle.octets.specs.Fields.{u32_at}
use Rattle.octets.proofs.Runs.{saturated_at, u32_past}
use Rattle.descriptor.proofs.decode.extent.Goals as goal

pub returns : goal.returns
returns c =
    let bs = c.args.bytes.now in
    let e = saturated_at (u32_at bs) (length bs) (c.args.at + 4) c.saturating_add.result (u32_past bs) (omega arith) c.saturating_add.ensures in
    cc
