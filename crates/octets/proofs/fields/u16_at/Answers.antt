use Rattle.std.proofs.Common.{◌+◌, length, get_or, arith}
use Rattle.std.proofs.lemmas.List.{get_or_past}
use Rattle.octets.proofs.Runs.{saturated_at}
use Rattle.octets.proofs.fields.u16_at.Goals as goal

pub returns : goal.returns
returns c =
    let bs = c.args.bytes.now in
    let e = saturated_at (λ k. get_or bs k 0) (length bs) (c.args.at + 1) c.saturating_add.result (λ k h. get_or_past bs k 0 h) (omega arith) c.saturating_add.ensures in
    omega arith
