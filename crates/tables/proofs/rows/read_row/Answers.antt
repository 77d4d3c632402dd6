use Rattle.std.proofs.Common.{ℕ, ◌∙◌, ap, map}
use Rattle.std.specs.List.{slice_get}
use Rattle.octets.specs.Rows.{whole_rows}
use Rattle.octets.proofs.Tables.{row_read, row_missing}
use Rattle.tables.proofs.rows.read_row.Goals as goal

pub returns-in_err-bytes : goal.returns-in_err-bytes
returns-in_err-bytes g c =
    row_missing g.R.Row.of (whole_rows c.WIDTH.result c.args.table.now) c.args.index _ c.from_residual.ensures c.in_err-bytes.ensures
    ∙ ap (λ (n : ℕ). slice_get (map g.R.Row.of (whole_rows n c.args.table.now)) c.args.index) c.WIDTH.ensures

pub returns : goal.returns
returns g c =
    row_read g.R.Row.of (whole_rows c.WIDTH.result c.args.table.now) c.args.index c.in_ok-bytes.bytes.now _ c.in_ok-bytes.ensures (cc)
    ∙ ap (λ (n : ℕ). slice_get (map g.R.Row.of (whole_rows n c.args.table.now)) c.args.index) c.WIDTH.ensures
