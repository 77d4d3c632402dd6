use Rattle.std.proofs.Common.{◌≡◌, ◌+◌, ◌-◌, ◌^◌, min, length}
use Rattle.std.specs.List.{flat_map, AllByRecursion}
use Rattle.octets.specs.Fields.{put}
use Rattle.encode.proofs.table_descriptors.put_rows.Given as goal

-- the rows so far stand in the area, and the next goes behind them
abbrev pub invariant-loop-row : goal.invariant-loop-row
invariant-loop-row g l =
    (l.area ≡ put l.at (flat_map g.R.Row.bytes l.yielded) l.initial.area)
    × (l.end ≡ min (l.at + length (flat_map g.R.Row.bytes l.yielded)) (2 ^ 64 - 1))
    × AllByRecursion g.R.Row.fits l.yielded
