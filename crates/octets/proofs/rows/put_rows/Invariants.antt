use Rattle.std.proofs.Common.{◌≡◌, ◌+◌, ◌-◌, ◌^◌, min, length, take}
use Rattle.std.specs.List.{flat_map, AllByRecursion}
use Rattle.octets.specs.Fields.{put}
use Rattle.octets.proofs.rows.put_rows.Given as goal

-- the rows so far stand in the area, and the next goes behind them
abbrev pub invariant-loop-item : goal.invariant-loop-item
invariant-loop-item g l =
    (l.area ≡ put l.at (flat_map g.F.RowFormat.row (take l.item-index l.items)) l.initial.area)
    × (l.end ≡ min (l.at + length (flat_map g.F.RowFormat.row (take l.item-index l.items))) (2 ^ 64 - 1))
    × AllByRecursion g.F.RowFormat.fits (take l.item-index l.items)
