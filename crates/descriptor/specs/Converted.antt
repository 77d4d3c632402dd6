-- What partitions and free pairs are as rows of tables.
use Rattle.std.specs.Prelude.{◌*◌, ◌%◌, ◌^◌}
use Rattle.descriptor.specs.Limits.{sector_bytes}
use Rattle.descriptor.specs.declared.kinds.Extent.{Extent}
use Rattle.descriptor.specs.declared.kinds.FreePair.{FreePair}
use Rattle.descriptor.specs.declared.kinds.Partition.{Partition}
use Rattle.descriptor.specs.declared.kinds.PartitionMap.{PartitionMap}

-- a partition's map: type 1, length 6, volume 1, its number
abbrev pub map_to : Partition → PartitionMap
map_to p = record { kind = 1; length = 6; volume = 1; number = p.number }

-- a free pair as an extent: its length in bytes, and its first sector
abbrev pub extent_to : FreePair → Extent
extent_to f = record { length = f.count * sector_bytes; location = f.first }

-- the same with the lowest 32 bits of that length
abbrev pub extent_low : FreePair → Extent
extent_low f = record { length = f.count * sector_bytes % 2 ^ 32; location = f.first }
