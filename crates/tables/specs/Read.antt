-- What a row of each table holds.
use Rattle.std.specs.Prelude.{ℕ, List}
use Rattle.octets.specs.Fields.{byte_at, u16_at, u32_at}
use Rattle.descriptor.specs.declared.kinds.Extent.{Extent}
use Rattle.descriptor.specs.declared.kinds.PartitionMap.{PartitionMap}
use Rattle.descriptor.specs.Decode.{extent_at}

-- a partition map: type, length, volume, partition number
abbrev pub map_of : List ℕ → PartitionMap
map_of row = record { kind = byte_at row 0; length = byte_at row 1; volume = u16_at row 2; number = u16_at row 4 }

-- an extent of unallocated space
abbrev pub extent_of : List ℕ → Extent
extent_of row = extent_at row 0

-- a partition's count of blocks
abbrev pub size_of : List ℕ → ℕ
size_of row = u32_at row 0
