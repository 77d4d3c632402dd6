-- The bytes of a row of each table.
use Rattle.std.specs.Prelude.{ℕ, List, ◌∷◌, ◌++◌}
use Rattle.octets.specs.Fields.{le16, le32}
use Rattle.descriptor.specs.Converted.{map_to, extent_to}
use Rattle.descriptor.specs.declared.kinds.Extent.{Extent}
use Rattle.descriptor.specs.declared.kinds.FreePair.{FreePair}
use Rattle.descriptor.specs.declared.kinds.Partition.{Partition}
use Rattle.descriptor.specs.declared.kinds.PartitionMap.{PartitionMap}

-- a map: its type, its length, the volume and the partition's number
abbrev pub map_row : PartitionMap → List ℕ
map_row m = m.kind ∷ m.length ∷ (le16 m.volume ++ le16 m.number)

-- an extent: its length in bytes, and its first sector
abbrev pub extent_row : Extent → List ℕ
extent_row e = le32 e.length ++ le32 e.location

-- a partition's map: type 1, length 6, volume 1, its number
abbrev pub map_bytes : Partition → List ℕ
map_bytes partition = map_row (map_to partition)

-- a free pair as an extent
abbrev pub pair_bytes : FreePair → List ℕ
pair_bytes pair = extent_row (extent_to pair)

-- a partition's free space, which is not stated, and its size in blocks
abbrev pub free_bytes : Partition → List ℕ
free_bytes partition = le32 4294967295

abbrev pub size_bytes : Partition → List ℕ
size_bytes partition = le32 partition.count
