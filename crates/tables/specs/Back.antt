-- What the rows that are written are read back as.
use Rattle.std.specs.Prelude.{◌≡◌, List, map}
use Rattle.std.specs.List.{flat_map}
use Rattle.octets.specs.Rows.{whole_rows}
use Rattle.descriptor.specs.Converted.{map_to, extent_to}
use Rattle.descriptor.specs.declared.kinds.FreePair.{FreePair}
use Rattle.descriptor.specs.declared.kinds.Partition.{Partition}
use Rattle.tables.specs.Read.{map_of, extent_of, size_of}
use Rattle.tables.specs.Rows.{map_bytes, pair_bytes, size_bytes}

-- the rows of the tables, read back: a map of each partition, an extent of each free pair, the size of each partition
abbrev pub MapsBack : List Partition → Type 0
MapsBack partitions = map map_of (whole_rows 6 (flat_map map_bytes partitions)) ≡ map map_to partitions

abbrev pub ExtentsBack : List FreePair → Type 0
ExtentsBack free = map extent_of (whole_rows 8 (flat_map pair_bytes free)) ≡ map extent_to free

abbrev pub SizesBack : List Partition → Type 0
SizesBack partitions = map size_of (whole_rows 4 (flat_map size_bytes partitions)) ≡ map (λ p. p.count) partitions
