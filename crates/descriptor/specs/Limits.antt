-- The limits of descriptors.
use Rattle.std.specs.Prelude.{ℕ}

-- the bytes of a sector, and of a logical block
abbrev pub sector_bytes : ℕ
sector_bytes = 2048

-- the most bytes that a CRC covers: all that follow the tag
abbrev pub most_covered : ℕ
most_covered = 2032

-- the most partition maps of a logical volume
abbrev pub most_partitions : ℕ
most_partitions = 8

-- the most extents of unallocated space
abbrev pub most_pairs : ℕ
most_pairs = 16
