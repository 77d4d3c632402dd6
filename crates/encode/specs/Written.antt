-- The bytes of each sector that is written. A body is its fields, each an offset with its bytes, laid into 2,048 zeros.
use Rattle.std.specs.Prelude.{ℕ, ◌*◌, List, [], ◌∷◌, ◌++◌, length}
use Rattle.std.specs.List.{flat_map}
use Rattle.octets.specs.Fields.{laid, zeros, exactly, le16, le32}
use Rattle.descriptor.specs.Limits.{sector_bytes}
use Rattle.descriptor.specs.declared.kinds.Extent.{Extent}
use Rattle.descriptor.specs.declared.kinds.FreePair.{FreePair}
use Rattle.descriptor.specs.declared.kinds.Integrity.{Integrity}
use Rattle.descriptor.specs.declared.kinds.Partition.{Partition}
use Rattle.descriptor.specs.Numbers.{state_number}
use Rattle.tables.specs.Rows.{extent_row, map_bytes, pair_bytes, free_bytes, size_bytes}
use Rattle.encode.specs.declared.seal.Stamp.{Stamp}
use Rattle.encode.specs.Sealed.{sealed}

-- Primary Volume Descriptor: sequence number, volume identifier, volume 1 of 1, interchange level 3 of 3,
-- volume set identifier, recording date, and flag bit 0: the volume set identifier is common to the set
abbrev pub primary_body : (sequence : ℕ) (volume volume_set recorded : List ℕ) → List ℕ
primary_body sequence volume volume_set recorded =
    laid (
    (16, le32 sequence)
    ∷ (24, exactly 32 volume)
    ∷ (56, le16 1)
    ∷ (58, le16 1)
    ∷ (60, le16 3)
    ∷ (62, le16 3)
    ∷ (72, exactly 128 volume_set)
    ∷ (376, exactly 12 recorded)
    ∷ (488, le16 1)
    ∷ []
    ) (zeros sector_bytes)

unfoldable pub primary_bytes : Stamp → (sequence : ℕ) (volume volume_set recorded : List ℕ) → List ℕ
primary_bytes stamp sequence volume volume_set recorded = sealed 1 stamp (primary_body sequence volume volume_set recorded)

-- Anchor Volume Descriptor Pointer: the extents of the main and of the reserve sequence
abbrev pub anchor_body : (main reserve : Extent) → List ℕ
anchor_body main reserve =
    laid ((16, extent_row main) ∷ (24, extent_row reserve) ∷ []) (zeros sector_bytes)

unfoldable pub anchor_bytes : Stamp → (main reserve : Extent) → List ℕ
anchor_bytes stamp main reserve = sealed 2 stamp (anchor_body main reserve)

-- Partition Descriptor: sequence number, flag bit 0 (space is allocated), number, access type, first sector, count
abbrev pub partition_body : (sequence : ℕ) → Partition → List ℕ
partition_body sequence partition =
    laid (
    (16, le32 sequence)
    ∷ (20, le16 1)
    ∷ (22, le16 partition.number)
    ∷ (184, le32 partition.access)
    ∷ (188, le32 partition.first)
    ∷ (192, le32 partition.count)
    ∷ []
    ) (zeros sector_bytes)

unfoldable pub partition_bytes : Stamp → (sequence : ℕ) → Partition → List ℕ
partition_bytes stamp sequence partition = sealed 5 stamp (partition_body sequence partition)

-- Logical Volume Descriptor: sequence number, identifier, block size, table length, map count, integrity extent, maps
abbrev pub logical_volume_body : (sequence : ℕ) (identifier : List ℕ) → List Partition → (integrity : Extent) → List ℕ
logical_volume_body sequence identifier partitions integrity =
    laid (
    (16, le32 sequence)
    ∷ (84, exactly 128 identifier)
    ∷ (212, le32 sector_bytes)
    ∷ (264, le32 (6 * length partitions))
    ∷ (268, le32 (length partitions))
    ∷ (432, extent_row integrity)
    ∷ (440, flat_map map_bytes partitions)
    ∷ []
    ) (zeros sector_bytes)

unfoldable pub logical_volume_bytes : Stamp → (sequence : ℕ) (identifier : List ℕ) → List Partition → (integrity : Extent) → List ℕ
logical_volume_bytes stamp sequence identifier partitions integrity = sealed 6 stamp (logical_volume_body sequence identifier partitions integrity)

-- Unallocated Space Descriptor: sequence number, count of extents, extents
abbrev pub unallocated_space_body : (sequence : ℕ) → List FreePair → List ℕ
unallocated_space_body sequence free = laid ((16, le32 sequence) ∷ (20, le32 (length free)) ∷ (24, flat_map pair_bytes free) ∷ []) (zeros sector_bytes)

unfoldable pub unallocated_space_bytes : Stamp → (sequence : ℕ) → List FreePair → List ℕ
unallocated_space_bytes stamp sequence free = sealed 7 stamp (unallocated_space_body sequence free)

-- Terminating Descriptor: nothing but its tag
unfoldable pub terminating_bytes : Stamp → List ℕ
terminating_bytes stamp = sealed 8 stamp (zeros sector_bytes)

-- Logical Volume Integrity Descriptor: recording date, type, count of partitions, free space table, size table
abbrev pub integrity_body : (recorded : List ℕ) → Integrity → List Partition → List ℕ
integrity_body recorded state partitions =
    laid (
    (16, exactly 12 recorded)
    ∷ (28, le32 (state_number state))
    ∷ (72, le32 (length partitions))
    ∷ (80, flat_map free_bytes partitions ++ flat_map size_bytes partitions)
    ∷ []
    ) (zeros sector_bytes)

unfoldable pub integrity_bytes : Stamp → (recorded : List ℕ) → Integrity → List Partition → List ℕ
integrity_bytes stamp recorded state partitions = sealed 9 stamp (integrity_body recorded state partitions)
