-- What each written sector is read back as.
use Rattle.std.specs.Prelude.{◌≡◌, ℕ, List, length, Ok}
use Rattle.std.specs.List.{flat_map}
use Rattle.descriptor.specs.Limits.{sector_bytes}
use Rattle.descriptor.specs.declared.kinds.Extent.{Extent}
use Rattle.descriptor.specs.declared.kinds.FreePair.{FreePair}
use Rattle.descriptor.specs.declared.kinds.Integrity.{Integrity}
use Rattle.descriptor.specs.declared.kinds.Partition.{Partition}
use Rattle.descriptor.specs.declared.kinds.Place.{Place}
use Rattle.descriptor.specs.Kinds.{Fields, primary, anchor, partition, logical_volume, unallocated_space, integrity}
use Rattle.descriptor.specs.Decode.{decoded}
use Rattle.encode.specs.declared.seal.Stamp.{Stamp}
use Rattle.tables.specs.Rows.{map_bytes, pair_bytes, size_bytes}

-- a sector, read where its stamp says that it stands, is a descriptor with these fields
abbrev pub ReadsAs : List ℕ → Stamp → Place → Fields → Type 0
ReadsAs bytes stamp place fields = decoded bytes stamp.location place ≡ Ok fields

abbrev pub primary_fields : Stamp → (sequence : ℕ) (volume volume_set recorded : List ℕ) → Fields
primary_fields stamp sequence volume volume_set recorded =
    primary (record { serial = stamp.serial; sequence = sequence; volume = volume; volume_set = volume_set; recorded = recorded })

abbrev pub anchor_fields : Stamp → (main reserve : Extent) → Fields
anchor_fields stamp main reserve = anchor (record { serial = stamp.serial; main = main; reserve = reserve })

abbrev pub partition_fields : Stamp → (sequence : ℕ) → Partition → Fields
partition_fields stamp sequence p = partition (record { serial = stamp.serial; sequence = sequence; flags = 1; partition = p })

abbrev pub logical_volume_fields : Stamp → (sequence : ℕ) (identifier : List ℕ) → List Partition → Extent → Fields
logical_volume_fields stamp sequence identifier partitions extent =
    logical_volume (record {
      serial = stamp.serial;
      sequence = sequence;
      identifier = identifier;
      block_size = sector_bytes;
      maps = flat_map map_bytes partitions;
      integrity = extent;
    })

abbrev pub unallocated_space_fields : Stamp → (sequence : ℕ) → List FreePair → Fields
unallocated_space_fields stamp sequence free = unallocated_space (record { serial = stamp.serial; sequence = sequence; extents = flat_map pair_bytes free })

abbrev pub integrity_fields : Stamp → (recorded : List ℕ) → Integrity → List Partition → Fields
integrity_fields stamp recorded state partitions =
    integrity (record {
      serial = stamp.serial;
      recorded = recorded;
      state = state;
      next = record { length = 0; location = 0 };
      partitions = length partitions;
      sizes = flat_map size_bytes partitions;
    })
