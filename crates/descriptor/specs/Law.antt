-- When a sector is a descriptor, in the subject's own words: the conditions of each check by name,
-- and that an answer is given exactly where all hold, else the refusal of the first check that fails.
use Rattle.std.specs.Prelude.{◌≡◌, ℕ, ◌+◌, ◌*◌, ◌%◌, ◌<◌, ◌≤◌, List, take, Ok, Err, Result}
use Rattle.octets.specs.Fields.{byte_at, u16_at, u32_at, part}
use Rattle.octets.specs.Crc.{crc}
use Rattle.octets.specs.Tag.{tag_sum}
use Rattle.descriptor.specs.declared.kinds.Place.{Place}
use Rattle.descriptor.specs.declared.kinds.Place.TheVariants.{Anchor, Sequence, IntegrityExtent}
use Rattle.descriptor.specs.declared.refusal.Refusal.{Refusal}
use Rattle.descriptor.specs.declared.refusal.Refusal.TheVariants as refusal
use Rattle.descriptor.specs.Limits.{sector_bytes, most_covered, most_partitions, most_pairs}
use Rattle.descriptor.specs.Kinds.{Fields}
use Rattle.descriptor.specs.Decode.{primary_in, anchor_in, implementation_use_in, partition_in, logical_volume_in, unallocated_space_in, terminating_in, integrity_in}

-- check 1: byte 4 is the sum of the tag's other bytes, byte 5 is 0, and the version is 3
pub record TagRight (bs : List ℕ) : Type 0 where
  pub sum : byte_at bs 4 ≡ tag_sum (take 16 bs)
  pub reserved : byte_at bs 5 ≡ 0
  pub version : u16_at bs 2 ≡ 3

-- check 2: the tag names the sector's own number
abbrev pub LocationRight : List ℕ → ℕ → Type 0
LocationRight bs number = u32_at bs 12 ≡ number

-- check 3: at most the bytes after the tag are covered, and their CRC is the one recorded
pub record CrcRight (bs : List ℕ) : Type 0 where
  pub covered : u16_at bs 10 ≤ most_covered
  pub equal : u16_at bs 8 ≡ crc (part bs 16 (u16_at bs 10))

-- check 4, the limits of three kinds: blocks of 2,048 bytes, at most 8 maps of 6 bytes each; at most 16 extents of whole
-- sectors; open (0) or closed (1), and at most 8 partitions
pub record LogicalVolumeRight (bs : List ℕ) : Type 0 where
  pub block_size : u32_at bs 212 ≡ sector_bytes
  pub maps : u32_at bs 268 ≤ most_partitions
  pub table : u32_at bs 264 ≡ 6 * u32_at bs 268

pub record UnallocatedSpaceRight (bs : List ℕ) : Type 0 where
  pub extents : u32_at bs 20 ≤ most_pairs
  pub lengths : (i : ℕ) → i < u32_at bs 20 → u32_at bs (24 + 8 * i) % sector_bytes ≡ 0

pub record IntegrityRight (bs : List ℕ) : Type 0 where
  pub state : u32_at bs 28 ≤ 1
  pub partitions : u32_at bs 72 ≤ most_partitions

-- check 4: a sector's kind suits its place, and these are the descriptor's parts, each at its position
pub data Suits (bs : List ℕ) : Place → Fields → Type 0 where
  anchor_suits : u16_at bs 0 ≡ 2 → Suits bs Anchor (anchor_in bs)
  primary_suits : u16_at bs 0 ≡ 1 → Suits bs Sequence (primary_in bs)
  implementation_use_suits : u16_at bs 0 ≡ 4 → Suits bs Sequence (implementation_use_in bs)
  partition_suits : u16_at bs 0 ≡ 5 → Suits bs Sequence (partition_in bs)
  logical_volume_suits : u16_at bs 0 ≡ 6 → LogicalVolumeRight bs → Suits bs Sequence (logical_volume_in bs)
  unallocated_space_suits : u16_at bs 0 ≡ 7 → UnallocatedSpaceRight bs → Suits bs Sequence (unallocated_space_in bs)
  terminating_suits : u16_at bs 0 ≡ 8 → Suits bs Sequence (terminating_in bs)
  last_integrity_suits : u16_at bs 0 ≡ 8 → Suits bs IntegrityExtent (terminating_in bs)
  integrity_suits : u16_at bs 0 ≡ 9 → IntegrityRight bs → Suits bs IntegrityExtent (integrity_in bs)

-- one holds where the other does, and nowhere else
abbrev pub Exactly : Type 0 → Type 0 → Type 0
Exactly A B = (A → B) × (B → A)

-- what an answer r to reading a sector says of it: it is accepted exactly where all four checks hold, and a refusal is that
-- of the first check that fails
pub record Reading (bs : List ℕ) (number : ℕ) (place : Place) (r : Result Fields Refusal) : Type 0 where
  pub accepted : (d : Fields) → Exactly (r ≡ Ok d) (TagRight bs × LocationRight bs number × CrcRight bs × Suits bs place d)
  pub tag : Exactly (r ≡ Err refusal.Tag) (TagRight bs → ⊥)
  pub location : Exactly (r ≡ Err refusal.Location) (TagRight bs × (LocationRight bs number → ⊥))
  pub crc : Exactly (r ≡ Err refusal.Crc) (TagRight bs × LocationRight bs number × (CrcRight bs → ⊥))
  pub kind : Exactly (r ≡ Err refusal.Kind) (TagRight bs × LocationRight bs number × CrcRight bs × ((d : Fields) → Suits bs place d → ⊥))
