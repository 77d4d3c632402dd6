-- A sector as a descriptor: which kind it is in its place, and what it holds.
use Rattle.std.specs.Prelude.{ℕ, ◌+◌, ◌*◌, Bool, cond, List, Some, None, Ok, Err, Option, Result, ◌==◌}
use Rattle.std.specs.Option.{ok_or}
use Rattle.octets.specs.Fields.{u16_at, u32_at, part}
use Rattle.descriptor.specs.declared.kinds.Extent.{Extent}
use Rattle.descriptor.specs.declared.kinds.Integrity.{Integrity}
use Rattle.descriptor.specs.declared.kinds.Integrity.TheVariants.{Open, Closed}
use Rattle.descriptor.specs.declared.kinds.Place.{Place}
use Rattle.descriptor.specs.declared.kinds.Place.TheVariants.{Anchor, Sequence, IntegrityExtent}
use Rattle.descriptor.specs.declared.kinds.Descriptor.{Descriptor}
use Rattle.descriptor.specs.declared.refusal.Refusal.{Refusal}
use Rattle.descriptor.specs.declared.refusal.Refusal.TheVariants as refusal
use Rattle.descriptor.specs.Kinds.{Fields, primary, anchor, implementation_use, partition, logical_volume, unallocated_space, terminating, integrity, fields_of}
use Rattle.descriptor.specs.Checks.{tag_stands, location_stands, crc_stands, logical_volume_fits, unallocated_space_fits, integrity_fits}

-- an extent at an offset: its length in bytes, then its first sector
abbrev pub extent_at : List ℕ → ℕ → Extent
extent_at bs at = record { length = u32_at bs at; location = u32_at bs (at + 4) }

-- what each kind holds, by its place in the sector
abbrev pub primary_in : List ℕ → Fields
primary_in bs = primary (record { serial = u16_at bs 6; sequence = u32_at bs 16; volume = part bs 24 32; volume_set = part bs 72 128; recorded = part bs 376 12 })

abbrev pub anchor_in : List ℕ → Fields
anchor_in bs = anchor (record { serial = u16_at bs 6; main = extent_at bs 16; reserve = extent_at bs 24 })

abbrev pub implementation_use_in : List ℕ → Fields
implementation_use_in bs = implementation_use (record { serial = u16_at bs 6; sequence = u32_at bs 16 })

abbrev pub partition_in : List ℕ → Fields
partition_in bs = partition (record {
  serial = u16_at bs 6;
  sequence = u32_at bs 16;
  flags = u16_at bs 20;
  partition = record { number = u16_at bs 22; access = u32_at bs 184; first = u32_at bs 188; count = u32_at bs 192 };
})

abbrev pub logical_volume_in : List ℕ → Fields
logical_volume_in bs = logical_volume (record {
  serial = u16_at bs 6;
  sequence = u32_at bs 16;
  identifier = part bs 84 128;
  block_size = u32_at bs 212;
  maps = part bs 440 (u32_at bs 264);
  integrity = extent_at bs 432;
})

abbrev pub unallocated_space_in : List ℕ → Fields
unallocated_space_in bs = unallocated_space (record { serial = u16_at bs 6; sequence = u32_at bs 16; extents = part bs 24 (8 * u32_at bs 20) })

abbrev pub terminating_in : List ℕ → Fields
terminating_in bs = terminating (u16_at bs 6)

-- type 0 is open and type 1 closed
abbrev pub state_of : ℕ → Integrity
state_of type = cond (type == 1) Closed Open

abbrev pub integrity_in : List ℕ → Fields
integrity_in bs = integrity (record {
  serial = u16_at bs 6;
  recorded = part bs 16 12;
  state = state_of (u32_at bs 28);
  next = extent_at bs 32;
  partitions = u32_at bs 72;
  sizes = part bs (80 + 4 * u32_at bs 72) (4 * u32_at bs 72);
})

-- something, if a test passes
abbrev pub if_so : {A : Type 0} → Bool → A → Option A
if_so b x = cond b (Some x) None

-- check 4: the descriptor that a kind is in a sequence, in the integrity extent, and at an anchor
abbrev pub sequence_kind : ℕ → List ℕ → Option Fields
sequence_kind kind bs =
    cond (kind == 1) (Some (primary_in bs))
    (cond (kind == 4) (Some (implementation_use_in bs))
    (cond (kind == 5) (Some (partition_in bs))
    (cond (kind == 6) (if_so (logical_volume_fits bs) (logical_volume_in bs))
    (cond (kind == 7) (if_so (unallocated_space_fits bs) (unallocated_space_in bs))
    (if_so (kind == 8) (terminating_in bs))))))

abbrev pub integrity_kind : ℕ → List ℕ → Option Fields
integrity_kind kind bs = cond (kind == 8) (Some (terminating_in bs)) (cond (kind == 9) (if_so (integrity_fits bs) (integrity_in bs)) None)

abbrev pub kind_in : Place → List ℕ → Option Fields
kind_in Anchor bs = if_so (u16_at bs 0 == 2) (anchor_in bs)
kind_in Sequence bs = sequence_kind (u16_at bs 0) bs
kind_in IntegrityExtent bs = integrity_kind (u16_at bs 0) bs

-- the sector read at its number and place: what it holds, or the first check that fails
unfoldable pub decoded : List ℕ → ℕ → Place → Result Fields Refusal
decoded bs number place =
    cond (tag_stands bs)
    (cond (location_stands bs number)
    (cond (crc_stands bs)
    (ok_or (kind_in place bs) refusal.Kind)
    (Err refusal.Crc))
    (Err refusal.Location))
    (Err refusal.Tag)

-- the code's answer, with what it borrows as the bytes themselves
abbrev pub answer : Result Descriptor Refusal → Result Fields Refusal
answer (Ok d) = Ok (fields_of d)
answer (Err e) = Err e

abbrev pub found : Option Descriptor → Option Fields
found (Some d) = Some (fields_of d)
found None = None
