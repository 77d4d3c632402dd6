-- What is written is read back: the descriptors with no table.
-- The proofs of the writers have one shape, with a field's offset in each line: what differs is the descriptor, and a lemma for
-- all of them would take the lists of fields that they have.
-- Assumes nothing.
use Rattle.std.proofs.Common.{◌≡◌, ℕ, ◌+◌, ◌*◌, ◌/◌, ◌%◌, ◌^◌, ◌<◌, List, length, Some, refl, ◌∙◌}
use Rattle.octets.specs.Fields.{put, over, zeros, exactly}
use Rattle.octets.proofs.Runs.{u16_back, u32_back, exactly_whole}
use Rattle.descriptor.specs.declared.kinds.Extent.{Extent}
use Rattle.descriptor.specs.declared.kinds.Partition.{Partition}
use Rattle.descriptor.specs.declared.kinds.Place.TheVariants.{Anchor, Sequence}
use Rattle.descriptor.specs.Kinds.{terminating}
use Rattle.descriptor.specs.Decode.{kind_in}
use Rattle.encode.specs.declared.seal.Stamp.{Stamp}
use Rattle.encode.specs.Sealed.{sealed, tag}
use Rattle.encode.specs.Written.{primary_bytes, anchor_bytes, partition_bytes, terminating_bytes}
use Rattle.encode.specs.ReadBack.{ReadsAs, primary_fields, anchor_fields, partition_fields}
use Rattle.encode.proofs.Passes.{passes}

-- a number of 16 or 32 bits, put together from its bytes
abbrev pub again16 : ℕ → ℕ
again16 v = v % 256 + 256 * (v / 256 % 256)

abbrev pub again32 : ℕ → ℕ
again32 v = v % 256 + 256 * (v / 256 % 256) + 65536 * (v / 65536 % 256 + 256 * (v / 16777216 % 256))

abbrev pub again_extent : Extent → Extent
again_extent e = record { length = again32 e.length; location = again32 e.location }

-- a stamp whose numbers fit their fields
pub record StampFits (stamp : Stamp) : Type 0 where
  pub serial : stamp.serial < 2 ^ 16
  pub location : stamp.location < 2 ^ 32

pub record ExtentFits (extent : Extent) : Type 0 where
  pub length : extent.length < 2 ^ 32
  pub location : extent.location < 2 ^ 32

pub record PartitionFits (p : Partition) : Type 0 where
  pub number : p.number < 2 ^ 16
  pub access : p.access < 2 ^ 32
  pub first : p.first < 2 ^ 32
  pub count : p.count < 2 ^ 32

abbrev again_partition : Partition → Partition
again_partition p = record { number = again16 p.number; access = again32 p.access; first = again32 p.first; count = again32 p.count }

pub partition_again : (p : Partition) → PartitionFits p → again_partition p ≡ p
partition_again p fits =
    let n = u16_back p.number fits.number in
    let a = u32_back p.access fits.access in
    let f = u32_back p.first fits.first in
    let c = u32_back p.count fits.count in
    let same : ◌≡◌ {A = Partition} (again_partition p) (record { number = p.number; access = p.access; first = p.first; count = p.count }) = cc in
    same

pub extent_again : (e : Extent) → ExtentFits e → again_extent e ≡ e
extent_again e fits =
    let a = u32_back e.length fits.length in
    let b = u32_back e.location fits.location in
    let same : ◌≡◌ {A = Extent} (again_extent e) (record { length = e.length; location = e.location }) = cc in
    same

module _ (stamp : Stamp) (fits : StampFits stamp) where
  abbrev again_stamp : Stamp
  again_stamp = record { serial = again16 stamp.serial; location = stamp.location }

  serial_again : again16 stamp.serial ≡ stamp.serial
  serial_again = u16_back stamp.serial fits.serial

  primary_kind : (q : ℕ) (v w d : List ℕ) → kind_in Sequence (primary_bytes stamp q v w d) ≡ Some (primary_fields again_stamp (again32 q) (exactly 32 v) (exactly 128 w) (exactly 12 d))
  unfolding primary_bytes sealed tag put over zeros exactly
  primary_kind q v w d = refl

  pub primary_back :
      (q : ℕ) (v w d : List ℕ) → q < 2 ^ 32 → length v ≡ 32 → length w ≡ 128 → length d ≡ 12 →
      ReadsAs (primary_bytes stamp q v w d) stamp Sequence (primary_fields stamp q v w d)
  unfolding primary_bytes
  primary_back q v w d hq hv hw hd =
      let eq = u32_back q hq in
      let ev = exactly_whole v 32 hv in
      let ew = exactly_whole w 128 hw in
      let ed = exactly_whole d 12 hd in
      let es = serial_again in
      passes 1 stamp _ Sequence _ fits.location (primary_kind q v w d ∙ cc)

  anchor_kind : (m r : Extent) → kind_in Anchor (anchor_bytes stamp m r) ≡ Some (anchor_fields again_stamp (again_extent m) (again_extent r))
  unfolding anchor_bytes sealed tag put over zeros
  anchor_kind m r = refl

  pub anchor_back : (m r : Extent) → ExtentFits m → ExtentFits r → ReadsAs (anchor_bytes stamp m r) stamp Anchor (anchor_fields stamp m r)
  unfolding anchor_bytes
  anchor_back m r hm hr =
      let em = extent_again m hm in
      let er = extent_again r hr in
      let es = serial_again in
      passes 2 stamp _ Anchor _ fits.location (anchor_kind m r ∙ cc)

  partition_kind :
      (q : ℕ) (p : Partition) →
      kind_in Sequence (partition_bytes stamp q p) ≡ Some (partition_fields again_stamp (again32 q) (again_partition p))
  unfolding partition_bytes sealed tag put over zeros
  partition_kind q p = refl

  pub partition_back : (q : ℕ) (p : Partition) → q < 2 ^ 32 → PartitionFits p → ReadsAs (partition_bytes stamp q p) stamp Sequence (partition_fields stamp q p)
  unfolding partition_bytes
  partition_back q p hq hp =
      let eq = u32_back q hq in
      let ep = partition_again p hp in
      let es = serial_again in
      passes 5 stamp _ Sequence _ fits.location (partition_kind q p ∙ cc)

  terminating_kind : kind_in Sequence (terminating_bytes stamp) ≡ Some (terminating (again16 stamp.serial))
  unfolding terminating_bytes sealed tag zeros
  terminating_kind = refl

  pub terminating_back : ReadsAs (terminating_bytes stamp) stamp Sequence (terminating stamp.serial)
  unfolding terminating_bytes
  terminating_back =
      let es = serial_again in
      passes 8 stamp _ Sequence _ fits.location (terminating_kind ∙ cc)
