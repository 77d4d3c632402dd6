-- What a descriptor of each kind holds, with its identifiers, dates and tables as lists of bytes.
use Rattle.std.specs.Prelude.{ℕ, List}
use Rattle.descriptor.specs.declared.kinds.Extent.{Extent}
use Rattle.descriptor.specs.declared.kinds.Partition.{Partition}
use Rattle.descriptor.specs.declared.kinds.Integrity.{Integrity}
use Rattle.descriptor.specs.declared.kinds.Descriptor.{Descriptor}
use Rattle.descriptor.specs.declared.kinds.Kind.{Kind}
use Rattle.descriptor.specs.declared.kinds.Kind.TheVariants as named
use Rattle.descriptor.specs.declared.kinds.Descriptor.TheVariants as case

pub record PrimaryFields : Type 0 where
  pub serial : ℕ
  pub sequence : ℕ
  pub volume : List ℕ
  pub volume_set : List ℕ
  pub recorded : List ℕ

pub record AnchorFields : Type 0 where
  pub serial : ℕ
  pub main : Extent
  pub reserve : Extent

pub record ImplementationUseFields : Type 0 where
  pub serial : ℕ
  pub sequence : ℕ

pub record PartitionFields : Type 0 where
  pub serial : ℕ
  pub sequence : ℕ
  pub flags : ℕ
  pub partition : Partition

pub record LogicalVolumeFields : Type 0 where
  pub serial : ℕ
  pub sequence : ℕ
  pub identifier : List ℕ
  pub block_size : ℕ
  pub maps : List ℕ
  pub integrity : Extent

pub record UnallocatedSpaceFields : Type 0 where
  pub serial : ℕ
  pub sequence : ℕ
  pub extents : List ℕ

pub record IntegrityFields : Type 0 where
  pub serial : ℕ
  pub recorded : List ℕ
  pub state : Integrity
  pub next : Extent
  pub partitions : ℕ
  pub sizes : List ℕ

pub data Fields : Type 0 where
  primary : PrimaryFields → Fields
  anchor : AnchorFields → Fields
  implementation_use : ImplementationUseFields → Fields
  partition : PartitionFields → Fields
  logical_volume : LogicalVolumeFields → Fields
  unallocated_space : UnallocatedSpaceFields → Fields
  terminating : (serial : ℕ) → Fields
  integrity : IntegrityFields → Fields

-- the code's descriptor, with what it borrows as the bytes themselves
abbrev pub fields_of : Descriptor → Fields
fields_of (case.Primary s q v w d) = primary (record { serial = s; sequence = q; volume = v.now; volume_set = w.now; recorded = d.now })
fields_of (case.Anchor s m r) = anchor (record { serial = s; main = m; reserve = r })
fields_of (case.ImplementationUse s q) = implementation_use (record { serial = s; sequence = q })
fields_of (case.Partition s q f p) = partition (record { serial = s; sequence = q; flags = f; partition = p })
fields_of (case.LogicalVolume s q n b m e) = logical_volume (record { serial = s; sequence = q; identifier = n.now; block_size = b; maps = m.now; integrity = e })
fields_of (case.UnallocatedSpace s q e) = unallocated_space (record { serial = s; sequence = q; extents = e.now })
fields_of (case.Terminating s) = terminating s
fields_of (case.Integrity s d t e n z) = integrity (record { serial = s; recorded = d.now; state = t; next = e; partitions = n; sizes = z.now })

-- the serial number of a descriptor's set
abbrev pub serial_of : Fields → ℕ
serial_of (primary f) = f.serial
serial_of (anchor f) = f.serial
serial_of (implementation_use f) = f.serial
serial_of (partition f) = f.serial
serial_of (logical_volume f) = f.serial
serial_of (unallocated_space f) = f.serial
serial_of (terminating serial) = serial
serial_of (integrity f) = f.serial

-- the kind of a descriptor
abbrev pub kind_of : Fields → Kind
kind_of (primary f) = named.Primary
kind_of (anchor f) = named.Anchor
kind_of (implementation_use f) = named.ImplementationUse
kind_of (partition f) = named.Partition
kind_of (logical_volume f) = named.LogicalVolume
kind_of (unallocated_space f) = named.UnallocatedSpace
kind_of (terminating serial) = named.Terminating
kind_of (integrity f) = named.Integrity
