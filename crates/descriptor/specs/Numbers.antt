-- The numbers of kinds, of what an integrity descriptor says, and of access types.
use Rattle.std.specs.Prelude.{ℕ}
use Rattle.descriptor.specs.declared.kinds.Kind.{Kind}
use Rattle.descriptor.specs.declared.kinds.Kind.TheVariants.{Primary, Anchor, ImplementationUse, Partition, LogicalVolume, UnallocatedSpace, Terminating, Integrity}
use Rattle.descriptor.specs.declared.kinds.Integrity.{Integrity as State}
use Rattle.descriptor.specs.declared.kinds.Integrity.TheVariants.{Open, Closed}
use Rattle.descriptor.specs.declared.kinds.Access.{Access}
use Rattle.descriptor.specs.declared.kinds.Access.TheVariants.{NotStated, ReadOnly, WriteOnce, Rewritable, Overwritable}

-- the number of a kind, as a tag has it
abbrev pub kind_number : Kind → ℕ
kind_number Primary = 1
kind_number Anchor = 2
kind_number ImplementationUse = 4
kind_number Partition = 5
kind_number LogicalVolume = 6
kind_number UnallocatedSpace = 7
kind_number Terminating = 8
kind_number Integrity = 9

-- the type of an integrity descriptor, by what it says
abbrev pub state_number : State → ℕ
state_number Open = 0
state_number Closed = 1

-- the number of an access type
abbrev pub access_number : Access → ℕ
access_number NotStated = 0
access_number ReadOnly = 1
access_number WriteOnce = 2
access_number Rewritable = 3
access_number Overwritable = 4
