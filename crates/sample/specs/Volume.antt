-- The sample volume's partitions and free space.
use Rattle.std.specs.Prelude.{List, [], ◌∷◌}
use Rattle.descriptor.specs.declared.kinds.FreePair.{FreePair}
use Rattle.descriptor.specs.declared.kinds.Partition.{Partition}

abbrev pub pottery : Partition
pottery = record { number = 7; access = 3; first = 66; count = 100 }

abbrev pub loom : Partition
loom = record { number = 9; access = 1; first = 166; count = 50 }

abbrev pub free_space : List FreePair
free_space = record { first = 257; count = 10 } ∷ record { first = 267; count = 76 } ∷ []
