-- The number of each refusal of a pair.
use Rattle.std.specs.Prelude.{ℕ}
use Rattle.pairs.specs.declared.fault.PairFault.{PairFault}
use Rattle.pairs.specs.declared.fault.PairFault.TheVariants.{OffLimits, OutOfOrder, PastTheEnd}

abbrev pub number_of : PairFault → ℕ
number_of OffLimits = 34
number_of OutOfOrder = 33
number_of PastTheEnd = 30
