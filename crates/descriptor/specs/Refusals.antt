-- The number of each refusal of a sector.
use Rattle.std.specs.Prelude.{ℕ}
use Rattle.descriptor.specs.declared.refusal.Refusal.{Refusal}
use Rattle.descriptor.specs.declared.refusal.Refusal.TheVariants.{Tag, Location, Crc, Kind}

abbrev pub number_of : Refusal → ℕ
number_of Tag = 10
number_of Location = 11
number_of Crc = 12
number_of Kind = 13
