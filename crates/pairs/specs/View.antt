-- The pairs of a table.
use Rattle.std.specs.Prelude.{List, take}
use Rattle.pairs.specs.declared.pair.Pair.{Pair}
use Rattle.pairs.specs.declared.table.Pairs.{Pairs}

abbrev pub pairs_of : Pairs → List Pair
pairs_of t = take t.len t.items
