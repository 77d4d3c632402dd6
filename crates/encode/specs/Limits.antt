-- The limits of what is written, and the number of their refusal.
use Rattle.std.specs.Prelude.{ℕ, Bool, cond, List, length, Ok, Err, Result, nat_le}
use Rattle.std.specs.List.{list_all}
use Rattle.descriptor.specs.Limits.{most_partitions, most_pairs}
use Rattle.descriptor.specs.declared.kinds.FreePair.{FreePair}
use Rattle.descriptor.specs.declared.kinds.Partition.{Partition}
use Rattle.encode.specs.declared.limits.OffLimits.{OffLimits}
use Rattle.encode.specs.declared.limits.OffLimits.TheVariants.{Partitions, Pairs, PairLength}

abbrev pub limit_number : OffLimits → ℕ
limit_number Partitions = 34
limit_number Pairs = 34
limit_number PairLength = 34

-- the most sectors of a free pair: an extent is shorter than 2^30 bytes
abbrev pub most_pair_sectors : ℕ
most_pair_sectors = 524287

-- each free pair is short enough
abbrev pub short : FreePair → Bool
short pair = nat_le pair.count most_pair_sectors

abbrev pub all_short : List FreePair → Bool
all_short free = list_all short free

-- a sector with a row for each partition is written for at most 8 of them
abbrev pub within_partitions : List Partition → List ℕ → Result (List ℕ) OffLimits
within_partitions partitions bytes = cond (nat_le (length partitions) most_partitions) (Ok bytes) (Err Partitions)

-- one with a row for each free pair, for at most 16 of them, none too long
abbrev pub within_pairs : List FreePair → List ℕ → Result (List ℕ) OffLimits
within_pairs free bytes = cond (nat_le (length free) most_pairs) (cond (all_short free) (Ok bytes) (Err PairLength)) (Err Pairs)
