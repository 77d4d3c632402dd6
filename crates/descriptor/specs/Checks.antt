-- The four checks of a sector, as tests: the tag, its location, the CRC, and whether the kind suits the place.
use Rattle.std.specs.Prelude.{ℕ, ◌+◌, ◌*◌, ◌%◌, Bool, ◌&&◌, List, take, ◌==◌, nat_le}
use Rattle.std.specs.List.{list_all, range_with_len}
use Rattle.octets.specs.Fields.{byte_at, u16_at, u32_at, part}
use Rattle.octets.specs.Crc.{crc}
use Rattle.octets.specs.Tag.{tag_sum}
use Rattle.descriptor.specs.Limits.{sector_bytes, most_covered, most_partitions, most_pairs}

-- byte 4 is the sum of the tag's other bytes
abbrev pub sum_stands : List ℕ → Bool
sum_stands bs = byte_at bs 4 == tag_sum (take 16 bs)

-- check 1: the sum, byte 5 is 0, and the version is 3
abbrev pub tag_stands : List ℕ → Bool
tag_stands bs = sum_stands bs && (byte_at bs 5 == 0 && u16_at bs 2 == 3)

-- check 2: the tag names the sector's own number
abbrev pub location_stands : List ℕ → ℕ → Bool
location_stands bs number = u32_at bs 12 == number

-- check 3: at most the 2,032 bytes after the tag are covered, and their CRC is the one recorded
abbrev pub crc_stands : List ℕ → Bool
crc_stands bs = nat_le (u16_at bs 10) most_covered && u16_at bs 8 == crc (part bs 16 (u16_at bs 10))

-- check 4, for the kinds that have limits of their own
-- a logical volume: blocks of 2,048 bytes, at most 8 maps, and a table of 6 bytes a map
abbrev pub logical_volume_fits : List ℕ → Bool
logical_volume_fits bs = u32_at bs 212 == sector_bytes && (nat_le (u32_at bs 268) most_partitions && u32_at bs 264 == 6 * u32_at bs 268)

-- the first n extents of unallocated space have lengths in whole sectors
abbrev pub whole_lengths : List ℕ → ℕ → Bool
whole_lengths bs n = list_all (λ i. u32_at bs (24 + 8 * i) % sector_bytes == 0) (range_with_len 0 n)

-- unallocated space: at most 16 extents, each of whole sectors
abbrev pub unallocated_space_fits : List ℕ → Bool
unallocated_space_fits bs = nat_le (u32_at bs 20) most_pairs && whole_lengths bs (u32_at bs 20)

-- integrity: type 0 (open) or 1 (closed), and at most 8 partitions
abbrev pub integrity_fits : List ℕ → Bool
integrity_fits bs = nat_le (u32_at bs 28) 1 && nat_le (u32_at bs 72) most_partitions
