-- What is written into a table is read back, row by row.
-- Assumes nothing.
use Rattle.std.proofs.Common.{◌≡◌, ◌*◌, ◌%◌, ◌^◌, ◌<◌, ◌≤◌, ℕ, List, [], ◌∷◌, ◌++◌, map, refl, ap, ap₂, arith}
use Rattle.std.specs.List.{flat_map, AllByRecursion}
use Rattle.octets.specs.Fields.{le32}
use Rattle.octets.proofs.Runs.{u16_back, u32_back, le32_low}
use Rattle.octets.proofs.Tables.{table_back}
use Rattle.descriptor.specs.Converted.{map_to, extent_to, extent_low}
use Rattle.descriptor.specs.declared.kinds.Extent.{Extent}
use Rattle.descriptor.specs.declared.kinds.FreePair.{FreePair}
use Rattle.descriptor.specs.declared.kinds.Partition.{Partition}
use Rattle.descriptor.specs.declared.kinds.PartitionMap.{PartitionMap}
use Rattle.tables.specs.Back.{MapsBack, ExtentsBack, SizesBack}
use Rattle.tables.specs.Read.{map_of, extent_of, size_of}
use Rattle.tables.specs.Rows.{extent_row, map_bytes, pair_bytes, size_bytes}

-- the rows of each table
pub maps_back : (ps : List Partition) → AllByRecursion (λ p. p.number < 2 ^ 16) ps → MapsBack ps
maps_back ps all = table_back map_bytes 6 (λ _. refl) map_of map_to (λ p. p.number < 2 ^ 16) agree (omega arith) ps all
  where
    agree : (p : Partition) → p.number < 2 ^ 16 → map_of (map_bytes p) ≡ map_to p
    agree p h = ap {B = PartitionMap} (λ (n : ℕ). record { kind = 1; length = 6; volume = 1; number = n }) (u16_back p.number h)

pub sizes_back : (ps : List Partition) → AllByRecursion (λ p. p.count < 2 ^ 32) ps → SizesBack ps
sizes_back ps all = table_back size_bytes 4 (λ _. refl) size_of (λ p. p.count) (λ p. p.count < 2 ^ 32) (λ p h. u32_back p.count h) (omega arith) ps all

abbrev Short : FreePair → Type 0
Short f = (f.count ≤ 524287) × (f.first < 2 ^ 32)

pub all_both : (free : List FreePair) → AllByRecursion (λ f. f.count ≤ 524287) free → AllByRecursion (λ f. f.first < 2 ^ 32) free → AllByRecursion Short free
all_both [] a b = tt
all_both (f ∷ free) a b = ((a.0, b.0), all_both free a.1 b.1)

pub extents_back : (free : List FreePair) → AllByRecursion Short free → ExtentsBack free
extents_back free all = table_back pair_bytes 8 (λ _. refl) extent_of extent_to Short agree (omega arith) free all
  where
    agree : (f : FreePair) → Short f → extent_of (pair_bytes f) ≡ extent_to f
    agree f h = ap₂ (λ (n first : ℕ). record { length = n; location = first }) (u32_back (f.count * 2048) (omega arith)) (u32_back f.first h.1)

-- the rows of free pairs have the lowest 32 bits of a length, kept or not
pub pairs_joined : (free : List FreePair) → flat_map extent_row (map extent_low free) ≡ flat_map pair_bytes free
pairs_joined [] = refl
pairs_joined (f ∷ free) = ap₂ (λ (row rest : List ℕ). row ++ rest) (ap (λ (n : List ℕ). n ++ le32 f.first) (le32_low (f.count * 2048))) (pairs_joined free)

-- and of short pairs all of it
pub extents_whole : (free : List FreePair) → AllByRecursion (λ f. f.count ≤ 524287) free → map extent_low free ≡ map extent_to free
extents_whole [] short = refl
extents_whole (f ∷ free) short =
    let n : f.count * 2048 % 2 ^ 32 ≡ f.count * 2048 = omega (arith, short.0) in
    let e : ◌≡◌ {A = Extent} (extent_low f) (extent_to f) = cc in
    ap₂ (λ (e : Extent) (rest : List Extent). e ∷ rest) e (extents_whole free short.1)
