-- What is written is read back: the descriptors with a table.
-- Assumes nothing.
use Rattle.std.proofs.Common.{◌≡◌, ℕ, ◌+◌, ◌*◌, ◌%◌, ◌^◌, ◌<◌, ◌≤◌, true, eqb, leb, List, ◌++◌, length, get_or, take, drop, Some, Decides, Option, sym, refl, ap, ◌∙◌, arith}
use Rattle.std.specs.List.{flat_map, AllByRecursion}
use Rattle.std.proofs.ByRecursion.{All-get_or}
use Rattle.std.proofs.lemmas.List.{length-append, append_assoc, drop-drop, drop-append-le, drop_at, take_at}
use Rattle.std.proofs.lemmas.Bool.{eq-eqb, le-leb, leb-true, and_from, cond-true}
use Rattle.octets.specs.Fields.{put, over, zeros, exactly, u32_at, part}
use Rattle.octets.proofs.Runs.{u16_back, u32_back, exactly_whole, over_front, take-over, u32_drop, length-zeros}
use Rattle.octets.proofs.Deciding.{all_decides}
use Rattle.octets.proofs.Tables.{length-joined, row_stands}
use Rattle.descriptor.specs.declared.kinds.Extent.{Extent}
use Rattle.descriptor.specs.declared.kinds.FreePair.{FreePair}
use Rattle.descriptor.specs.declared.kinds.Partition.{Partition}
use Rattle.descriptor.specs.declared.kinds.Integrity.{Integrity}
use Rattle.descriptor.specs.declared.kinds.Integrity.TheVariants.{Open, Closed}
use Rattle.descriptor.specs.declared.kinds.Place.TheVariants.{Sequence, IntegrityExtent}
use Rattle.descriptor.specs.Kinds.{Fields, logical_volume, unallocated_space, integrity}
use Rattle.descriptor.specs.Checks.{logical_volume_fits, unallocated_space_fits, integrity_fits, whole_lengths}
use Rattle.descriptor.specs.Decode.{kind_in, if_so, logical_volume_in, unallocated_space_in, integrity_in, state_of}
use Rattle.descriptor.proofs.Lengths.{whole_decides}
use Rattle.encode.specs.declared.seal.Stamp.{Stamp}
use Rattle.encode.specs.Limits.{short, all_short}
use Rattle.encode.specs.Sealed.{sealed, tag}
use Rattle.tables.specs.Rows.{map_bytes, pair_bytes, size_bytes, free_bytes}
use Rattle.descriptor.specs.Numbers.{state_number}
use Rattle.encode.specs.Written.{logical_volume_bytes, unallocated_space_bytes, integrity_bytes}
use Rattle.encode.specs.ReadBack.{ReadsAs, logical_volume_fields, unallocated_space_fields, integrity_fields}
use Rattle.encode.proofs.Passes.{passes}
use Rattle.encode.proofs.RoundTrip.{StampFits, ExtentFits, again16, again32, again_extent, extent_again}

-- the logical volume
module _ (stamp : Stamp) (q : ℕ) (id : List ℕ) (ps : List Partition) (e : Extent) where
  volume_kind :
      kind_in Sequence (logical_volume_bytes stamp q id ps e) ≡
      if_so (logical_volume_fits (logical_volume_bytes stamp q id ps e)) (logical_volume_in (logical_volume_bytes stamp q id ps e))
  unfolding logical_volume_bytes sealed tag put over zeros exactly
  volume_kind = refl

  volume_fits : length ps ≤ 8 → logical_volume_fits (logical_volume_bytes stamp q id ps e) ≡ true
  unfolding logical_volume_bytes sealed tag put over zeros exactly
  volume_fits few =
      let n : again32 (length ps) ≡ length ps = u32_back (length ps) (omega arith) in
      let t : again32 (6 * length ps) ≡ 6 * length ps = u32_back (6 * length ps) (omega arith) in
      and_from (leb (again32 (length ps)) 8) (eqb (again32 (6 * length ps)) (6 * again32 (length ps))) (le-leb _ _ (omega arith)) (eq-eqb _ _ (omega arith))

  -- its parts, as they are read
  abbrev volume_read : Fields
  volume_read = logical_volume (record {
    serial = again16 stamp.serial;
    sequence = again32 q;
    identifier = exactly 128 id;
    block_size = 2048;
    maps = take (again32 (6 * length ps)) (over (flat_map map_bytes ps) (zeros 1608));
    integrity = again_extent e;
  })

  volume_parts : logical_volume_in (logical_volume_bytes stamp q id ps e) ≡ volume_read
  unfolding logical_volume_bytes sealed tag put over zeros exactly
  volume_parts = refl

  volume_same : StampFits stamp → q < 2 ^ 32 → length id ≡ 128 → ExtentFits e → length ps ≤ 8 → volume_read ≡ logical_volume_fields stamp q id ps e
  volume_same fits hq hid he few =
      let es = u16_back stamp.serial fits.serial in
      let eq = u32_back q hq in
      let ei = exactly_whole id 128 hid in
      let ee = extent_again e he in
      let long : length (flat_map map_bytes ps) ≡ length ps * 6 = length-joined map_bytes 6 (λ _. refl) ps in
      let room = length-zeros 1608 in
      let t : again32 (6 * length ps) ≡ 6 * length ps = u32_back (6 * length ps) (omega arith) in
      let em : take (again32 (6 * length ps)) (over (flat_map map_bytes ps) (zeros 1608)) ≡ flat_map map_bytes ps =
      take-over (flat_map map_bytes ps) (zeros 1608) (again32 (6 * length ps)) (omega arith) (omega arith) in
      cc

  pub logical_volume_back :
      StampFits stamp → q < 2 ^ 32 → length id ≡ 128 → ExtentFits e → length ps ≤ 8 →
      ReadsAs (logical_volume_bytes stamp q id ps e) stamp Sequence (logical_volume_fields stamp q id ps e)
  unfolding logical_volume_bytes
  logical_volume_back fits hq hid he few =
      passes 6 stamp _ Sequence _ fits.location
      (volume_kind
      ∙ (cond-true (logical_volume_fits (logical_volume_bytes stamp q id ps e)) _ _ (volume_fits few)
      ∙ ap {B = Option Fields} Some (volume_parts ∙ volume_same fits hq hid he few)))

-- unallocated space
pub short_decides : (free : List FreePair) → Decides (all_short free) (AllByRecursion (λ f. f.count ≤ 524287) free)
short_decides free = all_decides short (λ f. f.count ≤ 524287) (λ f. (leb-true f.count 524287, le-leb f.count 524287)) free

module _ (stamp : Stamp) (q : ℕ) (free : List FreePair) where
  space_kind :
      kind_in Sequence (unallocated_space_bytes stamp q free) ≡
      if_so (unallocated_space_fits (unallocated_space_bytes stamp q free)) (unallocated_space_in (unallocated_space_bytes stamp q free))
  unfolding unallocated_space_bytes sealed tag put over zeros
  space_kind = refl

  -- the table stands at 24
  space_table : drop 24 (unallocated_space_bytes stamp q free) ≡ over (flat_map pair_bytes free) (zeros 2024)
  unfolding unallocated_space_bytes sealed tag put over zeros
  space_table = refl

  space_count : u32_at (unallocated_space_bytes stamp q free) 20 ≡ again32 (length free)
  unfolding unallocated_space_bytes sealed tag put over zeros
  space_count = refl

  abbrev joined_pairs : List ℕ
  joined_pairs = flat_map pair_bytes free

  pairs_long : length (flat_map pair_bytes free) ≡ length free * 8
  pairs_long = length-joined pair_bytes 8 (λ _. refl) free

  -- each row begins with its length in bytes
  row_length : length free ≤ 16 → (i : ℕ) (d : FreePair) → i < length free → u32_at (unallocated_space_bytes stamp q free) (24 + 8 * i) ≡ again32 ((get_or free i d).count * 2048)
  row_length few i d h =
      let long = pairs_long in
      let room = length-zeros 2024 in
      let at : 8 * i ≡ i * 8 + 0 = omega arith in
      u32_drop (unallocated_space_bytes stamp q free) 24 (8 * i)
      ∙ (ap (λ (l : List ℕ). u32_at l (8 * i)) (space_table ∙ over_front joined_pairs (zeros 2024) (omega arith))
      ∙ (ap (u32_at (joined_pairs ++ drop (length joined_pairs) (zeros 2024))) at
      ∙ (u32_drop (joined_pairs ++ drop (length joined_pairs) (zeros 2024)) (i * 8) 0
      ∙ (ap (λ (l : List ℕ). u32_at l 0) (drop-append-le (i * 8) joined_pairs (drop (length joined_pairs) (zeros 2024)) (omega arith))
      ∙ ap (λ (l : List ℕ). u32_at (l ++ drop (length joined_pairs) (zeros 2024)) 0) (row_stands pair_bytes 8 (λ _. refl) i free d h)))))

  space_fits : length free ≤ 16 → AllByRecursion (λ f. f.count ≤ 524287) free → unallocated_space_fits (unallocated_space_bytes stamp q free) ≡ true
  space_fits few each =
      let n : u32_at (unallocated_space_bytes stamp q free) 20 ≡ length free = space_count ∙ u32_back (length free) (omega arith) in
      and_from (leb (u32_at (unallocated_space_bytes stamp q free) 20) 16) (whole_lengths (unallocated_space_bytes stamp q free) (u32_at (unallocated_space_bytes stamp q free) 20))
      (le-leb _ _ (omega arith))
      ((whole_decides (unallocated_space_bytes stamp q free) (u32_at (unallocated_space_bytes stamp q free) 20)).1 (λ i h. whole i (omega (arith, h, n))))
    where
      none : FreePair
      none = record { first = 0; count = 0 }

      whole : (i : ℕ) → i < length free → u32_at (unallocated_space_bytes stamp q free) (24 + 8 * i) % 2048 ≡ 0
      whole i h =
          let s : (get_or free i none).count ≤ 524287 = All-get_or (λ f. f.count ≤ 524287) free i none h each in
          let a = u32_back ((get_or free i none).count * 2048) (omega arith) in
          let r = row_length few i none h in
          omega arith

  abbrev space_read : Fields
  space_read = unallocated_space (record {
    serial = again16 stamp.serial;
    sequence = again32 q;
    extents = take (8 * again32 (length free)) (over (flat_map pair_bytes free) (zeros 2024));
  })

  space_parts : unallocated_space_in (unallocated_space_bytes stamp q free) ≡ space_read
  unfolding unallocated_space_bytes sealed tag put over zeros
  space_parts = refl

  space_same : StampFits stamp → q < 2 ^ 32 → length free ≤ 16 → space_read ≡ unallocated_space_fields stamp q free
  space_same fits hq few =
      let es = u16_back stamp.serial fits.serial in
      let eq = u32_back q hq in
      let long = pairs_long in
      let room = length-zeros 2024 in
      let n : again32 (length free) ≡ length free = u32_back (length free) (omega arith) in
      let em : take (8 * again32 (length free)) (over (flat_map pair_bytes free) (zeros 2024)) ≡ flat_map pair_bytes free =
      take-over (flat_map pair_bytes free) (zeros 2024) (8 * again32 (length free)) (omega arith) (omega arith) in
      cc

  pub unallocated_space_back :
      StampFits stamp → q < 2 ^ 32 → length free ≤ 16 → AllByRecursion (λ f. f.count ≤ 524287) free →
      ReadsAs (unallocated_space_bytes stamp q free) stamp Sequence (unallocated_space_fields stamp q free)
  unfolding unallocated_space_bytes
  unallocated_space_back fits hq few each =
      passes 7 stamp _ Sequence _ fits.location
      (space_kind
      ∙ (cond-true (unallocated_space_fits (unallocated_space_bytes stamp q free)) _ _ (space_fits few each)
      ∙ ap {B = Option Fields} Some (space_parts ∙ space_same fits hq few)))

-- the integrity descriptor
module _ (stamp : Stamp) (d : List ℕ) (state : Integrity) (ps : List Partition) where
  integrity_kind_is :
      kind_in IntegrityExtent (integrity_bytes stamp d state ps) ≡
      if_so (integrity_fits (integrity_bytes stamp d state ps)) (integrity_in (integrity_bytes stamp d state ps))
  unfolding integrity_bytes sealed tag put over zeros exactly
  integrity_kind_is = refl

  tables_stand : drop 80 (integrity_bytes stamp d state ps) ≡ over (flat_map free_bytes ps ++ flat_map size_bytes ps) (zeros 1968)
  unfolding integrity_bytes sealed tag put over zeros exactly
  tables_stand = refl

  state_again : again32 (state_number state) ≡ state_number state
  state_again = u32_back (state_number state) (type_fits state)
    where
      type_fits : (s : Integrity) → state_number s < 2 ^ 32
      type_fits = elim [ Open ↦ omega arith | Closed ↦ omega arith ]

  type_small : state_number state ≤ 1
  type_small = small state
    where
      small : (s : Integrity) → state_number s ≤ 1
      small = elim [ Open ↦ omega arith | Closed ↦ omega arith ]

  integrity_fits_is : length ps ≤ 8 → integrity_fits (integrity_bytes stamp d state ps) ≡ true
  unfolding integrity_bytes sealed tag put over zeros exactly
  integrity_fits_is few =
      let n : again32 (length ps) ≡ length ps = u32_back (length ps) (omega arith) in
      let t = state_again in
      let s = type_small in
      and_from (leb (again32 (state_number state)) 1) (leb (again32 (length ps)) 8) (le-leb _ _ (omega arith)) (le-leb _ _ (omega arith))

  abbrev integrity_read : Fields
  integrity_read = integrity (record {
    serial = again16 stamp.serial;
    recorded = exactly 12 d;
    state = state_of (again32 (state_number state));
    next = record { length = 0; location = 0 };
    partitions = again32 (length ps);
    sizes = part (integrity_bytes stamp d state ps) (80 + 4 * again32 (length ps)) (4 * again32 (length ps));
  })

  integrity_parts : integrity_in (integrity_bytes stamp d state ps) ≡ integrity_read
  unfolding integrity_bytes sealed tag put over zeros exactly
  integrity_parts = refl

  state_same : state_of (again32 (state_number state)) ≡ state
  state_same = ap state_of state_again ∙ named state
    where
      named : (s : Integrity) → state_of (state_number s) ≡ s
      named = elim [ Open ↦ refl | Closed ↦ refl ]

  sizes_stand : length ps ≤ 8 → (n : ℕ) → n ≡ length ps → part (integrity_bytes stamp d state ps) (80 + 4 * n) (4 * n) ≡ flat_map size_bytes ps
  sizes_stand few n is =
      let free = length-joined free_bytes 4 (λ _. refl) ps in
      let sizes = length-joined size_bytes 4 (λ _. refl) ps in
      let both = length-append (flat_map free_bytes ps) (flat_map size_bytes ps) in
      let room = length-zeros 1968 in
      let tables = flat_map free_bytes ps ++ flat_map size_bytes ps in
      ap (take (4 * n))
      (sym (drop-drop (4 * n) 80 (integrity_bytes stamp d state ps))
      ∙ (ap (drop (4 * n)) (tables_stand ∙ over_front tables (zeros 1968) (omega arith))
      ∙ (ap (drop (4 * n)) (append_assoc (flat_map free_bytes ps) (flat_map size_bytes ps) (drop (length tables) (zeros 1968)))
      ∙ drop_at (flat_map free_bytes ps) (flat_map size_bytes ps ++ drop (length tables) (zeros 1968)) (4 * n) (omega arith))))
      ∙ take_at (flat_map size_bytes ps) (drop (length tables) (zeros 1968)) (4 * n) (omega arith)

  integrity_same : StampFits stamp → length d ≡ 12 → length ps ≤ 8 → integrity_read ≡ integrity_fields stamp d state ps
  integrity_same fits hd few =
      let es = u16_back stamp.serial fits.serial in
      let ed = exactly_whole d 12 hd in
      let et = state_same in
      let n : again32 (length ps) ≡ length ps = u32_back (length ps) (omega arith) in
      let ez = sizes_stand few (again32 (length ps)) n in
      cc

  pub integrity_back :
      StampFits stamp → length d ≡ 12 → length ps ≤ 8 →
      ReadsAs (integrity_bytes stamp d state ps) stamp IntegrityExtent (integrity_fields stamp d state ps)
  unfolding integrity_bytes
  integrity_back fits hd few =
      passes 9 stamp _ IntegrityExtent _ fits.location
      (integrity_kind_is
      ∙ (cond-true (integrity_fits (integrity_bytes stamp d state ps)) _ _ (integrity_fits_is few)
      ∙ ap {B = Option Fields} Some (integrity_parts ∙ integrity_same fits hd few)))
