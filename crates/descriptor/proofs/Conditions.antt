-- Each test of a check says what its condition says.
-- Assumes nothing.
use Rattle.std.proofs.Common.{◌≡◌, ℕ, ◌*◌, ◌≤◌, Bool, true, false, cond, eqb, leb, ◌⊎◌, List, Some, Decides, Option, refl, ap, ◌∙◌, subst, inl, inr, ⊎_elim}
use Rattle.std.proofs.lemmas.Bool.Decides.{Decides-and, Decides-eqb, Decides-like}
use Rattle.std.proofs.lemmas.Bool.{cond-true, le-leb, leb-true, eqb-true}
use Rattle.std.proofs.lemmas.Option.{same_Some, none-some, cond_some}
use Rattle.octets.specs.Fields.{byte_at, u16_at, u32_at}
use Rattle.descriptor.specs.declared.kinds.Place.{Place}
use Rattle.descriptor.specs.declared.kinds.Place.TheVariants.{Anchor, Sequence, IntegrityExtent}
use Rattle.descriptor.specs.Kinds.{Fields}
use Rattle.descriptor.specs.Checks.{sum_stands, tag_stands, location_stands, crc_stands, logical_volume_fits, whole_lengths, unallocated_space_fits, integrity_fits}
use Rattle.descriptor.specs.Decode.{if_so, sequence_kind, integrity_kind, kind_in, primary_in, implementation_use_in, partition_in, logical_volume_in, unallocated_space_in, terminating_in, integrity_in, anchor_in}
use Rattle.descriptor.specs.Law.{TagRight, LocationRight, CrcRight, LogicalVolumeRight, UnallocatedSpaceRight, IntegrityRight, Suits, anchor_suits, primary_suits, implementation_use_suits, partition_suits, logical_volume_suits, unallocated_space_suits, terminating_suits, last_integrity_suits, integrity_suits}
use Rattle.descriptor.proofs.Lengths.{whole_decides}

decides_leb : (a b : ℕ) → Decides (leb a b) (a ≤ b)
decides_leb a b = (leb-true a b, le-leb a b)

-- from an answer to the way that led to it
pub either_some : {A : Type 0} (b : Bool) (x y : Option A) (d : A) → cond b x y ≡ Some d → ((b ≡ true) × (x ≡ Some d)) ⊎ ((b ≡ false) × (y ≡ Some d))
either_some true x y d e = inl (refl, e)
either_some false x y d e = inr (refl, e)

module _ (bs : List ℕ) where
  pub tag_decides : Decides (tag_stands bs) (TagRight bs)
  tag_decides =
      Decides-like (tag_stands bs) (λ h. record { sum = h.0; reserved = h.1.0; version = h.1.1 }) (λ h. (h.sum, (h.reserved, h.version)))
      (Decides-and (sum_stands bs) _ (Decides-eqb _ _) (Decides-and (eqb (byte_at bs 5) 0) (eqb (u16_at bs 2) 3) (Decides-eqb _ _) (Decides-eqb _ _)))

  pub location_decides : (number : ℕ) → Decides (location_stands bs number) (LocationRight bs number)
  location_decides number = Decides-eqb _ _

  pub crc_decides : Decides (crc_stands bs) (CrcRight bs)
  crc_decides =
      Decides-like (crc_stands bs) (λ h. record { covered = h.0; equal = h.1 }) (λ h. (h.covered, h.equal))
      (Decides-and (leb (u16_at bs 10) 2032) _ (decides_leb _ _) (Decides-eqb _ _))

  logical_volume_decides : Decides (logical_volume_fits bs) (LogicalVolumeRight bs)
  logical_volume_decides =
      Decides-like (logical_volume_fits bs) (λ h. record { block_size = h.0; maps = h.1.0; table = h.1.1 }) (λ h. (h.block_size, (h.maps, h.table)))
      (Decides-and (eqb (u32_at bs 212) 2048) _ (Decides-eqb _ _)
      (Decides-and (leb (u32_at bs 268) 8) (eqb (u32_at bs 264) (6 * u32_at bs 268)) (decides_leb _ _) (Decides-eqb _ _)))

  unallocated_space_decides : Decides (unallocated_space_fits bs) (UnallocatedSpaceRight bs)
  unallocated_space_decides =
      Decides-like (unallocated_space_fits bs) (λ h. record { extents = h.0; lengths = h.1 }) (λ h. (h.extents, h.lengths))
      (Decides-and (leb (u32_at bs 20) 16) (whole_lengths bs (u32_at bs 20)) (decides_leb _ _) (whole_decides bs (u32_at bs 20)))

  integrity_decides : Decides (integrity_fits bs) (IntegrityRight bs)
  integrity_decides =
      Decides-like (integrity_fits bs) (λ h. record { state = h.0; partitions = h.1 }) (λ h. (h.state, h.partitions))
      (Decides-and (leb (u32_at bs 28) 1) (leb (u32_at bs 72) 8) (decides_leb _ _) (decides_leb _ _))

  -- the kind found is one that suits the place, and no other is
  from_sequence : (k : ℕ) → u16_at bs 0 ≡ k → (d : Fields) → sequence_kind k bs ≡ Some d → Suits bs Sequence d
  from_sequence k at d e =
      ⊎_elim (λ h. hold (primary_in bs) d (same_Some _ _ h.1) (primary_suits (is 1 h.0)))
      (λ r1. ⊎_elim (λ h. hold (implementation_use_in bs) d (same_Some _ _ h.1) (implementation_use_suits (is 4 h.0)))
      (λ r4. ⊎_elim (λ h. hold (partition_in bs) d (same_Some _ _ h.1) (partition_suits (is 5 h.0)))
      (λ r5. ⊎_elim
      (λ h. let w = cond_some (logical_volume_fits bs) (logical_volume_in bs) d h.1 in
      hold (logical_volume_in bs) d w.1 (logical_volume_suits (is 6 h.0) (logical_volume_decides.0 w.0)))
      (λ r6. ⊎_elim
      (λ h. let w = cond_some (unallocated_space_fits bs) (unallocated_space_in bs) d h.1 in
      hold (unallocated_space_in bs) d w.1 (unallocated_space_suits (is 7 h.0) (unallocated_space_decides.0 w.0)))
      (λ r7. let w = cond_some (eqb k 8) (terminating_in bs) d r7.1 in hold (terminating_in bs) d w.1 (terminating_suits (is 8 w.0)))
      (either_some (eqb k 7) _ _ d r6.1))
      (either_some (eqb k 6) _ _ d r5.1))
      (either_some (eqb k 5) _ _ d r4.1))
      (either_some (eqb k 4) _ _ d r1.1))
      (either_some (eqb k 1) _ _ d e)
    where
      is : (n : ℕ) → eqb k n ≡ true → u16_at bs 0 ≡ n
      is n t = at ∙ eqb-true k n t

      hold : (x y : Fields) → x ≡ y → Suits bs Sequence x → Suits bs Sequence y
      hold x y p h = subst (Suits bs Sequence) p h

  from_integrity : (k : ℕ) → u16_at bs 0 ≡ k → (d : Fields) → integrity_kind k bs ≡ Some d → Suits bs IntegrityExtent d
  from_integrity k at d e =
      ⊎_elim (λ h. hold (terminating_in bs) d (same_Some _ _ h.1) (last_integrity_suits (is 8 h.0)))
      (λ r8. ⊎_elim
      (λ h. let w = cond_some (integrity_fits bs) (integrity_in bs) d h.1 in
      hold (integrity_in bs) d w.1 (integrity_suits (is 9 h.0) (integrity_decides.0 w.0)))
      (λ r9. absurd (none-some d r9.1))
      (either_some (eqb k 9) _ _ d r8.1))
      (either_some (eqb k 8) _ _ d e)
    where
      is : (n : ℕ) → eqb k n ≡ true → u16_at bs 0 ≡ n
      is n t = at ∙ eqb-true k n t

      hold : (x y : Fields) → x ≡ y → Suits bs IntegrityExtent x → Suits bs IntegrityExtent y
      hold x y p h = subst (Suits bs IntegrityExtent) p h

  pub from_kind : (place : Place) (d : Fields) → kind_in place bs ≡ Some d → Suits bs place d
  from_kind Anchor d e = let w = cond_some (eqb (u16_at bs 0) 2) (anchor_in bs) d e in subst (Suits bs Anchor) w.1 (anchor_suits (eqb-true (u16_at bs 0) 2 w.0))
  from_kind Sequence d e = from_sequence (u16_at bs 0) refl d e
  from_kind IntegrityExtent d e = from_integrity (u16_at bs 0) refl d e

  pub to_kind : (place : Place) (d : Fields) → Suits bs place d → kind_in place bs ≡ Some d
  to_kind Anchor d (anchor_suits k) = ap (λ (n : ℕ). if_so (eqb n 2) (anchor_in bs)) k
  to_kind Sequence d (primary_suits k) = ap (λ (n : ℕ). sequence_kind n bs) k
  to_kind Sequence d (implementation_use_suits k) = ap (λ (n : ℕ). sequence_kind n bs) k
  to_kind Sequence d (partition_suits k) = ap (λ (n : ℕ). sequence_kind n bs) k
  to_kind Sequence d (logical_volume_suits k h) = ap (λ (n : ℕ). sequence_kind n bs) k ∙ cond-true (logical_volume_fits bs) _ _ (logical_volume_decides.1 h)
  to_kind Sequence d (unallocated_space_suits k h) = ap (λ (n : ℕ). sequence_kind n bs) k ∙ cond-true (unallocated_space_fits bs) _ _ (unallocated_space_decides.1 h)
  to_kind Sequence d (terminating_suits k) = ap (λ (n : ℕ). sequence_kind n bs) k
  to_kind IntegrityExtent d (last_integrity_suits k) = ap (λ (n : ℕ). integrity_kind n bs) k
  to_kind IntegrityExtent d (integrity_suits k h) = ap (λ (n : ℕ). integrity_kind n bs) k ∙ cond-true (integrity_fits bs) _ _ (integrity_decides.1 h)
