-- The test of the lengths of unallocated space says what it says of each.
-- Assumes nothing.
use Rattle.std.proofs.Common.{◌≡◌, ℕ, ◌+◌, ◌*◌, ◌%◌, ◌<◌, Bool, true, eqb, List, Decides, sym, ◌∙◌, subst, zero-add, arith}
use Rattle.std.specs.List.{range_with_len}
use Rattle.std.proofs.lemmas.Bool.{eqb-true, eq-eqb}
use Rattle.std.proofs.lemmas.List.Sums.{AllPass-from_list_all, list_all-from_AllPass}
use Rattle.std.proofs.lemmas.List.FromFn.{get_or-range_with_len, length-range_with_len}
use Rattle.octets.specs.Fields.{u32_at}
use Rattle.descriptor.specs.Checks.{whole_lengths}

module _ (bs : List ℕ) (n : ℕ) where
  whole : ℕ → Bool
  whole i = eqb (u32_at bs (24 + 8 * i) % 2048) 0

  pub whole_decides : Decides (whole_lengths bs n) ((k : ℕ) → k < n → u32_at bs (24 + 8 * k) % 2048 ≡ 0)
  unfolding whole
  whole_decides = (one, all)
    where
      one : whole_lengths bs n ≡ true → (k : ℕ) → k < n → u32_at bs (24 + 8 * k) % 2048 ≡ 0
      one t k h =
          eqb-true _ _
          (subst (λ (i : ℕ). whole i ≡ true) (get_or-range_with_len 0 n k 0 h ∙ zero-add k)
          (AllPass-from_list_all whole (range_with_len 0 n) t k 0 (omega (arith, length-range_with_len 0 n))))

      all : ((k : ℕ) → k < n → u32_at bs (24 + 8 * k) % 2048 ≡ 0) → whole_lengths bs n ≡ true
      all each =
          list_all-from_AllPass whole (range_with_len 0 n)
          (λ k d l.
          let h : k < n = omega (arith, length-range_with_len 0 n) in
          subst (λ (i : ℕ). whole i ≡ true) (sym (get_or-range_with_len 0 n k d h ∙ zero-add k)) (eq-eqb _ _ (each k h)))
