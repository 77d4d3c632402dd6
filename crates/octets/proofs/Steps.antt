-- The CRC bit by bit, and the tag's sum byte by byte.
-- Assumes nothing.
use Rattle.std.proofs.Common.{◌≡◌, ℕ, zero, suc, ◌+◌, ◌-◌, ◌*◌, ◌%◌, ◌^◌, ◌<◌, ◌≤◌, ltb, List, [], ◌∷◌, ◌++◌, length, get_or, take, fold, sum, sym, refl, ap, ◌∙◌, arith}
use lib.Bits.{bit_xor}
use Rattle.std.proofs.lemmas.Nat.{xor_lt}
use Rattle.std.proofs.lemmas.Bool.{cond_both, ltb-true}
use Rattle.std.proofs.lemmas.List.Sums.{sum_by_push}
use Rattle.std.proofs.lemmas.List.{take_more, length-take-le}
use Rattle.octets.specs.Crc.{shifted, shifts, absorbed, crc}
use Rattle.octets.specs.Tag.{tag_sum}

pub shifts_more : (k r : ℕ) → k < 8 → shifts (8 - (k + 1)) (shifted r) ≡ shifts (8 - k) r
unfolding shifts
shifts_more k r h =
    let e : 8 - k ≡ suc (8 - (k + 1)) = omega arith in
    sym (ap (λ (n : ℕ). shifts n r) e)

pub shifts_all : (k r : ℕ) → 8 ≤ k → shifts (8 - k) r ≡ r
unfolding shifts
shifts_all k r h =
    let e : 8 - k ≡ 0 = omega arith in
    ap (λ (n : ℕ). shifts n r) e

-- the register keeps to 16 bits
pub shifted_fits : (r : ℕ) → shifted r < 2 ^ 16
unfolding shifted
shifted_fits r =
    cond_both (ltb r 32768) (2 * r) (bit_xor (2 * r % 65536) 4129) (λ n. n < 2 ^ 16)
    (λ t. omega (arith, ltb-true r 32768 t))
    (λ _. xor_lt 16 (2 * r % 65536) 4129 (omega arith) (omega arith))

shifts_fit : (n r : ℕ) → shifts (suc n) r < 2 ^ 16
unfolding shifts
shifts_fit zero r = shifted_fits r
shifts_fit (suc n) r = shifts_fit n (shifted r)

pub absorbed_fits : (r b : ℕ) → absorbed r b < 2 ^ 16
unfolding absorbed
absorbed_fits r b = shifts_fit 7 (bit_xor r (256 * b))

folded_fits : (bs : List ℕ) (r : ℕ) → r < 2 ^ 16 → fold absorbed r bs < 2 ^ 16
folded_fits [] r h = h
folded_fits (b ∷ bs) r h = folded_fits bs (absorbed r b) (absorbed_fits r b)

pub crc_fits : (bs : List ℕ) → crc bs < 2 ^ 16
unfolding crc
crc_fits bs = folded_fits bs 0 (omega arith)

-- a byte at the end of a tag counts, unless it is byte 4
pub sum_push : (tag : List ℕ) (x : ℕ) → (length tag ≡ 4 → ⊥) → tag_sum (tag ++ x ∷ []) ≡ (tag_sum tag + x) % 256
unfolding tag_sum
sum_push [] x other = refl
sum_push (a ∷ []) x other = omega arith
sum_push (a ∷ (b ∷ [])) x other = omega arith
sum_push (a ∷ (b ∷ (c ∷ []))) x other = omega arith
sum_push (a ∷ (b ∷ (c ∷ (d ∷ [])))) x other = absurd (other refl)
sum_push (a ∷ (b ∷ (c ∷ (d ∷ (e ∷ rest))))) x other =
    let p : sum ((a ∷ (b ∷ (c ∷ (d ∷ rest)))) ++ x ∷ []) ≡ sum (a ∷ (b ∷ (c ∷ (d ∷ rest)))) + x = sum_by_push (λ (y : ℕ). y) (a ∷ (b ∷ (c ∷ (d ∷ rest)))) x in
    omega arith

pub sum_push_skipped : (tag : List ℕ) (x : ℕ) → length tag ≡ 4 → tag_sum (tag ++ x ∷ []) ≡ tag_sum tag
unfolding tag_sum
sum_push_skipped [] x four = absurd (omega arith)
sum_push_skipped (a ∷ []) x four = absurd (omega arith)
sum_push_skipped (a ∷ (b ∷ [])) x four = absurd (omega arith)
sum_push_skipped (a ∷ (b ∷ (c ∷ []))) x four = absurd (omega arith)
sum_push_skipped (a ∷ (b ∷ (c ∷ (d ∷ [])))) x four = refl
sum_push_skipped (a ∷ (b ∷ (c ∷ (d ∷ (e ∷ rest))))) x four = absurd (omega arith)

pub sum_more : (tag : List ℕ) (i : ℕ) → i < length tag → (i ≡ 4 → ⊥) → tag_sum (take (i + 1) tag) ≡ (tag_sum (take i tag) + get_or tag i 0) % 256
sum_more tag i h other =
    let n : length (take i tag) ≡ i = length-take-le i tag (omega arith) in
    ap tag_sum (take_more tag i 0 h) ∙ sum_push (take i tag) (get_or tag i 0) (λ e. other (sym n ∙ e))

pub sum_more_skipped : (tag : List ℕ) (i : ℕ) → i < length tag → i ≡ 4 → tag_sum (take (i + 1) tag) ≡ tag_sum (take i tag)
sum_more_skipped tag i h four =
    let n : length (take i tag) ≡ i = length-take-le i tag (omega arith) in
    ap tag_sum (take_more tag i 0 h) ∙ sum_push_skipped (take i tag) (get_or tag i 0) (n ∙ four)
