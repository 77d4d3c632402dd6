-- The CRC is the remainder of a division.
-- Assumes nothing.
use Rattle.std.proofs.Common.{◌≡◌, ℕ, zero, suc, ◌+◌, ◌*◌, ◌%◌, ◌^◌, ◌<◌, ◌≤◌, Bool, cond, not, ltb, List, [], ◌∷◌, ◌++◌, fold, sym, refl, ap, ◌∙◌, ap₂, ⊎_elim, add-zero, mul_comm, arith}
use lib.Bits.{bit_xor, xor_block, xor_shifted, xor_assoc, xor_comm, xor_self, xor_zero_l, xor_zero_r}
use Rattle.std.specs.List.{AllByRecursion}
use Rattle.std.proofs.lemmas.Nat.{xor_lt, pow_pos}
use Rattle.std.proofs.lemmas.List.Sums.{fold_push}
use Rattle.std.proofs.lemmas.Bool.{cases_lt, cond-true, cond-false, lt-ltb, le-ltb}
use Rattle.octets.specs.Crc.{shifted, shifts, absorbed, crc}
use Rattle.octets.specs.Polynomial.{generator, multiple, Remainder}
use Rattle.octets.proofs.Steps.{shifted_fits, absorbed_fits, crc_fits}

-- a sum times a power of x
xor_times : (k a b : ℕ) → bit_xor (a * 2 ^ k) (b * 2 ^ k) ≡ bit_xor a b * 2 ^ k
xor_times k a b =
    let p : 0 < 2 ^ k = pow_pos k in
    let e : bit_xor (a * 2 ^ k + 0) (b * 2 ^ k + 0) ≡ bit_xor a b * 2 ^ k + 0 = xor_block k a b 0 0 p p in
    ap₂ bit_xor (sym (add-zero (a * 2 ^ k))) (sym (add-zero (b * 2 ^ k))) ∙ (e ∙ add-zero (bit_xor a b * 2 ^ k))

xor_double : (a b : ℕ) → 2 * bit_xor a b ≡ bit_xor (2 * a) (2 * b)
xor_double a b =
    let e : bit_xor (a * 2) (b * 2) ≡ bit_xor a b * 2 = xor_times 1 a b in
    mul_comm 2 (bit_xor a b) ∙ (sym e ∙ ap₂ bit_xor (mul_comm a 2) (mul_comm b 2))

-- the same terms in another order
regroup : (m h t g : ℕ) → bit_xor (bit_xor m (bit_xor h g)) (bit_xor t g) ≡ bit_xor m (bit_xor h t)
regroup m h t g =
    xor_assoc m (bit_xor h g) (bit_xor t g)
    ∙ ap (bit_xor m)
    (xor_assoc h g (bit_xor t g)
    ∙ ap (bit_xor h) (ap (bit_xor g) (xor_comm t g) ∙ (sym (xor_assoc g g t) ∙ (ap (λ (z : ℕ). bit_xor z t) (xor_self g) ∙ xor_zero_l t))))

-- one bit: the quotient gets the bit that leaves the register
carry : ℕ → Bool
carry r = not (ltb r 32768)

bit_step : (m r : ℕ) → r < 2 ^ 16 → 2 * bit_xor m r ≡ bit_xor (bit_xor (2 * m) (cond (carry r) generator 0)) (shifted r)
unfolding carry shifted
bit_step m r fits = ⊎_elim low high (cases_lt r 32768)
  where
    low : r < 32768 → 2 * bit_xor m r ≡ bit_xor (bit_xor (2 * m) (cond (not (ltb r 32768)) generator 0)) (cond (ltb r 32768) (2 * r) (bit_xor (2 * r % 65536) 4129))
    low h =
        let t = lt-ltb r 32768 h in
        xor_double m r
        ∙ sym (ap₂ bit_xor (ap (λ (b : Bool). bit_xor (2 * m) (cond (not b) generator 0)) t ∙ xor_zero_r (2 * m)) (cond-true (ltb r 32768) (2 * r) (bit_xor (2 * r % 65536) 4129) t))

    high : 32768 ≤ r → 2 * bit_xor m r ≡ bit_xor (bit_xor (2 * m) (cond (not (ltb r 32768)) generator 0)) (cond (ltb r 32768) (2 * r) (bit_xor (2 * r % 65536) 4129))
    high h =
        let t = le-ltb r 32768 h in
        let split : bit_xor 65536 (2 * r % 65536) ≡ 65536 + 2 * r % 65536 = xor_shifted 1 16 (2 * r % 65536) (omega arith) in
        let top : 2 * r ≡ bit_xor 65536 (2 * r % 65536) = omega arith in
        xor_double m r
        ∙ (ap (bit_xor (2 * m)) top
        ∙ (sym (regroup (2 * m) 65536 (2 * r % 65536) 4129)
        ∙ sym (ap₂ bit_xor (ap (λ (b : Bool). bit_xor (2 * m) (cond (not b) generator 0)) t) (cond-false (ltb r 32768) (2 * r) (bit_xor (2 * r % 65536) 4129) t))))

-- doubled n times
doubled : ℕ → ℕ → ℕ
doubled zero p = p
doubled (suc n) p = doubled n (2 * p)

bits_step : (n : ℕ) (q : List Bool) (r : ℕ) → r < 2 ^ 16 → (p : List Bool) × (doubled n (bit_xor (multiple q) r) ≡ bit_xor (multiple p) (shifts n r))
unfolding doubled shifts
bits_step zero q r fits = (q, refl)
bits_step (suc n) q r fits =
    let longer = q ++ carry r ∷ [] in
    let h = bits_step n longer (shifted r) (shifted_fits r) in
    let pushed = fold_push (λ (p : ℕ) (b : Bool). bit_xor (2 * p) (cond b generator 0)) 0 q (carry r) in
    (h.0, ap (doubled n) (bit_step (multiple q) r fits ∙ ap (λ (m : ℕ). bit_xor m (shifted r)) (sym pushed)) ∙ h.1)

doubled_eight : (p : ℕ) → doubled 8 p ≡ 256 * p
unfolding doubled
doubled_eight p = omega arith

-- one byte
byte_step : (n r b : ℕ) (q : List Bool) → r < 2 ^ 16 → b < 256 → n * 2 ^ 16 ≡ bit_xor (multiple q) r → (p : List Bool) × ((256 * n + b) * 2 ^ 16 ≡ bit_xor (multiple p) (absorbed r b))
unfolding absorbed
byte_step n r b q fits small e =
    let h = bits_step 8 q (bit_xor r (256 * b)) (xor_lt 16 r (256 * b) fits (omega arith)) in
    let apart : bit_xor (n * 2 ^ 24) (b * 65536) ≡ n * 2 ^ 24 + b * 65536 = xor_shifted n 24 (b * 65536) (omega arith) in
    let sum : (256 * n + b) * 2 ^ 16 ≡ bit_xor (n * 2 ^ 24) (b * 65536) = omega arith in
    let left : n * 2 ^ 24 ≡ bit_xor (multiple q) r * 2 ^ 8 = omega arith in
    let right : b * 65536 ≡ 256 * b * 2 ^ 8 = omega arith in
    let back : bit_xor (bit_xor (multiple q) r) (256 * b) * 2 ^ 8 ≡ 256 * bit_xor (multiple q) (bit_xor r (256 * b)) =
    ap (λ (z : ℕ). z * 2 ^ 8) (xor_assoc (multiple q) r (256 * b)) ∙ mul_comm (bit_xor (multiple q) (bit_xor r (256 * b))) 256 in
    (h.0, sum ∙ (ap₂ bit_xor left right ∙ (xor_times 8 (bit_xor (multiple q) r) (256 * b) ∙ (back ∙ (sym (doubled_eight (bit_xor (multiple q) (bit_xor r (256 * b)))) ∙ h.1)))))

-- all bytes
divided :
    (bs : List ℕ) → AllByRecursion (λ b. b < 256) bs → (n r : ℕ) (q : List Bool) → r < 2 ^ 16 → n * 2 ^ 16 ≡ bit_xor (multiple q) r →
    (p : List Bool) × (fold (λ m b. 256 * m + b) n bs * 2 ^ 16 ≡ bit_xor (multiple p) (fold absorbed r bs))
divided [] all n r q fits e = (q, e)
divided (b ∷ bs) all n r q fits e =
    let h = byte_step n r b q fits all.0 e in
    divided bs all.1 (256 * n + b) (absorbed r b) h.0 (absorbed_fits r b) h.1

pub remainder : (bs : List ℕ) → AllByRecursion (λ b. b < 256) bs → Remainder bs (crc bs)
unfolding crc
remainder bs all =
    let h = divided bs all 0 0 [] (omega arith) refl in
    record { quotient = h.0; division = h.1; degree = crc_fits bs }
