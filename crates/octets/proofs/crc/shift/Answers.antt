-- The masks of the code are the remainder and the top bit of the definition.
use Rattle.std.proofs.Common.{◌≡◌, ℕ, ◌*◌, ◌/◌, ◌%◌, ◌^◌, ◌<◌, ◌≤◌, ltb, sym, ap, ◌∙◌, arith}
use lib.Bits.{bit_and, bit_xor}
use Rattle.std.proofs.lemmas.Nat.{and_mask, and_shr, and_mod, and_le_r}
use Rattle.std.proofs.lemmas.Bool.{cond-true, cond-false, lt-ltb, le-ltb}
use Rattle.octets.specs.Crc.{shifted}
use Rattle.octets.proofs.crc.shift.Goals as goal

low : (r : ℕ) → r < 65536 → bit_and r 32768 ≡ 0 → r < 32768
low r fits e =
    let a : bit_and r 32768 / 2 ^ 15 ≡ bit_and (r / 2 ^ 15) 1 = and_shr r 32768 15 in
    let b : bit_and (r / 2 ^ 15) 1 ≡ r / 2 ^ 15 % 2 ^ 1 = and_mask (r / 2 ^ 15) 1 in
    omega arith

high : (r : ℕ) → r < 65536 → (bit_and r 32768 ≡ 0 → ⊥) → 32768 ≤ r
high r fits no-e =
    let a : bit_and r 32768 / 2 ^ 15 ≡ bit_and (r / 2 ^ 15) 1 = and_shr r 32768 15 in
    let b : bit_and (r / 2 ^ 15) 1 ≡ r / 2 ^ 15 % 2 ^ 1 = and_mask (r / 2 ^ 15) 1 in
    let d : bit_and r 32768 % 2 ^ 15 ≡ bit_and (r % 2 ^ 15) 0 = and_mod r 32768 15 in
    let z : bit_and (r % 2 ^ 15) 0 ≤ 0 = and_le_r (r % 2 ^ 15) 0 in
    omega arith

moved_low : (r : ℕ) → r < 32768 → bit_and r 32767 * 2 % 65536 ≡ shifted r
unfolding shifted
moved_low r h =
    let m : bit_and r 32767 ≡ r % 2 ^ 15 = and_mask r 15 in
    let e : bit_and r 32767 * 2 % 65536 ≡ 2 * r = omega arith in
    e ∙ sym (cond-true (ltb r 32768) _ _ (lt-ltb r 32768 h))

moved_high : (r : ℕ) → r < 65536 → 32768 ≤ r → bit_xor (bit_and r 32767 * 2 % 65536) 4129 ≡ shifted r
unfolding shifted
moved_high r fits h =
    let m : bit_and r 32767 ≡ r % 2 ^ 15 = and_mask r 15 in
    let e : bit_and r 32767 * 2 % 65536 ≡ 2 * r % 65536 = omega arith in
    ap (λ (k : ℕ). bit_xor k 4129) e ∙ sym (cond-false (ltb r 32768) _ _ (le-ltb r 32768 h))

pub returns-then-register-eq0 : goal.returns-then-register-eq0
returns-then-register-eq0 c = moved_low c.args.register (low c.args.register (omega arith) c.if-register-eq0.true)

pub returns-else-register-eq0 : goal.returns-else-register-eq0
returns-else-register-eq0 c = moved_high c.args.register (omega arith) (high c.args.register (omega arith) c.if-register-eq0.false)
