-- What a CRC is: a remainder.
-- A polynomial over the field of two elements is written as a number, whose bit k is the coefficient of x^k.
-- The sum of two is `bit_xor`, and 2 * p is p times x.
use Rattle.std.specs.Prelude.{◌≡◌, ℕ, ◌+◌, ◌*◌, ◌^◌, ◌<◌, Bool, cond, List, fold, bit_xor}

-- x^16 + x^12 + x^5 + 1
abbrev pub generator : ℕ
generator = 2 ^ 16 + 2 ^ 12 + 2 ^ 5 + 1

-- the generator times a polynomial, of which the coefficients are given, the highest first
abbrev pub multiple : List Bool → ℕ
multiple coefficients = fold (λ p b. bit_xor (2 * p) (cond b generator 0)) 0 coefficients

-- a run of bytes as a polynomial: the most significant bit of its first byte is the highest coefficient
abbrev pub message : List ℕ → ℕ
message bytes = fold (λ p b. 256 * p + b) 0 bytes

-- r is the remainder of the message times x^16 on division by the generator
pub record Remainder (bytes : List ℕ) (r : ℕ) : Type 0 where
  pub quotient : List Bool
  pub division : message bytes * 2 ^ 16 ≡ bit_xor (multiple quotient) r
  pub degree : r < 2 ^ 16
