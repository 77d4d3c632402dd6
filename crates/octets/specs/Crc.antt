-- The CRC of a run of bytes: 16 bits, from 0, by the polynomial x^16 + x^12 + x^5 + 1, the most significant bit first.
use Rattle.std.specs.Prelude.{ℕ, zero, suc, ◌*◌, ◌%◌, cond, List, fold, bit_xor, nat_lt}

-- the register moved left by one bit; where the bit that leaves it is 1, the polynomial's lower terms are taken off:
-- x^12 + x^5 + 1 is 4,096 + 32 + 1
unfoldable pub shifted : ℕ → ℕ
shifted r = cond (nat_lt r 32768) (2 * r) (bit_xor (2 * r % 65536) 4129)

-- the register after n bits
unfoldable pub shifts : ℕ → ℕ → ℕ
shifts zero r = r
shifts (suc n) r = shifts n (shifted r)

-- a byte added at the top of the register, and its eight bits moved out
unfoldable pub absorbed : ℕ → ℕ → ℕ
absorbed r b = shifts 8 (bit_xor r (256 * b))

unfoldable pub crc : List ℕ → ℕ
crc bs = fold absorbed 0 bs
