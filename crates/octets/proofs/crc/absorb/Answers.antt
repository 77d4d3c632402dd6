use Rattle.std.proofs.Common.{◌≡◌, ℕ, ◌*◌, ◌%◌, ◌^◌, ◌<◌, sym, ap, ◌∙◌, arith}
use lib.Bits.{bit_xor}
use Rattle.octets.specs.Crc.{shifts, absorbed}
use Rattle.octets.proofs.Steps.{shifts_more, shifts_all}
use Rattle.octets.proofs.crc.absorb.Goals as goal

pub loop-bit-preserved : goal.loop-bit-preserved
loop-bit-preserved c = let e = shifts_more c.loop-bit.bit c.loop-bit.register (omega arith) in cc

whole : (r b m : ℕ) → b < 2 ^ 8 → m ≡ b → shifts 8 (bit_xor r (m * 2 ^ 8 % 2 ^ 16)) ≡ absorbed r b
unfolding absorbed
whole r b m fits e = let s : m * 2 ^ 8 % 2 ^ 16 ≡ 256 * b = omega arith in ap (λ (k : ℕ). shifts 8 (bit_xor r k)) s

pub returns : goal.returns
returns c = sym (shifts_all c.loop-bit.bit c.loop-bit.register (omega arith)) ∙ c.loop-bit.invariant ∙ whole c.args.register c.args.byte c.from.result (omega arith) c.from.ensures
