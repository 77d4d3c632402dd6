-- The bytes that the CRC covers, cut from those after the tag.
use Rattle.std.proofs.Common.{◌≡◌, ℕ, ◌-◌, ◌≤◌, Bool, true, ◌&&◌, eqb, leb, List, take, drop, sym, ap, ◌∙◌, arith}
use Rattle.std.proofs.lemmas.List.{take-take}
use Rattle.std.proofs.lemmas.Bool.{le-leb}
use Rattle.octets.specs.Fields.{u16_at}
use Rattle.octets.specs.Crc.{crc}
use Rattle.descriptor.specs.Checks.{crc_stands}
use Rattle.descriptor.proofs.checks.crc_holds.Goals as goal

stands : (bs : List ℕ) (u k n : ℕ) → u ≡ u16_at bs 8 → n ≡ u16_at bs 10 → n ≤ 2032 → k ≡ crc (take n (take 2032 (drop 16 bs))) → eqb u k ≡ crc_stands bs
stands bs u k n eu en h ek =
    let covered : take n (take 2032 (drop 16 bs)) ≡ take (u16_at bs 10) (drop 16 bs) = take-take n 2032 (drop 16 bs) h ∙ ap (λ (m : ℕ). take m (drop 16 bs)) en in
    let short : leb (u16_at bs 10) 2032 ≡ true = le-leb (u16_at bs 10) 2032 (omega arith) in
    let same : eqb u k ≡ eqb (u16_at bs 8) (crc (take (u16_at bs 10) (drop 16 bs))) = ap (λ (x : ℕ). eqb x k) eu ∙ ap (eqb (u16_at bs 8)) (ek ∙ ap crc covered) in
    same ∙ sym (ap (λ (b : Bool). b && eqb (u16_at bs 8) (crc (take (u16_at bs 10) (drop 16 bs)))) short)

pub returns : goal.returns
returns c =
    let n : c.from.result - 0 ≡ c.u16_at-covered.result = omega arith in
    stands c.args.sector.now _ _ c.u16_at-covered.result c.u16_at.ensures c.u16_at-covered.ensures (omega arith)
    (c.crc_of.ensures.value ∙ ap (λ (m : ℕ). crc (take m (take 2032 (drop 16 c.args.sector.now)))) n)
