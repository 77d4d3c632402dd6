-- Each part of the answer is read at its place, and the table's length is the one that is recorded.
use Rattle.std.proofs.Common.{◌≡◌, ℕ, ◌+◌, ◌-◌, List, take, drop, Some, Option, sym, ap, ◌∙◌, arith}
use Rattle.std.proofs.lemmas.Bool.{cond-true}
use Rattle.octets.specs.Fields.{u16_at, u32_at}
use Rattle.descriptor.specs.declared.kinds.Extent.{Extent}
use Rattle.descriptor.specs.Kinds.{Fields, logical_volume}
use Rattle.descriptor.specs.Checks.{logical_volume_fits}
use Rattle.descriptor.specs.Decode.{extent_at, logical_volume_in}
use Rattle.descriptor.proofs.decode.logical_volume.Goals as goal

by_parts :
    (bs : List ℕ) {s q b m : ℕ} {e : Extent} → s ≡ u16_at bs 6 → q ≡ u32_at bs 16 → b ≡ u32_at bs 212 → m ≡ u32_at bs 264 → e ≡ extent_at bs 432 →
    ◌≡◌ {A = Fields}
    (logical_volume (record { serial = s; sequence = q; identifier = take 128 (drop 84 bs); block_size = b; maps = take m (drop 440 bs); integrity = e }))
    (logical_volume_in bs)
by_parts bs ps pq pb pm pe = cc

pub returns : goal.returns
returns c =
    let n : 440 + c.u32_at-maps.result - 440 ≡ u32_at c.args.sector.now 264 = omega arith in
    ap {B = Option Fields} Some (by_parts c.args.sector.now c.u16_at.ensures c.u32_at.ensures c.u32_at-2.ensures n c.extent.ensures)
    ∙ sym (cond-true (logical_volume_fits c.args.sector.now) _ _ (sym c.if-not-logical_volume_holds.ensures))
