use Rattle.std.proofs.Common.{◌≡◌, refl, ap, ◌∙◌, arith}
use Rattle.encode.specs.Sealed.{sealed}
use Rattle.encode.specs.Written.{primary_bytes}
use Rattle.encode.proofs.Chain.{also, whole, written}
use Rattle.encode.proofs.RoundTrip.{primary_back}
use Rattle.encode.proofs.descriptors.primary.Goals as goal

bytes : (c : goal.After-seal) → c.seal.new.sector ≡ primary_bytes c.args.stamp c.args.sequence c.args.volume.now c.args.volume_set.now c.args.recorded.now
unfolding primary_bytes
bytes c =
    c.seal.ensures
    ∙ ap (sealed 1 c.args.stamp) (also 488 c.put_u16-5.ensures refl
    (also 376 c.put_bytes-3.ensures.value (whole _ c.told-recorded)
    (also 72 c.put_bytes-2.ensures.value (whole _ c.told-volume_set)
    (also 62 c.put_u16-4.ensures refl
    (also 60 c.put_u16-3.ensures refl
    (also 58 c.put_u16-2.ensures refl
    (also 56 c.put_u16.ensures refl
    (also 24 c.put_bytes.ensures.value (whole _ c.told-volume)
    (also 16 c.put_u32.ensures refl c.blank-sector.ensures)))))))))

pub returns : goal.returns
returns c = record {
  bytes = bytes c;
  read_back = written _ c.args.stamp _ _ (bytes c)
      (primary_back c.args.stamp (record { serial = omega arith; location = omega arith }) c.args.sequence _ _ _ (omega arith) c.told-volume c.told-volume_set c.told-recorded);
}
