use Rattle.std.proofs.Common.{◌≡◌, refl, ap, ◌∙◌, arith}
use Rattle.encode.specs.Sealed.{sealed}
use Rattle.encode.specs.Written.{partition_bytes}
use Rattle.encode.proofs.Chain.{also, written}
use Rattle.encode.proofs.RoundTrip.{partition_back}
use Rattle.encode.proofs.descriptors.partition.Goals as goal

bytes : (c : goal.After-seal) → c.seal.new.sector ≡ partition_bytes c.args.stamp c.args.sequence c.args.partition
unfolding partition_bytes
bytes c =
    c.seal.ensures
    ∙ ap (sealed 5 c.args.stamp) (also 192 c.put_u32-4.ensures refl
    (also 188 c.put_u32-3.ensures refl
    (also 184 c.put_u32-2.ensures refl
    (also 22 c.put_u16-2.ensures refl
    (also 20 c.put_u16.ensures refl
    (also 16 c.put_u32.ensures refl c.blank-sector.ensures))))))

pub returns : goal.returns
returns c = record {
  bytes = bytes c;
  read_back = written _ c.args.stamp _ _ (bytes c)
      (partition_back c.args.stamp (record { serial = omega arith; location = omega arith }) _ _ (omega arith)
      (record { number = omega arith; access = omega arith; first = omega arith; count = omega arith }));
}
