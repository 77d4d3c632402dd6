use Rattle.std.proofs.Common.{◌≡◌, refl, ap, ◌∙◌, arith}
use Rattle.encode.specs.Sealed.{sealed}
use Rattle.encode.specs.Written.{anchor_bytes}
use Rattle.encode.proofs.Chain.{also, written}
use Rattle.encode.proofs.RoundTrip.{anchor_back}
use Rattle.encode.proofs.descriptors.anchor.Goals as goal

bytes : (c : goal.After-seal) → c.seal.new.sector ≡ anchor_bytes c.args.stamp c.args.main c.args.reserve
unfolding anchor_bytes
bytes c =
    c.seal.ensures
    ∙ ap (sealed 2 c.args.stamp) (also 24 c.put-2.ensures.after refl (also 16 c.put.ensures.after refl c.blank-sector.ensures))

pub returns : goal.returns
returns c = record {
  bytes = bytes c;
  read_back = written _ c.args.stamp _ _ (bytes c)
      (anchor_back c.args.stamp (record { serial = omega arith; location = omega arith }) _ _
      (record { length = omega arith; location = omega arith }) (record { length = omega arith; location = omega arith }));
}
