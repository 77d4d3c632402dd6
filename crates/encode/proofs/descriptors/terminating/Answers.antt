use Rattle.std.proofs.Common.{◌≡◌, ap, ◌∙◌, arith}
use Rattle.encode.specs.Sealed.{sealed}
use Rattle.encode.specs.Written.{terminating_bytes}
use Rattle.encode.proofs.Chain.{written}
use Rattle.encode.proofs.RoundTrip.{terminating_back}
use Rattle.encode.proofs.descriptors.terminating.Goals as goal

bytes : (c : goal.After-seal) → c.seal.new.sector ≡ terminating_bytes c.args.stamp
unfolding terminating_bytes
bytes c = c.seal.ensures ∙ ap (sealed 8 c.args.stamp) c.blank-sector.ensures

pub returns : goal.returns
returns c = record {
  bytes = bytes c;
  read_back = written _ c.args.stamp _ _ (bytes c) (terminating_back c.args.stamp (record { serial = omega arith; location = omega arith }));
}
