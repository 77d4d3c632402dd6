use Rattle.std.proofs.Common.{Option, sym, ap}
use Rattle.std.specs.Option.{ok_or}
use Rattle.descriptor.specs.Kinds.{Fields}
use Rattle.descriptor.specs.declared.refusal.Refusal.TheVariants as refusal
use Rattle.descriptor.proofs.Naming.{no_kind}
use Rattle.descriptor.proofs.decode.in_place.Goals as goal

pub returns-in_default : goal.returns-in_default
returns-in_default c = sym (ap (λ (o : Option Fields). ok_or o refusal.Kind) (no_kind c.args.sector.now c.in_default.ensures c.args.place))
