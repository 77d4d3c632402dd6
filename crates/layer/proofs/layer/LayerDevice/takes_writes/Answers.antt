use Rattle.std.proofs.Common.{sym, ◌∙◌}
use Rattle.pairs.specs.View.{pairs_of}
use Rattle.layer.proofs.layer.LayerDevice.takes_writes.Goals as goal

pub returns : goal.returns
returns g c =
    let l = c.args.self.now in
    c.takes_over.ensures ∙ sym ((g.met.K.Kind.keeps (pairs_of l.pairs) l.pairs.ordered).takes (g.D.Device.model l.below) c.args.sector)
