use Rattle.std.proofs.Common.{◌≡◌, ℕ, OnOk, subst}
use Rattle.pairs.specs.View.{pairs_of}
use Rattle.layer.proofs.layer.Layer.add.Goals as goal

pub returns-clause-whole : goal.returns-clause-whole
returns-clause-whole g c =
    let after = pairs_of c.add.new.self in
    let whole = g.met.K.Kind.whole (pairs_of c.args.self.now.pairs) c.args.pair c.count-count.result c.add.result after c.add.ensures.law c.add.new.self.ordered in
    subst (λ (n : ℕ). OnOk c.add.result (g.K.Kind.count after n ≡ g.K.Kind.full after n)) c.count-count.ensures whole
