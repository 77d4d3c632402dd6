use Rattle.std.proofs.Common.{◌≡◌, true, List, length, take, Ok, sym, ap, ◌∙◌, subst, arith}
use Rattle.std.proofs.lemmas.List.{take_more_set, length-take-le}
use Rattle.pairs.specs.declared.pair.Pair.{Pair}
use Rattle.pairs.specs.Pairs.{in_order, end_after}
use Rattle.pairs.proofs.Ordering.{in_order_push, end_after_push}
use Rattle.pairs.proofs.Adding.{accepted_from}
use Rattle.pairs.proofs.table.Pairs.accept.Goals as goal

pub invariant_of-self : goal.invariant_of-self
invariant_of-self c =
    let t = c.args.self.now in
    let p = c.args.pair in
    let more = take_more_set t.items t.len p (omega arith) in
    let ordered = in_order_push 0 (take t.len t.items) p t.ordered (omega (arith, t.ends)) (omega arith) (omega arith) in
    record {
      few = omega arith;
      ordered = subst (λ (l : List Pair). in_order 0 l ≡ true) (sym more) ordered;
      ends = sym (end_after_push 0 (take t.len t.items) p) ∙ ap (end_after 0) (sym more);
    }

pub returns : goal.returns
returns c =
    let t = c.args.self.now in
    let p = c.args.pair in
    let more = take_more_set t.items t.len p (omega arith) in
    let long : length (take t.len t.items) ≡ t.len = length-take-le t.len t.items (omega arith) in
    ap (λ (l : List Pair). (Ok tt, l)) more
    ∙ sym (accepted_from (take t.len t.items) p c.args.count (omega arith) (omega arith) (omega (arith, t.ends)) (omega arith))
