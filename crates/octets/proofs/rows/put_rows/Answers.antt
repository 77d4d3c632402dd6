use Rattle.std.proofs.Common.{◌≡◌, ℕ, ◌+◌, ◌-◌, ◌^◌, min, List, length, take, sym, ap, ◌∙◌, subst, arith}
use Rattle.octets.specs.Fields.{put}
use Rattle.std.specs.List.{flat_map, AllByRecursion}
use Rattle.std.proofs.lemmas.List.{take_all, length-append}
use Rattle.octets.proofs.Runs.{put_none, saturated_put}
use Rattle.octets.proofs.Tables.{joined_step, all_step}
use Rattle.octets.proofs.rows.put_rows.Goals as goal

-- where the next row goes, from where this one went
row_end : (at end before row all next : ℕ) → end ≡ min (at + before) (2 ^ 64 - 1) → all ≡ before + row → next ≡ min (end + row) (2 ^ 64 - 1) → next ≡ min (at + all) (2 ^ 64 - 1)
row_end at end before row all next e a n = omega arith

pub loop-item-init : goal.loop-item-init
loop-item-init g c = (sym (put_none c.args.at c.args.area.now), omega arith, tt)

pub loop-item-preserved : goal.loop-item-preserved
loop-item-preserved g c =
    let f = g.F.RowFormat.row in
    let before = flat_map f (take c.loop-item.item-index c.args.items.now) in
    let more = joined_step f c.args.items.now c.loop-item.item-index c.item-item.result (omega arith) c.item-item.is in
    let long = ap length more ∙ length-append before (f c.item-item.result) in (
      c.put_row-end.ensures.after
          ∙ (ap (put c.loop-item.end (f c.item-item.result)) c.loop-item.invariant.0
          ∙ (saturated_put c.args.at c.loop-item.end before (f c.item-item.result) c.args.area.now (omega arith) c.loop-item.invariant.1
          ∙ ap (λ (run : List ℕ). put c.args.at run c.args.area.now) (sym more))),
      row_end c.args.at c.loop-item.end (length before) _ _ _ c.loop-item.invariant.1 long c.put_row-end.ensures.next,
      all_step g.F.RowFormat.fits c.args.items.now c.loop-item.item-index c.item-item.result (omega arith) c.item-item.is c.loop-item.invariant.2 c.put_row-end.ensures.fit,
    )

pub returns : goal.returns
returns g c = let e = take_all c.loop-item.item-index c.args.items.now (omega arith) in record {
  after = c.loop-item.invariant.0 ∙ ap (λ l. put c.args.at (flat_map g.F.RowFormat.row l) c.args.area.now) e;
  next = c.loop-item.invariant.1 ∙ ap (λ l. min (c.args.at + length (flat_map g.F.RowFormat.row l)) (2 ^ 64 - 1)) e;
  fit = subst (AllByRecursion g.F.RowFormat.fits) e c.loop-item.invariant.2;
}
