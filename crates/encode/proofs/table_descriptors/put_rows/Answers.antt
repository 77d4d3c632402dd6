use Rattle.std.proofs.Common.{◌≡◌, ℕ, ◌+◌, ◌-◌, ◌^◌, min, List, [], length, sym, subst, ap, ◌∙◌, arith}
use Rattle.std.proofs.ByRecursion.{All-push}
use Rattle.std.proofs.lemmas.List.{flat_map_more, length-append}
use Rattle.std.specs.Iterator.{Yields}
use Rattle.std.specs.List.{flat_map}
use Rattle.octets.specs.Fields.{put}
use Rattle.octets.proofs.Runs.{put_none, saturated_put}
use Rattle.octets.proofs.Tables.{table_same}
use Rattle.encode.proofs.table_descriptors.put_rows.Goals as goal

-- where the next row goes, from where this one went
row_end : (at end before width row all next : ℕ) → end ≡ min (at + before) (2 ^ 64 - 1) → row ≡ width → all ≡ before + row → next ≡ min (end + width) (2 ^ 64 - 1) → next ≡ min (at + all) (2 ^ 64 - 1)
row_end at end before width row all next e w a n = omega arith

pub loop-row-init : goal.loop-row-init
loop-row-init g c = (sym (put_none c.args.at c.args.area.now), omega arith, tt)

pub loop-row-preserved : goal.loop-row-preserved
loop-row-preserved g c =
    let f = g.R.Row.bytes in
    let row = c.in-Some.row in
    let before = flat_map f c.loop-row.yielded in
    let more = flat_map_more f [] c.loop-row.yielded row in
    let long = ap length (sym more) ∙ length-append before (f row) in (
      c.put.ensures.after
          ∙ (ap (put c.loop-row.end (f row)) c.loop-row.invariant.0
          ∙ (saturated_put c.args.at c.loop-row.end before (f row) c.args.area.now (omega arith) c.loop-row.invariant.1
          ∙ ap (λ (run : List ℕ). put c.args.at run c.args.area.now) more)),
      row_end c.args.at c.loop-row.end (length before) c.WIDTH.result (length (f row)) _ _ c.loop-row.invariant.1 (g.met.R.Row.whole row ∙ sym c.WIDTH.ensures) long c.saturating_add-end.ensures,
      All-push g.R.Row.fits c.loop-row.yielded row c.loop-row.invariant.2 c.put.ensures.fit,
    )

pub returns : goal.returns
returns g c =
    let all = c.loop-row.yielded in
    let r = g.met.R.Row in (
      all,
      (c.next.new.self, (c.loop-row.row-iterator, subst (λ it. Yields g.I.Iterator.next_gives it all c.loop-row.row-iterator) c.into_iter-row-iterator.ensures.into_iter_gives c.loop-row.yielded_by, c.in-None.ensures.steps)),
      c.loop-row.invariant.0,
      c.loop-row.invariant.1,
      table_same g.R.Row.bytes g.R.Row.WIDTH r.whole g.R.Row.of g.R.Row.fits r.back r.wide all c.loop-row.invariant.2,
      c.loop-row.invariant.2,
    )
