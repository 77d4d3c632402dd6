use Rattle.std.proofs.Common.{◌≡◌, ◌+◌, ◌-◌, ◌*◌, length, take, drop, ap, ◌∙◌, arith}
use Rattle.std.specs.Option.{option_copied}
use Rattle.std.proofs.lemmas.List.{length-take, length-drop}
use Rattle.media.specs.Landed.{sector_of}
use Rattle.media.specs.Sectors.{sector_found}
use Rattle.media.proofs.store.Store.get.Goals as goal

pub returns : goal.returns
returns c =
    let from = c.in_ok-from.from in
    let bs = c.args.self.now in
    let held : c.deref.result.now ≡ bs = c.deref.ensures.value ∙ c.self.view_is in
    let longer : length c.deref.result.now ≡ length bs = ap length held in
    let chunk = take (from + 2048 - from) (drop from c.deref.result.now) in
    let long : length chunk ≡ 2048 = simp (length-take, length-drop) (omega arith) in
    let width : from + 2048 - from ≡ 2048 = omega arith in
    let start : from ≡ 2048 * c.args.sector = omega arith in
    let same : chunk ≡ sector_of bs c.args.sector = cc in
    ap option_copied c.ok.ensures.value ∙ sector_found bs chunk c.args.sector 2048 _ c.try_into.result (c.try_into.ensures.0 long) c.try_into.ensures.1 c.in_ok-from.ensures.0 same
