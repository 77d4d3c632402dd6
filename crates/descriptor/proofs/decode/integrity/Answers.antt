use Rattle.std.proofs.Common.{◌≢◌, ◌<◌, Bool, ◌&&◌, leb, sym, ap, ◌∙◌, arith}
use Rattle.std.proofs.lemmas.Bool.{cond-false, lt-leb}
use Rattle.octets.specs.Fields.{u32_at}
use Rattle.descriptor.specs.declared.kinds.Integrity.TheVariants.{Open, Closed}
use Rattle.descriptor.specs.Checks.{integrity_fits}
use Rattle.descriptor.specs.Decode.{found}
use Rattle.descriptor.proofs.decode.integrity.Goals as goal

-- a number that says nothing is no integrity type
pub returns-in_err-state : goal.returns-in_err-state
returns-in_err-state c =
    let n = u32_at c.args.sector.now 28 in
    let not_open : n ≢ 0 = c.in_err-state.ensures Open in
    let not_closed : n ≢ 1 = c.in_err-state.ensures Closed in
    let past : 1 < n = omega (arith, not_open, not_closed) in
    ap found c.from_residual.ensures
    ∙ sym (cond-false (integrity_fits c.args.sector.now) _ _ (ap (λ (b : Bool). b && leb (u32_at c.args.sector.now 72) 8) (lt-leb n 1 past)))
