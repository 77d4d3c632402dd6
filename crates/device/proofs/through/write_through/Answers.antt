use Rattle.std.proofs.Common.{◌∙◌, rules}
use Rattle.std.proofs.lemmas.Result.{err_from_is_err_and}
use Rattle.device.proofs.Models.{written_settled}
use Rattle.device.proofs.Cutting.{cut_laws}
use Rattle.device.proofs.through.write_through.Goals as goal

pub returns-in_err-write : goal.returns-in_err-write
returns-in_err-write g c =
    let p = err_from_is_err_and c.from_residual.result c.from_residual.ensures.1 in rw (p.1, p.2) (record {
      answer = c.in_err-write.ensures.answer;
      after = c.in_err-write.ensures.after;
      origin = c.in_err-write.ensures.origin;
      cuts = cut_laws;
    })

pub returns : goal.returns
returns g c = record {
  answer = search rules;
  after = c.settle.ensures.after ∙ written_settled (g.D.Device.model c.args.device.now) c.args.sector c.args.bytes.now (g.D.Device.model c.write.new.self) c.in_ok-write.ensures.after;
  origin = c.settle.ensures.origin ∙ c.in_ok-write.ensures.origin;
  cuts = cut_laws;
}
