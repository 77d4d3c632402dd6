use Rattle.std.proofs.Common.{ℕ, List, [], sym, subst}
use Rattle.device.specs.Cuts.{Cut}
use Rattle.queue.specs.Views.{landed_bytes, waiting_list, model_of}
use Rattle.queue.specs.Waiting.{queue_model}
use Rattle.queue.proofs.Losing.{queue_laws}
use Rattle.queue.proofs.queue.Queue.into_parts.Goals as goal

pub returns-clause-cut : goal.returns-clause-cut
returns-clause-cut c =
    subst (λ (bs : List ℕ). Cut (model_of c.args.self) (queue_model bs [] 0)) (sym c.into_bytes.ensures)
    (queue_laws.others_lost (landed_bytes c.args.self) (waiting_list c.args.self) 0 c.args.self.tally 0 c.args.self.each)

pub returns-clause-laws : goal.returns-clause-laws
returns-clause-laws c = queue_laws
