use Rattle.std.proofs.Common.{◌≡◌, ◌∙◌}
use Rattle.device.specs.Calls.{counted}
use Rattle.media.specs.Landed.{count_of}
use Rattle.queue.specs.Views.{landed_bytes, waiting_list}
use Rattle.queue.specs.Waiting.{queue_model, all_landed}
use Rattle.queue.specs.Queues.{each_decides, queue_settled}
use Rattle.queue.proofs.queue.calls.QueueDevice.settle.Goals as goal

pub returns-clause-after : goal.returns-clause-after
returns-clause-after c =
    let q = c.args.self.now in
    let bs = landed_bytes q in
    let ws = waiting_list q in
    let lands : c.land_all.new.store ≡ all_landed bs ws = cc in
    let empties = c.clear.ensures.writes in
    (λ i. queue_model (lands i) (empties i) (counted q.tally)) ∙ queue_settled bs ws q.tally ((each_decides (count_of bs) ws).0 q.each)
