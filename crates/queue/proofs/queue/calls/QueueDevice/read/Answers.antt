use Rattle.std.proofs.Common.{rules}
use Rattle.media.specs.Images.{got}
use Rattle.queue.specs.Views.{landed_bytes, waiting_list}
use Rattle.queue.specs.Waiting.{queue_origins}
use Rattle.queue.specs.Queues.{overlaid_newest, queue_reading}
use Rattle.queue.proofs.queue.calls.QueueDevice.read.Goals as goal

pub returns : goal.returns
returns c =
    let q = c.args.self.now in
    let bs = landed_bytes q in
    let s = c.args.sector in
    let found = c.in_ok-landed.landed in
    let p = got bs s c.get.result found c.get.ensures c.in_ok-landed.ensures.ok_part in
    queue_reading bs (waiting_list q) s q.tally queue_origins c.args.area.now found.now c.unwrap_or.result.now p.0 p.1
    (rw (overlaid_newest s found.now (waiting_list q)) (search rules))
