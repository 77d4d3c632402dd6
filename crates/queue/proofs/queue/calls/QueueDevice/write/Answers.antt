use Rattle.std.proofs.Common.{◌≡◌, ℕ, List, rules, arith}
use Rattle.queue.specs.Slots.{writes_in}
use Rattle.queue.specs.Views.{landed_bytes, waiting_list, slots_of}
use Rattle.queue.specs.Waiting.{accepted}
use Rattle.queue.specs.declared.pending.Pending.{Pending}
use Rattle.queue.specs.Queues.{state_formed, state_written}
use Rattle.queue.proofs.queue.calls.QueueDevice.write.Goals as goal

pub invariant_of-self-clause-each : goal.invariant_of-self-clause-each
invariant_of-self-clause-each c =
    let q = c.args.self.now in
    let new : Pending = record { sector = c.args.sector; bytes = c.args.bytes.now } in
    let after : List ℕ × List Pending = (c.match-push.self.1.0, writes_in c.push.new.self) in
    let is : after ≡ accepted (slots_of q) new (landed_bytes q) (waiting_list q) = search rules in
    state_formed (slots_of q) new (landed_bytes q) (waiting_list q) q.each (omega arith, omega arith) after is

pub returns-clause-after : goal.returns-clause-after
returns-clause-after c =
    let q = c.args.self.now in
    let new : Pending = record { sector = c.args.sector; bytes = c.args.bytes.now } in
    let after : List ℕ × List Pending = (c.match-push.self.1.0, writes_in c.push.new.self) in
    let is : after ≡ accepted (slots_of q) new (landed_bytes q) (waiting_list q) = search rules in
    state_written (slots_of q) new (landed_bytes q) (waiting_list q) q.each (omega arith, omega arith) after is q.tally
