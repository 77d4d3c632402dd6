-- A queue as its contracts see it.
use Rattle.std.specs.Prelude.{ℕ, List}
use Rattle.device.specs.Model.{Model}
use Rattle.queue.specs.Slots.{slots_in, writes_in}
use Rattle.queue.specs.Waiting.{queue_model}
use Rattle.queue.specs.declared.pending.Pending.{Pending}
use Rattle.queue.specs.declared.queue.Queue.{Queue}

-- the bytes that have landed
abbrev pub landed_bytes : Queue → List ℕ
landed_bytes q = q.store

-- the writes that wait, the oldest first
abbrev pub waiting_list : Queue → List Pending
waiting_list q = writes_in q.waiting

-- how many writes can wait
abbrev pub slots_of : Queue → ℕ
slots_of q = slots_in q.waiting

abbrev pub model_of : Queue → Model
model_of q = queue_model (landed_bytes q) (waiting_list q) q.tally
