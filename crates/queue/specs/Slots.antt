-- The slots in which writes wait.
use Rattle.std.specs.Prelude.{ℕ, List, length, take, vec_items}
use Rattle.queue.specs.declared.pending.Pending.{Pending}
use Rattle.queue.specs.declared.waiting.Waiting.{Waiting}

-- how many slots there are
abbrev pub slots_in : Waiting → ℕ
slots_in w = length (vec_items w.slots)

-- the writes that wait, the oldest first
abbrev pub writes_in : Waiting → List Pending
writes_in w = take w.count (vec_items w.slots)
