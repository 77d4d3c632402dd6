-- A write that is settled at once.
use Rattle.std.specs.Prelude.{ℕ, cond, List, Ok, Err, ◌==◌}
use Rattle.device.specs.Content.{holding, only}
use Rattle.device.specs.Model.{Model}
use Rattle.device.specs.Calls.{Answer, counted}

-- a write and a settle: the sector holds the bytes, every other what it held last, and each list has one content
abbrev pub through : Model → ℕ → List ℕ → Model
through m s bytes = record {
  count = m.count;
  contents = λ t. only (cond (t == s) (holding bytes) (m.contents t).newest);
  writable = m.writable;
  tally = counted (counted m.tally);
}

-- a refusal changes nothing
abbrev pub after_through : Model → ℕ → List ℕ → Answer → Model
after_through m s bytes (Ok accepted) = through m s bytes
after_through m s bytes (Err fault) = m
