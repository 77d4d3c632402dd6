-- What the lists of a queue are, and what a power cut may leave of it, in the subject's own words.
use Rattle.std.specs.Prelude.{◌≡◌, ℕ, true, List, [], ◌∷◌, take}
use Rattle.std.specs.List.{list_all}
use Rattle.device.specs.Content.{listed}
use Rattle.device.specs.Cuts.{Cut}
use Rattle.media.specs.Landed.{count_of, landed}
use Rattle.queue.specs.Waiting.{for_sector, lists, queue_model, all_landed, well_formed}
use Rattle.queue.specs.declared.pending.Pending.{Pending}

pub record QueueLaws : Type 0 where
  -- a sector's list is what has landed, and then the waiting contents, the oldest first
  pub in_order : (bs : List ℕ) (ws : List Pending) (s : ℕ) → listed (lists bs ws s) ≡ landed bs s ∷ for_sector s ws
  -- that the oldest n waiting writes land and the others are lost is one of the cuts, whatever n is
  pub others_lost : (bs : List ℕ) (ws : List Pending) (n tally tally' : ℕ) → list_all (well_formed (count_of bs)) ws ≡ true → Cut (queue_model bs ws tally) (queue_model (all_landed bs (take n ws)) [] tally')
