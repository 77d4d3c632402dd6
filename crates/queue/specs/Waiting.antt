-- Writes that wait, the oldest first: what they make of a sector's list, and how they land.
use Rattle.std.specs.Prelude.{ℕ, Bool, true, cond, ◌&&◌, List, [], ◌∷◌, ◌++◌, length, reverse, Some, None, Ok, Err, Option, fold, find, ◌==◌, nat_lt}
use Rattle.std.specs.List.{list_any}
use Rattle.std.specs.Option.{option_map}
use Rattle.descriptor.specs.Limits.{sector_bytes}
use Rattle.device.specs.Calls.{Answer}
use Rattle.device.specs.Content.{Content, Contents, holding, only, followed}
use Rattle.device.specs.Faults.{Origins}
use Rattle.device.specs.Model.{Model}
use Rattle.device.specs.declared.fault.Layer.TheVariants.{Queue}
use Rattle.media.specs.Landed.{count_of, landed, stored, origins_at}
use Rattle.queue.specs.declared.pending.Pending.{Pending}

-- the contents of the waiting writes to a sector
abbrev pub for_sector : ℕ → List Pending → List Content
for_sector s [] = []
for_sector s (w ∷ ws) = cond (s == w.sector) (holding w.bytes ∷ for_sector s ws) (for_sector s ws)

-- a sector's list: what has landed, and then the waiting contents
unfoldable pub lists : List ℕ → List Pending → ℕ → Contents
lists bs ws s = fold followed (only (landed bs s)) (for_sector s ws)

-- a device on which writes wait
abbrev pub queue_model : List ℕ → List Pending → ℕ → Model
queue_model bs ws tally = record {
  count = count_of bs;
  contents = lists bs ws;
  writable = λ _. true;
  tally = tally;
}

abbrev pub queue_origins : Origins
queue_origins = origins_at Queue

-- whether a write to a sector waits
abbrev pub waits_for : ℕ → List Pending → Bool
waits_for s ws = list_any (λ w. s == w.sector) ws

-- the bytes of the newest waiting write to a sector
abbrev pub newest : ℕ → List Pending → Option (List ℕ)
newest s ws = option_map (λ w. w.bytes) (find (λ w. s == w.sector) (reverse ws))

-- a sector's bytes, with the waiting writes to it over them: the newest is left
abbrev pub overlaid : ℕ → List ℕ → List Pending → List ℕ
overlaid s bytes ws = fold (λ area w. cond (s == w.sector) w.bytes area) bytes ws

-- the landed bytes after a write landed
unfoldable pub landing : List ℕ → Pending → List ℕ
landing bs w = cond (nat_lt w.sector (count_of bs)) (stored w.sector w.bytes bs) bs

-- the landed bytes after all waiting writes landed, the oldest first
abbrev pub all_landed : List ℕ → List Pending → List ℕ
all_landed bs ws = fold landing bs ws

-- the landed bytes and the waiting writes after the oldest landed
abbrev pub oldest_landed : List ℕ → List Pending → List ℕ × List Pending
oldest_landed bs [] = (bs, [])
oldest_landed bs (w ∷ ws) = (landing bs w, ws)

-- the same after a new write was accepted: it waits behind the others; where they fill all slots, the oldest of all lands
abbrev pub accepted : ℕ → Pending → List ℕ → List Pending → List ℕ × List Pending
accepted slots new bs ws = cond (nat_lt (length ws) slots) (bs, ws ++ new ∷ []) (oldest_landed bs (ws ++ new ∷ []))

-- the same after a write, by its answer: a refused one changes nothing
abbrev pub after_write : Answer → ℕ → Pending → List ℕ → List Pending → List ℕ × List Pending
after_write (Ok done) slots new bs ws = accepted slots new bs ws
after_write (Err fault) slots new bs ws = (bs, ws)

-- the first of some writes, and the others
abbrev pub first_out : List Pending → Option Pending × List Pending
first_out [] = (None, [])
first_out (w ∷ ws) = (Some w, ws)

-- a new write put behind those that wait: the oldest of all, where they filled all slots, and what waits then
abbrev pub pushed : ℕ → Pending → List Pending → Option Pending × List Pending
pushed slots new ws = cond (nat_lt (length ws) slots) (None, ws ++ new ∷ []) (first_out (ws ++ new ∷ []))

-- a write to one of n sectors, with a sector's bytes
abbrev pub well_formed : ℕ → Pending → Bool
well_formed n w = nat_lt w.sector n && length w.bytes == sector_bytes
