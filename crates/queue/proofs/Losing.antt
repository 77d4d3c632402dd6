-- What a queue loses at a power cut.
-- Assumes nothing.
use Rattle.std.proofs.Common.{◌≡◌, ℕ, zero, suc, Bool, true, false, cond, eqb, List, [], ◌∷◌, take, sym, refl, subst}
use Rattle.std.specs.List.{list_all, AllByRecursion}
use Rattle.std.proofs.ByRecursion.{All-take}
use Rattle.device.specs.Content.{Content, holding, listed, only}
use Rattle.device.specs.Calls.{Sublist, keep}
use Rattle.device.specs.Cuts.{Among, Left, Cut}
use Rattle.device.proofs.Lists.{sublist_none, among_sublist, among_last}
use Rattle.media.specs.Landed.{count_of, landed}
use Rattle.queue.specs.Waiting.{for_sector, lists, queue_model, all_landed, well_formed}
use Rattle.queue.specs.Laws.{QueueLaws}
use Rattle.queue.specs.declared.pending.Pending.{Pending}
use Rattle.queue.specs.Queues.{WellFormed, each_decides, listed_folded, count_all, newest_landed}

in_order : (bs : List ℕ) (ws : List Pending) (s : ℕ) → listed (lists bs ws s) ≡ landed bs s ∷ for_sector s ws
unfolding lists
in_order bs ws s = listed_folded (only (landed bs s)) (for_sector s ws)

front_waiting : (s n : ℕ) (ws : List Pending) → Sublist (for_sector s (take n ws)) (for_sector s ws)
front_waiting s zero ws = sublist_none (for_sector s ws)
front_waiting s (suc n) [] = sublist_none []
front_waiting s (suc n) (w ∷ ws) = with_first (eqb s w.sector) (front_waiting s n ws)
  where
    with_first : (b : Bool) → Sublist (for_sector s (take n ws)) (for_sector s ws) → Sublist (cond b (holding w.bytes ∷ for_sector s (take n ws)) (for_sector s (take n ws))) (cond b (holding w.bytes ∷ for_sector s ws) (for_sector s ws))
    with_first true p = keep p
    with_first false p = p

-- what has landed once they have is one of the sector's list
landed_among : (bs : List ℕ) (ws : List Pending) (n s : ℕ) → AllByRecursion (WellFormed (count_of bs)) ws → Among (landed (all_landed bs (take n ws)) s) (listed (lists bs ws s))
landed_among bs ws n s all =
    subst (λ (x : Content). Among x (listed (lists bs ws s))) (sym (newest_landed bs (take n ws) (All-take (WellFormed (count_of bs)) n ws all) s))
    (among_sublist (lists bs (take n ws) s).newest front (among_last (lists bs (take n ws) s).newest (lists bs (take n ws) s).earlier))
  where
    front : Sublist (listed (lists bs (take n ws) s)) (listed (lists bs ws s))
    front =
        subst (λ (l : List Content). Sublist l (listed (lists bs ws s))) (sym (in_order bs (take n ws) s))
        (subst (Sublist (landed bs s ∷ for_sector s (take n ws))) (sym (in_order bs ws s)) (keep (front_waiting s n ws)))

others_lost : (bs : List ℕ) (ws : List Pending) (n tally tally' : ℕ) → list_all (well_formed (count_of bs)) ws ≡ true → Cut (queue_model bs ws tally) (queue_model (all_landed bs (take n ws)) [] tally')
unfolding lists
others_lost bs ws n tally tally' each =
    let all = (each_decides (count_of bs) ws).0 each in
    record {
      count = count_all bs (take n ws) (All-take (WellFormed (count_of bs)) n ws all);
      writable = refl;
      single = λ s. refl;
      left = λ s. Left.listed_before (landed_among bs ws n s all);
    }

pub queue_laws : QueueLaws
queue_laws = record { in_order = in_order; others_lost = others_lost }
