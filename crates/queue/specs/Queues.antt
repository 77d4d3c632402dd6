-- The model of a queue: a new write, the oldest landed, all landed.
-- Assumes nothing.
use Rattle.std.specs.Prelude.{◌≡◌, ℕ, ◌^◌, ◌<◌, ◌≤◌, Bool, true, false, cond, List, [], ◌∷◌, ◌++◌, length, reverse, Some, None, Ok, Option, Decides, fold, find, unwrap_or, ◌==◌, ◌≢◌, nat_lt, refl}
use Rattle.std.proofs.Common.{⊎_elim, sym, ◌∙◌, subst, arith}
use Rattle.std.proofs.Math.Path.{ap, fun_ext}
use Rattle.std.specs.List.{AllByRecursion}
use Rattle.std.specs.Option.{option_map, option_or}
use Rattle.std.proofs.lemmas.List.Folds.{find-append}
use Rattle.std.proofs.ByRecursion.{All-push}
use Rattle.std.proofs.lemmas.List.{append-nil, append_assoc, reverse-append}
use Rattle.std.proofs.lemmas.List.Sums.{fold_push}
use Rattle.std.proofs.lemmas.Bool.{cases_eq, eq-eqb, ne_eqb, lt-ltb, cond-true, cond_both}
use Rattle.std.proofs.lemmas.Bool.Decides.{Decides-and, Decides-ltb, Decides-eqb}
use Rattle.std.specs.List.{list_all}
use Rattle.octets.proofs.Deciding.{all_decides}
use Rattle.descriptor.specs.Limits.{sector_bytes}
use Rattle.device.specs.Content.{Content, Contents, Whole, holding, listed, only, followed}
use Rattle.device.specs.Model.{Model, Sound}
use Rattle.device.specs.Faults.{Origins}
use Rattle.device.specs.Calls.{Answer, refused, filled, reading, skip, Dropped, Written, counted, settled}
use Rattle.device.specs.declared.fault.Reason.TheVariants.{OffDevice}
use Rattle.device.specs.Cuts.{Settling, written}
use Rattle.device.proofs.Lists.{sublist_same, dropped_none}
use Rattle.device.proofs.Models.{same_model, written_dropped}
use Rattle.device.proofs.Cutting.{nothing_dropped}
use Rattle.media.specs.Landed.{count_of, sector_of, landed, stored}
use Rattle.media.specs.Sectors.{count_stored, landed_there, landed_past, landed_here, landed_elsewhere}
use Rattle.media.specs.Images.{landed_whole}
use Rattle.queue.specs.Waiting.{for_sector, lists, queue_model, newest, overlaid, landing, all_landed, oldest_landed, accepted, well_formed}
use Rattle.queue.specs.declared.pending.Pending.{Pending}

-- a write to one of n sectors, with a sector's bytes
abbrev pub WellFormed : ℕ → Pending → Type 0
WellFormed n w = (w.sector < n) × (length w.bytes ≡ sector_bytes)

pub each_decides : (n : ℕ) (ws : List Pending) → Decides (list_all (well_formed n) ws) (AllByRecursion (WellFormed n) ws)
each_decides n ws =
    all_decides (well_formed n) (WellFormed n)
    (λ w. Decides-and (nat_lt w.sector n) (length w.bytes == sector_bytes) (Decides-ltb w.sector n) (Decides-eqb (length w.bytes) sector_bytes))
    ws

-- a content put in front of a list
abbrev in_front : Content → Contents → Contents
in_front x c = record { earlier = x ∷ c.earlier; newest = c.newest }

folded_front : (x : Content) (c : Contents) (ys : List Content) → fold followed (in_front x c) ys ≡ in_front x (fold followed c ys)
folded_front x c [] = refl
folded_front x c (y ∷ ys) = folded_front x (followed c y) ys

pub listed_folded : (c : Contents) (ys : List Content) → listed (fold followed c ys) ≡ listed c ++ ys
listed_folded c [] = sym (append-nil (listed c))
listed_folded c (y ∷ ys) = listed_folded (followed c y) ys ∙ append_assoc (listed c) (y ∷ []) ys

-- the waiting contents of a sector, with one more write before or behind them
module _ (s : ℕ) (w : Pending) where
  first_here : (ws : List Pending) → s ≡ w.sector → for_sector s (w ∷ ws) ≡ holding w.bytes ∷ for_sector s ws
  first_here ws e = ap (λ (b : Bool). cond b (holding w.bytes ∷ for_sector s ws) (for_sector s ws)) (eq-eqb s w.sector e)

  first_elsewhere : (ws : List Pending) → (s ≢ w.sector) → for_sector s (w ∷ ws) ≡ for_sector s ws
  first_elsewhere ws other = ap (λ (b : Bool). cond b (holding w.bytes ∷ for_sector s ws) (for_sector s ws)) (ne_eqb s w.sector other)

  abbrev last : List Content
  last = cond (s == w.sector) (holding w.bytes ∷ []) []

  behind : (b : Bool) (x : Content) (l m : List Content) → l ≡ m ++ last → cond b (x ∷ l) l ≡ cond b (x ∷ m) m ++ last
  behind true x l m e = ap (λ (k : List Content). x ∷ k) e
  behind false x l m e = e

  last_pushed : (ws : List Pending) → for_sector s (ws ++ w ∷ []) ≡ for_sector s ws ++ last
  last_pushed [] = refl
  last_pushed (v ∷ vs) = behind (s == v.sector) (holding v.bytes) (for_sector s (vs ++ w ∷ [])) (for_sector s vs) (last_pushed vs)

  folded_last : (b : Bool) (x : Content) (c : Contents) (ys : List Content) → fold followed c (ys ++ cond b (x ∷ []) []) ≡ cond b (followed (fold followed c ys) x) (fold followed c ys)
  folded_last true x c ys = fold_push followed c ys x
  folded_last false x c ys = ap (fold followed c) (append-nil ys)

  lists_pushed : (bs : List ℕ) (ws : List Pending) → lists bs (ws ++ w ∷ []) s ≡ cond (s == w.sector) (followed (lists bs ws s) (holding w.bytes)) (lists bs ws s)
  unfolding lists
  lists_pushed bs ws =
      ap (fold followed (only (landed bs s))) (last_pushed ws)
      ∙ folded_last (s == w.sector) (holding w.bytes) (only (landed bs s)) (for_sector s ws)

-- a new write behind those that wait is a write that drops nothing
queue_pushed : (bs : List ℕ) (ws : List Pending) (w : Pending) (tally : ℕ) → queue_model bs (ws ++ w ∷ []) (counted tally) ≡ written (queue_model bs ws tally) w.sector w.bytes
queue_pushed bs ws w tally =
    same_model (queue_model bs (ws ++ w ∷ []) (counted tally)) (written (queue_model bs ws tally) w.sector w.bytes) refl (fun_ext (λ s. lists_pushed s w bs ws)) refl refl

-- a write lands
module _ (bs : List ℕ) (w : Pending) (good : WellFormed (count_of bs) w) where
  pub landing_is : landing bs w ≡ stored w.sector w.bytes bs
  unfolding landing
  landing_is = cond-true (nat_lt w.sector (count_of bs)) (stored w.sector w.bytes bs) bs (lt-ltb w.sector (count_of bs) good.0)

  pub count_landing : count_of (landing bs w) ≡ count_of bs
  count_landing = ap count_of landing_is ∙ count_stored w.sector w.bytes bs

  -- the list of its sector loses what had landed there, and every other list stays
  module _ (ws : List Pending) (s : ℕ) where
    lost : s ≡ w.sector → lists bs (w ∷ ws) s ≡ in_front (landed bs s) (lists (landing bs w) ws s)
    unfolding lists
    lost e =
        let now-there : landed (landing bs w) s ≡ holding w.bytes = ap (λ (l : List ℕ). landed l s) landing_is ∙ (ap (landed (stored w.sector w.bytes bs)) e ∙ landed_here w.sector w.bytes bs good.0 good.1) in
        ap (fold followed (only (landed bs s))) (first_here s w ws e)
        ∙ (folded_front (landed bs s) (only (holding w.bytes)) (for_sector s ws)
        ∙ ap (λ (x : Content). in_front (landed bs s) (fold followed (only x) (for_sector s ws))) (sym now-there))

    stays : (s ≢ w.sector) → lists bs (w ∷ ws) s ≡ lists (landing bs w) ws s
    unfolding lists
    stays other =
        let same : landed (landing bs w) s ≡ landed bs s = ap (λ (l : List ℕ). landed l s) landing_is ∙ landed_elsewhere w.sector w.bytes bs good.1 s other in
        ap (fold followed (only (landed bs s))) (first_elsewhere s w ws other)
        ∙ ap (λ (x : Content). fold followed (only x) (for_sector s ws)) (sym same)

    pub head_dropped : Dropped (lists bs (w ∷ ws) s) (lists (landing bs w) ws s)
    head_dropped =
        let d = lists (landing bs w) ws s in
        ⊎_elim
        (λ e. subst (λ (c : Contents). Dropped c d) (sym (lost e)) (record { newest = refl; earlier = skip (sublist_same d.earlier) }))
        (λ other. subst (λ (c : Contents). Dropped c d) (sym (stays other)) (dropped_none d))
        (cases_eq s w.sector)

-- the oldest lands
oldest_dropped :
    (bs : List ℕ) (ws : List Pending) (tally : ℕ) → AllByRecursion (WellFormed (count_of bs)) ws →
    Settling (queue_model bs ws tally) (queue_model (oldest_landed bs ws).0 (oldest_landed bs ws).1 tally)
oldest_dropped bs [] tally all = record { count = refl; writable = refl; contents = λ s. dropped_none (lists bs [] s) }
oldest_dropped bs (w ∷ ws) tally all = record { count = count_landing bs w all.0; writable = refl; contents = λ s. head_dropped bs w all.0 ws s }

-- a queue with another state, told by an equation
abbrev at : List ℕ × List Pending → ℕ → Model
at state tally = queue_model state.0 state.1 tally

-- a write that is accepted
queue_written :
    (slots : ℕ) (new : Pending) (bs : List ℕ) (ws : List Pending) (tally : ℕ) → AllByRecursion (WellFormed (count_of bs)) ws → WellFormed (count_of bs) new →
    Written (queue_model bs ws tally) new.sector new.bytes (at (accepted slots new bs ws) (counted tally))
queue_written slots new bs ws tally all good =
    cond_both (nat_lt (length ws) slots) (bs, ws ++ new ∷ []) (oldest_landed bs (ws ++ new ∷ []))
    (λ (state : List ℕ × List Pending). Written (queue_model bs ws tally) new.sector new.bytes (at state (counted tally)))
    (λ _. behind_all)
    (λ _. written_dropped (queue_model bs ws tally) new.sector new.bytes (queue_model bs (ws ++ new ∷ []) (counted tally)) (at (oldest_landed bs (ws ++ new ∷ [])) (counted tally)) behind_all
    (oldest_dropped bs (ws ++ new ∷ []) (counted tally) (All-push (WellFormed (count_of bs)) ws new all good)) refl)
  where
    behind_all : Written (queue_model bs ws tally) new.sector new.bytes (queue_model bs (ws ++ new ∷ []) (counted tally))
    behind_all = subst (Written (queue_model bs ws tally) new.sector new.bytes) (sym (queue_pushed bs ws new tally)) (nothing_dropped (queue_model bs ws tally) new.sector new.bytes)

-- what waits after it is well formed
oldest_formed : (bs : List ℕ) (ws : List Pending) → AllByRecursion (WellFormed (count_of bs)) ws → AllByRecursion (WellFormed (count_of (oldest_landed bs ws).0)) (oldest_landed bs ws).1
oldest_formed bs [] all = tt
oldest_formed bs (w ∷ ws) all = subst (λ (n : ℕ). AllByRecursion (WellFormed n) ws) (sym (count_landing bs w all.0)) all.1

accepted_formed :
    (slots : ℕ) (new : Pending) (bs : List ℕ) (ws : List Pending) → AllByRecursion (WellFormed (count_of bs)) ws → WellFormed (count_of bs) new →
    AllByRecursion (WellFormed (count_of (accepted slots new bs ws).0)) (accepted slots new bs ws).1
accepted_formed slots new bs ws all good =
    let pushed = All-push (WellFormed (count_of bs)) ws new all good in
    cond_both (nat_lt (length ws) slots) (bs, ws ++ new ∷ []) (oldest_landed bs (ws ++ new ∷ []))
    (λ (state : List ℕ × List Pending). AllByRecursion (WellFormed (count_of state.0)) state.1)
    (λ _. pushed) (λ _. oldest_formed bs (ws ++ new ∷ []) pushed)

-- both, where a state is told by an equation
module _
    (slots : ℕ)
    (new : Pending)
    (bs : List ℕ)
    (ws : List Pending)
    (each : list_all (well_formed (count_of bs)) ws ≡ true)
    (good : WellFormed (count_of bs) new)
    (state : List ℕ × List Pending)
    (is : state ≡ accepted slots new bs ws)
  where
    pub state_formed : list_all (well_formed (count_of state.0)) state.1 ≡ true
    state_formed =
        (each_decides (count_of state.0) state.1).1
        (subst (λ (x : List ℕ × List Pending). AllByRecursion (WellFormed (count_of x.0)) x.1) (sym is) (accepted_formed slots new bs ws ((each_decides (count_of bs) ws).0 each) good))

    pub state_written : (tally : ℕ) → Written (queue_model bs ws tally) new.sector new.bytes (queue_model state.0 state.1 (counted tally))
    state_written tally =
        subst (λ (x : List ℕ × List Pending). Written (queue_model bs ws tally) new.sector new.bytes (at x (counted tally))) (sym is)
        (queue_written slots new bs ws tally ((each_decides (count_of bs) ws).0 each) good)

-- all land
pub count_all : (bs : List ℕ) (ws : List Pending) → AllByRecursion (WellFormed (count_of bs)) ws → count_of (all_landed bs ws) ≡ count_of bs
count_all bs [] all = refl
count_all bs (w ∷ ws) all =
    let n = count_landing bs w all.0 in
    count_all (landing bs w) ws (subst (λ (m : ℕ). AllByRecursion (WellFormed m) ws) (sym n) all.1) ∙ n

pub newest_landed : (bs : List ℕ) (ws : List Pending) → AllByRecursion (WellFormed (count_of bs)) ws → (s : ℕ) → landed (all_landed bs ws) s ≡ (lists bs ws s).newest
unfolding lists
newest_landed bs [] all s = refl
newest_landed bs (w ∷ ws) all s =
    newest_landed (landing bs w) ws (subst (λ (m : ℕ). AllByRecursion (WellFormed m) ws) (sym (count_landing bs w all.0)) all.1) s
    ∙ (head_dropped bs w all.0 ws s).newest

pub queue_settled : (bs : List ℕ) (ws : List Pending) (tally : ℕ) → AllByRecursion (WellFormed (count_of bs)) ws → queue_model (all_landed bs ws) [] (counted tally) ≡ settled (queue_model bs ws tally)
unfolding lists
queue_settled bs ws tally all =
    same_model (queue_model (all_landed bs ws) [] (counted tally)) (settled (queue_model bs ws tally))
    (count_all bs ws all) (fun_ext (λ s. ap only (newest_landed bs ws all s))) refl refl

-- a queue's model is sound
waiting_whole : (n s : ℕ) (ws : List Pending) → AllByRecursion (WellFormed n) ws → AllByRecursion Whole (for_sector s ws)
waiting_whole n s [] all = tt
waiting_whole n s (w ∷ ws) all =
    cond_both (s == w.sector) (holding w.bytes ∷ for_sector s ws) (for_sector s ws) (AllByRecursion Whole)
    (λ _. (all.0.1, waiting_whole n s ws all.1)) (λ _. waiting_whole n s ws all.1)

none_past : (n s : ℕ) (ws : List Pending) → AllByRecursion (WellFormed n) ws → n ≤ s → for_sector s ws ≡ []
none_past n s [] all past = refl
none_past n s (w ∷ ws) all past = first_elsewhere s w ws (λ e. omega (arith, all.0.0)) ∙ none_past n s ws all.1 past

pub queue_sound : (bs : List ℕ) (ws : List Pending) (tally : ℕ) → AllByRecursion (WellFormed (count_of bs)) ws → tally < 2 ^ 64 → Sound (queue_model bs ws tally)
unfolding lists
queue_sound bs ws tally all fits = record {
  count = omega arith;
  tally = fits;
  whole = λ s. subst (AllByRecursion Whole) (sym (listed_folded (only (landed bs s)) (for_sector s ws))) (landed_whole bs s, waiting_whole (count_of bs) s ws all);
  past = λ s h. ap (fold followed (only (landed bs s))) (none_past (count_of bs) s ws all h) ∙ ap only (landed_past bs s h);
}

-- a read: the newest waiting write to the sector, or what has landed
newest_overlaid : (s : ℕ) (ws : List Pending) (c : Contents) (area : List ℕ) → c.newest ≡ holding area → (fold followed c (for_sector s ws)).newest ≡ holding (overlaid s area ws)
newest_overlaid s [] c area e = e
newest_overlaid s (w ∷ ws) c area e =
    elim (s == w.sector) as (λ b. (fold followed c (cond b (holding w.bytes ∷ for_sector s ws) (for_sector s ws))).newest ≡ holding (overlaid s (cond b w.bytes area) ws)) [
      | true ↦ newest_overlaid s ws (followed c (holding w.bytes)) w.bytes refl
      | false ↦ newest_overlaid s ws c area e
    ]

-- the bytes that are left are those of the newest write
pub overlaid_newest : (s : ℕ) (bytes : List ℕ) (ws : List Pending) → overlaid s bytes ws ≡ unwrap_or (newest s ws) bytes
overlaid_newest s bytes [] = refl
overlaid_newest s bytes (w ∷ ws) =
    overlaid_newest s (cond (s == w.sector) w.bytes bytes) ws
    ∙ (one_more (find (λ v. s == v.sector) (reverse ws)) (s == w.sector)
    ∙ ap (λ (o : Option Pending). unwrap_or (option_map (λ v. v.bytes) o) bytes)
    (sym (ap (find (λ (v : Pending). s == v.sector)) (reverse-append (w ∷ []) ws) ∙ find-append (λ v. s == v.sector) (reverse ws) (w ∷ []))))
  where
    one_more : (o : Option Pending) (b : Bool) → unwrap_or (option_map (λ v. v.bytes) o) (cond b w.bytes bytes) ≡ unwrap_or (option_map (λ v. v.bytes) (option_or o (cond b (Some w) None))) bytes
    one_more (Some v) b = refl
    one_more None true = refl
    one_more None false = refl

pub queue_reading :
    (bs : List ℕ) (ws : List Pending) (s tally : ℕ) (from : Origins) (area found after : List ℕ) → s < count_of bs → found ≡ sector_of bs s → after ≡ overlaid s found ws →
    ◌≡◌ {A = Answer × List ℕ} (Ok tt, after) (reading (queue_model bs ws tally) from s area)
unfolding lists
queue_reading bs ws s tally from area found after h is laid =
    let content : (lists bs ws s).newest ≡ holding after =
    newest_overlaid s ws (only (landed bs s)) found (landed_there bs s h ∙ ap holding (sym is)) ∙ ap holding (sym laid) in
    ap (filled from s area) (sym content)
    ∙ sym (cond-true (nat_lt s (count_of bs)) (filled from s area (lists bs ws s).newest) (refused from OffDevice s, area) (lt-ltb s (count_of bs) h))
