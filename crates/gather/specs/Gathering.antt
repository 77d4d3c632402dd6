-- The gather layer keeps the meaning of a device, and a cut below is a cut of the layer.
-- Assumes nothing.
use Rattle.std.specs.Prelude.{◌≡◌, ℕ, ◌≤◌, Bool, true, false, cond, ltb, List, [], Some, None, Ok, Err, Option, ◌≢◌, nat_lt, refl}
use Rattle.std.proofs.Common.{inl, sym, ap, ◌∙◌, subst, arith}
use Rattle.std.specs.List.{AllByRecursion}
use Rattle.std.proofs.lemmas.Bool.{le-ltb, ltb-false}
use Rattle.device.specs.declared.fault.Reason.TheVariants.{OffDevice, TakesNoWrites}
use mathlib.Core.Path.{fun_ext}
use Rattle.device.specs.Content.{Content, unreadable, holding, listed, only, Whole}
use Rattle.device.specs.Model.{Model, Sound, nowhere, takes_writes}
use Rattle.device.specs.Faults.{Origins, deeper, handed_up}
use Rattle.device.specs.Calls.{Answer, refused, filled, reading, permitted, settled, Sublist, Dropped, Written, AfterWrite}
use Rattle.device.specs.Cuts.{Left, LeftOfWrite, Cut, CutInWrite}
use Rattle.device.proofs.Lists.{dropped_none}
use Rattle.device.proofs.Models.{same_model}
use Rattle.pairs.specs.declared.pair.Pair.{Pair}
use Rattle.pairs.specs.Pairs.{in_order, place, reached}
use Rattle.pairs.proofs.Ordering.{reached_most}
use Rattle.pairs.proofs.Placing.{place_one, reached_as, reached_out}
use Rattle.layer.specs.Kept.{Passed, read_there, permitted_there, takes_there, Keeps}
use Rattle.gather.specs.Gathered.{via, gathered, own_origin, gather_origins, off_layer, gather_source, CutsRise}

-- an answer below as the layer hands it up, at each content
read_through : (from : Origins) (s t : ℕ) (area : List ℕ) (b : Bool) (c : Content) → ◌≡◌ {A = Answer × List ℕ} (cond b (filled (λ why _. deeper (from why t)) s area c) (refused (λ why _. deeper (from why t)) OffDevice s, area)) (handed_up (cond b (filled from t area c) (refused from OffDevice t, area)).0, (cond b (filled from t area c) (refused from OffDevice t, area)).1)
read_through from s t area true unreadable = refl
read_through from s t area true (holding bytes) = refl
read_through from s t area false c = refl

write_through : (from : Origins) (s t : ℕ) (b w : Bool) → ◌≡◌ {A = Answer} (cond b (cond w (Ok tt) (refused (λ why _. deeper (from why t)) TakesNoWrites s)) (refused (λ why _. deeper (from why t)) OffDevice s)) (handed_up (cond b (cond w (Ok tt) (refused from TakesNoWrites t)) (refused from OffDevice t)))
write_through from s t true true = refl
write_through from s t true false = refl
write_through from s t false w = refl

module _ (ps : List Pair) (ordered : in_order 0 ps ≡ true) where
  -- a sector that some pair has
  module _ (m : Model) (from : Origins) (s t : ℕ) (at : place ps s ≡ Some t) where
    pub takes_some : takes_writes (gathered ps m) s ≡ takes_writes m t
    takes_some = rw (reached_as ps m.count s t ordered at, at)

    pub reading_some : (area : List ℕ) → ◌≡◌ {A = Answer × List ℕ} (reading (gathered ps m) (gather_origins ps from) s area) (handed_up (reading m from t area).0, (reading m from t area).1)
    reading_some area =
        rw (reached_as ps m.count s t ordered at)
        (ap (λ (p : Option ℕ). cond (nat_lt t m.count) (filled (λ why _. via p (own_origin s) (λ u. deeper (from why u))) s area (via p nowhere m.contents).newest) (refused (λ why _. via p (own_origin s) (λ u. deeper (from why u))) OffDevice s, area)) at
        ∙ read_through from s t area (nat_lt t m.count) (m.contents t).newest)

    pub permitted_some : permitted (gathered ps m) (gather_origins ps from) s ≡ handed_up (permitted m from t)
    permitted_some = rw (reached_as ps m.count s t ordered at, at) (write_through from s t (nat_lt t m.count) (m.writable t))

  -- a sector that no pair has
  module _ (m : Model) (from : Origins) (s : ℕ) (none : place ps s ≡ None) where
    past : ltb s (reached ps m.count) ≡ false
    past = le-ltb s (reached ps m.count) (reached_out ps m.count s none)

    pub reading_none : (area : List ℕ) → ◌≡◌ {A = Answer × List ℕ} (reading (gathered ps m) (gather_origins ps from) s area) (Err (off_layer s), area)
    reading_none area = rw (past, none)

    pub permitted_none : permitted (gathered ps m) (gather_origins ps from) s ≡ Err (off_layer s)
    permitted_none = rw (past, none)

    pub takes_none : takes_writes (gathered ps m) s ≡ false
    takes_none = rw past

  -- what a write leaves
  gathered_written : (m : Model) (s t : ℕ) (bytes : List ℕ) (m' : Model) → place ps s ≡ Some t → Written m t bytes m' → Written (gathered ps m) s bytes (gathered ps m')
  gathered_written m s t bytes m' at w = record {
    count = ap (reached ps) w.count;
    writable = ap {B = ℕ → Bool} (λ (f : ℕ → Bool) (u : ℕ). via (place ps u) false f) w.writable;
    tally = w.tally;
    newest = ap (λ (p : Option ℕ). (via p nowhere m'.contents).newest) at ∙ w.newest;
    earlier = subst (λ (p : Option ℕ). Sublist (via p nowhere m'.contents).earlier (listed (via p nowhere m.contents))) (sym at) w.earlier;
    others = λ u other. elsewhere u other (place ps u) refl;
  }
    where
      elsewhere : (u : ℕ) → (u ≢ s) → (p : Option ℕ) → place ps u ≡ p → Dropped (via p nowhere m.contents) (via p nowhere m'.contents)
      elsewhere u other None e = dropped_none nowhere
      elsewhere u other (Some v) e = w.others v (λ same. other (place_one 0 ps u s t ordered (e ∙ ap {B = Option ℕ} Some same) at))

  pub gathered_after : (m : Model) (s t : ℕ) (bytes : List ℕ) (m' : Model) (r : Answer) → place ps s ≡ Some t → AfterWrite m t bytes m' r → AfterWrite (gathered ps m) s bytes (gathered ps m') (handed_up r)
  gathered_after m s t bytes m' (Ok x) at w = gathered_written m s t bytes m' at w
  gathered_after m s t bytes m' (Err f) at same = ap (gathered ps) same

  -- what a cut leaves
  gathered_cut : (m m' : Model) → Cut m m' → Cut (gathered ps m) (gathered ps m')
  gathered_cut m m' k = record {
    count = ap (reached ps) k.count;
    writable = ap {B = ℕ → Bool} (λ (f : ℕ → Bool) (u : ℕ). via (place ps u) false f) k.writable;
    single = λ s. one (place ps s);
    left = λ s. some_left (place ps s);
  }
    where
      one : (p : Option ℕ) → (via p nowhere m'.contents).earlier ≡ []
      one None = refl
      one (Some t) = k.single t

      some_left : (p : Option ℕ) → Left (via p nowhere m.contents) (via p nowhere m'.contents).newest
      some_left None = Left.listed_before (inl refl)
      some_left (Some t) = k.left t

  gathered_cut_in_write : (m : Model) (s t : ℕ) (bytes : List ℕ) (m' : Model) → place ps s ≡ Some t → CutInWrite m t bytes m' → CutInWrite (gathered ps m) s bytes (gathered ps m')
  gathered_cut_in_write m s t bytes m' at k = record {
    under_way = takes_some m (λ _ u. own_origin u) s t at ∙ k.under_way;
    count = ap (reached ps) k.count;
    writable = ap {B = ℕ → Bool} (λ (f : ℕ → Bool) (u : ℕ). via (place ps u) false f) k.writable;
    single = λ u. one (place ps u);
    written = subst (λ (p : Option ℕ). LeftOfWrite (via p nowhere m.contents) bytes (via p nowhere m'.contents).newest) (sym at) k.written;
    others = λ u other. elsewhere u other (place ps u) refl;
  }
    where
      one : (p : Option ℕ) → (via p nowhere m'.contents).earlier ≡ []
      one None = refl
      one (Some u) = k.single u

      elsewhere : (u : ℕ) → (u ≢ s) → (p : Option ℕ) → place ps u ≡ p → Left (via p nowhere m.contents) (via p nowhere m'.contents).newest
      elsewhere u other None e = Left.listed_before (inl refl)
      elsewhere u other (Some v) e = k.others v (λ same. other (place_one 0 ps u s t ordered (e ∙ ap {B = Option ℕ} Some same) at))

  pub cuts_rise : CutsRise ps
  cuts_rise = record { between = gathered_cut; in_write = gathered_cut_in_write }

  -- the layer is sound where the device below is
  pub gathered_sound : (m : Model) → Sound m → Sound (gathered ps m)
  gathered_sound m sound = record {
    count = let most = reached_most 0 ps m.count ordered (omega arith) in let below = sound.count in omega arith;
    tally = sound.tally;
    whole = λ s. all_whole (place ps s);
    past = λ s le. nothing s le (place ps s) refl;
  }
    where
      all_whole : (p : Option ℕ) → AllByRecursion Whole (listed (via p nowhere m.contents))
      all_whole None = (tt, tt)
      all_whole (Some t) = sound.whole t

      nothing : (s : ℕ) → reached ps m.count ≤ s → (p : Option ℕ) → place ps s ≡ p → via p nowhere m.contents ≡ nowhere
      nothing s le None e = refl
      nothing s le (Some t) e = sound.past t (ltb-false t m.count (sym (reached_as ps m.count s t ordered e) ∙ le-ltb s (reached ps m.count) le))

  -- the layer keeps the meaning of a device
  pub gathered_keeps : Keeps (gathered ps) (gather_origins ps) (reached ps) (gather_source ps) (λ n s. gather_source ps s)
  gathered_keeps = record {
    counted = λ m n e. ap (reached ps) e;
    tally = λ m. refl;
    takes = λ m s. takes m s (place ps s) refl;
    read = λ m from s area. read m from s area (place ps s) refl;
    permits = λ m from s. permits m from s (place ps s) refl;
    written = λ m s t bytes m' r to. gathered_after m s t bytes m' r (found s t (place ps s) refl to);
    settles = λ m. same_model (gathered ps (settled m)) (settled (gathered ps m)) refl (fun_ext (λ s. settles m (place ps s))) refl refl;
    sound = gathered_sound;
  }
    where
      takes : (m : Model) (s : ℕ) (p : Option ℕ) → place ps s ≡ p → takes_writes (gathered ps m) s ≡ takes_there (via p (Err (off_layer s)) (λ t. Ok t)) m
      takes m s None e = takes_none m (λ _ u. own_origin u) s e
      takes m s (Some t) e = takes_some m (λ _ u. own_origin u) s t e

      read : (m : Model) (from : Origins) (s : ℕ) (area : List ℕ) (p : Option ℕ) → place ps s ≡ p → ◌≡◌ {A = Answer × List ℕ} (reading (gathered ps m) (gather_origins ps from) s area) (read_there (via p (Err (off_layer s)) (λ t. Ok t)) m from area)
      read m from s area None e = reading_none m from s e area
      read m from s area (Some t) e = reading_some m from s t e area

      permits : (m : Model) (from : Origins) (s : ℕ) (p : Option ℕ) → place ps s ≡ p → permitted (gathered ps m) (gather_origins ps from) s ≡ permitted_there (via p (Err (off_layer s)) (λ t. Ok t)) m from
      permits m from s None e = permitted_none m from s e
      permits m from s (Some t) e = permitted_some m from s t e

      found : (s t : ℕ) (p : Option ℕ) → place ps s ≡ p → ◌≡◌ {A = Passed} (via p (Err (off_layer s)) (λ t. Ok t)) (Ok t) → place ps s ≡ Some t
      found s t None e to = cc
      found s t (Some u) e to = cc

      settles : (m : Model) (p : Option ℕ) → via p nowhere (λ t. only (m.contents t).newest) ≡ only (via p nowhere m.contents).newest
      settles m None = refl
      settles m (Some t) = refl
