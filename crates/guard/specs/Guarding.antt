-- The guard layer keeps the meaning of a device, and a cut below is a cut of the layer.
-- Assumes nothing.
use Rattle.std.specs.Prelude.{◌≡◌, ℕ, Bool, true, false, cond, not, ◌&&◌, ltb, List, Ok, Err, Result, IfOk, nat_lt, refl}
use Rattle.std.proofs.Common.{⊎_elim, sym, ap, subst}
use Rattle.std.proofs.lemmas.Bool.{and_parts, and_cases}
use Rattle.device.specs.declared.fault.Reason.TheVariants.{OffDevice, TakesNoWrites}
use Rattle.device.specs.Content.{Content, unreadable, holding}
use Rattle.device.specs.Model.{Model, Sound, takes_writes}
use Rattle.device.specs.Faults.{Origins, deeper, handed_up}
use Rattle.device.specs.Calls.{Answer, refused, filled, reading, permitted, AfterWrite}
use Rattle.device.specs.Cuts.{Cut, CutInWrite}
use Rattle.pairs.specs.declared.pair.Pair.{Pair}
use Rattle.pairs.specs.declared.fault.PairFault.{PairFault}
use Rattle.pairs.specs.Law.{Adding}
use Rattle.pairs.specs.Pairs.{in_order, within}
use Rattle.layer.specs.Kept.{Passed, takes_there, permitted_there, Keeps}
use Rattle.guard.specs.Guarded.{guarded, guard_origins, inside_pair, guard_target, CutsRise}

module _ (ps : List Pair) (m : Model) (from : Origins) (s : ℕ) where
  -- a sector takes writes if it does below and lies inside no pair
  pub takes_guarded : takes_writes (guarded ps m) s ≡ (takes_writes m s && not (within ps s))
  takes_guarded = go (nat_lt s m.count)
    where
      go : (b : Bool) → (b && (m.writable s && not (within ps s))) ≡ ((b && m.writable s) && not (within ps s))
      go true = refl
      go false = refl

  -- a read is the read below
  pub reading_guarded : (area : List ℕ) → ◌≡◌ {A = Answer × List ℕ} (reading (guarded ps m) (guard_origins ps from) s area) (handed_up (reading m from s area).0, (reading m from s area).1)
  reading_guarded area = go (nat_lt s m.count) (m.contents s).newest
    where
      go : (b : Bool) (c : Content) → ◌≡◌ {A = Answer × List ℕ} (cond b (filled (guard_origins ps from) s area c) (refused (guard_origins ps from) OffDevice s, area)) (handed_up (cond b (filled from s area c) (refused from OffDevice s, area)).0, (cond b (filled from s area c) (refused from OffDevice s, area)).1)
      go true unreadable = refl
      go true (holding bytes) = refl
      go false c = refl

  -- a write inside a pair is refused
  pub permitted_inside : (nat_lt s m.count && within ps s) ≡ true → permitted (guarded ps m) (guard_origins ps from) s ≡ Err (inside_pair s)
  permitted_inside both = let parts = and_parts (nat_lt s m.count) (within ps s) both in rw (parts.0, parts.1) (no_way (m.writable s))
    where
      no_way : (w : Bool) → ◌≡◌ {A = Answer} (cond (w && false) (Ok tt) (Err (inside_pair s))) (Err (inside_pair s))
      no_way true = refl
      no_way false = refl

  -- any other write is the write below
  outside : within ps s ≡ false → permitted (guarded ps m) (guard_origins ps from) s ≡ handed_up (permitted m from s)
  outside g = rw g (go (nat_lt s m.count) (m.writable s))
    where
      go : (b w : Bool) → ◌≡◌ {A = Answer} (cond b (cond (w && true) (Ok tt) (refused (λ why t. deeper (from why t)) TakesNoWrites s)) (refused (λ why t. deeper (from why t)) OffDevice s)) (handed_up (cond b (cond w (Ok tt) (refused from TakesNoWrites s)) (refused from OffDevice s)))
      go true true = refl
      go true false = refl
      go false w = refl

  past : ltb s m.count ≡ false → permitted (guarded ps m) (guard_origins ps from) s ≡ handed_up (permitted m from s)
  past b = rw b

  pub permitted_outside : (nat_lt s m.count && within ps s) ≡ false → permitted (guarded ps m) (guard_origins ps from) s ≡ handed_up (permitted m from s)
  permitted_outside neither = ⊎_elim past outside (and_cases (nat_lt s m.count) (within ps s) neither)

-- what a write and a cut leave
module _ (ps : List Pair) where
  pub guarded_after : (m : Model) (s : ℕ) (bytes : List ℕ) (m' : Model) (r : Answer) → AfterWrite m s bytes m' r → AfterWrite (guarded ps m) s bytes (guarded ps m') (handed_up r)
  guarded_after m s bytes m' (Ok x) w = record {
    count = w.count;
    writable = ap {B = ℕ → Bool} (λ (f : ℕ → Bool) (t : ℕ). f t && not (within ps t)) w.writable;
    tally = w.tally;
    newest = w.newest;
    earlier = w.earlier;
    others = w.others;
  }
  guarded_after m s bytes m' (Err f) same = ap (guarded ps) same

  guarded_cut : (m m' : Model) → Cut m m' → Cut (guarded ps m) (guarded ps m')
  guarded_cut m m' k = record {
    count = k.count;
    writable = ap {B = ℕ → Bool} (λ (f : ℕ → Bool) (t : ℕ). f t && not (within ps t)) k.writable;
    single = k.single;
    left = k.left;
  }

  guarded_cut_in_write : (m : Model) (s : ℕ) (bytes : List ℕ) (m' : Model) → takes_writes (guarded ps m) s ≡ true → CutInWrite m s bytes m' → CutInWrite (guarded ps m) s bytes (guarded ps m')
  guarded_cut_in_write m s bytes m' takes k = record {
    under_way = takes;
    count = k.count;
    writable = ap {B = ℕ → Bool} (λ (f : ℕ → Bool) (t : ℕ). f t && not (within ps t)) k.writable;
    single = k.single;
    written = k.written;
    others = k.others;
  }

  pub cuts_rise : CutsRise ps
  cuts_rise = record { between = guarded_cut; in_write = guarded_cut_in_write }

  -- the layer is sound where the device below is
  pub guarded_sound : (m : Model) → Sound m → Sound (guarded ps m)
  guarded_sound m sound = record { count = sound.count; tally = sound.tally; whole = sound.whole; past = sound.past }

  -- the layer keeps the meaning of a device
  pub guarded_keeps : Keeps (guarded ps) (guard_origins ps) (λ n. n) (λ s. Ok s) (guard_target ps)
  guarded_keeps = record {
    counted = λ m n e. e;
    tally = λ m. refl;
    takes = λ m s. takes m s (nat_lt s m.count) (m.writable s) (within ps s) refl;
    read = λ m from s area. reading_guarded ps m from s area;
    permits = λ m from s. permits m from s (nat_lt s m.count && within ps s) refl;
    written = λ m s t bytes m' r to. written m s t bytes m' r (nat_lt s m.count && within ps s) to;
    settles = λ m. refl;
    sound = guarded_sound;
  }
    where
      takes : (m : Model) (s : ℕ) (b w g : Bool) → takes_writes m s ≡ (b && w) → (b && (w && not g)) ≡ takes_there (cond (b && g) (Err (inside_pair s)) (Ok s)) m
      takes m s true true true below = refl
      takes m s true true false below = sym below
      takes m s true false true below = refl
      takes m s true false false below = sym below
      takes m s false w g below = sym below

      permits : (m : Model) (from : Origins) (s : ℕ) (b : Bool) → (nat_lt s m.count && within ps s) ≡ b → permitted (guarded ps m) (guard_origins ps from) s ≡ permitted_there (cond b (Err (inside_pair s)) (Ok s)) m from
      permits m from s true e = permitted_inside ps m from s e
      permits m from s false e = permitted_outside ps m from s e

      written : (m : Model) (s t : ℕ) (bytes : List ℕ) (m' : Model) (r : Answer) (b : Bool) → ◌≡◌ {A = Passed} (cond b (Err (inside_pair s)) (Ok s)) (Ok t) → AfterWrite m t bytes m' r → AfterWrite (guarded ps m) s bytes (guarded ps m') (handed_up r)
      written m s t bytes m' r true to w = absurd cc
      written m s t bytes m' r false to w = let same : t ≡ s = cc in guarded_after m s bytes m' r (subst (λ (u : ℕ). AfterWrite m u bytes m' r) same w)

-- a guard layer has all sectors of the device below
pub guarded_whole : (ps : List Pair) (p : Pair) (n : ℕ) (r : Result (Unit {0}) PairFault) (after : List Pair) → Adding ps p n r after → in_order 0 after ≡ true → IfOk r (λ _. ◌≡◌ {A = ℕ} n n)
guarded_whole ps p n (Ok x) after law h = refl
guarded_whole ps p n (Err f) after law h = tt
