-- The image device: its model, its reads and its writes.
-- Assumes nothing.
use Rattle.std.specs.Prelude.{◌≡◌, ℕ, ◌^◌, ◌<◌, ◌≤◌, cond, List, length, Some, None, Option, Ok, nat_lt, refl}
use Rattle.std.specs.Borrow.{Bor}
use Rattle.std.specs.Option.{option_copied}
use Rattle.std.proofs.Common.{⊎_elim, sym, ap, ◌∙◌, subst, arith}
use Rattle.std.proofs.lemmas.Bool.{lt-ltb, le-ltb, cases_lt, cond-true, cond-false}
use Rattle.descriptor.specs.Limits.{sector_bytes}
use Rattle.device.specs.Content.{Whole, only}
use Rattle.device.specs.Faults.{Origins}
use Rattle.device.specs.Model.{Sound}
use Rattle.device.specs.declared.fault.Reason.TheVariants.{OffDevice}
use Rattle.device.specs.Calls.{Answer, refused, filled, reading, done, skip, Written, counted}
use Rattle.media.specs.Landed.{count_of, sector_of, landed, stored, getting, image_model}
use Rattle.media.specs.Sectors.{sector_long, landed_there, landed_past, landed_here, landed_elsewhere, count_stored}

-- a sector that is got is one below the count
pub got : (bs : List ℕ) (s : ℕ) (r : Option (Bor (List ℕ))) (y : Bor (List ℕ)) → option_copied r ≡ getting bs s → r ≡ Some y → (s < count_of bs) × (y.now ≡ sector_of bs s)
got bs s r y e some =
    ⊎_elim
    (λ h. let there = cond-true (nat_lt s (count_of bs)) (Some (sector_of bs s)) None (lt-ltb s (count_of bs) h) in (h, cc))
    (λ h. let past = cond-false (nat_lt s (count_of bs)) (Some (sector_of bs s)) None (le-ltb s (count_of bs) h) in absurd (cc))
    (cases_lt s (count_of bs))

-- and one that is not got is none below the count
pub missed : (bs : List ℕ) (s : ℕ) (r : Option (Bor (List ℕ))) → option_copied r ≡ getting bs s → r ≡ None → count_of bs ≤ s
missed bs s r e none =
    ⊎_elim
    (λ h. let there = cond-true (nat_lt s (count_of bs)) (Some (sector_of bs s)) None (lt-ltb s (count_of bs) h) in absurd (cc))
    (λ h. h)
    (cases_lt s (count_of bs))

-- an answer by a test, with what it leaves: where there is one the test passed, where there is none the test failed
module _ {X : Type 0} (s n : ℕ) (x y : X) (r : Option (Unit {0})) (z : X) (e : ◌≡◌ {A = Option (Unit {0}) × X} (r, z) (cond (nat_lt s n) (Some tt, x) (None, y))) where
  low : s < n → ◌≡◌ {A = Option (Unit {0}) × X} (r, z) (Some tt, x)
  low h = e ∙ cond-true (nat_lt s n) (Some tt, x) (None, y) (lt-ltb s n h)

  high : n ≤ s → ◌≡◌ {A = Option (Unit {0}) × X} (r, z) (None, y)
  high h = e ∙ cond-false (nat_lt s n) (Some tt, x) (None, y) (le-ltb s n h)

  pub passed : (u : Unit {0}) → r ≡ Some u → (s < n) × (z ≡ x)
  passed u some =
      ⊎_elim
      (λ h. (h, ap (λ (p : Option (Unit {0}) × X). p.1) (low h)))
      (λ h. let none = ap (λ (p : Option (Unit {0}) × X). p.0) (high h) in absurd (cc))
      (cases_lt s n)

  pub failed : r ≡ None → (n ≤ s) × (z ≡ y)
  failed none =
      ⊎_elim
      (λ h. let some = ap (λ (p : Option (Unit {0}) × X). p.0) (low h) in absurd (cc))
      (λ h. (h, ap (λ (p : Option (Unit {0}) × X). p.1) (high h)))
      (cases_lt s n)

-- what has landed in a sector has its bytes
pub landed_whole : (bs : List ℕ) (s : ℕ) → Whole (landed bs s)
landed_whole bs s =
    ⊎_elim
    (λ h. subst Whole (sym (landed_there bs s h)) (sector_long bs s h))
    (λ h. subst Whole (sym (landed_past bs s h)) tt)
    (cases_lt s (count_of bs))

pub image_sound : (bs : List ℕ) (tally : ℕ) → tally < 2 ^ 64 → Sound (image_model bs tally)
image_sound bs tally fits = record {
  count = omega arith;
  tally = fits;
  whole = λ s. (landed_whole bs s, tt);
  past = λ s h. ap only (landed_past bs s h);
}

-- a read that finds a sector
pub reading_there :
    (bs : List ℕ) (s tally : ℕ) (from : Origins) (area after : List ℕ) → s < count_of bs → after ≡ sector_of bs s →
    ◌≡◌ {A = Answer × List ℕ} (Ok tt, after) (reading (image_model bs tally) from s area)
reading_there bs s tally from area after h e =
    ap (λ (l : List ℕ). (Ok tt, l)) e
    ∙ (ap (filled from s area) (sym (landed_there bs s h))
    ∙ sym (cond-true (nat_lt s (count_of bs)) (filled from s area (landed bs s)) (refused from OffDevice s, area) (lt-ltb s (count_of bs) h)))

-- a write that lands
pub image_written :
    (bs : List ℕ) (s tally : ℕ) (bytes after : List ℕ) → s < count_of bs → length bytes ≡ sector_bytes → after ≡ stored s bytes bs →
    Written (image_model bs tally) s bytes (image_model after (counted tally))
image_written bs s tally bytes after h long e =
    subst (λ (l : List ℕ). Written (image_model bs tally) s bytes (image_model l (counted tally))) (sym e) (record {
      count = count_stored s bytes bs;
      writable = refl;
      tally = refl;
      newest = landed_here s bytes bs h long;
      earlier = skip done;
      others = λ t other. record { newest = landed_elsewhere s bytes bs long t other; earlier = done };
    })
