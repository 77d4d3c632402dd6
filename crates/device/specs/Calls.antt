-- The calls of a device: what each answers, and what it leaves.
use Rattle.std.specs.Prelude.{◌≡◌, ℕ, ◌+◌, ◌%◌, ◌^◌, cond, List, [], ◌∷◌, Ok, Err, Result, ◌≢◌, nat_lt}
use Rattle.device.specs.declared.fault.Reason.{Reason}
use Rattle.device.specs.declared.fault.Reason.TheVariants.{OffDevice, Unreadable, TakesNoWrites}
use Rattle.device.specs.declared.fault.DeviceFault.{DeviceFault}
use Rattle.device.specs.Content.{Content, Contents, unreadable, holding, listed, only}
use Rattle.device.specs.Model.{Model}
use Rattle.device.specs.Faults.{Origins}

-- what a read or a write answers
abbrev pub Answer : Type 0
Answer = Result (Unit {0}) DeviceFault

abbrev pub refused : Origins → Reason → ℕ → Answer
refused from why s = Err (record { reason = why; origin = from why s })

-- a read's answer and the caller's area after it: filled with the newest content, or left as it was
abbrev pub filled : Origins → ℕ → List ℕ → Content → Answer × List ℕ
filled from s area (holding bytes) = (Ok tt, bytes)
filled from s area unreadable = (refused from Unreadable s, area)

abbrev pub reading : Model → Origins → ℕ → List ℕ → Answer × List ℕ
reading m from s area = cond (nat_lt s m.count) (filled from s area (m.contents s).newest) (refused from OffDevice s, area)

-- a write's answer
abbrev pub permitted : Model → Origins → ℕ → Answer
permitted m from s = cond (nat_lt s m.count) (cond (m.writable s) (Ok tt) (refused from TakesNoWrites s)) (refused from OffDevice s)

-- the tally after one more write or settle: 64 bits, which wrap
abbrev pub counted : ℕ → ℕ
counted n = (n + 1) % 2 ^ 64

-- the first list is the second with some elements, or none, left out
pub data Sublist {A : Type 0} : List A → List A → Type 0 where
  done : Sublist [] []
  skip : {x : A} {xs ys : List A} → Sublist xs ys → Sublist xs (x ∷ ys)
  keep : {x : A} {xs ys : List A} → Sublist xs ys → Sublist (x ∷ xs) (x ∷ ys)

-- a list from which contents may have been dropped, but never the newest
pub record Dropped (before after : Contents) : Type 0 where
  pub newest : after.newest ≡ before.newest
  pub earlier : Sublist after.earlier before.earlier

-- an accepted write puts its bytes last in the sector's list. It may drop earlier contents of any list, never another
-- sector's newest: which ones it drops is the device's free choice, and the only one
pub record Written (m : Model) (s : ℕ) (bytes : List ℕ) (m' : Model) : Type 0 where
  pub count : m'.count ≡ m.count
  pub writable : m'.writable ≡ m.writable
  pub tally : m'.tally ≡ counted m.tally
  pub newest : (m'.contents s).newest ≡ holding bytes
  pub earlier : Sublist (m'.contents s).earlier (listed (m.contents s))
  pub others : (t : ℕ) → (t ≢ s) → Dropped (m.contents t) (m'.contents t)

-- what a write leaves, by its answer: a refused one changes nothing
abbrev pub AfterWrite : Model → ℕ → List ℕ → Model → Answer → Type 0
AfterWrite m s bytes m' (Ok accepted) = Written m s bytes m'
AfterWrite m s bytes m' (Err fault) = m' ≡ m

-- what a settle leaves: each list cut to its newest content
abbrev pub settled : Model → Model
settled m = record m { contents = λ s. only (m.contents s).newest; tally = counted m.tally }
