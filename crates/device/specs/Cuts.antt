-- What a power cut may leave of a device. The tally may then be anything.
use Rattle.std.specs.Prelude.{◌≡◌, ℕ, ◌<◌, true, cond, ◌⊎◌, List, [], ◌∷◌, length, ◌==◌, ◌≢◌}
use Rattle.device.specs.Content.{Content, Contents, holding, listed, followed}
use Rattle.device.specs.Model.{Model, takes_writes}
use Rattle.device.specs.Calls.{Dropped, Written, counted, settled}
use Rattle.device.specs.Torn.{Torn}

-- an element of a list
abbrev pub Among : {A : Type 0} → A → List A → Type 0
Among x [] = ⊥
Among x (y ∷ ys) = (x ≡ y) ⊎ Among x ys

-- what may be left of a sector: a content of its list; or a torn one, if its list was longer than one
pub data Left (c : Contents) (x : Content) : Type 0 where
  listed_before : Among x (listed c) → Left c x
  torn_since : 0 < length c.earlier → Torn x → Left c x

-- what may be left of the sector that was being written: a content of its list, a torn one, or the new bytes
pub data LeftOfWrite (c : Contents) (bytes : List ℕ) (x : Content) : Type 0 where
  listed_before : Among x (listed c) → LeftOfWrite c bytes x
  torn_under_way : Torn x → LeftOfWrite c bytes x
  landed : x ≡ holding bytes → LeftOfWrite c bytes x

-- m' is what a cut between two calls may leave of m
pub record Cut (m m' : Model) : Type 0 where
  pub count : m'.count ≡ m.count
  pub writable : m'.writable ≡ m.writable
  pub single : (s : ℕ) → (m'.contents s).earlier ≡ []
  pub left : (s : ℕ) → Left (m.contents s) (m'.contents s).newest

-- m' is what a cut in a write to sector s may leave of m; a write that is refused is not under way
pub record CutInWrite (m : Model) (s : ℕ) (bytes : List ℕ) (m' : Model) : Type 0 where
  pub under_way : takes_writes m s ≡ true
  pub count : m'.count ≡ m.count
  pub writable : m'.writable ≡ m.writable
  pub single : (t : ℕ) → (m'.contents t).earlier ≡ []
  pub written : LeftOfWrite (m.contents s) bytes (m'.contents s).newest
  pub others : (t : ℕ) → (t ≢ s) → Left (m.contents t) (m'.contents t).newest

-- a settle under way: some earlier contents have been dropped
pub record Settling (m m' : Model) : Type 0 where
  pub count : m'.count ≡ m.count
  pub writable : m'.writable ≡ m.writable
  pub contents : (s : ℕ) → Dropped (m.contents s) (m'.contents s)

-- the write that drops nothing
abbrev pub written : Model → ℕ → List ℕ → Model
written m s bytes = record {
  count = m.count;
  contents = λ t. cond (t == s) (followed (m.contents t) (holding bytes)) (m.contents t);
  writable = m.writable;
  tally = counted m.tally;
}

-- how cuts and calls go together
pub record CutLaws : Type 0 where
  -- a cut in a settle, or after it, is one that could have come before it
  pub in_settle : (m m₁ m' : Model) → Settling m m₁ → Cut m₁ m' → Cut m m'
  pub after_settle : (m m' : Model) → Cut (settled m) m' → Cut m m'
  -- once all is settled, a cut changes nothing
  pub settled_stays : (m m' : Model) → Cut (settled m) m' → m'.contents ≡ (settled m).contents
  -- a cut before a write, or after it, is one that could have come in it
  pub before_write : (m : Model) (s : ℕ) (bytes : List ℕ) (m' : Model) → takes_writes m s ≡ true → Cut m m' → CutInWrite m s bytes m'
  pub after_write : (m : Model) (s : ℕ) (bytes : List ℕ) (m₁ m' : Model) → takes_writes m s ≡ true → Written m s bytes m₁ → Cut m₁ m' → CutInWrite m s bytes m'
  -- a cut in a write is one of the device after that write, where it dropped nothing; and it may drop nothing
  pub in_write : (m : Model) (s : ℕ) (bytes : List ℕ) (m' : Model) → CutInWrite m s bytes m' → Cut (written m s bytes) m'
  pub nothing_dropped : (m : Model) (s : ℕ) (bytes : List ℕ) → Written m s bytes (written m s bytes)
