-- How the calls of a layer follow from those of the device below.
use Rattle.std.specs.Prelude.{◌≡◌, ℕ, Bool, false, List, Ok, Err, Result}
use Rattle.device.specs.declared.fault.DeviceFault.{DeviceFault}
use Rattle.device.specs.Model.{Model, Sound, takes_writes}
use Rattle.device.specs.Faults.{Origins, handed_up}
use Rattle.device.specs.Calls.{Answer, reading, permitted, AfterWrite, settled}

-- where a call is passed on to: a sector below; or the refusal of the layer itself
abbrev pub Passed : Type 0
Passed = Result ℕ DeviceFault

-- a read there, as the layer hands it up; where the layer refuses, the area stays as it was
abbrev pub read_there : Passed → Model → Origins → List ℕ → Answer × List ℕ
read_there (Ok t) m from area = (handed_up (reading m from t area).0, (reading m from t area).1)
read_there (Err own) m from area = (Err own, area)

-- the answer of a write there
abbrev pub permitted_there : Passed → Model → Origins → Answer
permitted_there (Ok t) m from = handed_up (permitted m from t)
permitted_there (Err own) m from = Err own

-- whether the sector there takes writes
abbrev pub takes_there : Passed → Model → Bool
takes_there (Ok t) m = takes_writes m t
takes_there (Err own) m = false

-- a layer keeps the meaning of a device: over any device it is one, and its calls are those of the device below,
-- a read at the source of the sector, a write at its target, which may depend on how many sectors there are below
pub record Keeps (over : Model → Model) (origins : Origins → Origins) (count : ℕ → ℕ) (source : ℕ → Passed) (target : ℕ → ℕ → Passed) : Type 0 where
  pub counted : (m : Model) (n : ℕ) → m.count ≡ n → (over m).count ≡ count n
  pub tally : (m : Model) → (over m).tally ≡ m.tally
  pub takes : (m : Model) (s : ℕ) → takes_writes (over m) s ≡ takes_there (target m.count s) m
  pub read : (m : Model) (from : Origins) (s : ℕ) (area : List ℕ) → reading (over m) (origins from) s area ≡ read_there (source s) m from area
  pub permits : (m : Model) (from : Origins) (s : ℕ) → permitted (over m) (origins from) s ≡ permitted_there (target m.count s) m from
  pub written : (m : Model) (s t : ℕ) (bytes : List ℕ) (m' : Model) (r : Answer) → target m.count s ≡ Ok t → AfterWrite m t bytes m' r → AfterWrite (over m) s bytes (over m') (handed_up r)
  pub settles : (m : Model) → over (settled m) ≡ settled (over m)
  pub sound : (m : Model) → Sound m → Sound (over m)
