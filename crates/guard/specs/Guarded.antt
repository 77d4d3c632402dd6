-- The meaning of the guard layer, worked out from that of the device below.
use Rattle.std.specs.Prelude.{◌≡◌, ℕ, true, cond, not, ◌&&◌, List, Ok, Err, nat_lt}
use Rattle.device.specs.declared.fault.DeviceFault.{DeviceFault}
use Rattle.device.specs.declared.fault.Origin.{Origin}
use Rattle.device.specs.declared.fault.Reason.TheVariants.{OffDevice, Unreadable, TakesNoWrites}
use Rattle.device.specs.declared.fault.Layer.TheVariants.{Guard}
use Rattle.device.specs.Model.{Model, takes_writes}
use Rattle.device.specs.Faults.{Origins, origin_in, arising, deeper}
use Rattle.device.specs.Cuts.{Cut, CutInWrite}
use Rattle.pairs.specs.declared.pair.Pair.{Pair}
use Rattle.pairs.specs.Pairs.{within}
use Rattle.layer.specs.Kept.{Passed}

-- the device below, but no sector inside a pair takes writes
abbrev pub guarded : List Pair → Model → Model
guarded ps m = record m { writable = λ s. m.writable s && not (within ps s) }

-- the layer refuses a write inside a pair; any other refusal arises below
abbrev pub own_origin : ℕ → Origin
own_origin s = origin_in Guard s

abbrev pub guard_origins : List Pair → Origins → Origins
guard_origins ps below OffDevice s = deeper (below OffDevice s)
guard_origins ps below Unreadable s = deeper (below Unreadable s)
guard_origins ps below TakesNoWrites s = cond (within ps s) (own_origin s) (deeper (below TakesNoWrites s))

abbrev pub inside_pair : ℕ → DeviceFault
inside_pair s = arising TakesNoWrites Guard s

-- a write goes to its own sector, but not inside a pair, where there is such a sector
abbrev pub guard_target : List Pair → ℕ → ℕ → Passed
guard_target ps n s = cond (nat_lt s n && within ps s) (Err (inside_pair s)) (Ok s)

-- every cut below is a cut of the layer: between calls, and in the write below that a write of the layer makes
pub record CutsRise (ps : List Pair) : Type 0 where
  pub between : (m m' : Model) → Cut m m' → Cut (guarded ps m) (guarded ps m')
  pub in_write : (m : Model) (s : ℕ) (bytes : List ℕ) (m' : Model) → takes_writes (guarded ps m) s ≡ true → CutInWrite m s bytes m' → CutInWrite (guarded ps m) s bytes (guarded ps m')
