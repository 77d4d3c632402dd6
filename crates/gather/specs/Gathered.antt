-- The meaning of the gather layer, worked out from that of the device below.
use Rattle.std.specs.Prelude.{◌≡◌, ℕ, false, List, Some, None, Ok, Err, Option}
use Rattle.device.specs.declared.fault.DeviceFault.{DeviceFault}
use Rattle.device.specs.declared.fault.Origin.{Origin}
use Rattle.device.specs.declared.fault.Reason.TheVariants.{OffDevice}
use Rattle.device.specs.declared.fault.Layer.TheVariants.{Gather}
use Rattle.device.specs.Model.{Model, nowhere}
use Rattle.device.specs.Faults.{Origins, origin_in, arising, deeper}
use Rattle.device.specs.Cuts.{Cut, CutInWrite}
use Rattle.pairs.specs.declared.pair.Pair.{Pair}
use Rattle.pairs.specs.Pairs.{place, reached}
use Rattle.layer.specs.Kept.{Passed}

-- something of the sector below, if there is one
abbrev pub via : {A : Type 0} → Option ℕ → A → (ℕ → A) → A
via (Some t) none f = f t
via None none f = none

-- the layer's sectors are those of its pairs in order, as far as the device below has them; lists and tally are those below
abbrev pub gathered : List Pair → Model → Model
gathered ps m = record {
  count = reached ps m.count;
  contents = λ s. via (place ps s) nowhere m.contents;
  writable = λ s. via (place ps s) false m.writable;
  tally = m.tally;
}

-- the layer refuses a sector that no pair has; any other refusal arises below
abbrev pub own_origin : ℕ → Origin
own_origin s = origin_in Gather s

abbrev pub gather_origins : List Pair → Origins → Origins
gather_origins ps below why s = via (place ps s) (own_origin s) (λ t. deeper (below why t))

abbrev pub off_layer : ℕ → DeviceFault
off_layer s = arising OffDevice Gather s

-- a call goes to the sector below, if there is one
abbrev pub gather_source : List Pair → ℕ → Passed
gather_source ps s = via (place ps s) (Err (off_layer s)) (λ t. Ok t)

-- every cut below is a cut of the layer: between calls, and in the write below that a write of the layer makes
pub record CutsRise (ps : List Pair) : Type 0 where
  pub between : (m m' : Model) → Cut m m' → Cut (gathered ps m) (gathered ps m')
  pub in_write : (m : Model) (s t : ℕ) (bytes : List ℕ) (m' : Model) → place ps s ≡ Some t → CutInWrite m t bytes m' → CutInWrite (gathered ps m) s bytes (gathered ps m')
