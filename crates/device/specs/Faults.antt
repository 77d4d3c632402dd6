-- The refusals of a device: their numbers, and where they arise.
use Rattle.std.specs.Prelude.{ℕ, ◌+◌, min, Ok, Err, Result}
use Rattle.device.specs.declared.fault.Reason.{Reason}
use Rattle.device.specs.declared.fault.Reason.TheVariants.{OffDevice, Unreadable, TakesNoWrites}
use Rattle.device.specs.declared.fault.Layer.{Layer}
use Rattle.device.specs.declared.fault.Origin.{Origin}
use Rattle.device.specs.declared.fault.DeviceFault.{DeviceFault}

-- the number of each refusal
abbrev pub reason_number : Reason → ℕ
reason_number OffDevice = 1
reason_number Unreadable = 2
reason_number TakesNoWrites = 3

abbrev pub number_of : DeviceFault → ℕ
number_of f = reason_number f.reason

-- an origin in a layer itself: no layer lies above it, and it numbers sectors as its caller does
abbrev pub origin_in : Layer → ℕ → Origin
origin_in layer s = record { layer = layer; depth = 0; sector = s }

-- a refusal that arises in a layer itself
abbrev pub arising : Reason → Layer → ℕ → DeviceFault
arising why layer s = record { reason = why; origin = origin_in layer s }

-- where a device's refusals arise: for a reason and a sector asked for, the layer that refuses and its own sector
abbrev pub Origins : Type 0
Origins = Reason → ℕ → Origin

-- an origin, seen from one layer higher: one more layer lies above it, counted up to 255
abbrev pub deeper : Origin → Origin
deeper o = record o { depth = min (o.depth + 1) 255 }

-- a fault that a layer passes on
abbrev pub passed_on : DeviceFault → DeviceFault
passed_on f = record f { origin = deeper f.origin }

-- what a layer hands up of the answer below
abbrev pub handed_up : Result (Unit {0}) DeviceFault → Result (Unit {0}) DeviceFault
handed_up (Ok accepted) = Ok accepted
handed_up (Err fault) = Err (passed_on fault)
