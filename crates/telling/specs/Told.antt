-- What is told of a read.
use Rattle.std.specs.Prelude.{ℕ, List, Ok, Err, Result}
use Rattle.octets.specs.Fields.{byte_at}
use Rattle.device.specs.declared.fault.DeviceFault.{DeviceFault}
use Rattle.device.specs.Calls.{Answer}

-- the first byte of what was read into an area, or the refusal
abbrev pub first_byte : Answer × List ℕ → Result ℕ DeviceFault
first_byte (Ok filled, area) = Ok (byte_at area 0)
first_byte (Err fault, area) = Err fault
