-- Sectors that lie one behind the other in a run of bytes.
use Rattle.std.specs.Prelude.{ℕ, ◌*◌, ◌/◌, min, true, cond, List, length, Some, None, Option, nat_lt}
use Rattle.octets.specs.Fields.{part, put}
use Rattle.descriptor.specs.Limits.{sector_bytes}
use Rattle.device.specs.Content.{Content, unreadable, holding, only}
use Rattle.device.specs.Faults.{Origins, origin_in, arising}
use Rattle.device.specs.Model.{Model}
use Rattle.device.specs.declared.fault.DeviceFault.{DeviceFault}
use Rattle.device.specs.declared.fault.Layer.{Layer}
use Rattle.device.specs.declared.fault.Layer.TheVariants.{Image}
use Rattle.device.specs.declared.fault.Reason.TheVariants.{OffDevice}

-- how many whole sectors there are, up to #FFFFFFFF
abbrev pub count_of : List ℕ → ℕ
count_of bs = min (length bs / sector_bytes) 4294967295

-- the bytes of a sector
abbrev pub sector_of : List ℕ → ℕ → List ℕ
sector_of bs s = part bs (sector_bytes * s) sector_bytes

-- what a sector holds: its bytes, or from the count on nothing that can be read
unfoldable pub landed : List ℕ → ℕ → Content
landed bs s = cond (nat_lt s (count_of bs)) (holding (sector_of bs s)) unreadable

-- the run after a sector was put into it
abbrev pub stored : ℕ → List ℕ → List ℕ → List ℕ
stored s bytes bs = put (sector_bytes * s) bytes bs

-- a sector's bytes, if there is one
abbrev pub getting : List ℕ → ℕ → Option (List ℕ)
getting bs s = cond (nat_lt s (count_of bs)) (Some (sector_of bs s)) None

-- whether there is such a sector, and the run after the sector was put into it
abbrev pub putting : ℕ → List ℕ → List ℕ → Option (Unit {0}) × List ℕ
putting s bytes bs = cond (nat_lt s (count_of bs)) (Some tt, stored s bytes bs) (None, bs)

-- a device on which every write lands at once: each list has one content, and every sector takes writes
abbrev pub image_model : List ℕ → ℕ → Model
image_model bs tally = record {
  count = count_of bs;
  contents = λ s. only (landed bs s);
  writable = λ _. true;
  tally = tally;
}

-- the refusals of a device at the bottom: no layer lies above it, and it numbers sectors as its caller does
abbrev pub origins_at : Layer → Origins
origins_at layer why s = origin_in layer s

abbrev pub off_device : Layer → ℕ → DeviceFault
off_device layer s = arising OffDevice layer s

abbrev pub image_origins : Origins
image_origins = origins_at Image
