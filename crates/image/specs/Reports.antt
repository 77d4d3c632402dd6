-- What the tool prints of a sector, and how it counts.
use Rattle.std.specs.Prelude.{◌≡◌, ℕ, ◌+◌, ◌^◌, ◌<◌, Bool, true, false}
use Rattle.inspection.specs.Counts.{all_met}
use Rattle.inspection.specs.Findings.{Found, descriptor, structure, refused, blank, other}
use Rattle.inspection.specs.declared.summary.Summary.{Summary}
use Rattle.image.specs.declared.fault.Fault.{Fault}
use Rattle.image.specs.declared.fault.Fault.TheVariants as case

-- whether a finding is worth a line
abbrev pub told : Found → Bool
told (descriptor p d) = true
told (structure s) = true
told (refused f) = true
told blank = false
told other = false

-- n sectors more were met, each counted once, as far as 64 bits count
abbrev pub Met : ℕ → Summary → Summary → Type 0
Met n before after = all_met before + n < 2 ^ 64 → all_met after ≡ all_met before + n

-- a file that ends inside a sector has some bytes of it, and not all
abbrev pub Cut : Fault → Type 0
Cut (case.Io e) = Unit {0}
Cut (case.OffLimits limit) = Unit {0}
Cut case.Empty = Unit {0}
Cut (case.Partial sector bytes) = (0 < bytes) × (bytes < 2048)
Cut case.TooLong = Unit {0}
Cut case.Usage = Unit {0}
