-- The meaning of a device: what it holds, as far as any call or power cut can tell.
use Rattle.std.specs.Prelude.{◌≡◌, ℕ, ◌^◌, ◌<◌, ◌≤◌, Bool, ◌&&◌, nat_lt}
use Rattle.std.specs.List.{AllByRecursion}
use Rattle.device.specs.Content.{Contents, Whole, unreadable, listed, only}

-- count: how many sectors it has; no call changes it
-- contents: each sector's list
-- writable: which sectors take writes, for good
-- tally: how many writes and settles it accepted, modulo 2^64
pub record Model : Type 0 where
  pub count : ℕ
  pub contents : ℕ → Contents
  pub writable : ℕ → Bool
  pub tally : ℕ

-- whether a sector takes writes: none does from the count on
abbrev pub takes_writes : Model → ℕ → Bool
takes_writes m s = nat_lt s m.count && m.writable s

-- what stands in a model from the count on, where there is no sector
abbrev pub nowhere : Contents
nowhere = only unreadable

-- a device's numbers have 32 and 64 bits, what can be read has the bytes of a sector, and from the count on there is nothing
pub record Sound (m : Model) : Type 0 where
  pub count : m.count < 2 ^ 32
  pub tally : m.tally < 2 ^ 64
  pub whole : (s : ℕ) → AllByRecursion Whole (listed (m.contents s))
  pub past : (s : ℕ) → m.count ≤ s → m.contents s ≡ nowhere
