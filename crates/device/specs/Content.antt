-- What a sector of a device holds, and the list of its contents.
use Rattle.std.specs.Prelude.{◌≡◌, ℕ, List, [], ◌∷◌, ◌++◌, length}
use Rattle.descriptor.specs.Limits.{sector_bytes}

-- a content: the 2,048 bytes of a sector, or the mark that they cannot be read
pub data Content : Type 0 where
  unreadable : Content
  holding : (bytes : List ℕ) → Content

-- a list of one or more contents, the newest last: those before it, the oldest first, and the newest
pub record Contents : Type 0 where
  pub earlier : List Content
  pub newest : Content

abbrev pub listed : Contents → List Content
listed c = c.earlier ++ c.newest ∷ []

-- a list of one content
abbrev pub only : Content → Contents
only x = record { earlier = []; newest = x }

-- a list with one more content behind it
abbrev pub followed : Contents → Content → Contents
followed c x = record { earlier = listed c; newest = x }

-- a content that can be read has the bytes of a sector
abbrev pub Whole : Content → Type 0
Whole unreadable = Unit {0}
Whole (holding bytes) = length bytes ≡ sector_bytes
