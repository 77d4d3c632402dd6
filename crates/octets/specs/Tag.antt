-- The check sum of a descriptor tag.
use Rattle.std.specs.Prelude.{ℕ, ◌%◌, List, ◌++◌, take, drop, sum}

-- the sum modulo 256 of a tag's bytes, all but byte 4, where the sum itself stands
unfoldable pub tag_sum : List ℕ → ℕ
tag_sum tag = sum (take 4 tag ++ drop 5 tag) % 256
