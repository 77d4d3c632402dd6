-- A table: rows of one width, one after the other.
use Rattle.std.specs.Prelude.{ℕ, zero, suc, ◌/◌, List, [], ◌∷◌, length, take, drop}

-- the first n rows of a table
unfoldable pub rows : ℕ → ℕ → List ℕ → List (List ℕ)
rows width zero bs = []
rows width (suc n) bs = take width bs ∷ rows width n (drop width bs)

-- a table's whole rows
abbrev pub whole_rows : ℕ → List ℕ → List (List ℕ)
whole_rows width bs = rows width (length bs / width) bs
