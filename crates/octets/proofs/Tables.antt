-- Laws of tables, over the width of their rows.
-- Assumes nothing.
use Rattle.std.proofs.Common.{◌≡◌, ℕ, zero, suc, ◌+◌, ◌*◌, ◌/◌, ◌%◌, ◌<◌, ◌≤◌, List, [], ◌∷◌, ◌++◌, map, length, get_or, take, drop, Some, None, Option, sym, refl, ap, ◌∙◌, subst, le_of_suc-le-suc, not-suc-le-zero, suc-mul, zero-mul, mul-div_cancel, arith}
use Rattle.std.specs.List.{slice_get, flat_map, AllByRecursion}
use Rattle.std.proofs.ByRecursion.{All-more}
use Rattle.std.specs.Option.{option_map}
use Rattle.std.proofs.lemmas.Nat.{div-add-mod', mul-le}
use Rattle.std.proofs.lemmas.List.{length-append, take_at, drop_at, drop-drop, drop_more, take_more, flat_map_more, map-id}
use Rattle.std.proofs.lemmas.Option.{slice_get_past}
use Rattle.octets.specs.Rows.{rows, whole_rows}

-- a row of a table that has it lies inside the table
pub row_inside : (n width row : ℕ) → row < n / width → row * width + width ≤ n
row_inside n width row h =
    let a : suc row * width ≤ n / width * width = mul-le (suc row) width (n / width) width h (omega arith) in
    let b : suc row * width ≡ row * width + width = suc-mul row width in
    let d : n / width * width + n % width ≡ n = div-add-mod' n width in
    omega arith

pub length-rows : (width n : ℕ) (bs : List ℕ) → length (rows width n bs) ≡ n
unfolding rows
length-rows width zero bs = refl
length-rows width (suc n) bs = ap suc (length-rows width n (drop width bs))

-- the row at an index is the part of the table there
pub nth-rows : (width n row : ℕ) (bs : List ℕ) → row < n → slice_get (rows width n bs) row ≡ Some (take width (drop (row * width) bs))
unfolding rows
nth-rows width zero row bs h = absurd (not-suc-le-zero h)
nth-rows width (suc n) zero bs h = ap (λ (k : ℕ). Some (take width (drop k bs))) (sym (zero-mul width))
nth-rows width (suc n) (suc row) bs h =
    let e : width + row * width ≡ suc row * width = omega (arith, suc-mul row width) in
    nth-rows width n row (drop width bs) (le_of_suc-le-suc h)
    ∙ ap (λ (l : List ℕ). Some (take width l)) (drop-drop (row * width) width bs ∙ ap (λ (k : ℕ). drop k bs) e)

pub nth_rows_past : (width n row : ℕ) (bs : List ℕ) → n ≤ row → slice_get (rows width n bs) row ≡ None
nth_rows_past width n row bs h = slice_get_past (rows width n bs) row (omega (arith, length-rows width n bs))

-- a row read by a function, from the rows so read
pub nth-map : {A B : Type 0} (f : A → B) (xs : List A) (i : ℕ) → slice_get (map f xs) i ≡ option_map f (slice_get xs i)
nth-map f [] i = refl
nth-map f (x ∷ xs) zero = refl
nth-map f (x ∷ xs) (suc i) = nth-map f xs i

drop_nothing : (n : ℕ) → drop {A = ℕ} n [] ≡ []
drop_nothing zero = refl
drop_nothing (suc n) = refl

-- rows of one width, written one after the other, are read back, whatever the width
module _ {X : Type 0} (f : X → List ℕ) (width : ℕ) (each : (x : X) → length (f x) ≡ width) where
  pub length-joined : (xs : List X) → length (flat_map f xs) ≡ length xs * width
  length-joined [] = sym (zero-mul width)
  length-joined (x ∷ xs) =
      let a = length-append (f x) (flat_map f xs) in
      let b = length-joined xs in
      let e = each x in
      let s : suc (length xs) * width ≡ length xs * width + width = suc-mul (length xs) width in
      omega arith

  pub rows_back : (xs : List X) → rows width (length xs) (flat_map f xs) ≡ map f xs
  unfolding rows
  rows_back [] = refl
  rows_back (x ∷ xs) =
      ap (λ (row : List ℕ). row ∷ rows width (length xs) (drop width (f x ++ flat_map f xs))) (take_at (f x) (flat_map f xs) width (each x))
      ∙ ap (λ (row : List (List ℕ)). f x ∷ row) (ap (rows width (length xs)) (drop_at (f x) (flat_map f xs) width (each x)) ∙ rows_back xs)

  pub whole_rows_back : 0 < width → (xs : List X) → whole_rows width (flat_map f xs) ≡ map f xs
  whole_rows_back wide xs =
      let n : length (flat_map f xs) / width ≡ length xs = ap (λ (k : ℕ). k / width) (length-joined xs) ∙ mul-div_cancel (length xs) wide in
      ap (λ (k : ℕ). rows width k (flat_map f xs)) n ∙ rows_back xs

  -- what is left of a table from a row on
  drop-joined : (i : ℕ) (xs : List X) → drop (i * width) (flat_map f xs) ≡ flat_map f (drop i xs)
  drop-joined zero xs = ap (λ (k : ℕ). drop k (flat_map f xs)) (zero-mul width)
  drop-joined (suc i) [] = drop_nothing (suc i * width)
  drop-joined (suc i) (x ∷ xs) =
      let e : suc i * width ≡ width + i * width = omega (arith, suc-mul i width) in
      ap (λ (k : ℕ). drop k (f x ++ flat_map f xs)) e
      ∙ (sym (drop-drop (i * width) width (f x ++ flat_map f xs))
      ∙ (ap (drop (i * width)) (drop_at (f x) (flat_map f xs) width (each x)) ∙ drop-joined i xs))

  -- the row at an index stands at that many widths
  pub row_stands : (i : ℕ) (xs : List X) (d : X) → i < length xs → drop (i * width) (flat_map f xs) ≡ f (get_or xs i d) ++ flat_map f (drop (i + 1) xs)
  row_stands i xs d h = drop-joined i xs ∙ ap (flat_map f) (drop_more xs i d h)

  -- a table's rows, read back one by one
  pub table_back :
      {Y : Type 0} (dec : List ℕ → Y) (to : X → Y) (P : X → Type 0) → ((x : X) → P x → dec (f x) ≡ to x) → 0 < width →
      (xs : List X) → AllByRecursion P xs → map dec (whole_rows width (flat_map f xs)) ≡ map to xs
  table_back dec to P agree wide xs all = ap (map dec) (whole_rows_back wide xs) ∙ by_row xs all
    where
      by_row : (ys : List X) → AllByRecursion P ys → map dec (map f ys) ≡ map to ys
      by_row = elim [ [] ↦ λ _. refl | y ∷ (ys → ih) ↦ λ h. ap (λ z. z ∷ map dec (map f ys)) (agree y h.0) ∙ ap (λ zs. to y ∷ zs) (ih h.1) ]

  -- the same where each row holds what was written
  pub table_same : (dec : List ℕ → X) (P : X → Type 0) → ((x : X) → P x → dec (f x) ≡ x) → 0 < width → (xs : List X) → AllByRecursion P xs → map dec (whole_rows width (flat_map f xs)) ≡ xs
  table_same dec P agree wide xs all = table_back dec (λ x. x) P agree wide xs all ∙ map-id xs

-- one row more
pub joined_step : {X : Type 0} (f : X → List ℕ) (xs : List X) (i : ℕ) (x : X) → i < length xs → x ≡ get_or xs i x → flat_map f (take (i + 1) xs) ≡ flat_map f (take i xs) ++ f x
joined_step f xs i x h e =
    ap (flat_map f) (take_more xs i x h ∙ ap (λ y. take i xs ++ y ∷ []) (sym e)) ∙ sym (flat_map_more f [] (take i xs) x)

pub all_step : {X : Type 0} (P : X → Type 0) (xs : List X) (i : ℕ) (x : X) → i < length xs → x ≡ get_or xs i x → AllByRecursion P (take i xs) → P x → AllByRecursion P (take (i + 1) xs)
all_step P xs i x h e before here = All-more P xs i x h before (subst P e here)

-- the answer of a function that reads a row: what the row holds, or nothing where there is no such row
pub row_read : {A : Type 0} (f : List ℕ → A) (rs : List (List ℕ)) (i : ℕ) (row : List ℕ) (x : A) → Some row ≡ slice_get rs i → x ≡ f row → Some x ≡ slice_get (map f rs) i
row_read f rs i row x there is = ap Some is ∙ (ap (option_map f) there ∙ sym (nth-map f rs i))

pub row_missing : {A : Type 0} (f : List ℕ → A) (rs : List (List ℕ)) (i : ℕ) (r : Option A) → r ≡ None → None ≡ slice_get rs i → r ≡ slice_get (map f rs) i
row_missing f rs i r is missing = is ∙ (ap (option_map f) missing ∙ sym (nth-map f rs i))
