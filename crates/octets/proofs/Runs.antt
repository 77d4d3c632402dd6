-- Laws of runs of bytes: what is put, read back, and how a run is put byte by byte.
-- Assumes nothing.
use Rattle.std.proofs.Common.{◌≡◌, ℕ, zero, suc, ◌+◌, ◌-◌, ◌*◌, ◌/◌, ◌%◌, ◌^◌, ◌<◌, ◌≤◌, min, List, [], ◌∷◌, ◌++◌, length, get_or, take, drop, sym, refl, ap, ap₂, ◌∙◌, ⊎_elim, le_of_suc-le-suc, not-suc-le-zero, add_assoc, suc-add, zero-add, arith}
use Rattle.std.proofs.lemmas.List.{get_or_past, get_or-drop, take_at, take_all, drop_all, length-drop, length-replicate}
use Rattle.std.proofs.lemmas.Nat.{shr-shr, field_of, mod-pow-add, mod_low, mod_below, pow_pos}
use Rattle.std.proofs.lemmas.Bool.{cases_lt}
use Rattle.octets.specs.Fields.{over, put, Puts, zeros, exactly, le32, u16_at, u32_at}

-- nothing put changes nothing
pub put_none : (at : ℕ) (bs : List ℕ) → put at [] bs ≡ bs
unfolding put over
put_none zero bs = refl
put_none (suc at) [] = refl
put_none (suc at) (b ∷ bs) = ap (λ (l : List ℕ). b ∷ l) (put_none at bs)

-- a run put at the front stands there, and the rest follows
pub over_front : (xs bs : List ℕ) → length xs ≤ length bs → over xs bs ≡ xs ++ drop (length xs) bs
unfolding over
over_front [] bs h = refl
over_front (x ∷ xs) [] h = absurd (not-suc-le-zero h)
over_front (x ∷ xs) (b ∷ bs) h = ap (λ (l : List ℕ). x ∷ l) (over_front xs bs (le_of_suc-le-suc h))

pub put_front : (xs bs : List ℕ) → length xs ≤ length bs → put 0 xs bs ≡ xs ++ drop (length xs) bs
unfolding put
put_front xs bs h = over_front xs bs h

pub take-over : (xs bs : List ℕ) (n : ℕ) → length xs ≡ n → n ≤ length bs → take n (over xs bs) ≡ xs
take-over xs bs n e h = ap (take n) (over_front xs bs (omega arith)) ∙ take_at xs (drop (length xs) bs) n e

-- a field past an offset is a field of what is left from there
pub u32_drop : (bs : List ℕ) (at from : ℕ) → u32_at bs (at + from) ≡ u32_at (drop at bs) from
u32_drop bs at from =
    let a = get_or-drop at bs from 0 in
    let b = get_or-drop at bs (from + 1) 0 ∙ ap (λ (k : ℕ). get_or bs k 0) (sym (add_assoc at from 1)) in
    let c = get_or-drop at bs (from + 2) 0 ∙ ap (λ (k : ℕ). get_or bs k 0) (sym (add_assoc at from 2)) in
    let d = get_or-drop at bs (from + 2 + 1) 0 ∙ ap (λ (k : ℕ). get_or bs k 0) (sym (add_assoc at (from + 2) 1) ∙ ap (λ (k : ℕ). k + 1) (sym (add_assoc at from 2))) in
    omega arith

-- the length stays
pub length_over : (xs bs : List ℕ) → length (over xs bs) ≡ length bs
unfolding over
length_over [] bs = refl
length_over (x ∷ xs) [] = refl
length_over (x ∷ xs) (b ∷ bs) = ap suc (length_over xs bs)

pub length-put : (at : ℕ) (xs bs : List ℕ) → length (put at xs bs) ≡ length bs
unfolding put over
length-put zero xs bs = length_over xs bs
length-put (suc at) xs [] = refl
length-put (suc at) xs (b ∷ bs) = ap suc (length-put at xs bs)

-- two runs put one behind the other are one run put
over-append : (xs ys bs : List ℕ) → put (length xs) ys (over xs bs) ≡ over (xs ++ ys) bs
unfolding put over
over-append [] ys bs = refl
over-append (x ∷ xs) ys [] = refl
over-append (x ∷ xs) ys (b ∷ bs) = ap (λ (l : List ℕ). x ∷ l) (over-append xs ys bs)

pub put-append : (at : ℕ) (xs ys bs : List ℕ) → put (at + length xs) ys (put at xs bs) ≡ put at (xs ++ ys) bs
unfolding put over
put-append zero xs ys bs = ap (λ (k : ℕ). put k ys (over xs bs)) (zero-add (length xs)) ∙ over-append xs ys bs
put-append (suc at) xs ys [] = ap (λ (k : ℕ). put k ys []) (suc-add at (length xs))
put-append (suc at) xs ys (b ∷ bs) =
    ap (λ (k : ℕ). put k ys (b ∷ put at xs bs)) (suc-add at (length xs)) ∙ ap (λ (l : List ℕ). b ∷ l) (put-append at xs ys bs)

-- what is put past the end is left out
over_nothing : (xs : List ℕ) → over xs [] ≡ []
unfolding over
over_nothing [] = refl
over_nothing (x ∷ xs) = refl

pub put_past : (at : ℕ) (xs bs : List ℕ) → length bs ≤ at → put at xs bs ≡ bs
unfolding put over
put_past zero xs [] h = over_nothing xs
put_past zero xs (b ∷ bs) h = absurd (not-suc-le-zero h)
put_past (suc at) xs [] h = refl
put_past (suc at) xs (b ∷ bs) h = ap (λ (l : List ℕ). b ∷ l) (put_past at xs bs (le_of_suc-le-suc h))

-- what is put is as much of the run as there is room for, between what stands before it and behind it
over_parts : (xs bs : List ℕ) → over xs bs ≡ take (length bs) xs ++ drop (length xs) bs
unfolding over
over_parts [] [] = refl
over_parts [] (b ∷ bs) = refl
over_parts (x ∷ xs) [] = refl
over_parts (x ∷ xs) (b ∷ bs) = ap (λ (l : List ℕ). x ∷ l) (over_parts xs bs)

put_parts : (at : ℕ) (xs bs : List ℕ) → put at xs bs ≡ take at bs ++ over xs (drop at bs)
unfolding put over
put_parts zero xs bs = refl
put_parts (suc at) xs [] = sym (over_nothing xs)
put_parts (suc at) xs (b ∷ bs) = ap (λ (l : List ℕ). b ∷ l) (put_parts at xs bs)

pub put_room : (at n : ℕ) (xs bs : List ℕ) → at ≤ length bs → n ≡ min (length xs) (length bs - at) → take at bs ++ (take n xs ++ drop n (drop at bs)) ≡ put at xs bs
put_room at n xs bs inside e = sym (put_parts at xs bs ∙ ap (λ (l : List ℕ). take at bs ++ l) (over_parts xs (drop at bs) ∙ ⊎_elim fits fills (cases_lt (length xs) (length bs - at))))
  where
    room : length (drop at bs) ≡ length bs - at
    room = length-drop at bs

    fits : length xs < length bs - at → take (length (drop at bs)) xs ++ drop (length xs) (drop at bs) ≡ take n xs ++ drop n (drop at bs)
    fits h =
        let same : n ≡ length xs = omega arith in
        ap₂ (λ (k l : List ℕ). k ++ l) (take_all (length (drop at bs)) xs (omega (arith, room)) ∙ sym (take_all n xs (omega arith))) (ap (λ (k : ℕ). drop k (drop at bs)) (sym same))

    fills : length bs - at ≤ length xs → take (length (drop at bs)) xs ++ drop (length xs) (drop at bs) ≡ take n xs ++ drop n (drop at bs)
    fills h =
        let same : length (drop at bs) ≡ n = omega (arith, room) in
        ap₂ (λ (k l : List ℕ). k ++ l) (ap (λ (k : ℕ). take k xs) same) (drop_all (length xs) (drop at bs) (omega (arith, room)) ∙ sym (drop_all n (drop at bs) (omega (arith, room))))

-- the same at an offset that stopped at the largest number
pub saturated_put : (at end : ℕ) (xs ys bs : List ℕ) → length bs < 2 ^ 64 → end ≡ min (at + length xs) (2 ^ 64 - 1) → put end ys (put at xs bs) ≡ put at (xs ++ ys) bs
saturated_put at end xs ys bs short e = ⊎_elim inside past (cases_lt (at + length xs) (2 ^ 64))
  where
    n : length (put at xs bs) ≡ length bs
    n = length-put at xs bs

    inside : at + length xs < 2 ^ 64 → put end ys (put at xs bs) ≡ put at (xs ++ ys) bs
    inside h = let same : end ≡ at + length xs = omega arith in ap (λ (k : ℕ). put k ys (put at xs bs)) same ∙ put-append at xs ys bs

    past : 2 ^ 64 ≤ at + length xs → put end ys (put at xs bs) ≡ put at (xs ++ ys) bs
    past h =
        put_past end ys (put at xs bs) (omega (arith, n))
        ∙ (sym (put_past (at + length xs) ys (put at xs bs) (omega (arith, n))) ∙ put-append at xs ys bs)

pub length-zeros : (n : ℕ) → length (zeros n) ≡ n
unfolding zeros
length-zeros n = length-replicate n 0

-- a run of the right length is itself
exactly_length : (cs : List ℕ) → exactly (length cs) cs ≡ cs
unfolding exactly
exactly_length [] = refl
exactly_length (c ∷ cs) = ap (λ (l : List ℕ). c ∷ l) (exactly_length cs)

pub exactly_whole : (bs : List ℕ) (n : ℕ) → length bs ≡ n → exactly n bs ≡ bs
exactly_whole bs n e = ap (λ (k : ℕ). exactly k bs) (sym e) ∙ exactly_length bs

-- an offset that stopped at the largest number, and the offset that was meant, read the same: both lie past the end
pub saturated_at : (F : ℕ → ℕ) (n a b : ℕ) → ((k : ℕ) → n ≤ k → F k ≡ 0) → n < 2 ^ 64 → b ≡ min a (2 ^ 64 - 1) → F b ≡ F a
saturated_at F n a b none short e = ⊎_elim inside past (cases_lt a (2 ^ 64))
  where
    inside : a < 2 ^ 64 → F b ≡ F a
    inside h = let same : b ≡ a = omega arith in ap F same

    past : 2 ^ 64 ≤ a → F b ≡ F a
    past h = none b (omega arith) ∙ sym (none a (omega arith))

pub u16_past : (bs : List ℕ) (k : ℕ) → length bs ≤ k → u16_at bs k ≡ 0
u16_past bs k h = let a = get_or_past bs k 0 h in let b = get_or_past bs (k + 1) 0 (omega arith) in omega arith

pub u32_past : (bs : List ℕ) (k : ℕ) → length bs ≤ k → u32_at bs k ≡ 0
u32_past bs k h = let a = u16_past bs k h in let b = u16_past bs (k + 2) (omega arith) in omega arith

-- a number's bytes give the number back
pub u16_back : (v : ℕ) → v < 2 ^ 16 → v % 256 + 256 * (v / 256 % 256) ≡ v
u16_back v h = omega arith

pub u32_back : (v : ℕ) → v < 2 ^ 32 → v % 256 + 256 * (v / 256 % 256) + 65536 * (v / 65536 % 256 + 256 * (v / 16777216 % 256)) ≡ v
u32_back v h =
    let a : v / 256 / 256 ≡ v / 65536 = shr-shr v 8 8 in
    let b : v / 65536 / 256 ≡ v / 16777216 = shr-shr v 16 8 in
    let top : v / 16777216 < 256 = omega arith in
    let v3 : 256 * (v / 16777216) + v / 65536 % 256 ≡ v / 65536 = omega arith in
    let v2 : 256 * (v / 65536) + v / 256 % 256 ≡ v / 256 = omega arith in
    omega arith

-- the lowest bits of a number's lowest bits
low_bits : (n j k : ℕ) → n % 2 ^ (j + k) % 2 ^ k ≡ n % 2 ^ k
low_bits n j k = ap (λ (m : ℕ). m % 2 ^ k) (mod-pow-add n j k) ∙ mod_low (n / 2 ^ k % 2 ^ j) k (n % 2 ^ k) (mod_below n (2 ^ k) (pow_pos k))

-- the four bytes of a number are those of its lowest 32 bits
pub le32_low : (v : ℕ) → le32 (v % 2 ^ 32) ≡ le32 v
le32_low v =
    let b0 : v % 2 ^ 32 % 256 ≡ v % 256 = low_bits v 24 8 in
    let b1 : v % 2 ^ 32 / 256 % 256 ≡ v / 256 % 256 = ap (λ (m : ℕ). m % 256) (field_of v 24 8) ∙ low_bits (v / 256) 16 8 in
    let b2 : v % 2 ^ 32 / 65536 % 256 ≡ v / 65536 % 256 = ap (λ (m : ℕ). m % 256) (field_of v 16 16) ∙ low_bits (v / 65536) 8 8 in
    let b3 : v % 2 ^ 32 / 16777216 % 256 ≡ v / 16777216 % 256 = ap (λ (m : ℕ). m % 256) (field_of v 8 24) ∙ low_bits (v / 16777216) 0 8 in
    cc

-- what is put, byte by byte
over_inside : (xs bs : List ℕ) (k : ℕ) → k < length xs → k < length bs → get_or (over xs bs) k 0 ≡ get_or xs k 0
unfolding over
over_inside [] bs k h g = absurd (not-suc-le-zero h)
over_inside (x ∷ xs) [] k h g = absurd (not-suc-le-zero g)
over_inside (x ∷ xs) (b ∷ bs) zero h g = refl
over_inside (x ∷ xs) (b ∷ bs) (suc k) h g = over_inside xs bs k (le_of_suc-le-suc h) (le_of_suc-le-suc g)

over_behind : (xs bs : List ℕ) (k : ℕ) → length xs ≤ k → get_or (over xs bs) k 0 ≡ get_or bs k 0
unfolding over
over_behind [] bs k h = refl
over_behind (x ∷ xs) [] k h = refl
over_behind (x ∷ xs) (b ∷ bs) zero h = absurd (not-suc-le-zero h)
over_behind (x ∷ xs) (b ∷ bs) (suc k) h = over_behind xs bs k (le_of_suc-le-suc h)

put_inside : (at : ℕ) (xs bs : List ℕ) (k : ℕ) → k < length xs → at + k < length bs → get_or (put at xs bs) (at + k) 0 ≡ get_or xs k 0
unfolding put over
put_inside zero xs bs k h g = ap (λ (j : ℕ). get_or (over xs bs) j 0) (zero-add k) ∙ over_inside xs bs k h (omega arith)
put_inside (suc at) xs [] k h g = absurd (not-suc-le-zero g)
put_inside (suc at) xs (b ∷ bs) k h g = ap (λ (j : ℕ). get_or (b ∷ put at xs bs) j 0) (suc-add at k) ∙ put_inside at xs bs k h (omega (arith, suc-add at k))

put_before : (at : ℕ) (xs bs : List ℕ) (k : ℕ) → k < at → get_or (put at xs bs) k 0 ≡ get_or bs k 0
unfolding put over
put_before zero xs bs k h = absurd (not-suc-le-zero h)
put_before (suc at) xs [] k h = refl
put_before (suc at) xs (b ∷ bs) zero h = refl
put_before (suc at) xs (b ∷ bs) (suc k) h = put_before at xs bs k (le_of_suc-le-suc h)

put_behind : (at : ℕ) (xs bs : List ℕ) (k : ℕ) → at + length xs ≤ k → get_or (put at xs bs) k 0 ≡ get_or bs k 0
unfolding put over
put_behind zero xs bs k h = over_behind xs bs k (omega arith)
put_behind (suc at) xs [] k h = refl
put_behind (suc at) xs (b ∷ bs) zero h = absurd (omega (arith, suc-add at (length xs)))
put_behind (suc at) xs (b ∷ bs) (suc k) h = put_behind at xs bs k (omega (arith, suc-add at (length xs)))

pub puts : (at : ℕ) (xs bs : List ℕ) → Puts at xs bs (put at xs bs)
puts at xs bs = record { long = length-put at xs bs; inside = put_inside at xs bs; before = put_before at xs bs; behind = put_behind at xs bs }
