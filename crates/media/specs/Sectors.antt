-- Laws of sectors in a run of bytes: a sector put is read back, and every other is as it was.
-- Assumes nothing.
use Rattle.std.specs.Prelude.{◌≡◌, ℕ, ◌+◌, ◌*◌, ◌<◌, ◌≤◌, ◌≢◌, List, length, drop, Some, None, Ok, Err, Option, Result, IsOk, MatchResult, nat_lt, slice_index}
use Rattle.std.specs.Array.{IsWholeChunk}
use Rattle.std.specs.Borrow.{Bor}
use Rattle.std.specs.Option.{option_copied}
use Rattle.std.specs.Result.{result_ok}
use Rattle.std.proofs.Common.{⊎_elim, sym, ap, ◌∙◌, arith}
use Rattle.std.proofs.lemmas.List.{length-take, length-drop, get_or-take, get_or-drop, ext_get_or}
use Rattle.std.proofs.lemmas.Bool.{lt-ltb, le-ltb, cases_lt, cond-true, cond-false}
use Rattle.octets.proofs.Runs.{puts}
use Rattle.descriptor.specs.Limits.{sector_bytes}
use Rattle.device.specs.Content.{unreadable, holding}
use Rattle.media.specs.Landed.{count_of, sector_of, landed, stored, getting, putting}

-- a sector below the count lies inside the run
pub sector_long : (bs : List ℕ) (s : ℕ) → s < count_of bs → length (sector_of bs s) ≡ sector_bytes
sector_long bs s h = simp (length-take, length-drop) (omega arith)

-- a byte of a sector is one of the run
sector_byte : (bs : List ℕ) (s k : ℕ) → k < sector_bytes → slice_index (sector_of bs s) k ≡ slice_index bs (sector_bytes * s + k)
sector_byte bs s k h = get_or-take sector_bytes (drop (sector_bytes * s) bs) k 0 h ∙ get_or-drop (sector_bytes * s) bs k 0

-- the answer where there is such a sector
pub getting_there : (bs : List ℕ) (s : ℕ) (bytes : List ℕ) → s < count_of bs → bytes ≡ sector_of bs s → ◌≡◌ {A = Option (List ℕ)} (Some bytes) (getting bs s)
getting_there bs s bytes h e =
    ap {B = Option (List ℕ)} Some e ∙ sym (cond-true (nat_lt s (count_of bs)) (Some (sector_of bs s)) None (lt-ltb s (count_of bs) h))

pub putting_there : (s : ℕ) (bytes bs after : List ℕ) → s < count_of bs → after ≡ stored s bytes bs → (◌≡◌ {A = Option (Unit {0}) × List ℕ} (Some tt, after) (putting s bytes bs))
putting_there s bytes bs after h e =
    ap (λ (l : List ℕ). (Some tt, l)) e ∙ sym (cond-true (nat_lt s (count_of bs)) (Some tt, stored s bytes bs) (None, bs) (lt-ltb s (count_of bs) h))

-- a sector is found
pub sector_found :
    {F : Type 0} (bs chunk : List ℕ) (s n : ℕ) (other : F → Type 0) (r : Result (Bor (List ℕ)) F) →
    IsOk r → MatchResult r (λ y. IsWholeChunk chunk y.now n) other → s < count_of bs → chunk ≡ sector_of bs s → option_copied (result_ok r) ≡ getting bs s
sector_found bs chunk s n other (Ok y) ok whole h e =
    getting_there bs s y.now h (whole.same ∙ e)
sector_found bs chunk s n other (Err f) ok whole h e = cc

-- a sector is put
module _ (s : ℕ) (bytes bs : List ℕ) where
  pub length-stored : length (stored s bytes bs) ≡ length bs
  length-stored = (puts (sector_bytes * s) bytes bs).long

  -- the count stays
  pub count_stored : count_of (stored s bytes bs) ≡ count_of bs
  count_stored = let e = length-stored in omega arith

  -- it is read back
  pub stored_here : s < count_of bs → length bytes ≡ sector_bytes → sector_of (stored s bytes bs) s ≡ bytes
  stored_here h e = ext_get_or 0 (sector_of (stored s bytes bs) s) bytes n at
    where
      n : length (sector_of (stored s bytes bs) s) ≡ length bytes
      n = let l = length-stored in sector_long (stored s bytes bs) s (omega arith) ∙ sym e

      at : (k : ℕ) → k < length (sector_of (stored s bytes bs) s) → slice_index (sector_of (stored s bytes bs) s) k ≡ slice_index bytes k
      at k lt = let m = n in
          sector_byte (stored s bytes bs) s k (omega arith)
          ∙ (puts (sector_bytes * s) bytes bs).inside k (omega arith) (omega arith)

  -- every other sector is as it was
  pub stored_elsewhere : length bytes ≡ sector_bytes → (t : ℕ) → t ≢ s → sector_of (stored s bytes bs) t ≡ sector_of bs t
  stored_elsewhere e t other = ext_get_or 0 (sector_of (stored s bytes bs) t) (sector_of bs t) n at
    where
      n : length (sector_of (stored s bytes bs) t) ≡ length (sector_of bs t)
      n = let l = length-stored in simp (length-take, length-drop) (omega arith)

      at : (k : ℕ) → k < length (sector_of (stored s bytes bs) t) → slice_index (sector_of (stored s bytes bs) t) k ≡ slice_index (sector_of bs t) k
      at k lt =
          let short : k < sector_bytes = let l = length-take sector_bytes (drop (sector_bytes * t) (stored s bytes bs)) in omega arith in
          let p = puts (sector_bytes * s) bytes bs in
          sector_byte (stored s bytes bs) t k short
          ∙ (⊎_elim (λ before. p.before (sector_bytes * t + k) (omega arith)) (λ behind. p.behind (sector_bytes * t + k) (omega arith)) (cases_lt t s)
          ∙ sym (sector_byte bs t k short))

-- what a sector below the count holds, and one from the count on
pub landed_there : (bs : List ℕ) (s : ℕ) → s < count_of bs → landed bs s ≡ holding (sector_of bs s)
unfolding landed
landed_there bs s h = cond-true (nat_lt s (count_of bs)) (holding (sector_of bs s)) unreadable (lt-ltb s (count_of bs) h)

pub landed_past : (bs : List ℕ) (s : ℕ) → count_of bs ≤ s → landed bs s ≡ unreadable
unfolding landed
landed_past bs s h = cond-false (nat_lt s (count_of bs)) (holding (sector_of bs s)) unreadable (le-ltb s (count_of bs) h)

-- what sectors hold after one was put
pub landed_here : (s : ℕ) (bytes bs : List ℕ) → s < count_of bs → length bytes ≡ sector_bytes → landed (stored s bytes bs) s ≡ holding bytes
landed_here s bytes bs h e =
    let l = count_stored s bytes bs in
    landed_there (stored s bytes bs) s (omega arith) ∙ ap holding (stored_here s bytes bs h e)

pub landed_elsewhere : (s : ℕ) (bytes bs : List ℕ) → length bytes ≡ sector_bytes → (t : ℕ) → t ≢ s → landed (stored s bytes bs) t ≡ landed bs t
landed_elsewhere s bytes bs e t other = ⊎_elim there past (cases_lt t (count_of bs))
  where
    there : t < count_of bs → landed (stored s bytes bs) t ≡ landed bs t
    there h =
        let l = count_stored s bytes bs in
        landed_there (stored s bytes bs) t (omega arith) ∙ (ap holding (stored_elsewhere s bytes bs e t other) ∙ sym (landed_there bs t h))

    past : count_of bs ≤ t → landed (stored s bytes bs) t ≡ landed bs t
    past h = let l = count_stored s bytes bs in landed_past (stored s bytes bs) t (omega arith) ∙ sym (landed_past bs t h)
