-- Fields put one after the other.
-- Assumes nothing.
use Rattle.std.proofs.Common.{◌≡◌, ℕ, List, length, sym, ap, ◌∙◌}
use Rattle.octets.specs.Fields.{put, exactly}
use Rattle.octets.proofs.Runs.{exactly_whole}
use Rattle.descriptor.specs.declared.kinds.Place.{Place}
use Rattle.descriptor.specs.Kinds.{Fields}
use Rattle.descriptor.specs.Decode.{decoded}
use Rattle.encode.specs.declared.seal.Stamp.{Stamp}
use Rattle.encode.specs.ReadBack.{ReadsAs}

-- one field more, over an area that is already known
pub also : (at : ℕ) {after before wanted xs ys : List ℕ} → after ≡ put at xs before → xs ≡ ys → before ≡ wanted → after ≡ put at ys wanted
also at {before = before} {ys = ys} e same rest = e ∙ (ap (λ (l : List ℕ). put at l before) same ∙ ap (put at ys) rest)

-- a run of the length that its field has
pub whole : {n : ℕ} (bs : List ℕ) → length bs ≡ n → bs ≡ exactly n bs
whole {n} bs e = sym (exactly_whole bs n e)

-- what is known of the defined bytes is known of a sector that equals them
pub written : {wanted : List ℕ} (sector : List ℕ) (stamp : Stamp) (place : Place) (fields : Fields) → sector ≡ wanted → ReadsAs wanted stamp place fields → ReadsAs sector stamp place fields
written sector stamp place fields e h = ap (λ (l : List ℕ). decoded l stamp.location place) e ∙ h
