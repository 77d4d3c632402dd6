-- Whatever body stands under a tag, the tag passes its checks.
-- Assumes nothing.
use Rattle.std.proofs.Common.{◌≡◌, ℕ, ◌^◌, ◌<◌, true, List, Some, Ok, Option, refl, ap, ◌∙◌}
use Rattle.std.specs.Option.{ok_or}
use Rattle.std.proofs.lemmas.Bool.{eq-eqb, and_from}
use Rattle.octets.specs.Fields.{part}
use Rattle.octets.specs.Crc.{crc}
use Rattle.octets.specs.Tag.{tag_sum}
use Rattle.octets.proofs.Runs.{u16_back, u32_back}
use Rattle.octets.proofs.Steps.{crc_fits}
use Rattle.descriptor.specs.declared.kinds.Place.{Place}
use Rattle.descriptor.specs.declared.refusal.Refusal.TheVariants as refusal
use Rattle.descriptor.specs.Kinds.{Fields}
use Rattle.descriptor.specs.Checks.{tag_stands, location_stands, crc_stands}
use Rattle.descriptor.specs.Decode.{kind_in, decoded}
use Rattle.descriptor.proofs.Decoding.{by_kind}
use Rattle.encode.specs.declared.seal.Stamp.{Stamp}
use Rattle.encode.specs.Sealed.{sealed, tag}

module _ (kind : ℕ) (stamp : Stamp) (body : List ℕ) where
  sum_passes : tag_stands (sealed kind stamp body) ≡ true
  unfolding sealed tag tag_sum
  sum_passes = and_from _ _ (eq-eqb _ _ refl) refl

  location_passes : stamp.location < 2 ^ 32 → location_stands (sealed kind stamp body) stamp.location ≡ true
  unfolding sealed tag
  location_passes fits = eq-eqb _ _ (u32_back stamp.location fits)

  crc_passes : crc_stands (sealed kind stamp body) ≡ true
  unfolding sealed tag
  crc_passes = eq-eqb _ _ (u16_back (crc (part body 16 496)) (crc_fits (part body 16 496)))

  -- so the sector is the descriptor that its kind makes it in its place
  pub passes : (place : Place) (x : Fields) → stamp.location < 2 ^ 32 → kind_in place (sealed kind stamp body) ≡ Some x → decoded (sealed kind stamp body) stamp.location place ≡ Ok x
  passes place x fits found =
      by_kind (sealed kind stamp body) stamp.location place sum_passes (location_passes fits) crc_passes
      ∙ ap (λ (o : Option Fields). ok_or o refusal.Kind) found
