use Rattle.std.proofs.Common.{◌≡◌, ℕ, List, [], ◌∷◌, set, replicate, refl, ap, ◌∙◌}
use Rattle.octets.specs.Fields.{put, over, le16, le32, laid}
use Rattle.octets.specs.Tag.{tag_sum}
use Rattle.descriptor.specs.Numbers.{kind_number}
use Rattle.encode.specs.declared.seal.Stamp.{Stamp}
use Rattle.encode.specs.Sealed.{tag, tag_with}
use Rattle.encode.proofs.Chain.{also}
use Rattle.encode.proofs.seal.tag_of.Goals as goal

-- the tag's fields, put into zeros, are the tag with a sum of 0
fields : (kind : ℕ) (stamp : Stamp) (n : ℕ) → List ℕ
fields kind stamp n =
    laid ((0, le16 kind) ∷ (2, le16 3) ∷ (6, le16 stamp.serial) ∷ (8, le16 n) ∷ (10, le16 496) ∷ (12, le32 stamp.location) ∷ []) (replicate 16 0)

laid_out : (kind : ℕ) (stamp : Stamp) (n : ℕ) → fields kind stamp n ≡ tag_with 0 kind stamp n
unfolding fields put over
laid_out kind stamp n = refl

without_sum : (c : goal.After-sum_of) → c.put_u32.new.area ≡ fields (kind_number c.args.kind) c.args.stamp c.args.crc
unfolding fields
without_sum c =
    also 12 c.put_u32.ensures refl (also 10 c.put_u16-5.ensures refl (also 8 c.put_u16-4.ensures refl
    (also 6 c.put_u16-3.ensures refl (also 2 c.put_u16-2.ensures refl (also 0 c.put_u16.ensures (ap le16 c.into.ensures) refl)))))

pub returns : goal.returns
unfolding tag
returns c =
    let area = without_sum c ∙ laid_out (kind_number c.args.kind) c.args.stamp c.args.crc in
    ap (λ (l : List ℕ). set l 4 c.sum_of.result) area
    ∙ ap (λ (n : ℕ). tag_with n (kind_number c.args.kind) c.args.stamp c.args.crc) (c.sum_of.ensures ∙ ap tag_sum area)
