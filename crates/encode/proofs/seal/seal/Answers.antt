use Rattle.std.proofs.Common.{◌≡◌, ℕ, List, ◌++◌, length, drop, ap, ◌∙◌, arith}
use Rattle.octets.specs.Fields.{put, part}
use Rattle.octets.specs.Crc.{crc}
use Rattle.octets.proofs.Runs.{put_front}
use Rattle.descriptor.specs.Numbers.{kind_number}
use Rattle.encode.specs.Sealed.{sealed, tag}
use Rattle.encode.specs.declared.seal.Stamp.{Stamp}
use Rattle.encode.proofs.seal.seal.Goals as goal

tagged : (kind : ℕ) (stamp : Stamp) (n : ℕ) (bs : List ℕ) → length bs ≡ 2048 → put 0 (tag kind stamp n) bs ≡ tag kind stamp n ++ drop 16 bs
unfolding tag
tagged kind stamp n bs long = put_front (tag kind stamp n) bs (omega arith)

pub returns : goal.returns
unfolding sealed
returns c =
    c.put_bytes.ensures.value
    ∙ (ap (λ (l : List ℕ). put 0 l c.args.sector.now) (c.tag_of-tag.ensures ∙ ap (tag (kind_number c.args.kind) c.args.stamp) c.crc_of-crc.ensures.value)
    ∙ tagged (kind_number c.args.kind) c.args.stamp (crc (part c.args.sector.now 16 496)) c.args.sector.now c.told-sector)
