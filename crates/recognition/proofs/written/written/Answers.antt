use Rattle.std.proofs.Common.{ℕ, List, [], ◌∷◌, ap, ◌∙◌}
use Rattle.octets.specs.Fields.{put, zeros}
use Rattle.recognition.specs.Structure.{structure_in}
use Rattle.recognition.specs.Written.{named_bytes}
use Rattle.recognition.proofs.Recognised.{recognised}
use Rattle.recognition.proofs.written.written.Goals as goal

pub returns-clause-bytes : goal.returns-clause-bytes
unfolding named_bytes zeros
returns-clause-bytes c =
    c.put_bytes-2.ensures.value
    ∙ ap (put 6 (1 ∷ [])) (c.put_bytes.ensures.value ∙ ap (λ (id : List ℕ). put 1 id (zeros 2048)) (c.as_bytes.ensures.value ∙ c.identifier.ensures))

pub returns-clause-read_back : goal.returns-clause-read_back
returns-clause-read_back c = ap structure_in (returns-clause-bytes c) ∙ recognised c.args.which
