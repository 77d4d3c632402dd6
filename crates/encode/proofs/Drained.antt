-- What comes from a chain of iterators.
-- Assumes nothing.
use Rattle.std.proofs.Common.{◌≡◌, List, Option, sym, ◌∙◌}
use Rattle.std.specs.Iterator.{Drains}
use Rattle.std.proofs.lemmas.Iterator.{YieldsList, items_from_drains}
use Rattle.std.proofs.lemmas.List.{map-id}

-- the list that came is the one that the chain gives
pub drained : {S A : Type 0} {steps : S → Option A → S → Type 0} {s : S} {all : List A} (xs : List A) → Drains steps s xs → YieldsList steps (λ x. x) s all → xs ≡ all
drained xs came gives = sym (map-id xs) ∙ items_from_drains xs (came.1.0, came.1.1, λ _. (came.0, came.1.2)) gives
