-- Models that are one, and a write that is settled.
-- Assumes nothing.
use Rattle.std.proofs.Common.{◌≡◌, ℕ, Bool, cond, eqb, List, sym, ap, ◌∙◌, ⊎_elim}
use mathlib.Core.Path.{fun_ext}
use Rattle.std.proofs.lemmas.Bool.{cases_eq, eq-eqb, ne_eqb}
use Rattle.device.specs.Content.{holding, only}
use Rattle.device.specs.Model.{Model}
use Rattle.device.specs.Calls.{Written, counted, settled}
use Rattle.device.specs.Cuts.{Settling}
use Rattle.device.specs.Through.{through}
use Rattle.device.proofs.Lists.{dropped_then, sublist_then}

-- two models are one where their parts are
pub same_model : (m n : Model) → m.count ≡ n.count → m.contents ≡ n.contents → m.writable ≡ n.writable → m.tally ≡ n.tally → m ≡ n
same_model m n c l w t = λ i. record { count = c i; contents = l i; writable = w i; tally = t i }

-- dropping earlier contents after a write is part of the write
pub written_dropped : (m : Model) (s : ℕ) (bytes : List ℕ) (m₁ m' : Model) → Written m s bytes m₁ → Settling m₁ m' → m'.tally ≡ m₁.tally → Written m s bytes m'
written_dropped m s bytes m₁ m' w d t = record {
  count = d.count ∙ w.count;
  writable = d.writable ∙ w.writable;
  tally = t ∙ w.tally;
  newest = (d.contents s).newest ∙ w.newest;
  earlier = sublist_then (d.contents s).earlier w.earlier;
  others = λ u other. dropped_then (m.contents u) (m₁.contents u) (m'.contents u) (w.others u other) (d.contents u);
}

-- a write and then a settle
pub written_settled : (m : Model) (s : ℕ) (bytes : List ℕ) (m' : Model) → Written m s bytes m' → settled m' ≡ through m s bytes
written_settled m s bytes m' w = same_model (settled m') (through m s bytes) w.count (fun_ext at) w.writable (ap counted w.tally)
  where
    here : (t : ℕ) → t ≡ s → (m'.contents t).newest ≡ cond (eqb t s) (holding bytes) (m.contents t).newest
    here t e =
        ap (λ (u : ℕ). (m'.contents u).newest) e
        ∙ (w.newest ∙ sym (ap (λ (b : Bool). cond b (holding bytes) (m.contents t).newest) (eq-eqb t s e)))

    elsewhere : (t : ℕ) → (t ≡ s → ⊥) → (m'.contents t).newest ≡ cond (eqb t s) (holding bytes) (m.contents t).newest
    elsewhere t other =
        (w.others t other).newest ∙ sym (ap (λ (b : Bool). cond b (holding bytes) (m.contents t).newest) (ne_eqb t s other))

    at : (t : ℕ) → only (m'.contents t).newest ≡ only (cond (eqb t s) (holding bytes) (m.contents t).newest)
    at t = ap only (⊎_elim (here t) (elsewhere t) (cases_eq t s))
