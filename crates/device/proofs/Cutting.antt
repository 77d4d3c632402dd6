-- How cuts and calls go together.
-- Assumes nothing.
use Rattle.std.proofs.Common.{◌≡◌, ℕ, Bool, true, cond, List, [], ◌∷◌, ◌++◌, sym, refl, ap, ◌∙◌, subst, inl, inr, ⊎_elim, arith}
use mathlib.Core.Path.{fun_ext}
use Rattle.std.proofs.lemmas.Bool.{cases_eq, eq-eqb, ne_eqb}
use Rattle.std.proofs.lemmas.List.{length_push}
use Rattle.device.specs.Content.{Content, Contents, holding, listed, only, followed}
use Rattle.device.specs.Model.{Model, takes_writes}
use Rattle.device.specs.Calls.{Dropped, Written, Sublist, settled}
use Rattle.device.specs.Cuts.{Among, Left, torn_since, LeftOfWrite, torn_under_way, landed, Cut, CutInWrite, Settling, written, CutLaws}
use Rattle.device.proofs.Lists.{sublist_same, sublist_length, among_sublist, among_push, among_last, among_front, same_contents, dropped_none, dropped_all, dropped_listed}

-- what is left of a list from which contents were dropped could have been left of the list before
pub left_of_dropped : (c d : Contents) (x : Content) → Dropped c d → Left d x → Left c x
left_of_dropped c d x p (Left.listed_before a) = Left.listed_before (among_sublist x (dropped_listed c d p) a)
left_of_dropped c d x p (torn_since h t) = torn_since (let l = sublist_length p.earlier in omega arith) t

-- of one content only that is left
pub left_of_one : (x y : Content) → Left (only x) y → y ≡ x
left_of_one x y (Left.listed_before (inl e)) = e
left_of_one x y (Left.listed_before (inr a)) = elim a [ ]
left_of_one x y (torn_since h t) = absurd (omega arith)

-- a cut before a write is one in it
pub left_before : (c : Contents) (bytes : List ℕ) (x : Content) → Left c x → LeftOfWrite c bytes x
left_before c bytes x (Left.listed_before a) = LeftOfWrite.listed_before a
left_before c bytes x (torn_since h t) = torn_under_way t

-- and so is one after it
left_after : (c d : Contents) (bytes : List ℕ) (x : Content) → d.newest ≡ holding bytes → Sublist d.earlier (listed c) → Left d x → LeftOfWrite c bytes x
left_after c d bytes x n e (Left.listed_before a) =
    ⊎_elim (λ b. LeftOfWrite.listed_before (among_sublist x e b)) (λ q. landed (q ∙ n)) (among_push x d.newest d.earlier a)
left_after c d bytes x n e (torn_since h t) = torn_under_way t

-- a cut in a write is one after it, where it dropped nothing
left_within : (c : Contents) (bytes : List ℕ) (x : Content) → LeftOfWrite c bytes x → Left (followed c (holding bytes)) x
left_within c bytes x (LeftOfWrite.listed_before a) = Left.listed_before (among_front x (holding bytes) (listed c) a)
left_within c bytes x (torn_under_way t) = torn_since (let l = length_push c.earlier c.newest in omega arith) t
left_within c bytes x (landed e) = Left.listed_before (subst (λ (y : Content). Among y (listed c ++ holding bytes ∷ [])) (sym e) (among_last (holding bytes) (listed c)))

-- a cut of a device that dropped some contents is a cut of the device before
pub in_settle : (m m₁ m' : Model) → Settling m m₁ → Cut m₁ m' → Cut m m'
in_settle m m₁ m' p k = record {
  count = k.count ∙ p.count;
  writable = k.writable ∙ p.writable;
  single = k.single;
  left = λ s. left_of_dropped (m.contents s) (m₁.contents s) (m'.contents s).newest (p.contents s) (k.left s);
}

pub after_settle : (m m' : Model) → Cut (settled m) m' → Cut m m'
after_settle m m' k = in_settle m (settled m) m' (record { count = refl; writable = refl; contents = λ s. dropped_all (m.contents s) }) k

pub settled_stays : (m m' : Model) → Cut (settled m) m' → m'.contents ≡ (settled m).contents
settled_stays m m' k = fun_ext (λ s. same_contents (m'.contents s) (only (m.contents s).newest) (k.single s) (left_of_one (m.contents s).newest (m'.contents s).newest (k.left s)))

pub before_write : (m : Model) (s : ℕ) (bytes : List ℕ) (m' : Model) → takes_writes m s ≡ true → Cut m m' → CutInWrite m s bytes m'
before_write m s bytes m' takes k = record {
  under_way = takes;
  count = k.count;
  writable = k.writable;
  single = k.single;
  written = left_before (m.contents s) bytes (m'.contents s).newest (k.left s);
  others = λ t _. k.left t;
}

pub after_write : (m : Model) (s : ℕ) (bytes : List ℕ) (m₁ m' : Model) → takes_writes m s ≡ true → Written m s bytes m₁ → Cut m₁ m' → CutInWrite m s bytes m'
after_write m s bytes m₁ m' takes w k = record {
  under_way = takes;
  count = k.count ∙ w.count;
  writable = k.writable ∙ w.writable;
  single = k.single;
  written = left_after (m.contents s) (m₁.contents s) bytes (m'.contents s).newest w.newest w.earlier (k.left s);
  others = λ t other. left_of_dropped (m.contents t) (m₁.contents t) (m'.contents t).newest (w.others t other) (k.left t);
}

-- the write that drops nothing, at its sector and elsewhere
module _ (m : Model) (s : ℕ) (bytes : List ℕ) where
  pub written_here : (written m s bytes).contents s ≡ followed (m.contents s) (holding bytes)
  written_here = ap (λ (b : Bool). cond b (followed (m.contents s) (holding bytes)) (m.contents s)) (eq-eqb s s refl)

  pub written_elsewhere : (t : ℕ) → (t ≡ s → ⊥) → (written m s bytes).contents t ≡ m.contents t
  written_elsewhere t other = ap (λ (b : Bool). cond b (followed (m.contents t) (holding bytes)) (m.contents t)) (ne_eqb t s other)

pub in_write : (m : Model) (s : ℕ) (bytes : List ℕ) (m' : Model) → CutInWrite m s bytes m' → Cut (written m s bytes) m'
in_write m s bytes m' k = record { count = k.count; writable = k.writable; single = k.single; left = at }
  where
    here : (t : ℕ) → t ≡ s → Left ((written m s bytes).contents t) (m'.contents t).newest
    here t e =
        subst (λ (u : ℕ). Left ((written m s bytes).contents u) (m'.contents u).newest) (sym e)
        (subst (λ (c : Contents). Left c (m'.contents s).newest) (sym (written_here m s bytes)) (left_within (m.contents s) bytes (m'.contents s).newest k.written))

    elsewhere : (t : ℕ) → (t ≡ s → ⊥) → Left ((written m s bytes).contents t) (m'.contents t).newest
    elsewhere t other = subst (λ (c : Contents). Left c (m'.contents t).newest) (sym (written_elsewhere m s bytes t other)) (k.others t other)

    at : (t : ℕ) → Left ((written m s bytes).contents t) (m'.contents t).newest
    at t = ⊎_elim (here t) (elsewhere t) (cases_eq t s)

pub nothing_dropped : (m : Model) (s : ℕ) (bytes : List ℕ) → Written m s bytes (written m s bytes)
nothing_dropped m s bytes = record {
  count = refl;
  writable = refl;
  tally = refl;
  newest = ap (λ (c : Contents). c.newest) (written_here m s bytes);
  earlier = subst (λ (c : Contents). Sublist c.earlier (listed (m.contents s))) (sym (written_here m s bytes)) (sublist_same (listed (m.contents s)));
  others = λ t other. subst (Dropped (m.contents t)) (sym (written_elsewhere m s bytes t other)) (dropped_none (m.contents t));
}

pub cut_laws : CutLaws
cut_laws = record {
  in_settle = in_settle;
  after_settle = after_settle;
  settled_stays = settled_stays;
  before_write = before_write;
  after_write = after_write;
  in_write = in_write;
  nothing_dropped = nothing_dropped;
}
