-- Laws of lists of contents: what is left out, what is among them.
-- Assumes nothing.
use Rattle.std.proofs.Common.{◌≡◌, ◌≤◌, ◌⊎◌, List, [], ◌∷◌, ◌++◌, length, refl, ◌∙◌, subst, inl, inr, suc-le-suc, zero-le, arith}
use Rattle.device.specs.Content.{Content, Contents, listed, only}
use Rattle.device.specs.Calls.{Sublist, done, skip, keep, Dropped}
use Rattle.device.specs.Cuts.{Among}

-- every list is its own sublist, and nothing is one of each
pub sublist_same : {A : Type 0} (xs : List A) → Sublist xs xs
sublist_same [] = done
sublist_same (x ∷ xs) = keep (sublist_same xs)

pub sublist_none : {A : Type 0} (xs : List A) → Sublist [] xs
sublist_none [] = done
sublist_none (x ∷ xs) = skip (sublist_none xs)

pub sublist_then : {A : Type 0} {xs ys zs : List A} → Sublist xs ys → Sublist ys zs → Sublist xs zs
sublist_then p done = p
sublist_then p (skip q) = skip (sublist_then p q)
sublist_then (skip p) (keep q) = skip (sublist_then p q)
sublist_then (keep p) (keep q) = keep (sublist_then p q)

-- one more element behind both
pub sublist_push : {A : Type 0} {xs ys : List A} (z : A) → Sublist xs ys → Sublist (xs ++ z ∷ []) (ys ++ z ∷ [])
sublist_push z done = keep done
sublist_push z (skip p) = skip (sublist_push z p)
sublist_push z (keep p) = keep (sublist_push z p)

pub sublist_length : {A : Type 0} {xs ys : List A} → Sublist xs ys → length xs ≤ length ys
sublist_length done = zero-le
sublist_length (skip p) = let h = sublist_length p in omega arith
sublist_length (keep p) = suc-le-suc (sublist_length p)

-- what is among the elements that are left was among all
pub among_sublist : {A : Type 0} {xs ys : List A} (x : A) → Sublist xs ys → Among x xs → Among x ys
among_sublist x done a = a
among_sublist x (skip p) a = inr (among_sublist x p a)
among_sublist x (keep p) (inl e) = inl e
among_sublist x (keep p) (inr a) = inr (among_sublist x p a)

-- what is among the elements with one more behind them
pub among_push : {A : Type 0} (x z : A) (xs : List A) → Among x (xs ++ z ∷ []) → Among x xs ⊎ (x ≡ z)
among_push x z [] (inl e) = inr e
among_push x z [] (inr a) = elim a [ ]
among_push x z (y ∷ ys) (inl e) = inl (inl e)
among_push x z (y ∷ ys) (inr a) = elim (among_push x z ys a) [ inl b ↦ inl (inr b) | inr e ↦ inr e ]

pub among_last : {A : Type 0} (z : A) (xs : List A) → Among z (xs ++ z ∷ [])
among_last z [] = inl refl
among_last z (y ∷ ys) = inr (among_last z ys)

pub among_front : {A : Type 0} (x z : A) (xs : List A) → Among x xs → Among x (xs ++ z ∷ [])
among_front x z [] a = elim a [ ]
among_front x z (y ∷ ys) (inl e) = inl e
among_front x z (y ∷ ys) (inr a) = inr (among_front x z ys a)

-- two lists of contents are one where their parts are
pub same_contents : (c d : Contents) → c.earlier ≡ d.earlier → c.newest ≡ d.newest → c ≡ d
same_contents c d e n = λ i. record { earlier = e i; newest = n i }

-- dropping nothing, and dropping twice
pub dropped_none : (c : Contents) → Dropped c c
dropped_none c = record { newest = refl; earlier = sublist_same c.earlier }

pub dropped_then : (a b c : Contents) → Dropped a b → Dropped b c → Dropped a c
dropped_then a b c p q = record { newest = q.newest ∙ p.newest; earlier = sublist_then q.earlier p.earlier }

-- only the newest is left
pub dropped_all : (c : Contents) → Dropped c (only c.newest)
dropped_all c = record { newest = refl; earlier = sublist_none c.earlier }

pub dropped_listed : (c d : Contents) → Dropped c d → Sublist (listed d) (listed c)
dropped_listed c d p =
    subst (λ (z : Content). Sublist (listed d) (c.earlier ++ z ∷ [])) p.newest (sublist_push d.newest p.earlier)
