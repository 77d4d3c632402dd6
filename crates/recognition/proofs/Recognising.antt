-- The law of recognising a sector.
-- Assumes nothing.
use Rattle.std.proofs.Common.{◌≡◌, ℕ, true, ◌&&◌, eqb, List, [], ◌∷◌, Some, Option, refl, ap, ◌∙◌, ap₂, ⊎_elim}
use Rattle.std.proofs.lemmas.Bool.{and_from, and_parts, cond-true, eq-eqb, eqb-true}
use Rattle.std.proofs.lemmas.Option.{same_Some, none-some}
use Rattle.octets.specs.Fields.{byte_at, part}
use Rattle.recognition.specs.declared.structure.Structure.{Structure}
use Rattle.recognition.specs.declared.structure.Structure.TheVariants.{Bea01, Boot2, Nsr03, Tea01}
use Rattle.recognition.specs.Law.{Recognition}
use Rattle.recognition.specs.Structure.{same_run, code_of, named, structure_in}
use Rattle.descriptor.proofs.Conditions.{either_some}

same_is : (xs ys : List ℕ) → same_run xs ys ≡ true → xs ≡ ys
same_is [] [] t = refl
same_is [] (y ∷ ys) t = absurd (Rattle.std.proofs.lemmas.Bool.false≢true t)
same_is (x ∷ xs) [] t = absurd (Rattle.std.proofs.lemmas.Bool.false≢true t)
same_is (x ∷ xs) (y ∷ ys) t =
    let h = and_parts (eqb x y) (same_run xs ys) t in
    ap₂ {C = List ℕ} (λ z zs. z ∷ zs) (eqb-true x y h.0) (same_is xs ys h.1)

-- an identifier's own name
named_code : (s : Structure) → named (code_of s) ≡ Some s
named_code Bea01 = refl
named_code Boot2 = refl
named_code Nsr03 = refl
named_code Tea01 = refl

-- what names a structure is its identifier
code_named : (id : List ℕ) (s : Structure) → named id ≡ Some s → id ≡ code_of s
code_named id s e =
    ⊎_elim (here Bea01)
    (λ r. ⊎_elim (here Boot2)
    (λ q. ⊎_elim (here Nsr03)
    (λ p. ⊎_elim (here Tea01) (λ n. absurd (none-some s n.1)) (either_some (same_run id (code_of Tea01)) _ _ s p.1))
    (either_some (same_run id (code_of Nsr03)) _ _ s q.1))
    (either_some (same_run id (code_of Boot2)) _ _ s r.1))
    (either_some (same_run id (code_of Bea01)) _ _ s e)
  where
    here : (t : Structure) → (same_run id (code_of t) ≡ true) × (◌≡◌ {A = Option Structure} (Some t) (Some s)) → id ≡ code_of s
    here t h = same_is id (code_of t) h.0 ∙ ap code_of (same_Some t s h.1)

pub recognition : (bs : List ℕ) → Recognition bs (structure_in bs)
recognition bs s = (forth, back)
  where
    forth : structure_in bs ≡ Some s → (byte_at bs 0 ≡ 0) × (byte_at bs 6 ≡ 1) × (part bs 1 5 ≡ code_of s)
    forth e = ⊎_elim
        (λ h. let t = and_parts (eqb (byte_at bs 0) 0) (eqb (byte_at bs 6) 1) h.0 in
        (eqb-true (byte_at bs 0) 0 t.0, eqb-true (byte_at bs 6) 1 t.1, code_named (part bs 1 5) s h.1))
        (λ h. absurd (none-some s h.1))
        (either_some (eqb (byte_at bs 0) 0 && eqb (byte_at bs 6) 1) _ _ s e)

    back : (byte_at bs 0 ≡ 0) × (byte_at bs 6 ≡ 1) × (part bs 1 5 ≡ code_of s) → structure_in bs ≡ Some s
    back h =
        cond-true (eqb (byte_at bs 0) 0 && eqb (byte_at bs 6) 1) _ _ (and_from _ _ (eq-eqb _ _ h.0) (eq-eqb _ _ h.1))
        ∙ (ap named h.2 ∙ named_code s)
