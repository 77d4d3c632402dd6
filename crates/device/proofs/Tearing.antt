-- Torn sectors: the test says what the words say, and no torn sector passes as a descriptor.
-- Assumes nothing.
use Rattle.std.proofs.Common.{◌≡◌, ℕ, true, false, not, ◌||◌, eqb, List, is_ok, Ok, Err, Decides, Result, refl, ⊎_elim}
use Rattle.std.proofs.lemmas.Bool.{not-true, not_from_false, eqb-false, ne_eqb, or_cases, or_parts, or_left, or_right, or_from, false_from_ne_true}
use Rattle.std.proofs.lemmas.Bool.Decides.{not_from_Decides}
use Rattle.octets.specs.Fields.{u16_at}
use Rattle.descriptor.specs.declared.refusal.Refusal.{Refusal}
use Rattle.descriptor.specs.Kinds.{Fields}
use Rattle.descriptor.specs.Checks.{sum_stands, crc_stands}
use Rattle.descriptor.specs.Decode.{decoded}
use Rattle.descriptor.specs.Law.{TagRight, CrcRight}
use Rattle.descriptor.proofs.Conditions.{crc_decides}
use Rattle.descriptor.proofs.Reading.{reading}
use Rattle.device.specs.Content.{Content, holding}
use Rattle.device.specs.Torn.{Torn, unread, wrong_sum, wrong_version, wrong_crc, torn, version_known, NoTornPasses}

-- what fails, from the test
from_test : (bs : List ℕ) → torn (holding bs) ≡ true → Torn (holding bs)
from_test bs t = ⊎_elim sum_fails later (or_cases (not (sum_stands bs)) (not (version_known bs) || not (crc_stands bs)) t)
  where
    sum_fails : not (sum_stands bs) ≡ true → Torn (holding bs)
    sum_fails s = wrong_sum (eqb-false _ _ (not-true (sum_stands bs) s))

    version_fails : not (version_known bs) ≡ true → Torn (holding bs)
    version_fails v =
        let neither = or_parts (eqb (u16_at bs 2) 2) (eqb (u16_at bs 2) 3) (not-true (version_known bs) v) in
        wrong_version (eqb-false _ _ neither.0) (eqb-false _ _ neither.1)

    crc_fails : not (crc_stands bs) ≡ true → Torn (holding bs)
    crc_fails c = wrong_crc (not_from_Decides (crc_stands bs) (crc_decides bs) (not-true (crc_stands bs) c))

    later : (not (version_known bs) || not (crc_stands bs)) ≡ true → Torn (holding bs)
    later u = ⊎_elim version_fails crc_fails (or_cases (not (version_known bs)) (not (crc_stands bs)) u)

-- a test that does not hold is false
-- the test, from what fails
to_test : {c : Content} → Torn c → torn c ≡ true
to_test unread = refl
to_test (wrong_sum {bytes} h) = or_left _ _ (not_from_false _ (ne_eqb _ _ h))
to_test (wrong_version {bytes} h g) = or_right (not (sum_stands bytes)) _ (or_left _ _ (not_from_false _ (or_from _ _ (ne_eqb _ _ h) (ne_eqb _ _ g))))
to_test (wrong_crc {bytes} h) =
    or_right (not (sum_stands bytes)) _ (or_right (not (version_known bytes)) _ (not_from_false _ (false_from_ne_true (crc_stands bytes) (λ e. h ((crc_decides bytes).0 e)))))

pub torn_decides : (bs : List ℕ) → Decides (torn (holding bs)) (Torn (holding bs))
torn_decides bs = (from_test bs, to_test)

-- the checks of a descriptor hold of no torn sector
never_right : (bs : List ℕ) → Torn (holding bs) → TagRight bs → CrcRight bs → ⊥
never_right bs (wrong_sum h) t c = h t.sum
never_right bs (wrong_version h g) t c = g t.version
never_right bs (wrong_crc h) t c = h c

not_ok : (r : Result Fields Refusal) → ((d : Fields) → r ≡ Ok d → ⊥) → is_ok r ≡ false
not_ok (Ok d) h = absurd (h d refl)
not_ok (Err e) h = refl

pub no_torn_passes : NoTornPasses
no_torn_passes bs h number place =
    not_ok (decoded bs number place) (λ d e. let all = ((reading bs number place).accepted d).0 e in never_right bs h all.0 all.2)
