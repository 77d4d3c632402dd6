use Rattle.std.proofs.Common.{sym, ◌∙◌}
use Rattle.descriptor.proofs.Decoding.{fails_tag, fails_location, fails_crc, by_kind}
use Rattle.descriptor.proofs.decode.checked.Goals as goal

pub returns-then-not-tag_holds : goal.returns-then-not-tag_holds
returns-then-not-tag_holds c = sym (fails_tag _ _ _ (sym c.if-not-tag_holds.ensures))

pub returns-then-not-location_holds : goal.returns-then-not-location_holds
returns-then-not-location_holds c = sym (fails_location _ _ _ (sym c.if-not-tag_holds.ensures) (sym c.if-not-location_holds.ensures))

pub returns-then-not-crc_holds : goal.returns-then-not-crc_holds
returns-then-not-crc_holds c =
    sym (fails_crc _ _ _ (sym c.if-not-tag_holds.ensures) (sym c.if-not-location_holds.ensures) (sym c.if-not-crc_holds.ensures))

pub returns : goal.returns
returns c = c.in_place.ensures ∙ sym (by_kind _ _ _ (sym c.if-not-tag_holds.ensures) (sym c.if-not-location_holds.ensures) (sym c.if-not-crc_holds.ensures))
