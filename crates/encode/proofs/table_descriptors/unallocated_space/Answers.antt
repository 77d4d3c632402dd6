use Rattle.std.proofs.Common.{◌≡◌, ℕ, leb, List, length, map, Ok, Result, rules, sym, refl, ap, ◌∙◌, arith}
use Rattle.std.specs.List.{flat_map}
use Rattle.std.proofs.lemmas.Bool.{cond-true, le-leb}
use Rattle.std.proofs.lemmas.Iterator.{YieldsList-from_slice, YieldsList-from_map}
use Rattle.octets.specs.Fields.{le32}
use Rattle.octets.specs.Rows.{whole_rows}
use Rattle.descriptor.specs.Converted.{extent_low}
use Rattle.tables.specs.Read.{extent_of}
use Rattle.tables.specs.Rows.{extent_row, pair_bytes}
use Rattle.tables.proofs.RowsBack.{pairs_joined, extents_whole}
use Rattle.encode.specs.declared.limits.OffLimits.{OffLimits}
use Rattle.encode.specs.Limits.{all_short}
use Rattle.encode.specs.Sealed.{sealed}
use Rattle.encode.specs.Written.{unallocated_space_bytes}
use Rattle.encode.proofs.Chain.{also, written}
use Rattle.encode.proofs.Drained.{drained}
use Rattle.encode.proofs.RoundTripTables.{unallocated_space_back, short_decides}
use Rattle.encode.proofs.table_descriptors.unallocated_space.Goals as goal

extents : (c : goal.After-seal) → c.put_rows.ensures.0 ≡ map extent_low c.args.free.now
extents c = drained _ c.put_rows.ensures.1 (YieldsList-from_map _ extent_low (YieldsList-from_slice c.args.free.now cc) c.map-rows.ensures.closure (λ x r q k. search rules))

table : (c : goal.After-seal) → flat_map extent_row c.put_rows.ensures.0 ≡ flat_map pair_bytes c.args.free.now
table c = ap (flat_map extent_row) (extents c) ∙ pairs_joined c.args.free.now

bytes : (c : goal.After-seal) → c.seal.new.sector ≡ unallocated_space_bytes c.args.stamp c.args.sequence c.args.free.now
unfolding unallocated_space_bytes
bytes c =
    c.seal.ensures
    ∙ ap (sealed 7 c.args.stamp) (also 24 c.put_rows.ensures.2 (table c)
    (also 20 c.put_u32-2.ensures (ap le32 c.in_ok-extents.ensures.0)
    (also 16 c.put_u32.ensures refl c.blank-sector.ensures)))

pub returns : goal.returns
returns c =
    let short = (short_decides c.args.free.now).0 (sym c.if-not-lengths_fit.ensures) in
    record {
      bytes = ap {B = Result (List ℕ) OffLimits} Ok (bytes c)
          ∙ (sym (cond-true (all_short c.args.free.now) _ _ (sym c.if-not-lengths_fit.ensures))
          ∙ sym (cond-true (leb (length c.args.free.now) 16) _ _ (le-leb _ _ (omega (arith, c.in_ok-extents.ensures)))));
      read_back = (
        written _ c.args.stamp _ _ (bytes c)
            (unallocated_space_back c.args.stamp c.args.sequence c.args.free.now
            (record { serial = omega arith; location = omega arith }) (omega arith) (omega (arith, c.in_ok-extents.ensures)) short),
        ap (λ (run : List ℕ). map extent_of (whole_rows 8 run)) (sym (table c)) ∙ (c.put_rows.ensures.4 ∙ (extents c ∙ extents_whole c.args.free.now short)),
      );
    }
