use Rattle.std.proofs.Common.{◌≡◌, ℕ, ◌*◌, leb, List, length, map, Ok, Result, rules, sym, refl, ap, ◌∙◌, arith}
use Rattle.std.specs.List.{flat_map}
use Rattle.std.proofs.lemmas.Bool.{cond-true, le-leb}
use Rattle.std.proofs.lemmas.Iterator.{YieldsList-from_slice, YieldsList-from_map}
use Rattle.std.proofs.lemmas.List.Folds.{flat_map-map}
use Rattle.octets.specs.Fields.{le32}
use Rattle.octets.specs.Rows.{whole_rows}
use Rattle.descriptor.specs.Converted.{map_to}
use Rattle.tables.specs.Read.{map_of}
use Rattle.tables.specs.Rows.{map_row, map_bytes}
use Rattle.encode.specs.declared.limits.OffLimits.{OffLimits}
use Rattle.encode.specs.Sealed.{sealed}
use Rattle.encode.specs.Written.{logical_volume_bytes}
use Rattle.encode.proofs.Chain.{also, whole, written}
use Rattle.encode.proofs.Drained.{drained}
use Rattle.encode.proofs.RoundTripTables.{logical_volume_back}
use Rattle.encode.proofs.table_descriptors.logical_volume.Goals as goal

maps : (c : goal.After-seal) → c.put_rows.ensures.0 ≡ map map_to c.args.partitions.now
maps c = drained _ c.put_rows.ensures.1 (YieldsList-from_map _ map_to (YieldsList-from_slice c.args.partitions.now cc) c.map-rows.ensures.closure (λ x r q k. search rules))

table : (c : goal.After-seal) → flat_map map_row c.put_rows.ensures.0 ≡ flat_map map_bytes c.args.partitions.now
table c = ap (flat_map map_row) (maps c) ∙ flat_map-map map_row map_to c.args.partitions.now

bytes : (c : goal.After-seal) → c.seal.new.sector ≡ logical_volume_bytes c.args.stamp c.args.sequence c.args.identifier.now c.args.partitions.now c.args.integrity
unfolding logical_volume_bytes
bytes c =
    let n = c.in_ok-maps.ensures.0 in
    c.seal.ensures
    ∙ ap (sealed 6 c.args.stamp) (also 440 c.put_rows.ensures.2 (table c)
    (also 432 c.put.ensures.after refl
    (also 268 c.put_u32-4.ensures (ap le32 n)
    (also 264 c.put_u32-3.ensures (ap (λ (k : ℕ). le32 (6 * k)) n)
    (also 212 c.put_u32-2.ensures refl
    (also 84 c.put_bytes.ensures.value (whole _ c.told-identifier)
    (also 16 c.put_u32.ensures refl c.blank-sector.ensures)))))))

pub returns : goal.returns
returns c = record {
  bytes = ap {B = Result (List ℕ) OffLimits} Ok (bytes c) ∙ sym (cond-true (leb (length c.args.partitions.now) 8) _ _ (le-leb _ _ (omega (arith, c.in_ok-maps.ensures))));
  read_back = (
    written _ c.args.stamp _ _ (bytes c)
        (logical_volume_back c.args.stamp c.args.sequence c.args.identifier.now c.args.partitions.now c.args.integrity
        (record { serial = omega arith; location = omega arith }) (omega arith) c.told-identifier (record { length = omega arith; location = omega arith }) (omega (arith, c.in_ok-maps.ensures))),
    ap (λ (run : List ℕ). map map_of (whole_rows 6 run)) (sym (table c)) ∙ (c.put_rows.ensures.4 ∙ maps c),
  );
}
