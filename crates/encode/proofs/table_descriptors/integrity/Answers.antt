use Rattle.std.proofs.Common.{◌≡◌, ℕ, ◌+◌, ◌-◌, ◌^◌, min, leb, List, length, map, Ok, Result, rules, sym, ap, ◌∙◌, arith}
use Rattle.std.specs.List.{flat_map}
use Rattle.std.proofs.lemmas.Bool.{cond-true, le-leb}
use Rattle.std.proofs.lemmas.Iterator.{YieldsList-from_slice, YieldsList-from_map}
use Rattle.std.proofs.lemmas.List.Folds.{flat_map-map}
use Rattle.octets.specs.Fields.{put, le32}
use Rattle.octets.specs.Rows.{whole_rows}
use Rattle.octets.proofs.Runs.{saturated_put, length-put, length-zeros}
use Rattle.descriptor.specs.declared.kinds.Partition.{Partition}
use Rattle.tables.specs.Read.{size_of}
use Rattle.tables.specs.Rows.{free_bytes, size_bytes}
use Rattle.encode.specs.declared.limits.OffLimits.{OffLimits}
use Rattle.encode.specs.Sealed.{sealed}
use Rattle.encode.specs.Written.{integrity_bytes}
use Rattle.encode.proofs.Chain.{also, whole, written}
use Rattle.encode.proofs.Drained.{drained}
use Rattle.encode.proofs.RoundTripTables.{integrity_back}
use Rattle.encode.proofs.table_descriptors.integrity.Goals as goal

abbrev size : Partition → ℕ
size p = p.count

not_stated : (c : goal.After-seal) → c.put_rows-sizes_at.ensures.0 ≡ map (λ _. 4294967295) c.args.partitions.now
not_stated c = drained _ c.put_rows-sizes_at.ensures.1 (YieldsList-from_map _ (λ _. 4294967295) (YieldsList-from_slice c.args.partitions.now cc) c.map.ensures.closure (λ x r q k. search rules))

sizes : (c : goal.After-seal) → c.put_rows.ensures.0 ≡ map size c.args.partitions.now
sizes c = drained _ c.put_rows.ensures.1 (YieldsList-from_map _ size (YieldsList-from_slice c.args.partitions.now cc) c.map-2.ensures.closure (λ x r q k. search rules))

free_table : (c : goal.After-seal) → flat_map le32 c.put_rows-sizes_at.ensures.0 ≡ flat_map free_bytes c.args.partitions.now
free_table c = ap (flat_map le32) (not_stated c) ∙ flat_map-map le32 (λ _. 4294967295) c.args.partitions.now

size_table : (c : goal.After-seal) → flat_map le32 c.put_rows.ensures.0 ≡ flat_map size_bytes c.args.partitions.now
size_table c = ap (flat_map le32) (sizes c) ∙ flat_map-map le32 size c.args.partitions.now

bytes : (c : goal.After-seal) → c.seal.new.sector ≡ integrity_bytes c.args.stamp c.args.recorded.now c.args.state c.args.partitions.now
unfolding integrity_bytes
bytes c =
    let ps = c.args.partitions.now in
    let end = c.put_rows-sizes_at.result in
    c.seal.ensures
    ∙ ap (sealed 9 c.args.stamp) (c.put_rows.ensures.2
    ∙ (ap (λ (run : List ℕ). put end run c.put_rows-sizes_at.new.area) (size_table c)
    ∙ (ap (put end (flat_map size_bytes ps))
    (also 80 c.put_rows-sizes_at.ensures.2 (free_table c)
    (also 72 c.put_u32-2.ensures (ap le32 c.in_ok-sizes.ensures.0)
    (also 28 c.put_u32.ensures (ap le32 c.into.ensures)
    (also 16 c.put_bytes.ensures.value (whole _ c.told-recorded) c.blank-sector.ensures))))
    ∙ saturated_put 80 end (flat_map free_bytes ps) (flat_map size_bytes ps) _ (simp (length-put, length-zeros) (omega arith)) (c.put_rows-sizes_at.ensures.3 ∙ ap (λ (run : List ℕ). min (80 + length run) (2 ^ 64 - 1)) (free_table c)))))

pub returns : goal.returns
returns c = record {
  bytes = ap {B = Result (List ℕ) OffLimits} Ok (bytes c) ∙ sym (cond-true (leb (length c.args.partitions.now) 8) _ _ (le-leb _ _ (omega (arith, c.in_ok-sizes.ensures))));
  read_back = (
    written _ c.args.stamp _ _ (bytes c)
        (integrity_back c.args.stamp c.args.recorded.now c.args.state c.args.partitions.now
        (record { serial = omega arith; location = omega arith }) c.told-recorded (omega (arith, c.in_ok-sizes.ensures))),
    ap (λ (run : List ℕ). map size_of (whole_rows 4 run)) (sym (size_table c)) ∙ (c.put_rows.ensures.4 ∙ sizes c),
  );
}
