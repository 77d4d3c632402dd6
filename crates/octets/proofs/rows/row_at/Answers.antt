use Rattle.std.proofs.Common.{◌≡◌, ℕ, ◌+◌, ◌-◌, ◌*◌, ◌/◌, ◌≤◌, length, take, drop, Some, sym, ap, ◌∙◌, arith}
use native.Mathlib.Nat.{div-zero}
use Rattle.octets.proofs.Tables.{row_inside, nth-rows, nth_rows_past}
use Rattle.octets.proofs.rows.row_at.Goals as goal
use Rattle.octets.proofs.rows.row_at.Goals.{then-width-eq0-via-then-width-eq0, then-width-eq0-via-else-width-eq0+then-row-table}

pub returns-then-width-eq0 : goal.returns-then-width-eq0
returns-then-width-eq0 c = sym (nth_rows_past c.args.width (rows_in c) c.args.row c.args.table.now (too_far c))
  where
    rows_in : goal.Joined-then-width-eq0 → ℕ
    rows_in d = length d.args.table.now / d.args.width

    none : (n w r : ℕ) → w ≡ 0 → n / w ≤ r
    none n w r e = let z : n / w ≡ 0 = ap (λ (k : ℕ). n / k) e ∙ div-zero n in omega arith

    too_far : (d : goal.Joined-then-width-eq0) → length d.args.table.now / d.args.width ≤ d.args.row
    too_far d = elim d.then-width-eq0.branch [
      | then-width-eq0-via-then-width-eq0 w ↦ none _ _ _ w.if-width-eq0.true
      | then-width-eq0-via-else-width-eq0+then-row-table w ↦ w.if-row-table.true
    ]

pub overflow_mul-from : goal.overflow_mul-from
overflow_mul-from c = let i = row_inside (length c.args.table.now) c.args.width c.args.row c.if-row-table.false in record { fits = omega arith }

pub overflow_add-result : goal.overflow_add-result
overflow_add-result c = let i = row_inside (length c.args.table.now) c.args.width c.args.row c.if-row-table.false in record { fits = omega arith }

pub slice_bounds-result-end : goal.slice_bounds-result-end
slice_bounds-result-end c = let i = row_inside (length c.args.table.now) c.args.width c.args.row c.if-row-table.false in omega arith

pub returns : goal.returns
returns c =
    let n : c.args.row * c.args.width + c.args.width - c.args.row * c.args.width ≡ c.args.width = omega arith in
    ap (λ (k : ℕ). Some (take k (drop (c.args.row * c.args.width) c.args.table.now))) n
    ∙ sym (nth-rows c.args.width (length c.args.table.now / c.args.width) c.args.row c.args.table.now c.if-row-table.false)
