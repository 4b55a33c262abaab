use Rattle.std.proofs.Common.{◌≡◌, ◌∙◌, sym, [], get_or, arith}
use Rattle.sp_draft.specs.declared.drafts.DraftRow.{DraftRow}
use Rattle.sp_mps.specs.Drafts.{is_plain}
use Rattle.sp_mps.specs.inner.Tables.{row_of}
use Rattle.sp_mps.proofs.RowLemmas.{with_next, without_next, stays, less, row_is}
use Rattle.sp_mps.proofs.drafting.rows.Goals.{then-is_plain+in_ok-push_row, else-is_plain}
use Rattle.sp_mps.proofs.drafting.rows.Goals as goal

pub loop-row-preserved : goal.loop-row-preserved
loop-row-preserved c =
    let kinds = c.args.reader.now.rows.kinds in
    let first = c.args.tables.terms.items in
    let sides = c.args.tables.sides.items in
    let ranges = c.args.tables.ranges.items in
    let now = c.loop-row.terms.items in
    let row = c.loop-row.row in
    elim c.if-is_plain.branch [
      | then-is_plain+in_ok-push_row w ↦
          let one : DraftRow = record { terms = get_or now row []; sides = w.sides_at-held.result } in
          let is : one ≡ row_of kinds first sides ranges row = row_is kinds first now sides ranges row w.sides_at-held.result (c.loop-row.invariant.left row (omega arith)) (rw (w.as_slice.ensures, w.as_slice-then-is_plain.ensures.value, w.as_slice-then-is_plain-2.ensures.value) at w.sides_at-held.ensures) in
          record {
            made = rw w.made-is (w.in_ok-push_row.ensures.made ∙ with_next (row_of kinds first sides ranges) (is_plain c.args.reader.now) row c.loop-row.made.items one (sym c.is_plain.ensures ∙ w.if-is_plain.true) c.loop-row.invariant.made is);
            left = rw (w.terms-is, w.in_ok-push_row.ensures.table) (stays now first row [] [] c.loop-row.invariant.left);
          }
      | else-is_plain w ↦ record {
        made = rw w.made-is (without_next (row_of kinds first sides ranges) (is_plain c.args.reader.now) row c.loop-row.made.items (sym c.is_plain.ensures ∙ w.if-is_plain.false) c.loop-row.invariant.made);
        left = rw w.terms-is (less now first row [] c.loop-row.invariant.left);
      }
    ]
