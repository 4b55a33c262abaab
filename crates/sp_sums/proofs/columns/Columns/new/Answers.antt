use Rattle.std.proofs.Common.{◌≡◌, ◌<◌, length, sym, ap, ◌∙◌, arith}
use Rattle.std.proofs.lemmas.List.{get_or_read}
use Rattle.sp_model.specs.declared.parts.Row.{Row}
use Rattle.sp_sums.specs.Rows.{bare_row, row_at}
use Rattle.sp_sums.proofs.columns.Columns.new.Goals as goal

pub add_row-requires : goal.add_row-requires
add_row-requires c = λ k d h. (
    let row = get_or_read c.args.rows.now c.loop-at.at c.index-rows-at.result c.loop-at-test.true c.index-rows-at.is bare_row in
    let terms : c.as_slice.result.now ≡ (row_at c.args.rows.now c.loop-at.at).terms = c.as_slice.ensures ∙ ap (λ (r : Row). r.terms) (sym c.index-rows-at.is ∙ row) in
    let inside : k < length (row_at c.args.rows.now c.loop-at.at).terms = rw terms at h in
    let known = c.requires.known c.loop-at.at bare_row c.loop-at-test.true k d inside in
    rw terms (omega (arith, known, c.loop-at.invariant.long))
    )
