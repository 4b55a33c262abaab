use Rattle.std.proofs.Common.{◌≡◌, ap, ◌∙◌, List}
use Rattle.sp_model.specs.Sums.{Term}
use Rattle.sp_sums.specs.Extremes.{span_over, span_of}
use Rattle.sp_activity.proofs.NamedLemmas.{row_named}
use Rattle.sp_activity.proofs.closing.closed_by_rows.Goals as goal

pub returns-in-Some : goal.returns-in-Some
returns-in-Some c =
    let read = rw c.index.ensures at c.index-rows-index.is in
    let over : c.span_over-span.result ≡ span_of c.args.bounds.now c.index-rows-index.result = c.span_over-span.ensures ∙ ap (λ (ts : List Term). span_over c.args.bounds.now ts) c.as_slice.ensures in
    row_named c.args.parts.now c.args.bounds.now c.as_slice-rows.result.now c.in-Some.id c.index-rows-index.result c.span_over-span.result c.row_reason.result c.as_slice-rows.ensures read over c.row_reason.ensures c.requires.filled c.in-Some.ensures
