use Rattle.std.proofs.Common.{◌≡◌, ◌∙◌, FitsSigned, ap, rules, to_z-of_z}
use Rattle.std.specs.Int.{w128}
use Rattle.sp_sums.specs.declared.spans.Span.{Span}
use Rattle.sp_sums.specs.Extremes.{most_over}
use Rattle.sp_activity.proofs.extremes.most.Goals as goal

pub returns-clause-most : goal.returns-clause-most
returns-clause-most c = λ x w. (
    let fits : FitsSigned w128 c.span_over-span.result.most = search rules in
    let span : c.span_over-span.result.most ≡ most_over c.args.bounds.now c.args.row.now.terms = ap (λ (s : Span). s.most) c.span_over-span.ensures ∙ ap (most_over c.args.bounds.now) c.as_slice.ensures in
    rw (to_z-of_z fits, span) ((c.sums_lie_between.ensures c.args.bounds.now c.args.row.now.terms).most x w)
    )
