use Rattle.std.proofs.Common.{◌≡◌, ◌∙◌, FitsSigned, ap, rules, to_z-of_z}
use Rattle.std.specs.Int.{w128}
use Rattle.sp_sums.specs.declared.spans.Span.{Span}
use Rattle.sp_sums.specs.Extremes.{least_over}
use Rattle.sp_activity.proofs.extremes.least.Goals as goal

pub returns-clause-least : goal.returns-clause-least
returns-clause-least c = λ x w. (
    let fits : FitsSigned w128 c.span_over-span.result.least = search rules in
    let span : c.span_over-span.result.least ≡ least_over c.args.bounds.now c.args.row.now.terms = ap (λ (s : Span). s.least) c.span_over-span.ensures ∙ ap (least_over c.args.bounds.now) c.as_slice.ensures in
    rw (to_z-of_z fits, span) ((c.sums_lie_between.ensures c.args.bounds.now c.args.row.now.terms).least x w)
    )
