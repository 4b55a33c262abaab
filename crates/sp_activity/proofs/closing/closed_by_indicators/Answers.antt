use Rattle.std.proofs.Common.{◌≡◌, sym, ap, ◌∙◌, List}
use Rattle.sp_model.specs.declared.parts.Indicator.{Indicator}
use Rattle.sp_model.specs.Sums.{Term}
use Rattle.sp_sums.specs.Extremes.{is_low, span_over, span_of}
use Rattle.sp_activity.specs.Stages.{gate_reason}
use Rattle.sp_activity.proofs.NamedLemmas.{gate_named}
use Rattle.sp_activity.proofs.closing.closed_by_indicators.Goals as goal

pub returns-in-Some : goal.returns-in-Some
returns-in-Some c =
    let over : c.span_over-span.result ≡ span_of c.args.bounds.now c.index-indicators-id.result.row =
    c.span_over-span.ensures ∙ ap (λ (ts : List Term). span_over c.args.bounds.now ts) c.as_slice.ensures ∙ ap (λ (i : Indicator). span_of c.args.bounds.now i.row) (sym c.index-indicators-id.is) in
    let named : c.gate_reason.result ≡ gate_reason c.in-Some.id (is_low c.index-indicators-id.result.row c.span_over-span.result) =
    c.gate_reason.ensures ∙ ap (λ (i : Indicator). gate_reason c.in-Some.id (is_low i.row c.span_over-span.result)) (sym c.index-indicators-id.is) in
    gate_named c.args.parts.now c.args.bounds.now c.as_slice-indicators.result.now c.in-Some.id c.index-indicators-id.result c.span_over-span.result c.gate_reason.result c.as_slice-indicators.ensures c.index-indicators-id.is over named c.requires.rows c.in-Some.ensures
