use Rattle.std.proofs.Common.{◌≡◌, ap, ◌∙◌}
use Rattle.sp_sums.specs.Extremes.{least_over}
use Rattle.sp_cursor.proofs.ObjectiveLemmas.{SumLaws, cost-narrow, least-small}
use Rattle.sp_cursor.proofs.hands.least_objective.Goals as goal

pub span_over-span-requires : goal.span_over-span-requires
span_over-span-requires c =
    let laws : SumLaws = record { narrow = c.rows_are_narrow_inside.ensures; reached = c.sums_are_reached.ensures; small = c.objective_is_small.ensures } in
    rw (c.as_slice.ensures, c.parts-parts.ensures.same) (cost-narrow laws c.args.model.now c.args.bounds.now c.parts-parts.ensures.lawful c.requires)

pub sum_of-requires : goal.sum_of-requires
sum_of-requires c =
    let laws : SumLaws = record { narrow = c.rows_are_narrow_inside.ensures; reached = c.sums_are_reached.ensures; small = c.objective_is_small.ensures } in
    let same = c.parts-parts.ensures.same in
    let least : c.span_over-span.result.least ≡ least_over c.args.bounds.now c.args.model.now.cost =
    ap (λ s. s.least) c.span_over-span.ensures ∙ ap (λ ts. least_over c.args.bounds.now ts) (c.as_slice.ensures ∙ ap (λ p. p.cost) same) in
    rw (same, least) (least-small laws c.args.model.now c.args.bounds.now c.parts-parts.ensures.lawful c.requires)
