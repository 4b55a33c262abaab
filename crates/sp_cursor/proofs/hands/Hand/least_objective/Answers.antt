use Rattle.std.proofs.Common.{◌≡◌, [], ◌∷◌, ap, ◌∙◌}
use Rattle.sp_sums.specs.Extremes.{least_over}
use Rattle.sp_sums.specs.Rows.{row_at}
use Rattle.sp_cursor.specs.Cursors.{objective_row}
use Rattle.sp_cursor.proofs.ObjectiveLemmas.{SumLaws, least-small}
use Rattle.sp_cursor.proofs.hands.Hand.least_objective.Goals as goal

pub sum_of-requires : goal.sum_of-requires
sum_of-requires c =
    let laws : SumLaws = record { narrow = c.rows_are_narrow_inside.ensures; reached = c.sums_are_reached.ensures; small = c.objective_is_small.ensures } in
    let same = c.parts-parts.ensures.same in
    let least : c.span-span.result.least ≡ least_over c.args.bounds.now c.args.model.now.cost =
    ap (λ s. s.least) c.span-span.ensures
    ∙ ap (λ b. least_over b (row_at c.args.self.now.objective.rows c.new.result).terms) c.requires.hand.objective_over
    ∙ ap (λ rs. least_over c.args.bounds.now (row_at rs c.new.result).terms) c.requires.hand.objective_rows
    ∙ ap (λ k. least_over c.args.bounds.now (row_at (objective_row c.args.model.now ∷ []) k).terms) c.new.ensures in
    rw (same, least) (least-small laws c.args.model.now c.args.bounds.now c.parts-parts.ensures.lawful c.requires.inside)
