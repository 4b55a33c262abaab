use Rattle.std.proofs.Common.{arith}
use Rattle.sp_bound.proofs.HeldLemmas.{bound_told}
use Rattle.sp_bound.proofs.ReadyLemmas.{rows_narrow}
use Rattle.sp_bound.proofs.SafeLemmas.{zero_told}
use Rattle.sp_bound.proofs.bounds.bound.Goals as goal

pub sum_of_sides-sides-requires-clause-narrow : goal.sum_of_sides-sides-requires-clause-narrow
sum_of_sides-sides-requires-clause-narrow c =
    rw c.parts-parts.ensures.same (rows_narrow c.rows_are_narrow_inside.ensures c.args.model.now c.args.bounds.now c.parts-parts.ensures.lawful c.requires.inside)

pub plus_values-sum-requires-clause-short : goal.plus_values-sum-requires-clause-short
plus_values-sum-requires-clause-short c =
    omega (arith, c.requires.inside.long, c.root_is_short.ensures.short c.args.model.now c.parts-parts.ensures.lawful)

pub returns-clause-exact : goal.returns-clause-exact
returns-clause-exact c =
    bound_told c.args.model.now c.parts-parts.result.now c.args.bounds.now c.args.list.now c.sum_of_sides-sides.result c.plus_values-sum.result c.ended.result c.parts-parts.ensures.same c.sum_of_sides-sides.ensures c.plus_values-sum.ensures c.ended.ensures

pub returns-clause-zero : goal.returns-clause-zero
returns-clause-zero c =
    zero_told (record { law = c.quotients_are_exact.ensures.ceiling }) c.args.model.now c.parts-parts.result.now c.args.bounds.now c.args.list.now c.ended.result c.parts-parts.ensures.lawful c.requires.inside (bound_told c.args.model.now c.parts-parts.result.now c.args.bounds.now c.args.list.now c.sum_of_sides-sides.result c.plus_values-sum.result c.ended.result c.parts-parts.ensures.same c.sum_of_sides-sides.ensures c.plus_values-sum.ensures c.ended.ensures)
