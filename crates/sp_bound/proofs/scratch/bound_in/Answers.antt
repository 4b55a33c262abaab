use Rattle.std.proofs.Common.{◌≡◌, ℕ, List, length, Option, ℤ, ap, sym, subst, ◌∙◌, arith}
use Rattle.sp_model.specs.Models.{root_of}
use Rattle.sp_bound.specs.Inner.{AreReduced, cost_at, plus_values}
use Rattle.sp_bound.proofs.ReadyLemmas.{rows_narrow, rows_rising}
use Rattle.sp_bound.proofs.ReduceLemmas.{bound_in_told}
use Rattle.sp_bound.proofs.scratch.bound_in.Goals as goal

pub sum_of_sides-sides-requires-clause-narrow : goal.sum_of_sides-sides-requires-clause-narrow
sum_of_sides-sides-requires-clause-narrow c =
    rw c.parts-parts.ensures.same (rows_narrow c.rows_are_narrow_inside.ensures c.args.model.now c.args.bounds.now c.parts-parts.ensures.lawful c.requires.inside)

pub reduce-requires-clause-rising : goal.reduce-requires-clause-rising
reduce-requires-clause-rising c =
    let long : length c.scratch.inside.costs.items ≡ length (root_of c.args.model.now) = ap length c.scratch.view_is ∙ c.requires.room in
    rw c.parts-parts.ensures.same (rows_rising c.args.model.now (length c.scratch.inside.costs.items) c.parts-parts.ensures.lawful long)

pub plus_costs-sum-requires-clause-short : goal.plus_costs-sum-requires-clause-short
plus_costs-sum-requires-clause-short c =
    omega (arith, c.requires.inside.long, c.root_is_short.ensures.short c.args.model.now c.parts-parts.ensures.lawful)

pub plus_costs-sum-requires-clause-long : goal.plus_costs-sum-requires-clause-long
plus_costs-sum-requires-clause-long c =
    let room : length c.scratch.inside.costs.items ≡ length (root_of c.args.model.now) = ap length c.scratch.view_is ∙ c.requires.room in
    omega (arith, room, c.requires.inside.long, c.reduce.ensures.long, ap length c.as_slice.ensures.value)

pub returns-clause-exact : goal.returns-clause-exact
returns-clause-exact c =
    let long : length c.scratch.inside.costs.items ≡ length c.args.bounds.now = ap length c.scratch.view_is ∙ c.requires.room ∙ sym c.requires.inside.long in
    let reduced : AreReduced c.parts-parts.result.now c.args.list.now (length c.args.bounds.now) c.reduce.new.costs.items = subst (λ (n : ℕ). AreReduced c.parts-parts.result.now c.args.list.now n c.reduce.new.costs.items) long c.reduce.ensures in
    bound_in_told c.args.model.now c.parts-parts.result.now c.args.bounds.now c.args.list.now c.reduce.new.costs.items c.sum_of_sides-sides.result c.plus_costs-sum.result c.ended.result c.parts-parts.ensures.same c.sum_of_sides-sides.ensures reduced
    (c.plus_costs-sum.ensures ∙ ap (λ (xs : List (Option ℤ)). plus_values (cost_at xs) 0 c.sum_of_sides-sides.result c.args.bounds.now) c.as_slice.ensures.value) c.ended.ensures

pub returns-clause-room : goal.returns-clause-room
returns-clause-room c = c.reduce.ensures.long ∙ ap length c.scratch.view_is
