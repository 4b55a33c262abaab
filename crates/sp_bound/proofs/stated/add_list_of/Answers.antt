use Rattle.std.proofs.Common.{FitsSigned, sym, ◌∙◌, rules, subst, ℤ}
use Rattle.std.specs.Int.{w128}
use Rattle.std.proofs.lemmas.Int.{to_z-of_z}
use Rattle.sp_bound.specs.Stating.{AddsLists, IsSmall, lists_with}
use Rattle.sp_bound.proofs.StatingLemmas.{coefficient_small}
use Rattle.sp_bound.proofs.stated.add_list_of.Goals as goal

pub add_list_with-requires-clause-cost : goal.add_list_with-requires-clause-cost
add_list_with-requires-clause-cost c =
    let f : FitsSigned w128 c.coefficient_in-own.result = search rules in
    subst IsSmall (sym (to_z-of_z w128 c.coefficient_in-own.result f ∙ c.coefficient_in-own.ensures)) (coefficient_small c.args.cost.now c.args.term.now.0 c.requires.costs)

pub returns : goal.returns
returns c =
    let f : FitsSigned w128 c.coefficient_in-own.result = search rules in
    subst (λ (v : ℤ). AddsLists (lists_with c.args.row c.args.term.now.1 v) c.args.lists.now.items c.add_list_with.new.lists.items) (to_z-of_z w128 c.coefficient_in-own.result f ∙ c.coefficient_in-own.ensures) c.in_ok-add_list_with.ensures
