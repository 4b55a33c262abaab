use Rattle.sp_bound.proofs.StatingLemmas.{factor_told, term_with, term_without}
use Rattle.sp_bound.proofs.stated.add_list_with.Goals as goal

pub single_list-requires-clause-cost : goal.single_list-requires-clause-cost
single_list-requires-clause-cost c = factor_told c.args.cost.now c.is_zero.result c.is_zero.ensures c.if-is_zero.false c.requires.cost

pub returns-then-is_zero : goal.returns-then-is_zero
returns-then-is_zero c = term_without c.args.row c.args.coefficient.now c.args.cost.now c.args.lists.now.items c.is_zero.result c.is_zero.ensures c.if-is_zero.true

pub returns : goal.returns
returns c =
    term_with c.args.row c.args.coefficient.now c.args.cost.now c.in_ok-list.list c.args.lists.now.items c.add_new.new.lists.items c.is_zero.result c.is_zero.ensures c.if-is_zero.false c.in_ok-list.ensures c.in_ok-add_new.ensures
