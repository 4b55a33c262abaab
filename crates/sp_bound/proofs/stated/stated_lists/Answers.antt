use Rattle.sp_bound.proofs.StatingLemmas.{costs_small, rows_factors, rows_told}
use Rattle.sp_bound.proofs.stated.stated_lists.Goals as goal

pub add_lists_of_rows-requires-clause-costs : goal.add_lists_of_rows-requires-clause-costs
add_lists_of_rows-requires-clause-costs c =
    rw c.as_slice.ensures (rw c.parts-parts.ensures.same (costs_small c.args.model.now c.parts-parts.ensures.lawful))

pub add_lists_of_rows-requires-clause-terms : goal.add_lists_of_rows-requires-clause-terms
add_lists_of_rows-requires-clause-terms c =
    rw c.as_slice-2.ensures (rw c.parts-parts.ensures.same (rows_factors c.args.model.now c.parts-parts.ensures.lawful))

pub returns : goal.returns
returns c =
    rows_told c.args.model.now c.parts-parts.result.now c.as_slice.result.now c.as_slice-2.result.now c.in_ok-lists.lists.items c.add_lists_of_rows.new.lists.items c.parts-parts.ensures.same c.as_slice.ensures c.as_slice-2.ensures c.in_ok-lists.ensures c.in_ok-add_lists_of_rows.ensures
