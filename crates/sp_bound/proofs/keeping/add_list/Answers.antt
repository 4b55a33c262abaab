use Rattle.std.proofs.Common.{length, ap, subst, ◌∙◌}
use Rattle.sp_bound.specs.Keeping.{TellsSides}
use Rattle.sp_bound.proofs.DraftLemmas.{added_told}
use Rattle.sp_bound.proofs.keeping.add_list.Goals as goal

pub returns-in_ok-add_row-in-Of-clause-added : goal.returns-in_ok-add_row-in-Of-clause-added
returns-in_ok-add_row-in-Of-clause-added c =
    added_told c.args.model.now c.args.list.now c.args.root.now c.as_slice.result.now c.entries.result.now c.reduce.new.costs.items c.as_slice-in-Of.result.now (length c.args.costs.now.items) c.args.place c.in-Of.product c.args.draft.now c.add_row.new.draft
    c.requires.root c.as_slice.ensures c.entries.ensures.same c.as_slice-in-Of.ensures.value (c.requires.long ∙ ap length c.requires.root) c.reduce.ensures
    (subst (TellsSides c.as_slice.result.now c.entries.result.now) c.in-Of.is c.sides_of-sides.ensures) c.in_ok-add_row-in-Of.ensures
