use Rattle.std.proofs.Common.{◌≡◌, ap, ◌∙◌, length, arith}
use Rattle.sp_search.proofs.StepLemmas.{stated-some}
use Rattle.sp_search.proofs.kept_closers.listed_at.Goals as goal

pub listed-requires-clause-filled : goal.listed-requires-clause-filled
listed-requires-clause-filled c =
    let s = c.args.search.now in
    let some = stated-some c.args.model.now s c.args.stated c.requires.stated in
    let table = c.requires.table in
    let long : length c.multipliers-lists.result.now ≡ length s.tree.lists = ap (λ ls. length ls) (c.multipliers-lists.ensures ∙ ap (λ t. t.lists) c.tree.ensures) in
    omega (arith, some, table, long)
