use Rattle.sp_search.proofs.StepLemmas.{zero-told}
use Rattle.sp_search.proofs.kept_closers.past_zero.Goals as goal

pub returns : goal.returns
returns c =
    let m = c.args.model.now in
    zero-told m c.args.lists.now c.args.aim.now c.args.best.now c.args.bounds.now c.zero_number-number.result c.past_number.result
    (c.stated_lists_are_lists.ensures.each m c.parts-parts.ensures.lawful) c.requires.front c.requires.filled c.zero_number-number.ensures c.past_number.ensures
