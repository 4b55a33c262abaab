use Rattle.sp_bound.specs.KeptBounds.{lists_of, threshold_of}
use Rattle.sp_search.proofs.CursorLemmas.{unlisted-kept}
use Rattle.sp_search.proofs.kept_closers.past_kept.Goals as goal

pub returns-in-None-closing : goal.returns-in-None-closing
returns-in-None-closing c =
    let lists = c.args.hand.now.lists in
    let shut = rw c.requires.hand.lists_over at c.in-None-closing.ensures in
    unlisted-kept c.args.model.now c.args.aim.now c.args.best.now c.args.bounds.now (threshold_of lists) (lists_of lists) c.requires.hand.lists.stated c.requires.threshold shut c.requires.low
