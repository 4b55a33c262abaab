use Rattle.std.proofs.Common.{ap, subst, sym, ◌∙◌}
use Rattle.std.proofs.lemmas.List.{get_or_read}
use Rattle.sp_dual.specs.Lists.{zero_list}
use Rattle.sp_bound.specs.Bounds.{AreRowsKnown}
use Rattle.sp_cover.specs.Numbers.{number_of}
use Rattle.sp_search.proofs.StepLemmas.{past-told, table-stated}
use Rattle.sp_search.proofs.closers.past_list.Goals as goal

pub number_of-number-requires-clause-known : goal.number_of-number-requires-clause-known
number_of-number-requires-clause-known c =
    let stated = table-stated c.args.model.now c.args.lists.now c.args.place (c.stated_lists_are_lists.ensures.each c.args.model.now c.parts-parts.ensures.lawful) c.requires.front c.requires.known in
    let read = get_or_read c.args.lists.now c.args.place c.index-lists-place.result c.requires.within c.index-lists-place.is zero_list in
    subst (AreRowsKnown c.args.model.now) (sym read) stated.known

pub returns : goal.returns
returns c =
    let m = c.args.model.now in
    let lists = c.args.lists.now in
    let stated = table-stated m lists c.args.place (c.stated_lists_are_lists.ensures.each m c.parts-parts.ensures.lawful) c.requires.front c.requires.known in
    let read = get_or_read lists c.args.place c.index-lists-place.result c.requires.within c.index-lists-place.is zero_list in
    past-told m lists c.args.place c.args.aim.now c.args.best.now c.args.bounds.now c.number_of-number.result c.past_number.result c.requires.within stated.formed
    (c.number_of-number.ensures ∙ ap (number_of m c.args.bounds.now) read) c.past_number.ensures
