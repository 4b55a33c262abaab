use Rattle.std.proofs.Common.{ap, subst, sym, ◌∙◌}
use Rattle.std.proofs.lemmas.List.{get_or_read}
use Rattle.sp_dual.specs.Lists.{zero_list}
use Rattle.sp_bound.specs.Bounds.{AreRowsKnown}
use Rattle.sp_bound.specs.Closing.{closes}
use Rattle.sp_bound.proofs.asking.closes_at.Goals as goal

pub closes-requires-clause-known : goal.closes-requires-clause-known
closes-requires-clause-known c = subst (AreRowsKnown c.args.model.now) (sym c.index-lists-place.is) (c.requires.known c.args.place c.index-lists-place.result c.requires.place)

pub returns : goal.returns
returns c =
    let read = get_or_read c.args.lists.now c.args.place c.index-lists-place.result c.requires.place c.index-lists-place.is zero_list in
    c.closes.ensures ∙ ap (closes c.args.model.now c.args.bounds.now c.args.threshold.now) read
