use Rattle.std.proofs.lemmas.List.{get_or_read}
use Rattle.sp_dual.specs.Lists.{zero_list}
use Rattle.sp_bound.specs.KeptBounds.{owner_at}
use Rattle.sp_bound.proofs.KeptLemmas.{place_read, row_read}
use Rattle.sp_bound.proofs.kept.KeptBounds.row_bound.Goals as goal

pub returns : goal.returns
returns c =
    let ls = c.as_slice-2.result.now in
    let place = (owner_at c.as_slice.result.now c.index.result).place in
    let known = place_read c.args.model.now c.args.self.now ls c.as_slice.result.now c.args.row c.index.result c.requires.kept c.requires.known c.as_slice-2.ensures.value c.as_slice.ensures c.index.ensures in
    let list = get_or_read ls place c.index-as_slice-owner.result known c.index-as_slice-owner.is zero_list in
    row_read (record { law = c.quotients_are_exact.ensures.ceiling }) c.args.model.now c.parts-parts.result.now c.args.self.now ls c.as_slice.result.now c.args.row c.index.result c.index-as_slice-owner.result c.span.result c.added-sum.result c.ended.result
    c.parts-parts.ensures.lawful c.root-root.ensures.inside c.requires.kept c.requires.known c.parts-parts.ensures.same c.as_slice-2.ensures.value c.as_slice.ensures c.index.ensures list c.span.ensures c.added-sum.ensures c.ended.ensures
