use Rattle.std.proofs.Common.{◌≡◌, ◌<◌, ℕ, length, subst, sym, ap, ◌∙◌, arith}
use Rattle.std.proofs.lemmas.List.{get_or_read}
use Rattle.sp_model.specs.Boxes.{Bounds}
use Rattle.sp_dual.specs.Lists.{MultiplierList, zero_list}
use Rattle.sp_bound.specs.Closing.{HasBound}
use Rattle.sp_bound.specs.KeptBounds.{lists_of}
use Rattle.sp_tree.specs.Tables.{list_at}
use Rattle.sp_search.proofs.StepLemmas.{row-told, some-unless}
use Rattle.sp_search.proofs.kept_closers.past_row.Goals as goal

pub returns-else-is_empty : goal.returns-else-is_empty
returns-else-is_empty c =
    let m = c.args.model.now in
    let lists = c.args.lists.now in
    let kept = c.args.hand.now.lists in
    let place = c.in-Some.place in
    let within : place < length lists = omega (arith, c.if-lists-place.false) in
    let read = get_or_read lists place c.index-lists-place.result within c.index-lists-place.is zero_list in
    let has : HasBound m c.args.bounds.now (lists_of kept) place c.in-Some.number = subst (λ (b : Bounds). HasBound m b (lists_of kept) place c.in-Some.number) c.requires.hand.lists_over c.in-Some.ensures in
    let entries : length c.entries.result.now ≡ length (list_at lists place).y = ap (λ ws. length ws) c.entries.ensures.same ∙ ap (λ (l : MultiplierList). length l.y) read in
    let some : 0 < length (list_at lists place).y = omega (arith, entries, some-unless (length c.entries.result.now) c.is_empty.result c.is_empty.ensures c.if-is_empty.false) in
    row-told m (lists_of kept) lists place c.args.aim.now c.args.best.now c.args.bounds.now c.in-Some.number c.past_number.result
    (c.stated_lists_are_lists.ensures.each m c.parts-parts.ensures.lawful) c.requires.front c.requires.hand.lists.stated has within some c.past_number.ensures
