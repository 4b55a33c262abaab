use Rattle.std.proofs.Common.{◌≡◌, ◌∙◌, ap, refl, sym, Bool, true, ◌==◌, arith}
use Rattle.sp_model.specs.Boxes.{range_at}
use Rattle.sp_model.specs.Models.{root_of}
use Rattle.sp_sums.specs.Ranges.{IsInside}
use Rattle.sp_activity.specs.Kept.{bounds_of}
use Rattle.sp_tree.specs.Splits.{box_at}
use Rattle.sp_cursor.specs.declared.cursors.Back.{Back}
use Rattle.sp_cursor.specs.InnerCursors.{part_of}
use Rattle.sp_cursor.proofs.CursorLemmas.{boxes-nodes}
use Rattle.sp_cursor.proofs.CursorLemmas.{can-split, descends, part-below-by}
use Rattle.sp_cursor.proofs.cursors.Cursor.enter.Goals as goal

pub returns-clause-cursor : goal.returns-clause-cursor
returns-clause-cursor c =
    let m = c.args.model.now in
    let t = c.args.tree.now in
    let old = c.args.self.now in
    let cut = c.args.cut.now in
    let b = box_at t.boxes old.node in
    let grown = c.size-size.ensures.grown in
    let over : c.bounds_in.result.now ≡ b = c.bounds_in.ensures.same ∙ c.requires.cursor.hand.truths_over in
    let inside : IsInside (root_of m) b = rw over at c.bounds_in.ensures.inside in
    let lower : Bool = c.place.result == c.place-2.result in
    let below = part-below-by m t old.node cut c.args.node c.place.result c.place-2.result grown c.requires.cut c.requires.child c.place.ensures c.place-2.ensures in
    let p : Back = record { node = old.node; var = cut.var; range = c.ranges_at-ranges.result.0 } in
    let range : p.range ≡ range_at b cut.var = c.ranges_at-ranges.ensures.whole ∙ ap (λ x. range_at x cut.var) over in
    let part : c.ranges_at-ranges.result.1 ≡ part_of (range_at b cut.var) cut.at lower = c.ranges_at-ranges.ensures.part ∙ ap (λ x. part_of (range_at x cut.var) cut.at lower) over in
    let hand = rw part at (c.set.ensures b c.requires.cursor.hand) in
    descends m t old (record { hand = c.set.new.self; node = c.args.node; backs = c.push.new.self; path = old.path }) cut lower c.args.node p c.requires.cursor below inside (can-split t old.node cut grown c.requires.cut).known
    refl refl range c.in_ok-push.ensures.items refl (boxes-nodes t grown) hand
