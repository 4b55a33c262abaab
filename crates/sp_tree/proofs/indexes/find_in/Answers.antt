use Rattle.std.proofs.Common.{◌≢◌, ◌-◌, ◌<◌, length, map, slice_index_or, sym, ◌∙◌, arith}
use Rattle.sp_dual.specs.Lists.{zero_list}
use Rattle.sp_tree.specs.Tables.{list_at}
use Rattle.sp_tree.specs.InnerTables.{print_of}
use Rattle.sp_tree.proofs.ListLemmas.{default-any}
use Rattle.sp_tree.proofs.IndexLemmas.{left-known, left-on, next-less, left-none}
use Rattle.sp_tree.proofs.indexes.find_in.Goals as goal

pub bounds-lists-place : goal.bounds-lists-place
bounds-lists-place c =
    let from = c.loop-at-test.true in
    let known = left-known c.args.lists.now (length c.args.heads.now) c.args.list.now c.loop-at.at c.loop-at.invariant.0 c.loop-at.invariant.1 from in
    omega (arith, known, from)

pub bounds-next-place : goal.bounds-next-place
bounds-next-place c =
    let from = c.loop-at-test.true in
    let known = left-known c.args.lists.now (length c.args.heads.now) c.args.list.now c.loop-at.at c.loop-at.invariant.0 c.loop-at.invariant.1 from in
    let long = c.requires.long in
    omega (arith, known, from, long)

pub returns-then-is_equal : goal.returns-then-is_equal
returns-then-is_equal c =
    let from = c.loop-at-test.true in
    let known = left-known c.args.lists.now (length c.args.heads.now) c.args.list.now c.loop-at.at c.loop-at.invariant.0 c.loop-at.invariant.1 from in
    let inside : c.loop-at.at - 1 < length c.args.lists.now = omega (arith, known, from) in
    (inside, default-any c.args.lists.now (c.loop-at.at - 1) zero_list c.index-lists-place.result inside ∙ sym c.index-lists-place.is ∙ c.is_equal.ensures.0 c.if-is_equal.true)

pub loop-at-smaller : goal.loop-at-smaller
loop-at-smaller c =
    let from = c.loop-at-test.true in
    let known = left-known c.args.lists.now (length c.args.heads.now) c.args.list.now c.loop-at.at c.loop-at.invariant.0 c.loop-at.invariant.1 from in
    next-less (map print_of c.args.lists.now) (length c.args.heads.now) c.args.next.now c.args.heads.now (length c.args.lists.now) c.loop-at.at c.requires.linked from known

pub loop-at-preserved : goal.loop-at-preserved
loop-at-preserved c =
    let from = c.loop-at-test.true in
    let known = left-known c.args.lists.now (length c.args.heads.now) c.args.list.now c.loop-at.at c.loop-at.invariant.0 c.loop-at.invariant.1 from in
    let inside : c.loop-at.at - 1 < length c.args.lists.now = omega (arith, known, from) in
    let other : list_at c.args.lists.now (c.loop-at.at - 1) ≢ c.args.list.now = λ e.
    let same = c.is_equal.ensures.1 (c.index-lists-place.is ∙ default-any c.args.lists.now (c.loop-at.at - 1) c.index-lists-place.result zero_list inside ∙ e) in
    let differs = c.if-is_equal.false in
    absurd cc in
    (c.loop-at.at - 1, left-on c.args.lists.now (length c.args.heads.now) c.args.list.now c.loop-at.at c.loop-at.invariant.0 (slice_index_or c.args.next.now (c.loop-at.at - 1) 0) c.loop-at.invariant.1 from other (c.requires.linked.next_are (c.loop-at.at - 1) inside))

pub returns : goal.returns
returns c = left-none c.args.lists.now (length c.args.heads.now) c.args.list.now c.loop-at.at c.loop-at.invariant.0 c.loop-at.invariant.1 (let done = c.loop-at-test.false in omega (arith, done))
