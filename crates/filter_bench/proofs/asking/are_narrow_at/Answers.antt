use Rattle.std.proofs.Common.{All, subst, take_all, arith}
use Rattle.std.proofs.lemmas.List.Elements.{All-more}
use Rattle.sp_filter.specs.declared.holding.Held.{Held}
use Rattle.sp_filter.specs.Filters.{IsNarrow, box_at}
use Rattle.filter_bench.proofs.asking.are_narrow_at.Goals as goal

pub loop-entry-preserved : goal.loop-entry-preserved
loop-entry-preserved c =
    let P = (λ (h : Held). IsNarrow h.filter (box_at c.args.x.now)) in
    All-more P c.args.held.now c.loop-entry.entry-index c.entry-item.result c.loop-entry-test.true c.loop-entry.invariant (subst P c.entry-item.is (c.is_narrow_at.ensures c.if-not-is_narrow_at.false))

pub returns : goal.returns
returns c =
    let P = (λ (h : Held). IsNarrow h.filter (box_at c.args.x.now)) in
    λ _. subst (All P) (take_all c.loop-entry.entry-index c.args.held.now (omega (arith, c.loop-entry-test.false))) c.loop-entry.invariant
