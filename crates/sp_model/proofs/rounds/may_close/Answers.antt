use Rattle.std.proofs.Common.{◌≡◌, ◌≤◌, ◌&&◌, is_none, length, ap, ap₂, ◌∙◌, arith}
use Rattle.std.proofs.lemmas.Bool.{or_parts}
use Rattle.std.proofs.lemmas.List.{drop_all}
use Rattle.sp_model.specs.InnerRounds.{missing, missing_both, stuck}
use Rattle.sp_model.specs.Rounds.{least_end, greatest_end}
use Rattle.sp_model.specs.Stated.{open_at}
use Rattle.sp_model.proofs.SumLemmas.{drop_item}
use Rattle.sp_model.proofs.RowLemmas.{at_most_one, same_idle, test_number}
use Rattle.sp_model.proofs.rounds.may_close.Goals as goal

pub returns-then-are_both_stuck : goal.returns-then-are_both_stuck
returns-then-are_both_stuck c = λ f.
    let is = rw c.as_slice-term-items.ensures at c.term-item.is in
    let lt = rw c.as_slice-term-items.ensures at c.loop-term-test.true in
    let d = drop_item c.args.row.now.terms c.loop-term.term-index c.term-item.result lt is in
    let p = c.are_both_stuck.ensures.0 c.if-are_both_stuck.true in
    let least = ap (missing least_end c.args.bounds.now) d in
    let greatest = ap (missing greatest_end c.args.bounds.now) d in
    let one = test_number _ _ c.from-least.result c.from-least.ensures c.lacks_of-lacks.ensures.least in
    let other = test_number _ _ c.from-greatest.result c.from-greatest.ensures c.lacks_of-lacks.ensures.greatest in
    record {
      hi = stuck (omega (arith, p, least, one, c.loop-term.invariant.least, c.lack_of-hi.ensures.value));
      lo = stuck (omega (arith, p, greatest, other, c.loop-term.invariant.greatest, c.lack_of-lo.ensures.value));
    }

pub loop-term-preserved : goal.loop-term-preserved
loop-term-preserved c =
    let b = c.args.bounds.now in
    let t = c.term-item.result in
    let is = rw c.as_slice-term-items.ensures at c.term-item.is in
    let lt = rw c.as_slice-term-items.ensures at c.loop-term-test.true in
    let d = drop_item c.args.row.now.terms c.loop-term.term-index c.term-item.result lt is in
    let least = ap (missing least_end b) d in
    let greatest = ap (missing greatest_end b) d in
    let both = ap (missing_both least_end greatest_end b) d in
    let one = test_number _ _ c.from-least.result c.from-least.ensures c.lacks_of-lacks.ensures.least in
    let other = test_number _ _ c.from-greatest.result c.from-greatest.ensures c.lacks_of-lacks.ensures.greatest in
    let pair = test_number _ _ c.from-both.result c.from-both.ensures (ap₂ (λ x y. x && y) c.lacks_of-lacks.ensures.least c.lacks_of-lacks.ensures.greatest) in
    record {
      least = omega (arith, least, one, c.loop-term.invariant.least);
      greatest = omega (arith, greatest, other, c.loop-term.invariant.greatest);
      both = omega (arith, both, pair, c.loop-term.invariant.both);
      few_least = omega (arith, one, at_most_one (is_none (least_end t.1 (open_at b t.0))));
      few_greatest = omega (arith, other, at_most_one (is_none (greatest_end t.1 (open_at b t.0))));
      few_both = omega (arith, pair, at_most_one (is_none (least_end t.1 (open_at b t.0)) && is_none (greatest_end t.1 (open_at b t.0))));
    }

pub returns : goal.returns
returns c = λ f.
    let b = c.args.bounds.now in
    let end : length c.args.row.now.terms ≤ c.loop-term.term-index = rw c.as_slice-term-items.ensures at c.loop-term-test.false in
    let d = drop_all c.loop-term.term-index c.args.row.now.terms end in
    let least = ap (missing least_end b) d in
    let greatest = ap (missing greatest_end b) d in
    let both = ap (missing_both least_end greatest_end b) d in
    let p = or_parts c.may_side_close.result c.may_side_close-2.result f in
    record {
      hi = same_idle (c.may_side_close.ensures p.0) (omega (arith, least, c.loop-term.invariant.least, c.lack_of-hi.ensures.value)) (omega (arith, greatest, c.loop-term.invariant.greatest)) (omega (arith, both, c.loop-term.invariant.both));
      lo = same_idle (c.may_side_close-2.ensures p.1) (omega (arith, greatest, c.loop-term.invariant.greatest, c.lack_of-lo.ensures.value)) (omega (arith, least, c.loop-term.invariant.least)) (omega (arith, both, c.loop-term.invariant.both));
    }
