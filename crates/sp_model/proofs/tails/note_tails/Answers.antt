use Rattle.std.proofs.Common.{arith}
use Rattle.sp_model.proofs.RowLemmas.{no_tails_yet, more_tails, all_tails, last_term}
use Rattle.sp_model.proofs.TailLemmas.{empty_tail}
use Rattle.sp_model.proofs.tails.note_tails.Goals as goal

pub tails_before-next-requires-clause-least_span : goal.tails_before-next-requires-clause-least_span
tails_before-next-requires-clause-least_span c = c.loop-place.invariant.next.least.span

pub tails_before-next-requires-clause-greatest_span : goal.tails_before-next-requires-clause-greatest_span
tails_before-next-requires-clause-greatest_span c = c.loop-place.invariant.next.greatest.span

pub loop-place-preserved : goal.loop-place-preserved
loop-place-preserved c =
    let h = last_term c.args.terms.now c.loop-place.place c.index-terms-terms.result c.loop-place-test.true c.index-terms-terms.is in
    record {
      next = rw (← h) (c.tails_before-next.ensures _ c.loop-place.invariant.next);
      noted = rw c.in_ok-push.ensures.items
          (more_tails c.args.bounds.now c.args.terms.now c.loop-place.place c.loop-place.tails.items c.loop-place.next c.loop-place.invariant.noted c.loop-place.invariant.next);
    }
