use Rattle.std.proofs.Common.{◌≡◌, ◌+◌, ◌-◌, suc, sym, ap, ◌∙◌, arith}
use Rattle.sp_model.specs.InnerRounds.{marked}
use Rattle.sp_model.specs.Limits.{most_rounds}
use Rattle.sp_model.specs.Rounds.{rounds}
use Rattle.sp_model.proofs.RoundLemmas.{rounds_still, rounds_next, rounds_none}
use Rattle.sp_model.proofs.rounds.make_rounds.Goals as goal

pub returns-then-not-changed : goal.returns-then-not-changed
returns-then-not-changed c =
    let still = c.in_ok-changed.ensures.still c.if-not-changed.true in
    still
    ∙ sym (rounds_still (marked c.args.marks.now) c.args.rows.now (most_rounds - c.loop-number.number) c.loop-number.bounds (sym c.in_ok-changed.ensures.closed ∙ still))
    ∙ c.loop-number.invariant.left

pub loop-number-preserved : goal.loop-number-preserved
loop-number-preserved c =
    let semi = marked c.args.marks.now in
    let e : most_rounds - c.loop-number.number ≡ suc (most_rounds - (c.loop-number.number + 1)) = omega arith in
    record {
      left = ap (rounds semi c.args.rows.now (most_rounds - (c.loop-number.number + 1))) c.in_ok-changed.ensures.closed
          ∙ sym (rounds_next semi c.args.rows.now (most_rounds - (c.loop-number.number + 1)) (most_rounds - c.loop-number.number) c.loop-number.bounds e)
          ∙ c.loop-number.invariant.left;
      long = omega arith;
    }

pub returns : goal.returns
returns c =
    sym (rounds_none (marked c.args.marks.now) c.args.rows.now (most_rounds - c.loop-number.number) c.loop-number.bounds (omega arith)) ∙ c.loop-number.invariant.left
