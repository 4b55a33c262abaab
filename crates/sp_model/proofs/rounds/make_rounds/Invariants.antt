use Rattle.std.proofs.Common.{◌≡◌, ◌-◌, length}
use Rattle.sp_model.specs.InnerRounds.{marked}
use Rattle.sp_model.specs.Limits.{most_rounds}
use Rattle.sp_model.specs.Rounds.{rounds}
use Rattle.sp_model.proofs.rounds.make_rounds.Given as goal

abbrev pub invariant-loop-number : goal.invariant-loop-number
invariant-loop-number l = record {
  left : rounds (marked l.marks) l.rows (most_rounds - l.number) l.bounds ≡ rounds (marked l.marks) l.rows most_rounds l.initial.bounds;
  long : length l.bounds ≡ length l.initial.bounds;
}
