use Rattle.std.proofs.Common.{◌≡◌, IsFalse, drop, length}
use Rattle.sp_model.specs.InnerRounds.{marked}
use Rattle.sp_model.specs.Rounds.{round}
use Rattle.sp_model.proofs.rounds.round.Given as goal

abbrev pub invariant-loop-place : goal.invariant-loop-place
invariant-loop-place l = record {
  left : round (marked l.marks) (drop l.place l.rows) l.bounds ≡ round (marked l.marks) l.rows l.initial.bounds;
  long : length l.bounds ≡ length l.initial.bounds;
  still : IsFalse l.changed → l.bounds ≡ l.initial.bounds;
}
