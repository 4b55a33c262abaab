use Rattle.std.proofs.Common.{◌≡◌, ◌≤◌, IsFalse, take, drop}
use Rattle.sp_model.specs.InnerRounds.{marked}
use Rattle.sp_model.specs.Limits.{greatest_width}
use Rattle.sp_model.specs.Sums.{side_width}
use Rattle.sp_model.proofs.RowLemmas.{RowTurn}
use Rattle.sp_model.proofs.rounds.close_along.Given as goal

abbrev pub invariant-loop-place : goal.invariant-loop-place
invariant-loop-place l = record {
  turn : RowTurn (marked l.marks) l.row l.initial.bounds l.bounds (take l.place l.row.terms) (drop l.place l.row.terms) l.before;
  least : side_width l.before.least ≤ greatest_width;
  greatest : side_width l.before.greatest ≤ greatest_width;
  still : IsFalse l.changed → l.bounds ≡ l.initial.bounds;
}
