use Rattle.std.proofs.Common.{◌≡◌, ℕ, length, take}
use Rattle.sp_model.specs.InnerRounds.{marked}
use Rattle.sp_model.specs.Stated.{is_semi}
use Rattle.sp_model.proofs.rounds.marks_of.Given as goal

abbrev pub invariant-loop-core : goal.invariant-loop-core
invariant-loop-core l = record {
  marked : (j : ℕ) → marked l.marks.items j ≡ is_semi (take l.core-index l.cores) j;
  long : length l.marks.items ≡ l.count;
}
