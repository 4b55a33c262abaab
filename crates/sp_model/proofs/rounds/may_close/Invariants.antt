use Rattle.std.proofs.Common.{◌≡◌, ◌+◌, ◌≤◌, drop}
use Rattle.sp_model.specs.InnerRounds.{missing, missing_both}
use Rattle.sp_model.specs.Rounds.{least_end, greatest_end}
use Rattle.sp_model.proofs.rounds.may_close.Given as goal

abbrev pub invariant-loop-term : goal.invariant-loop-term
invariant-loop-term l = record {
  least : l.least + missing least_end l.bounds (drop l.term-index l.row.terms) ≡ missing least_end l.bounds l.row.terms;
  greatest : l.greatest + missing greatest_end l.bounds (drop l.term-index l.row.terms) ≡ missing greatest_end l.bounds l.row.terms;
  both : l.both + missing_both least_end greatest_end l.bounds (drop l.term-index l.row.terms) ≡ missing_both least_end greatest_end l.bounds l.row.terms;
  few_least : l.least ≤ l.term-index;
  few_greatest : l.greatest ≤ l.term-index;
  few_both : l.both ≤ l.term-index;
}
