use Rattle.std.proofs.Common.{drop}
use Rattle.sp_sums.proofs.MakeLemmas.{IsSumming}
use Rattle.sp_sums.proofs.making.span_over.Given as goal

abbrev pub invariant-loop-term : goal.invariant-loop-term
invariant-loop-term l = IsSumming l.bounds l.terms (drop l.term-index l.terms) l.span
