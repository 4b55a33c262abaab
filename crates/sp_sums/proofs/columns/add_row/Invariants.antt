use Rattle.std.proofs.Common.{drop}
use Rattle.sp_sums.proofs.ColumnLemmas.{IsGrowing}
use Rattle.sp_sums.proofs.columns.add_row.Given as goal

abbrev pub invariant-loop-term : goal.invariant-loop-term
invariant-loop-term l = IsGrowing l.row l.terms (drop l.term-index l.terms) l.fn.columns.items l.columns.items
