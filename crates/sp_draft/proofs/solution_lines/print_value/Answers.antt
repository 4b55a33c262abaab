use Rattle.std.proofs.Common.{rules}
use Rattle.sp_draft.specs.SolutionLines.{named_value}
use Rattle.sp_draft.proofs.solution_lines.print_value.Goals as goal

pub returns-then-value-eq0 : goal.returns-then-value-eq0
unfolding named_value
returns-then-value-eq0 g c = record { written = c.texts_join.ensures.nothing _ _ _ (search rules) }
