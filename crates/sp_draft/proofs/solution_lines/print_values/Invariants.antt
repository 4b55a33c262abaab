use Rattle.std.proofs.Common.{drop}
use Rattle.sp_base.specs.Writing.{WritesSoFar}
use Rattle.sp_draft.specs.SolutionLines.{named_values}
use Rattle.sp_draft.proofs.solution_lines.print_values.Given as goal

abbrev pub invariant-loop-at : goal.invariant-loop-at
invariant-loop-at g l =
    WritesSoFar g.K.Sink l.initial.sink l.sink (named_values l.names l.values) (named_values (drop l.at l.names) (drop l.at l.values))
