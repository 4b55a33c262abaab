use Rattle.std.proofs.Common.{rules}
use Rattle.sp_draft.specs.SolutionLines.{named_values}
use Rattle.sp_draft.proofs.solution_lines.print_front.Goals as goal

pub returns-in-Err : goal.returns-in-Err
returns-in-Err g c = record { written = c.texts_join.ensures.fails _ _ _ _ _ _ (named_values c.args.names.now c.args.values.now) _ c.in-Err.is c.print_objective.ensures.written (search rules) }

pub returns-in-Ok : goal.returns-in-Ok
returns-in-Ok g c = record { written = c.texts_join.ensures.both _ _ _ _ _ _ _ _ _ c.in-Ok.is c.print_objective.ensures.written c.print_values.ensures.written (search rules) }
