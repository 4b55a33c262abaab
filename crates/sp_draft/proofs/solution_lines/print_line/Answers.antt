use Rattle.std.proofs.Common.{rules}
use Rattle.std.specs.Prelude.{codes}
use Rattle.sp_draft.proofs.solution_lines.print_line.Goals as goal

pub returns-in-Err : goal.returns-in-Err
returns-in-Err g c = record { written = c.texts_join.ensures.fails _ _ _ _ _ _ (codes "\n") _ c.in-Err.is c.print_front.ensures.written (search rules) }

pub returns-in-Ok : goal.returns-in-Ok
returns-in-Ok g c = record { written = c.texts_join.ensures.both _ _ _ _ _ _ _ _ _ c.in-Ok.is c.print_front.ensures.written c.write_all.ensures.written (search rules) }
