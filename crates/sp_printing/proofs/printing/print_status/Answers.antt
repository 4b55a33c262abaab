use Rattle.std.proofs.Common.{rules}
use Rattle.sp_printing.specs.Replies.{optimum_line}
use Rattle.sp_printing.proofs.printing.print_status.Goals as goal

pub returns-in-Err : goal.returns-in-Err
returns-in-Err g c = record { written = c.texts_join.ensures.fails _ _ _ _ _ _ (optimum_line c.args.model.now c.args.best.now) _ c.in-Err.is c.write_all.ensures.written (search rules) }

pub returns-in-Ok : goal.returns-in-Ok
returns-in-Ok g c = record { written = c.texts_join.ensures.both _ _ _ _ _ _ _ _ _ c.in-Ok.is c.write_all.ensures.written c.print_optimum.ensures.written (search rules) }
