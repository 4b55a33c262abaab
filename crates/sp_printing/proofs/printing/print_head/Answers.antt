use Rattle.std.specs.Fmt.{decimal}
use Rattle.std.proofs.Common.{◌++◌, rules}
use Rattle.sp_printing.specs.Wording.{spelling}
use Rattle.sp_printing.specs.declared.wordings.Wording.TheVariants as wording
use Rattle.sp_printing.proofs.printing.print_head.Goals as goal

pub returns-in-Err : goal.returns-in-Err
returns-in-Err g c = record { written = c.texts_join.ensures.fails _ _ _ _ _ _ (spelling wording.Solutions ++ decimal c.args.number ++ spelling wording.LineEnd) _ c.in-Err.is c.print_status.ensures.written (search rules) }

pub returns-in-Ok : goal.returns-in-Ok
returns-in-Ok g c = record { written = c.texts_join.ensures.both _ _ _ _ _ _ _ _ _ c.in-Ok.is c.print_status.ensures.written c.print_number.ensures.written (search rules) }
