use Rattle.std.specs.Prelude.{flat_map}
use Rattle.std.proofs.Common.{rules}
use Rattle.sp_printing.specs.Printing.{named_of, serial_line}
use Rattle.sp_printing.proofs.replying.print_listed.Goals as goal

pub returns-in-Err : goal.returns-in-Err
returns-in-Err g c = record { written = c.texts_join.ensures.fails _ _ _ _ _ _ (flat_map (serial_line (named_of c.args.names.now c.args.model.now) c.args.notes.now) c.args.serials.now) _ c.in-Err.is c.print_head.ensures.written (search rules) }

pub returns-in-Ok : goal.returns-in-Ok
returns-in-Ok g c = record { written = c.texts_join.ensures.both _ _ _ _ _ _ _ _ _ c.in-Ok.is c.print_head.ensures.written c.print_serials.ensures.written (search rules) }
