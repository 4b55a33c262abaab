use Rattle.std.specs.Prelude.{flat_map}
use Rattle.std.proofs.Common.{drop}
use Rattle.sp_base.specs.Writing.{WritesSoFar}
use Rattle.sp_printing.specs.Printing.{named_of, serial_line}
use Rattle.sp_printing.proofs.replying.print_serials.Given as goal

abbrev pub invariant-loop-serial : goal.invariant-loop-serial
invariant-loop-serial g l =
    WritesSoFar g.K.Sink l.initial.sink l.sink (flat_map (serial_line (named_of l.names l.model) l.notes) l.serials) (flat_map (serial_line (named_of l.names l.model) l.notes) (drop l.serial-index l.serials))
