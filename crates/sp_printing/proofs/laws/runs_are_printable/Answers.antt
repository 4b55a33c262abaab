use Rattle.sp_printing.proofs.PrintingLemmas.{can_print}
use Rattle.sp_printing.proofs.laws.runs_are_printable.Goals as goal

pub returns : goal.returns
returns c = can_print
