use Rattle.sp_printing.proofs.PrintingLemmas.{text_fits}
use Rattle.sp_printing.proofs.laws.printed_replies_are_told.Goals as goal

pub returns : goal.returns
returns c = text_fits
