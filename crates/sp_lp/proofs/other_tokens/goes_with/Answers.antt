use Rattle.sp_lp.proofs.OtherLemmas.{read_goes, refused_goes}
use Rattle.sp_lp.proofs.other_tokens.goes_with.Goals as goal

pub returns-in-Ok : goal.returns-in-Ok
returns-in-Ok c = read_goes c.args.source.now c.args.list.now c.args.place c.args.others.now _ c.in-Ok.ensures

pub returns-in-Err-Fault : goal.returns-in-Err-Fault
returns-in-Err-Fault c = refused_goes c.args.source.now c.args.list.now c.args.place c.args.others.now (rw c.in-Err-Fault.field-0-is at c.in-Err-Fault.ensures)
