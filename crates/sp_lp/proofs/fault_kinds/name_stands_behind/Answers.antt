use Rattle.sp_lp.proofs.StandingLemmas.{none_past}
use Rattle.sp_lp.proofs.fault_kinds.name_stands_behind.Goals as goal

pub returns-else-place-list : goal.returns-else-place-list
returns-else-place-list c = none_past c.args.source.now c.args.list.now c.args.place c.if-place-list.false
