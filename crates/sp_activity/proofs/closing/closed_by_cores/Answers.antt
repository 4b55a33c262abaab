use Rattle.sp_activity.specs.Stages.{AreCoresOpen}
use Rattle.sp_activity.proofs.NamedLemmas.{core_named}
use Rattle.sp_activity.proofs.OrderLemmas.{is_open}
use Rattle.sp_activity.proofs.closing.closed_by_cores.Goals as goal

pub returns-in-Some : goal.returns-in-Some
returns-in-Some c =
    core_named c.args.parts.now c.args.bounds.now c.as_slice-cores.result.now c.in-Some.place c.index-cores-place.result c.as_slice-cores.ensures c.requires.sets c.requires.ready.rising c.in-Some.ensures

pub returns-in-None : goal.returns-in-None
returns-in-None c =
    let open_cores : AreCoresOpen c.args.bounds.now c.args.parts.now.semi = rw (← c.as_slice-cores.ensures) c.in-None.ensures in
    is_open c.args.parts.now c.args.bounds.now c.requires.sets open_cores
