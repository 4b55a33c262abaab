use Rattle.sp_activity.specs.Kept.{bounds_of}
use Rattle.sp_activity.specs.Stages.{IsFirstCore}
use Rattle.sp_activity.proofs.KeptLemmas.{core_flag, cores_open}
use Rattle.sp_activity.proofs.NamedLemmas.{core_named}
use Rattle.sp_activity.proofs.OrderLemmas.{is_open}
use Rattle.sp_activity.proofs.kept.Kept.closed_by_cores.Goals as goal

pub returns-in-Some : goal.returns-in-Some
returns-in-Some c =
    let first = core_flag (bounds_of c.args.self.now) c.args.parts.now.semi c.args.self.now.broken.cores c.in-Some.place c.requires.kept.broken.cores c.in-Some.ensures in
    let here : IsFirstCore (bounds_of c.args.self.now) c.as_slice-cores.result.now c.in-Some.place = rw c.as_slice-cores.ensures first in
    core_named c.args.parts.now (bounds_of c.args.self.now) c.as_slice-cores.result.now c.in-Some.place c.index-cores-place.result c.as_slice-cores.ensures c.requires.sets c.requires.ready.rising here

pub returns-in-None : goal.returns-in-None
returns-in-None c =
    is_open c.args.parts.now (bounds_of c.args.self.now) c.requires.sets (cores_open (bounds_of c.args.self.now) c.args.parts.now.semi c.args.self.now.broken.cores c.requires.kept.broken.cores c.in-None.ensures)
