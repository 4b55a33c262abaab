use Rattle.sp_activity.specs.Kept.{bounds_of}
use Rattle.sp_activity.specs.Stages.{IsFirstClash, IsFirstSet}
use Rattle.sp_activity.proofs.KeptLemmas.{set_flag, sets_open}
use Rattle.sp_activity.proofs.NamedLemmas.{set_named}
use Rattle.sp_activity.proofs.kept.Kept.closed_by_sets.Goals as goal

pub closed_by_cores-requires-clause-sets : goal.closed_by_cores-requires-clause-sets
closed_by_cores-requires-clause-sets c = record {
  indicators = c.requires.indicators;
  sets = sets_open (bounds_of c.args.self.now) c.args.parts.now.sos c.args.self.now.broken.sets c.requires.kept.broken.sets c.in-None.ensures;
}

pub returns-in-Some-first_clash : goal.returns-in-Some-first_clash
returns-in-Some-first_clash c =
    let first = set_flag (bounds_of c.args.self.now) c.args.parts.now.sos c.args.self.now.broken.sets c.in-Some.id c.requires.kept.broken.sets c.in-Some.ensures in
    let here : IsFirstSet (bounds_of c.args.self.now) c.as_slice-sets.result.now c.in-Some.id = rw c.as_slice-sets.ensures first in
    let clash : IsFirstClash (bounds_of c.args.self.now) c.index-sets-id.result c.in-Some-first_clash.places.0 c.in-Some-first_clash.places.1 = rw c.bounds.ensures at c.in-Some-first_clash.ensures.some in
    set_named c.args.parts.now (bounds_of c.args.self.now) c.as_slice-sets.result.now c.in-Some.id c.index-sets-id.result c.in-Some-first_clash.places.0 c.in-Some-first_clash.places.1 c.as_slice-sets.ensures c.index-sets-id.is c.requires.indicators here clash
