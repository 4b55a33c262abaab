use Rattle.sp_activity.proofs.NamedLemmas.{set_named}
use Rattle.sp_activity.proofs.closing.closed_by_sets.Goals as goal

pub returns-in-Some-first_clash : goal.returns-in-Some-first_clash
returns-in-Some-first_clash c =
    set_named c.args.parts.now c.args.bounds.now c.as_slice-sets.result.now c.in-Some.id c.index-sets-id.result c.in-Some-first_clash.places.0 c.in-Some-first_clash.places.1 c.as_slice-sets.ensures c.index-sets-id.is c.requires.indicators c.in-Some.ensures c.in-Some-first_clash.ensures.some
