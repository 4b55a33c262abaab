use Rattle.sp_model.specs.Models.{root_of}
use Rattle.sp_activity.proofs.ReadyLemmas.{fit_of, inside_itself, ready_of}
use Rattle.sp_activity.proofs.roots.root_broken.Goals as goal

pub broken_over-requires-clause-ready : goal.broken_over-requires-clause-ready
broken_over-requires-clause-ready c =
    rw (c.parts.ensures.same, c.requires.root) (ready_of c.args.model.now (root_of c.args.model.now) c.rows_are_narrow_inside.ensures (fit_of c.args.model.now record { stated = c.root_is_short.ensures.stated c.args.model.now c.parts.ensures.lawful.box.bounds.variables; root = c.root_is_short.ensures.lawful c.args.model.now c.parts.ensures.lawful; short = c.root_is_short.ensures.short c.args.model.now c.parts.ensures.lawful } c.parts.ensures.lawful) c.requires.filled
    (inside_itself (root_of c.args.model.now) c.requires.filled))

pub broken_over-requires-clause-few : goal.broken_over-requires-clause-few
broken_over-requires-clause-few c = rw c.parts.ensures.same ((fit_of c.args.model.now record { stated = c.root_is_short.ensures.stated c.args.model.now c.parts.ensures.lawful.box.bounds.variables; root = c.root_is_short.ensures.lawful c.args.model.now c.parts.ensures.lawful; short = c.root_is_short.ensures.short c.args.model.now c.parts.ensures.lawful } c.parts.ensures.lawful).cores_few)
