use Rattle.sp_model.specs.Models.{root_of}
use Rattle.sp_activity.proofs.ReadyLemmas.{fit_of, inside_root, ready_of}
use Rattle.sp_activity.proofs.holding.holds.Goals as goal

pub is_said-requires : goal.is_said-requires
is_said-requires c =
    rw c.parts-parts.ensures.same (ready_of c.args.model.now c.args.bounds.now c.rows_are_narrow_inside.ensures (fit_of c.args.model.now record { stated = c.root_is_short.ensures.stated c.args.model.now c.parts-parts.ensures.lawful.box.bounds.variables; root = c.root_is_short.ensures.lawful c.args.model.now c.parts-parts.ensures.lawful; short = c.root_is_short.ensures.short c.args.model.now c.parts-parts.ensures.lawful } c.parts-parts.ensures.lawful) c.in-None.ensures
    (inside_root (root_of c.args.model.now) c.args.bounds.now c.requires c.in-None.ensures))
