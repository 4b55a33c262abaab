use Rattle.sp_activity.proofs.ReadyLemmas.{fit_of}
use Rattle.sp_activity.proofs.StepLemmas.{stepped}
use Rattle.sp_activity.proofs.kept.Kept.set.Goals as goal

pub settle-requires-clause-ready : goal.settle-requires-clause-ready
settle-requires-clause-ready c =
    rw c.parts-parts.ensures.same ((stepped c.args.model.now c.args.self.now c.set-2.new.self c.args.var c.args.range.now c.rows_are_narrow_inside.ensures (fit_of c.args.model.now record { stated = c.root_is_short.ensures.stated c.args.model.now c.parts-parts.ensures.lawful.box.bounds.variables; root = c.root_is_short.ensures.lawful c.args.model.now c.parts-parts.ensures.lawful; short = c.root_is_short.ensures.short c.args.model.now c.parts-parts.ensures.lawful } c.parts-parts.ensures.lawful) c.requires.kept c.requires.change c.set-2.ensures c.root-root.ensures.inside).ready)
