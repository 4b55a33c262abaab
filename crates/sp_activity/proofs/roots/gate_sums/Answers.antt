use Rattle.sp_activity.proofs.ReadyLemmas.{fit_of, gate_rows_fit}
use Rattle.sp_activity.proofs.roots.gate_sums.Goals as goal

pub new-requires-clause-fit : goal.new-requires-clause-fit
new-requires-clause-fit c =
    rw (c.in_ok-root.ensures.root, c.in_ok-rows.ensures, c.as_slice.ensures, c.parts-parts.ensures.same) (gate_rows_fit c.args.model.now (fit_of c.args.model.now record { stated = c.root_is_short.ensures.stated c.args.model.now c.parts-parts.ensures.lawful.box.bounds.variables; root = c.root_is_short.ensures.lawful c.args.model.now c.parts-parts.ensures.lawful; short = c.root_is_short.ensures.short c.args.model.now c.parts-parts.ensures.lawful } c.parts-parts.ensures.lawful))
