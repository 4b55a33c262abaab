use Rattle.std.proofs.Common.{◌≡◌, ap, ◌∙◌}
use Rattle.sp_model.specs.declared.parts.ModelParts.{ModelParts}
use Rattle.sp_sums.specs.Rows.{IsFirstBroken}
use Rattle.sp_activity.specs.Kept.{bounds_of}
use Rattle.sp_activity.proofs.NamedLemmas.{row_named}
use Rattle.sp_activity.proofs.ReadyLemmas.{fit_of}
use Rattle.sp_activity.proofs.StepLemmas.{kept_ready, row_kept_first, row_span}
use Rattle.sp_activity.proofs.kept.Kept.closed.Goals as goal

pub closed_by_indicators-requires-clause-ready : goal.closed_by_indicators-requires-clause-ready
closed_by_indicators-requires-clause-ready c =
    rw c.parts-parts.ensures.same (kept_ready c.args.model.now c.args.self.now c.rows_are_narrow_inside.ensures (fit_of c.args.model.now record { stated = c.root_is_short.ensures.stated c.args.model.now c.parts-parts.ensures.lawful.box.bounds.variables; root = c.root_is_short.ensures.lawful c.args.model.now c.parts-parts.ensures.lawful; short = c.root_is_short.ensures.short c.args.model.now c.parts-parts.ensures.lawful } c.parts-parts.ensures.lawful) c.requires c.root-root.ensures.inside)

pub returns-in-Some : goal.returns-in-Some
returns-in-Some c =
    let ready = kept_ready c.args.model.now c.args.self.now c.rows_are_narrow_inside.ensures (fit_of c.args.model.now record { stated = c.root_is_short.ensures.stated c.args.model.now c.parts-parts.ensures.lawful.box.bounds.variables; root = c.root_is_short.ensures.lawful c.args.model.now c.parts-parts.ensures.lawful; short = c.root_is_short.ensures.short c.args.model.now c.parts-parts.ensures.lawful } c.parts-parts.ensures.lawful) c.requires c.root-root.ensures.inside in
    let rows : c.as_slice.result.now ≡ c.args.model.now.rows = c.as_slice.ensures ∙ ap (λ (m : ModelParts). m.rows) c.parts-parts.ensures.same in
    let first = row_kept_first c.args.model.now c.args.self.now c.in-Some.id c.requires c.in-Some.ensures in
    let here : IsFirstBroken (bounds_of c.args.self.now) c.as_slice.result.now c.in-Some.id = rw rows first in
    let read = rw c.index.ensures at c.index-as_slice-index.is in
    let span = row_span c.args.model.now c.args.self.now c.in-Some.id c.as_slice.result.now c.index-as_slice-index.result c.span.result c.requires rows read first.here.known c.span.ensures in
    row_named c.args.model.now (bounds_of c.args.self.now) c.as_slice.result.now c.in-Some.id c.index-as_slice-index.result c.span.result c.row_reason.result rows read span c.row_reason.ensures ready.filled here
