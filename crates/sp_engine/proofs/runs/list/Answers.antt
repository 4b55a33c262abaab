use Rattle.std.proofs.Common.{◌≡◌, ◌∙◌, refl, subst}
use Rattle.sp_model.specs.declared.parts.ModelParts.{ModelParts}
use Rattle.sp_engine.proofs.FirstRunLemmas.{is_listing}
use Rattle.sp_engine.specs.declared.runs.Listing.{Listing}
use Rattle.sp_engine.specs.InnerRuns.{IsFirstRun}
use Rattle.sp_engine.specs.Views.{Settings, settings_with}
use Rattle.sp_engine.proofs.runs.list.Goals as goal

pub returns : goal.returns
returns c =
    let settings : Settings = settings_with c.args.gaps.now c.args.node_limit in
    let said = c.in_ok-notes.field-0 in
    let made : Listing = record { names = c.args.named.names; state = c.run_new.new.state; notes = said.notes; reply = said.reply } in
    let model : c.run_new.new.state.model ≡ c.args.named.model = c.in_ok-notes.ensures.model ∙ c.in_ok-state.ensures.model in
    is_listing c.args.named settings made refl model (subst (λ (m : ModelParts). IsFirstRun m settings said.notes.items said.reply) model c.in_ok-notes.ensures.run)
