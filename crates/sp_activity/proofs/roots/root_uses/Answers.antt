use Rattle.std.proofs.Common.{◌≡◌, ◌<◌, ℕ, List, length, All, sym, ap, ◌∙◌, subst, arith}
use Rattle.sp_model.specs.declared.parts.Indicator.{Indicator}
use Rattle.sp_model.specs.declared.parts.ModelParts.{ModelParts}
use Rattle.sp_model.specs.Models.{root_of}
use Rattle.sp_model.specs.Stated.{Core}
use Rattle.sp_activity.specs.Uses.{core_vars, gate_vars}
use Rattle.sp_activity.proofs.ReadyLemmas.{core_vars_known, fit_of, gate_vars_known}
use Rattle.sp_activity.proofs.roots.root_uses.Goals as goal

pub of_indicators-requires-clause-known : goal.of_indicators-requires-clause-known
of_indicators-requires-clause-known c =
    let read : c.as_slice.result.now ≡ c.args.model.now.indicators = c.as_slice.ensures ∙ ap (λ (m : ModelParts). m.indicators) c.parts-parts.ensures.same in
    rw c.requires (subst (λ (xs : List Indicator). All (λ (i : Indicator). All (λ (v : ℕ). v < length (root_of c.args.model.now)) (gate_vars i)) xs) (sym read) (gate_vars_known c.args.model.now (fit_of c.args.model.now record { stated = c.root_is_short.ensures.stated c.args.model.now c.parts-parts.ensures.lawful.box.bounds.variables; root = c.root_is_short.ensures.lawful c.args.model.now c.parts-parts.ensures.lawful; short = c.root_is_short.ensures.short c.args.model.now c.parts-parts.ensures.lawful } c.parts-parts.ensures.lawful)))

pub of_sets-requires-clause-known : goal.of_sets-requires-clause-known
of_sets-requires-clause-known c =
    rw (c.as_slice-2.ensures, c.parts-parts.ensures.same, c.requires) ((fit_of c.args.model.now record { stated = c.root_is_short.ensures.stated c.args.model.now c.parts-parts.ensures.lawful.box.bounds.variables; root = c.root_is_short.ensures.lawful c.args.model.now c.parts-parts.ensures.lawful; short = c.root_is_short.ensures.short c.args.model.now c.parts-parts.ensures.lawful } c.parts-parts.ensures.lawful).members)

pub of_cores-requires-clause-few : goal.of_cores-requires-clause-few
of_cores-requires-clause-few c =
    let few = (fit_of c.args.model.now record { stated = c.root_is_short.ensures.stated c.args.model.now c.parts-parts.ensures.lawful.box.bounds.variables; root = c.root_is_short.ensures.lawful c.args.model.now c.parts-parts.ensures.lawful; short = c.root_is_short.ensures.short c.args.model.now c.parts-parts.ensures.lawful } c.parts-parts.ensures.lawful).cores_few in
    rw (c.as_slice-3.ensures, c.parts-parts.ensures.same) (omega (arith, few))

pub of_cores-requires-clause-known : goal.of_cores-requires-clause-known
of_cores-requires-clause-known c =
    let read : c.as_slice-3.result.now ≡ c.args.model.now.semi = c.as_slice-3.ensures ∙ ap (λ (m : ModelParts). m.semi) c.parts-parts.ensures.same in
    rw c.requires (subst (λ (xs : List Core). All (λ (x : Core). All (λ (v : ℕ). v < length (root_of c.args.model.now)) (core_vars x)) xs) (sym read) (core_vars_known c.args.model.now (fit_of c.args.model.now record { stated = c.root_is_short.ensures.stated c.args.model.now c.parts-parts.ensures.lawful.box.bounds.variables; root = c.root_is_short.ensures.lawful c.args.model.now c.parts-parts.ensures.lawful; short = c.root_is_short.ensures.short c.args.model.now c.parts-parts.ensures.lawful } c.parts-parts.ensures.lawful)))
