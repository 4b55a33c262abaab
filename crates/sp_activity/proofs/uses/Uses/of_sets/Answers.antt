use Rattle.std.proofs.Common.{◌≡◌, [], map, sym, ap, ◌∙◌, arith}
use Rattle.std.proofs.lemmas.List.{get_or_read, get_or-map, length-map}
use Rattle.sp_model.specs.declared.parts.Sos.{Sos}
use Rattle.sp_activity.specs.Reasons.{bare_set, set_at}
use Rattle.sp_activity.specs.Uses.{set_vars, vars_at}
use Rattle.sp_activity.proofs.UsesLemmas.{listed_stop, listed_turn}
use Rattle.sp_activity.proofs.uses.Uses.of_sets.Goals as goal

pub loop-at-preserved : goal.loop-at-preserved
loop-at-preserved c =
    let item = get_or_read c.args.sets.now c.loop-at.at c.index-sets-at.result c.loop-at-test.true c.index-sets-at.is bare_set in
    let members : c.as_slice.result.now ≡ (set_at c.args.sets.now c.loop-at.at).vars = c.as_slice.ensures ∙ ap (λ (s : Sos). s.vars) (sym c.index-sets-at.is ∙ item) in
    let vars : vars_at (map set_vars c.args.sets.now) c.loop-at.at ≡ (set_at c.args.sets.now c.loop-at.at).vars = get_or-map set_vars c.args.sets.now c.loop-at.at bare_set [] c.loop-at-test.true in
    listed_turn c.args.count c.loop-at.at (map set_vars c.args.sets.now) c.as_slice.result.now c.loop-at.lists.items c.add_all.new.lists.items c.loop-at.invariant (vars ∙ sym members) c.in_ok-add_all.ensures

pub returns : goal.returns
returns c =
    listed_stop c.args.count c.loop-at.at (map set_vars c.args.sets.now) c.loop-at.lists.items (omega (arith, c.loop-at-test.false, c.loop-at.auto.at-end, length-map c.args.sets.now set_vars)) c.loop-at.invariant
