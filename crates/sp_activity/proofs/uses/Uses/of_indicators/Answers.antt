use Rattle.std.proofs.Common.{◌≡◌, ◌<◌, [], length, map, ap, ◌∙◌, arith}
use Rattle.std.proofs.lemmas.List.{get_or_read, get_or-map, length-map, length-set}
use Rattle.sp_model.specs.declared.parts.Indicator.{Indicator}
use Rattle.sp_model.specs.Sums.{Term}
use Rattle.sp_activity.specs.Reasons.{bare_indicator, indicator_at}
use Rattle.sp_activity.specs.Uses.{gate_vars, vars_at}
use Rattle.sp_activity.proofs.UsesLemmas.{listed_stop, listed_two, term_known}
use Rattle.sp_activity.proofs.uses.Uses.of_indicators.Goals as goal

pub add-requires : goal.add-requires
add-requires c =
    let item = get_or_read c.args.indicators.now c.loop-at.at c.index-indicators-at.result c.loop-at-test.true c.index-indicators-at.is bare_indicator in
    let known : (indicator_at c.args.indicators.now c.loop-at.at).var < c.args.count = c.requires.known c.loop-at.at bare_indicator c.loop-at-test.true 0 0 (omega arith) in
    let var = rw item at c.index.ensures in
    omega (arith, known, var, c.loop-at.invariant.long)

pub add_terms-requires : goal.add_terms-requires
add_terms-requires c =
    let item = get_or_read c.args.indicators.now c.loop-at.at c.index-indicators-at.result c.loop-at-test.true c.index-indicators-at.is bare_indicator in
    let terms : c.as_slice.result.now ≡ (indicator_at c.args.indicators.now c.loop-at.at).row.terms = c.as_slice.ensures ∙ ap (λ (i : Indicator). i.row.terms) item in
    let long : length c.add.new.lists.items ≡ c.args.count = ap length c.in_ok-add.ensures ∙ length-set c.loop-at.lists.items c.index.result _ ∙ c.loop-at.invariant.long in
    term_known c.args.count (length c.add.new.lists.items) (indicator_at c.args.indicators.now c.loop-at.at) c.as_slice.result.now (c.requires.known c.loop-at.at bare_indicator c.loop-at-test.true) terms long

pub loop-at-preserved : goal.loop-at-preserved
loop-at-preserved c =
    let item = get_or_read c.args.indicators.now c.loop-at.at c.index-indicators-at.result c.loop-at-test.true c.index-indicators-at.is bare_indicator in
    let terms : c.as_slice.result.now ≡ (indicator_at c.args.indicators.now c.loop-at.at).row.terms = c.as_slice.ensures ∙ ap (λ (i : Indicator). i.row.terms) item in
    let known : (indicator_at c.args.indicators.now c.loop-at.at).var < c.args.count = c.requires.known c.loop-at.at bare_indicator c.loop-at-test.true 0 0 (omega arith) in
    let var = rw item at c.index.ensures in
    let here : vars_at (map gate_vars c.args.indicators.now) c.loop-at.at ≡ gate_vars (indicator_at c.args.indicators.now c.loop-at.at) = get_or-map gate_vars c.args.indicators.now c.loop-at.at bare_indicator [] c.loop-at-test.true in
    let used = rw terms at c.in_ok-add_terms.ensures in
    listed_two c.args.count c.loop-at.at (map gate_vars c.args.indicators.now) (indicator_at c.args.indicators.now c.loop-at.at).var c.index.result (map (λ (t : Term). t.0) (indicator_at c.args.indicators.now c.loop-at.at).row.terms)
    c.loop-at.lists.items c.add.new.lists.items c.add_terms.new.lists.items c.loop-at.invariant here var known c.in_ok-add.ensures used

pub returns : goal.returns
returns c =
    listed_stop c.args.count c.loop-at.at (map gate_vars c.args.indicators.now) c.loop-at.lists.items (omega (arith, c.loop-at-test.false, c.loop-at.auto.at-end, length-map c.args.indicators.now gate_vars)) c.loop-at.invariant
