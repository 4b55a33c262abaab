use Rattle.std.proofs.Common.{◌≡◌, Some, rules, FitsSigned, to_z-of_z}
use Rattle.std.specs.Int.{w128}
use Rattle.sp_model.specs.Cuts.{cut_of}
use Rattle.sp_cover.specs.Cover.{IsBest}
use Rattle.sp_populate.proofs.CutLemmas.{above-some, small-best}
use Rattle.sp_populate.proofs.cuts.present_cut.Goals as goal

pub returns-in-Some-clause-above : goal.returns-in-Some-clause-above
returns-in-Some-clause-above c =
    let s = c.args.state.now in
    let st = c.model.ensures.state in
    let b = c.in-Some.best in
    let f : FitsSigned w128 c.in-Some.best = search rules in
    let g : FitsSigned w128 c.cut.result = search rules in
    let is : c.cut.result ≡ cut_of c.in-Some.best c.args.gaps.now c.parts.result.now.scale = rw (to_z-of_z f) at c.cut.ensures in
    let best : IsBest s.search.found (Some c.in-Some.best) = rw (← c.in-Some.ensures) at st.search.best in
    let small = small-best s.model s.search.found b best (c.covered_searches_find_all.ensures.distinct s.model s.search st.search)
    (λ x feasible. c.objective_is_small.ensures s.model x st.lawful (c.feasible_is_within.ensures s.model x st.lawful feasible)) in
    rw (to_z-of_z g, is) (above-some s.search.best b _ c.in-Some.ensures (c.cut_is_between.ensures.optimum b c.args.gaps.now c.parts.result.now.scale small))
