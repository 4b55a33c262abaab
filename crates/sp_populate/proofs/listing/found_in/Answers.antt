use Rattle.sp_populate.proofs.NarrowLemmas.{narrow-found}
use Rattle.sp_populate.proofs.listing.found_in.Goals as goal

pub returns-clause-narrow : goal.returns-clause-narrow
returns-clause-narrow c =
    let s = c.args.state.now in
    let st = c.found.ensures.state in
    rw c.found.ensures.found (narrow-found s.model c.args.filters.now s.search.found c.requires (c.covered_searches_find_all.ensures.distinct s.model s.search st.search)
    (λ f fits. c.fitting_filters_are_narrow.ensures s.model f (c.root_is_short.ensures.lawful s.model st.lawful) fits)
    c.narrow_filters_stay_narrow.ensures.points (λ x feasible. c.feasible_is_within.ensures s.model x st.lawful feasible))
