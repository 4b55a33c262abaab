use Rattle.sp_search.proofs.PreparedLemmas.{prepared-from, state-kept}
use Rattle.sp_search.proofs.preparing.prepare.Goals as goal

pub invariant_of-state : goal.invariant_of-state
invariant_of-state c =
    state-kept c.state.inside.model c.state.inside.search c.keep_found.new.search c.state.inside.stated c.keep_found.ensures.rest c.keep_found.ensures.lists c.keep_found.ensures.search c.state.invariant

pub returns : goal.returns
returns c =
    rw (← c.state.view_is) (prepared-from c.state.inside.model c.state.inside.search c.keep_found.new.search c.state.inside.stated c.keep_found.ensures.rest c.keep_found.ensures.lists
    c.keep_found.ensures.extends c.keep_found.ensures.search c.keep_found.ensures.screened c.state.invariant)
