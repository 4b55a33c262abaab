use Rattle.sp_search.proofs.StartLemmas.{first-open, first-stated}
use Rattle.sp_search.proofs.states.State.new.Goals as goal

pub invariant_of-result : goal.invariant_of-result
invariant_of-result c = record {
  lawful = c.parts-parts.ensures.lawful;
  search = c.in_ok-search.ensures.search;
  ended = first-open c.args.model c.in_ok-search.search c.in_ok-search.ensures.made;
  stated = first-stated c.args.model c.in_ok-search.search c.stated_count-stated.result c.in_ok-search.ensures.made c.stated_count-stated.ensures;
}

pub returns-clause-covered : goal.returns-clause-covered
returns-clause-covered c = λ fs. record {
  search = c.in_ok-search.ensures.search;
  screened = c.in_ok-search.ensures.screened fs;
  ended = first-open c.args.model c.in_ok-search.search c.in_ok-search.ensures.made;
}
