use Rattle.sp_populate.proofs.ChangeLemmas.{added-fit, added-later, removed-fit, removed-later, still-covered}
use Rattle.sp_filter.specs.Held.{with_filter, without_filter}
use Rattle.sp_populate.proofs.populate_laws.changed_filters_keep_the_cover.Goals as goal

pub returns-clause-added : goal.returns-clause-added
returns-clause-added c = λ fs name d s h. still-covered c.screens_last.ensures.filters fs (with_filter fs name d) s (added-later fs name d) h

pub returns-clause-removed : goal.returns-clause-removed
returns-clause-removed c = λ fs name s orderly h. still-covered c.screens_last.ensures.filters fs (without_filter fs name) s (removed-later fs name orderly) h

pub returns-clause-fit : goal.returns-clause-fit
returns-clause-fit c = added-fit

pub returns-clause-still_fit : goal.returns-clause-still_fit
returns-clause-still_fit c = removed-fit
