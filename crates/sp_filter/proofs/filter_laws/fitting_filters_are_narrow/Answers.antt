use Rattle.sp_filter.proofs.NarrowLemmas.{fitting}
use Rattle.sp_filter.proofs.filter_laws.fitting_filters_are_narrow.Goals as goal

pub returns : goal.returns
returns c = fitting
