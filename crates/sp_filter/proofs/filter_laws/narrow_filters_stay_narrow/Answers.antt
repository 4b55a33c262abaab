use Rattle.sp_filter.proofs.NarrowLemmas.{narrow_within, narrow_at}
use Rattle.sp_filter.proofs.filter_laws.narrow_filters_stay_narrow.Goals as goal

pub returns : goal.returns
returns c = record { boxes = narrow_within; points = narrow_at }
