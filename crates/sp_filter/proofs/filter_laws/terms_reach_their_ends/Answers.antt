use Rattle.sp_filter.proofs.EndLemmas.{least_multiple_over, most_multiple_over, least_distance_over, most_distance_over}
use Rattle.sp_filter.proofs.filter_laws.terms_reach_their_ends.Goals as goal

pub returns : goal.returns
returns c = record { least_multiple = least_multiple_over; most_multiple = most_multiple_over; least_distance = least_distance_over; most_distance = most_distance_over }
