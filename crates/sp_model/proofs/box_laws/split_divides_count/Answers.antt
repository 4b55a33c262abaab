use Rattle.sp_model.proofs.SplitLemmas.{split_counts, split_parts_have_points}
use Rattle.sp_model.proofs.box_laws.split_divides_count.Goals as goal

pub returns : goal.returns
returns c = record { sum = split_counts; parts = split_parts_have_points }
