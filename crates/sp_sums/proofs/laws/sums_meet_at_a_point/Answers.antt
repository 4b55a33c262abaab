use Rattle.sp_sums.proofs.InsideLemmas.{least_point, most_point}
use Rattle.sp_sums.proofs.laws.sums_meet_at_a_point.Goals as goal

pub returns : goal.returns
returns c = λ b ts x h. (least_point b x ts h, most_point b x ts h)
