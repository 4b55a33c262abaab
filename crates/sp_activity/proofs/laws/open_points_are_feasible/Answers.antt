use Rattle.sp_model.specs.Models.{root_of}
use Rattle.sp_activity.proofs.PointLemmas.{holds_at_point, within_root}
use Rattle.sp_activity.proofs.laws.open_points_are_feasible.Goals as goal

pub returns : goal.returns
returns c = λ m b x l u h o. (c.feasible_is_tested.ensures.within m x l (within_root (root_of m) b x u h.within)).0 (holds_at_point m b x c.sums_meet_at_a_point.ensures h o)
