use Rattle.sp_list.proofs.KeptLemmas.{points_apart, found_apart}
use Rattle.sp_list.proofs.list_laws.list_has_distinct_points.Goals as goal

pub returns-clause-points : goal.returns-clause-points
returns-clause-points c = λ m cut xs h. points_apart m xs h.ascending

pub returns-clause-found : goal.returns-clause-found
returns-clause-found c = λ m cut found h. found_apart m found h.points.ascending
