use Rattle.sp_cover.proofs.EndLemmas.{found-few, found-fewer}
use Rattle.sp_cover.proofs.cover_laws.found_points_are_few.Goals as goal

pub returns-clause-few : goal.returns-clause-few
returns-clause-few c = found-few

pub returns-clause-fewer : goal.returns-clause-fewer
returns-clause-fewer c = found-fewer
