use Rattle.sp_engine.proofs.SessionLemmas.{one_division}
use Rattle.sp_engine.proofs.session_laws.journal_is_divided_in_one_way.Goals as goal

pub returns : goal.returns
returns c = one_division
