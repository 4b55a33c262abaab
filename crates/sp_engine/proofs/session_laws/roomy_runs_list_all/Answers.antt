use Rattle.sp_engine.proofs.SessionLemmas.{roomy_list}
use Rattle.sp_engine.proofs.session_laws.roomy_runs_list_all.Goals as goal

pub returns : goal.returns
returns c = roomy_list
