use Rattle.sp_engine.proofs.ReadLemmas.{model_read, refused_read}
use Rattle.sp_engine.proofs.reading.read_end.Goals as goal

pub returns-in-Model : goal.returns-in-Model
returns-in-Model c = model_read c.args.meaning _ _ c.in-Model.is

pub returns-in-Refused : goal.returns-in-Refused
returns-in-Refused c = refused_read c.args.meaning _ _ c.in-Refused.is
