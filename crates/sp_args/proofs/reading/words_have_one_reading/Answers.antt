use Rattle.sp_args.proofs.GivesLemmas.{one_reading}
use Rattle.sp_args.proofs.reading.words_have_one_reading.Goals as goal

pub returns : goal.returns
returns c = one_reading
