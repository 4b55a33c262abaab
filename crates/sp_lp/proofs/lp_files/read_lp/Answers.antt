use Rattle.sp_lp.proofs.FileLemmas.{first_of}
use Rattle.sp_lp.proofs.lp_files.read_lp.Goals as goal

pub returns-clause-first : goal.returns-clause-first
returns-clause-first c =
    first_of c.args.bytes.now (c.files_have_one_answer.ensures.refusal c.args.bytes.now) (c.files_have_one_answer.ensures.apart c.args.bytes.now) c.read_file.result c.read_file.ensures.found c.read_file.ensures.refused
