use Rattle.sp_meaning.proofs.ModelLemmas.{lp_reads, mps_reads}
use Rattle.sp_meaning.proofs.models.draft_of.Goals as goal

pub returns-in-Lp-clause-reads : goal.returns-in-Lp-clause-reads
returns-in-Lp-clause-reads c = lp_reads _ _ _ c.in-Lp.is c.read_lp.ensures.found c.read_lp.ensures.refused

pub returns-in-Mps-clause-reads : goal.returns-in-Mps-clause-reads
returns-in-Mps-clause-reads c = mps_reads _ _ _ c.in-Mps.is c.read_mps.ensures.found c.read_mps.ensures.refused
