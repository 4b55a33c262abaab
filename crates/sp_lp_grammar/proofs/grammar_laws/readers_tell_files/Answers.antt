use Rattle.sp_lp_grammar.proofs.FrontLemmas.{ended_is, unended_is, refused_front, walk_joined}
use Rattle.sp_lp_grammar.proofs.TailLemmas.{front_begins}
use Rattle.sp_lp_grammar.proofs.grammar_laws.readers_tell_files.Goals as goal

pub returns : goal.returns
returns c = record { accepted = ended_is; unfinished = unended_is; begun = front_begins; refused = refused_front; joined = walk_joined }
