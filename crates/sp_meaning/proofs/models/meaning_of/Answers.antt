use Rattle.sp_meaning.proofs.ModelLemmas.{draft_means, refusal_means}
use Rattle.sp_meaning.proofs.models.meaning_of.Goals as goal

pub returns-in-Ok-clause-means : goal.returns-in-Ok-clause-means
returns-in-Ok-clause-means c = λ name f. draft_means name _ _ _ _ _ c.draft_of.ensures.reads c.in-Ok.is c.lowered.ensures.meaning f

pub returns-in-Some-clause-means : goal.returns-in-Some-clause-means
returns-in-Some-clause-means c = λ name f. refusal_means name _ _ _ _ _ c.draft_of.ensures.reads c.in-Err.is c.in-Some.ensures f
