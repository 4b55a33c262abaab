use Rattle.sp_model.specs.InnerRounds.{IsTail}
use Rattle.sp_model.proofs.TailLemmas.{still_no_tail, missing_no_tail}
use Rattle.sp_model.proofs.tails.extended.Goals as goal

pub returns-in-None : goal.returns-in-None
returns-in-None c = λ vs h. rw c.in-None.is (missing_no_tail vs)

pub returns-in-None-tail : goal.returns-in-None-tail
returns-in-None-tail c = λ vs h. still_no_tail c.args.addend.now vs (rw c.in-None-tail.is at h)

pub returns-in-Some-tail : goal.returns-in-Some-tail
returns-in-Some-tail c = λ vs h. rw c.in-Some.is (c.lengthened.ensures vs (rw c.in-Some-tail.is at h))
