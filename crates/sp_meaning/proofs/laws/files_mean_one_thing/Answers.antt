use Rattle.sp_mps_words.specs.Lines.{lines_of}
use Rattle.sp_meaning.proofs.MeaningLemmas.{one_meaning, some_meaning}
use Rattle.sp_meaning.proofs.laws.files_mean_one_thing.Goals as goal

pub returns-clause-one : goal.returns-clause-one
returns-clause-one c = λ name bytes m n. one_meaning name bytes m n
    (record { one_draft = c.files_have_one_answer.ensures.draft bytes; one_refusal = c.files_have_one_answer.ensures.refusal bytes; apart = c.files_have_one_answer.ensures.apart bytes })
    (record {
      one_draft = c.files_have_one_answer-2.ensures.draft (lines_of bytes);
      one_refusal = c.files_have_one_answer-2.ensures.refusal (lines_of bytes);
      apart = c.files_have_one_answer-2.ensures.apart (lines_of bytes);
    })

pub returns-clause-some : goal.returns-clause-some
returns-clause-some c = λ name bytes format. some_meaning name bytes format (c.files_have_some_answer.ensures bytes) (c.files_have_some_answer-2.ensures (lines_of bytes))
