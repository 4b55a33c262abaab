use Rattle.std.proofs.Common.{refl}
use Rattle.sp_base.specs.Writing.{state_of}
use Rattle.sp_shell.proofs.RunLemmas.{own_answers, refusal_ended, unread_ended}
use Rattle.sp_shell.proofs.runs.read_and_list.Goals as goal

pub returns-in-Accepted-clause-ends : goal.returns-in-Accepted-clause-ends
returns-in-Accepted-clause-ends g c = c.list_buffered.ensures.ends _ _ (record { says = c.in-Accepted.ensures.says _ refl refl })

pub returns-in-Accepted-clause-noted : goal.returns-in-Accepted-clause-noted
returns-in-Accepted-clause-noted g c = own_answers c.list_buffered.ensures.notes c.in-Accepted.ensures.noted

pub returns-in-Refused-clause-ends : goal.returns-in-Refused-clause-ends
returns-in-Refused-clause-ends g c = refusal_ended _ _ _ c.in-Refused.answer c.in-Refused.why (c.in-Refused.ensures.says _ refl refl) c.refuse.ensures.entries c.refuse.ensures.answered

pub returns-in-NoMemory-clause-ends : goal.returns-in-NoMemory-clause-ends
returns-in-NoMemory-clause-ends g c =
    unread_ended g.K.Sink.takes_memory (state_of g.K.Sink c.args.sink.now) _ _ _ c.in-NoMemory.bytes (c.in-NoMemory.ensures.says _ refl refl) c.end_without_memory.ensures.entries
    c.end_without_memory.ensures.status
