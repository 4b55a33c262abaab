use Rattle.std.proofs.Common.{[], ◌∷◌, ◌++◌, length, subst, sym, arith, append_assoc}
use Rattle.std.proofs.lemmas.List.{append-nil}
use Rattle.sp_lp_tokens.specs.declared.reading.Rest.{Rest}
use Rattle.sp_lp_tokens.specs.Rests.{AreLeft}
use Rattle.sp_lp_tokens.specs.Tokens.{Complete, Faulty}
use Rattle.sp_lp_tokens.proofs.TokenLemmas.{tokens_in_order, ordered_are_spans, tokens_are_few}
use Rattle.sp_lp_tokens.proofs.OneListLemmas.{only_list, only_fault}
use Rattle.sp_lp_tokens.proofs.RestLemmas.{whole_left}
use Rattle.sp_lp_tokens.proofs.reading.tokens.Goals as goal

pub loop-tokens-init : goal.loop-tokens-init
loop-tokens-init c = record {
  rest = c.whole-rest.ensures.rest c.args.bytes.now;
  goes_on = λ ts ending h. rw c.new-tokens.ensures.items (whole_left c.args.bytes.now ts ending (subst (λ (rest : Rest). AreLeft c.args.bytes.now rest ts ending) c.whole-rest.ensures.whole h));
}

pub returns-in-Nothing-clause-found : goal.returns-in-Nothing-clause-found
returns-in-Nothing-clause-found c =
    let all = c.loop-tokens.invariant.goes_on [] Complete c.in-Nothing.ensures.taken in
    rw append-nil at all

pub returns-in-Fault-clause-fault : goal.returns-in-Fault-clause-fault
returns-in-Fault-clause-fault c = (c.loop-tokens.tokens.items ++ [], c.loop-tokens.invariant.goes_on [] (Faulty c.in-Fault.line c.in-Fault.kind) c.in-Fault.ensures.taken)

pub returns-in-Fault-clause-only : goal.returns-in-Fault-clause-only
returns-in-Fault-clause-only c =
    only_fault c.args.bytes.now (c.loop-tokens.tokens.items ++ []) c.in-Fault.line c.in-Fault.kind
    (c.loop-tokens.invariant.goes_on [] (Faulty c.in-Fault.line c.in-Fault.kind) c.in-Fault.ensures.taken)

pub returns-in-Nothing-clause-spans : goal.returns-in-Nothing-clause-spans
returns-in-Nothing-clause-spans c = tokens_in_order c.args.bytes.now c.loop-tokens.tokens.items 0 0 Complete (omega arith) (returns-in-Nothing-clause-found c)

pub returns-in-Nothing-clause-only : goal.returns-in-Nothing-clause-only
returns-in-Nothing-clause-only c = only_list c.args.bytes.now c.loop-tokens.tokens.items (returns-in-Nothing-clause-found c)

pub returns-in-Nothing-clause-texts : goal.returns-in-Nothing-clause-texts
returns-in-Nothing-clause-texts c = ordered_are_spans c.args.bytes.now 0 c.loop-tokens.tokens.items (returns-in-Nothing-clause-spans c)

pub returns-in-Nothing-clause-count : goal.returns-in-Nothing-clause-count
returns-in-Nothing-clause-count c = tokens_are_few c.loop-tokens.tokens.items (length c.args.bytes.now) (returns-in-Nothing-clause-spans c)
