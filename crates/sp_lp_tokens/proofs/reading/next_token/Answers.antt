use Rattle.std.proofs.Common.{sym, subst}
use Rattle.sp_lp_tokens.specs.declared.reading.Rest.{Rest}
use Rattle.sp_lp_tokens.specs.Rests.{IsRest, IsFirst}
use Rattle.sp_lp_tokens.proofs.RestLemmas.{ended_left, nothing_left, fault_left, behind_rest, first_left}
use Rattle.sp_lp_tokens.proofs.reading.next_token.Goals as goal

pub returns-then-rest-clause-taken : goal.returns-then-rest-clause-taken
returns-then-rest-clause-taken c = ended_left c.args.source.now c.args.rest.now c.if-rest.true

pub returns-in-Nothing-clause-taken : goal.returns-in-Nothing-clause-taken
returns-in-Nothing-clause-taken c = nothing_left c.args.source.now c.args.rest.now c.if-rest.false c.in-Nothing.ensures

pub returns-in-Fault-clause-taken : goal.returns-in-Fault-clause-taken
returns-in-Fault-clause-taken c = fault_left c.args.source.now c.args.rest.now c.in-Fault.line c.in-Fault.kind c.if-rest.false c.in-Fault.ensures

pub returns-in-Token-clause-left : goal.returns-in-Token-clause-left
returns-in-Token-clause-left c =
    subst (IsRest c.args.source.now) (sym c.rest_behind.ensures) (behind_rest c.args.source.now c.args.rest.now.place c.args.rest.now.line_before c.in-Token.token c.in-Token.ensures)

pub returns-in-Token-clause-taken : goal.returns-in-Token-clause-taken
returns-in-Token-clause-taken c =
    subst (λ (new : Rest). IsFirst c.args.source.now c.args.rest.now new c.in-Token.token) (sym c.rest_behind.ensures)
    (first_left c.args.source.now c.args.rest.now c.in-Token.token c.if-rest.false c.in-Token.ensures)
