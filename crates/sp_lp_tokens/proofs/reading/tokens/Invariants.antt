use Rattle.std.proofs.Common.{◌-◌, List, ◌++◌, length}
use Rattle.sp_lp_tokens.specs.declared.token_types.Token.{Token}
use Rattle.sp_lp_tokens.specs.Rests.{IsRest, AreLeft}
use Rattle.sp_lp_tokens.specs.Tokens.{Ending, TokensFrom}
use Rattle.sp_lp_tokens.proofs.reading.tokens.Given as goal

abbrev pub invariant-loop-tokens : goal.invariant-loop-tokens
invariant-loop-tokens l = record {
  rest : IsRest l.bytes l.rest;
  goes_on : (ts : List Token) (ending : Ending) → AreLeft l.bytes l.rest ts ending → TokensFrom l.bytes 0 0 (l.tokens.items ++ ts) ending;
}

abbrev pub decreases-loop-tokens : goal.decreases-loop-tokens
decreases-loop-tokens l = length l.bytes - l.rest.place
