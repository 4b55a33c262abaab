use Rattle.std.specs.Prelude.{false}
use Rattle.sp_lp_tokens.proofs.GapLengthLemmas.{gap_is_longest, front_is_gap}
use Rattle.sp_lp_tokens.proofs.token_laws.gaps_are_longest.Goals as goal

pub returns-clause-gap : goal.returns-clause-gap
returns-clause-gap c = λ bytes. front_is_gap false bytes

pub returns-clause-longest : goal.returns-clause-longest
returns-clause-longest c = λ bytes k le g. gap_is_longest bytes k le g
