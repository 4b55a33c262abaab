use Rattle.sp_lp_tokens.proofs.NumeralFrontsLemmas.{IsRead}
use Rattle.sp_lp_tokens.proofs.lengths.number_length.Given as goal

abbrev pub invariant-loop-i : goal.invariant-loop-i
invariant-loop-i l = IsRead l.bytes l.i l.place l.longest
