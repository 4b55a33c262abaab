-- What is left of a file's tokens.
use Rattle.std.proofs.Common.{◌≡◌, ℕ, ◌+◌, ◌<◌, ◌≤◌, Bool, true, false, List, [], ◌∷◌, length, drop, refl, sym, arith}
use Rattle.sp_lp_tokens.specs.declared.reading.Rest.{Rest}
use Rattle.sp_lp_tokens.specs.declared.token_types.Token.{Token}
use Rattle.sp_lp_tokens.specs.declared.token_types.TokenKindFault.{TokenKindFault}
use Rattle.sp_lp_tokens.specs.Gaps.{gap_length, line_at}
use Rattle.sp_lp_tokens.specs.InnerNexts.{rest_behind}
use Rattle.sp_lp_tokens.specs.Rests.{whole, IsRest, AreLeft, IsFirst}
use Rattle.sp_lp_tokens.specs.Tokens.{IsNextToken, IsNextFault, Ending, Complete, Faulty, Onward, TokensFrom, ends_list}
use Rattle.sp_lp_tokens.proofs.LineLemmas.{line_at-first}
use Rattle.sp_lp_tokens.proofs.TokenLemmas.{next_lies_behind, line_at-end, complete_at, fault_at, token_first}

pub whole_rest : (source : List ℕ) → IsRest source whole
whole_rest source = record { within = omega arith; line_is = sym (line_at-first source) }

-- the whole list is what is left at first
pub whole_left : (source : List ℕ) (ts : List Token) (ending : Ending) → AreLeft source whole ts ending → TokensFrom source 0 0 ts ending
unfolding AreLeft
whole_left source ts ending h = h

pub ended_left : (source : List ℕ) (rest : Rest) → rest.ended ≡ true → AreLeft source rest [] Complete
unfolding AreLeft
ended_left source rest e = rw e (refl, refl)

pub nothing_left : (source : List ℕ) (rest : Rest) → rest.ended ≡ false → rest.place + gap_length false (drop rest.place source) ≡ length source → AreLeft source rest [] Complete
unfolding AreLeft
nothing_left source rest e h = rw e (complete_at source rest.place rest.line_before h)

pub fault_left : (source : List ℕ) (rest : Rest) (line : ℕ) (kind : TokenKindFault) → rest.ended ≡ false → IsNextFault source rest.place line kind → AreLeft source rest [] (Faulty line kind)
unfolding AreLeft
fault_left source rest line kind e h = rw e (fault_at source rest.place rest.line_before line kind h)

-- behind a token
pub behind_rest : (source : List ℕ) (place line_before : ℕ) (t : Token) → IsNextToken source place t → IsRest source (rest_behind source line_before t)
behind_rest source place line_before t h = record { within = (next_lies_behind source place t h).within; line_is = line_at-end source place t h }

pub first_left : (source : List ℕ) (rest : Rest) (t : Token) → rest.ended ≡ false → IsNextToken source rest.place t → IsFirst source rest (rest_behind source rest.line_before t) t
unfolding AreLeft
first_left source rest t e h =
    let l = next_lies_behind source rest.place t h in
    record {
      span = record { rising = l.some; within = l.within };
      passed = omega (arith, l.behind, l.some);
      onward = λ ts ending g. rw e (token_first source rest.place rest.line_before t ts ending h g);
    }
