-- Whatever reads on over the tokens that are left has read all.
use Rattle.std.proofs.Common.{◌≡◌, ◌-◌, List, length, Some}
use Rattle.sp_lp_tokens.specs.declared.token_types.Token.{Token}
use Rattle.sp_lp_tokens.specs.Rests.{IsRest, AreLeft}
use Rattle.sp_lp_tokens.specs.SeenTokens.{all_seen}
use Rattle.sp_lp_tokens.specs.Tokens.{Complete}
use Rattle.sp_lp_grammar.specs.InnerCursor.{Cursor, walk}
use Rattle.sp_lp.specs.Cursors.{cursor_of}
use Rattle.sp_lp.specs.Walks.{IsReadThrough}
use Rattle.sp_lp.proofs.walking.read_through.Given as goal

abbrev pub invariant-loop-token : goal.invariant-loop-token
invariant-loop-token l = record {
  rest : IsRest l.source l.rest;
  goes_on : (ts : List Token) (c : Cursor) → AreLeft l.source l.rest ts Complete → walk l.first l.above (cursor_of l.reader) (all_seen l.source ts) ≡ Some c → IsReadThrough l.source c;
}

abbrev pub decreases-loop-token : goal.decreases-loop-token
decreases-loop-token l = length l.source - l.rest.place
