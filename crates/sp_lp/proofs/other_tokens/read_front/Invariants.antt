-- From what is left on the same is read as from the front.
use Rattle.std.proofs.Common.{◌≡◌, true, drop}
use Rattle.sp_lp_tokens.specs.SeenTokens.{all_seen}
use Rattle.sp_lp_grammar.specs.InnerCursor.{walk}
use Rattle.sp_lp.specs.Cursors.{cursor_of}
use Rattle.sp_lp.proofs.other_tokens.read_front.Given as goal

abbrev pub invariant-loop-token : goal.invariant-loop-token
invariant-loop-token l = walk l.first l.above (cursor_of l.reader) (all_seen l.source (drop l.token-index l.tokens)) ≡ walk true 0 (cursor_of l.fn.reader) (all_seen l.source l.tokens)
