-- The tokens before are read, and the line of the last of them is kept.
use Rattle.std.proofs.Common.{◌≡◌, ◌==◌, true, take, Some}
use Rattle.sp_lp_tokens.specs.SeenTokens.{all_seen}
use Rattle.sp_lp_grammar.specs.InnerCursor.{origin, walk, first_behind, line_behind}
use Rattle.sp_lp.specs.Cursors.{cursor_of}
use Rattle.sp_lp.proofs.walking.read_tokens.Given as goal

abbrev pub invariant-loop-place : goal.invariant-loop-place
invariant-loop-place l = record {
  read : walk true 0 origin (all_seen l.source (take l.place l.tokens)) ≡ Some (cursor_of l.reader);
  first : first_behind true (all_seen l.source (take l.place l.tokens)) ≡ (l.place == 0);
  line : line_behind 0 (all_seen l.source (take l.place l.tokens)) ≡ l.before;
}
