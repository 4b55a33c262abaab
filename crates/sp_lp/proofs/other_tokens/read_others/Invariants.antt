-- From what is left on the same is read as from the front.
use Rattle.std.proofs.Common.{◌≡◌, drop}
use Rattle.sp_lp_grammar.specs.InnerCursor.{walk}
use Rattle.sp_lp.specs.Cursors.{cursor_of}
use Rattle.sp_lp.specs.InnerKinds.{other_tokens}
use Rattle.sp_lp.proofs.other_tokens.read_others.Given as goal

abbrev pub invariant-loop-other : goal.invariant-loop-other
invariant-loop-other l = walk l.first l.above (cursor_of l.reader) (other_tokens l.line (drop l.other-index l.others)) ≡ walk l.fn.initial l.fn.before (cursor_of l.fn.reader) (other_tokens l.line l.others)
