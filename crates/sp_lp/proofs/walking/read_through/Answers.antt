use Rattle.std.proofs.Common.{[], ◌∷◌, ◌∙◌, subst}
use Rattle.sp_lp_tokens.specs.declared.reading.Rest.{Rest}
use Rattle.sp_lp_tokens.specs.Rests.{AreLeft}
use Rattle.sp_lp_tokens.specs.SeenTokens.{seen, all_seen}
use Rattle.sp_lp_tokens.specs.Tokens.{Complete}
use Rattle.sp_lp.specs.Cursors.{cursor_of}
use Rattle.sp_lp.proofs.WalkLemmas.{walk_none, walk_on, whole_left}
use Rattle.sp_lp.proofs.walking.read_through.Goals as goal

pub loop-token-init : goal.loop-token-init
loop-token-init c = record {
  rest = c.whole-rest.ensures.rest c.args.source.now;
  goes_on = λ ts n left read. record {
    tokens = ts;
    are_tokens = whole_left c.args.source.now ts (subst (λ (rest : Rest). AreLeft c.args.source.now rest ts Complete) c.whole-rest.ensures.whole left);
    read = rw (← c.requires.new) read;
  };
}

pub loop-token-preserved : goal.loop-token-preserved
loop-token-preserved c = record {
  rest = c.in-Token.ensures.left;
  goes_on = λ ts n left read.
      c.loop-token.invariant.goes_on (c.in-Token.token ∷ ts) n (c.in-Token.ensures.taken.onward ts Complete left)
      (walk_on c.loop-token.first c.loop-token.above (cursor_of c.loop-token.reader) (cursor_of c.read_next.new.reader) (seen c.args.source.now c.in-Token.token) (all_seen c.args.source.now ts) c.in-Ok.ensures ∙ read);
}

pub returns-in-Nothing : goal.returns-in-Nothing
returns-in-Nothing c = λ yes.
    c.loop-token.invariant.goes_on [] (cursor_of c.loop-token.reader) c.in-Nothing.ensures.taken
    (walk_none c.loop-token.first c.loop-token.above (cursor_of c.loop-token.reader))
