use Rattle.sp_lp.specs.Cursors.{cursor_of}
use Rattle.sp_lp.proofs.OtherLemmas.{token_read, token_refused, tokens_done, refuses}
use Rattle.sp_lp.proofs.other_tokens.read_front.Goals as goal

pub loop-token-preserved : goal.loop-token-preserved
loop-token-preserved c =
    token_read c.args.source.now c.args.tokens.now c.loop-token.token-index c.token-item.result c.loop-token.first c.loop-token.above (cursor_of c.loop-token.reader) (cursor_of c.read_next.new.reader) _
    c.loop-token-test.true c.token-item.is c.loop-token.invariant c.in-Ok.ensures

pub returns-in-Err : goal.returns-in-Err
returns-in-Err c =
    refuses (Unit {0}) c.in-Err.stop (cursor_of c.read_next.new.reader) (cursor_of c.read_next.new.reader) _ _
    (token_refused c.args.source.now c.args.tokens.now c.loop-token.token-index c.token-item.result c.loop-token.first c.loop-token.above (cursor_of c.loop-token.reader) _
    c.loop-token-test.true c.token-item.is c.loop-token.invariant) c.in-Err.ensures

pub returns : goal.returns
returns c = tokens_done c.args.source.now c.args.tokens.now c.loop-token.token-index c.loop-token.first c.loop-token.above (cursor_of c.loop-token.reader) _ c.loop-token-test.false c.loop-token.invariant
