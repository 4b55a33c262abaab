use Rattle.sp_lp.specs.Cursors.{cursor_of}
use Rattle.sp_lp.specs.declared.other_tokens.Other.TheVariants.{Name}
use Rattle.sp_lp.proofs.OtherLemmas.{other_read, other_refused, others_done, refuses}
use Rattle.sp_lp.proofs.other_tokens.read_others.Goals as goal

pub loop-other-preserved : goal.loop-other-preserved
loop-other-preserved c =
    other_read c.args.line c.args.others.now c.loop-other.other-index Name c.loop-other.first c.loop-other.above (cursor_of c.loop-other.reader) (cursor_of c.read_other.new.reader) _
    c.loop-other-test.true c.loop-other.invariant c.in-Ok.ensures

pub returns-in-Err : goal.returns-in-Err
returns-in-Err c =
    refuses (Unit {0}) c.in-Err.stop (cursor_of c.read_other.new.reader) (cursor_of c.read_other.new.reader) _ _
    (other_refused c.args.line c.args.others.now c.loop-other.other-index Name c.loop-other.first c.loop-other.above (cursor_of c.loop-other.reader) _
    c.loop-other-test.true c.loop-other.invariant) c.in-Err.ensures

pub returns : goal.returns
returns c = others_done c.args.line c.args.others.now c.loop-other.other-index c.loop-other.first c.loop-other.above (cursor_of c.loop-other.reader) _ c.loop-other-test.false c.loop-other.invariant
