use Rattle.std.proofs.Common.{◌≡◌, true, sym, subst, None, Option}
use Rattle.sp_lp_tokens.specs.SeenTokens.{all_seen}
use Rattle.sp_lp_grammar.specs.InnerCursor.{Cursor, walk}
use Rattle.sp_lp.specs.Cursors.{cursor_of}
use Rattle.sp_lp.specs.Stops.{Gives}
use Rattle.sp_lp.specs.InnerKinds.{fault_line, other_tokens}
use Rattle.sp_lp.proofs.OtherLemmas.{both_read, front_refused, refuses}
use Rattle.sp_lp.proofs.other_tokens.read_both.Goals as goal

pub returns-in-Ok : goal.returns-in-Ok
returns-in-Ok c =
    subst (λ (w : Option Cursor). Gives c.read_others.result (cursor_of c.read_others.new.reader) w)
    (sym (both_read c.readers_tell_files.ensures.joined c.args.source.now c.args.list.now c.args.place c.line_before.result (other_tokens (fault_line c.args.list.now c.args.place) c.args.others.now)
    (cursor_of c.read_front.new.reader) c.requires.within (c.line_before.ensures c.args.source.now) (rw (c.requires.new, c.front.ensures) at c.in-Ok.ensures)))
    (rw c.fault_line.ensures at c.read_others.ensures)

pub returns-in-Err : goal.returns-in-Err
returns-in-Err c =
    refuses (Unit {0}) c.in-Err.stop (cursor_of c.read_front.new.reader) (cursor_of c.read_front.new.reader) (walk true 0 (cursor_of c.args.reader.now) (all_seen c.args.source.now c.front.result.now)) _
    (λ (f : walk true 0 (cursor_of c.args.reader.now) (all_seen c.args.source.now c.front.result.now) ≡ None).
    front_refused c.args.source.now c.args.list.now c.args.place (other_tokens (fault_line c.args.list.now c.args.place) c.args.others.now) (rw (c.requires.new, c.front.ensures) at f))
    c.in-Err.ensures
