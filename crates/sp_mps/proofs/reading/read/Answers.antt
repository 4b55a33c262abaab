use Rattle.std.proofs.Common.{◌∙◌, sym, arith, inr}
use Rattle.sp_mps_words.specs.Lines.{lines_of}
use Rattle.sp_mps.proofs.KnownLemmas.{has_room}
use Rattle.sp_mps.proofs.PlaceLemmas.{begins, turn, finish, stopped, open_end}
use Rattle.sp_mps.proofs.reading.read.Goals as goal

pub lines-init : goal.lines-init
lines-init c = record { stands = rw c.new-reader.ensures (begins c.args.bytes.now); short = omega arith }

pub line-requires : goal.line-requires
line-requires c = has_room c.lines.count c.lines.reader (omega (arith, c.lines.invariant.short, c.requires)) c.lines.invariant.stands.few

pub returns-in-Err : goal.returns-in-Err
returns-in-Err c =
    rw c.refusal_at.ensures (stopped (lines_of c.args.bytes.now) c.lines.count c.lines.rest.now c.in-Some.line.now c.in-Some.after.now c.lines.reader c.line.new.self c.in-Err.fault c.lines.invariant.stands c.in-Some.ensures.line c.in-Err.ensures)

pub returns-then-is_end : goal.returns-then-is_end
returns-then-is_end c =
    finish (lines_of c.args.bytes.now) c.lines.count c.lines.rest.now c.in-Some.line.now c.in-Some.after.now c.lines.reader c.line.new.self c.lines.invariant.stands c.in-Some.ensures.line c.in-Ok.ensures (sym c.is_end.ensures ∙ c.if-is_end.true)

pub lines-preserved : goal.lines-preserved
lines-preserved c = record {
  stands = turn (lines_of c.args.bytes.now) c.lines.count c.lines.rest.now c.in-Some.line.now c.in-Some.after.now c.lines.reader c.line.new.self c.lines.invariant.stands c.in-Some.ensures.line c.in-Ok.ensures (sym c.is_end.ensures ∙ c.if-is_end.false);
  short = omega (arith, c.in-Some.ensures.shorter, c.lines.invariant.short);
}

pub returns : goal.returns
returns c = inr (open_end (lines_of c.args.bytes.now) c.lines.count c.max.result c.lines.rest.now c.lines.reader c.lines.invariant.stands c.in_default.ensures.line c.max.ensures)
