use Rattle.std.proofs.Common.{◌∙◌, sym, ap, Some, refl}
use Rattle.std.specs.Prelude.{◌==◌}
use Rattle.sp_lp.specs.Cursors.{cursor_of}
use Rattle.sp_lp.proofs.WalkLemmas.{nothing_read, read_more, first_more, line_more, is_stop}
use Rattle.sp_lp.proofs.walking.read_tokens.Goals as goal

pub loop-place-init : goal.loop-place-init
loop-place-init c = record { read = nothing_read ∙ ap Some (sym c.requires.new); first = refl; line = refl }

pub loop-place-preserved : goal.loop-place-preserved
loop-place-preserved c =
    let i = c.loop-place.place in
    let t = c.index-tokens-place.result in
    record {
      read = read_more c.readers_tell_files.ensures.joined c.args.source.now c.args.tokens.now i t (cursor_of c.loop-place.reader) (i == 0) c.loop-place.before
          c.loop-place-test.true c.index-tokens-place.is c.loop-place.invariant.read c.loop-place.invariant.first c.loop-place.invariant.line ∙ c.in-Ok.ensures;
      first = first_more c.args.source.now c.args.tokens.now i t c.loop-place-test.true c.index-tokens-place.is;
      line = line_more c.args.source.now c.args.tokens.now i t c.loop-place-test.true c.index-tokens-place.is;
    }

pub returns-in-Err-Fault-clause-stopped : goal.returns-in-Err-Fault-clause-stopped
returns-in-Err-Fault-clause-stopped c =
    let i = c.loop-place.place in
    let t = c.index-tokens-place.result in
    is_stop c.args.source.now c.args.tokens.now i (cursor_of c.loop-place.reader) c.loop-place-test.true c.loop-place.invariant.read
    (read_more c.readers_tell_files.ensures.joined c.args.source.now c.args.tokens.now i t (cursor_of c.loop-place.reader) (i == 0) c.loop-place.before
    c.loop-place-test.true c.index-tokens-place.is c.loop-place.invariant.read c.loop-place.invariant.first c.loop-place.invariant.line
    ∙ (rw c.in-Err-Fault.field-0-is at c.in-Err-Fault.ensures))
