use Rattle.std.proofs.Common.{◌<◌, ◌^◌, ◌∙◌, ◌&&◌, ap, not, [], get_or, arith}
use Rattle.std.proofs.Math.Facts.{Fits-of_lt}
use Rattle.sp_draft.specs.Names.{is_among}
use Rattle.sp_mps.proofs.RowLemmas.{plain_is}
use Rattle.sp_mps.proofs.drafting.is_plain.Goals as goal

pub overflow_cast-row : goal.overflow_cast-row
overflow_cast-row c = let l : c.args.row < 2 ^ 32 = omega (arith, c.requires.within, c.requires.few) in Fits-of_lt l

pub returns-then-not-is_free_at : goal.returns-then-not-is_free_at
returns-then-not-is_free_at c =
    ap not c.holds.ensures ∙ (plain_is c.args.reader.now.rows.names c.args.reader.now.indicators.names c.args.row c.name-name.result.now c.is_free_at.result (rw c.new.ensures at c.name-name.ensures) c.if-not-is_free_at.true
    ∙ ap (λ b. not b && not (is_among c.args.reader.now.indicators.names (get_or c.args.reader.now.rows.names c.args.row []))) c.is_free_at.ensures)
