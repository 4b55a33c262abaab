use Rattle.std.proofs.Common.{sym, ◌∙◌}
use Rattle.sp_lp_tokens.proofs.NumberLemmas.{number_is_numeral}
use Rattle.sp_lp_tokens.proofs.PieceLemmas.{number_is_piece, wide_number_is_fault}
use Rattle.sp_lp_tokens.proofs.pieces.number_piece.Goals as goal

pub unreachable-requires : goal.unreachable-requires
unreachable-requires c =
    number_is_numeral _ (c.requires.longest.passes c.requires.some) (c.numerals_have_one_reading.ensures.says _) (sym c.read.ensures ∙ cc)

pub returns-in-Ok : goal.returns-in-Ok
returns-in-Ok c = number_is_piece c.args.bytes.now c.args.length c.in-Ok.numeral c.requires.some c.requires.longest (cc)

pub returns-in-Err-Wide : goal.returns-in-Err-Wide
returns-in-Err-Wide c = wide_number_is_fault c.args.bytes.now c.args.length c.requires.some c.requires.longest (cc)
