use Rattle.sp_lp_tokens.proofs.PieceLemmas.{symbol_is_piece, nothing_is_fault}
use Rattle.std.proofs.Common.{arith}
use Rattle.sp_lp_tokens.proofs.pieces.piece_at.Goals as goal

pub returns-in-Some : goal.returns-in-Some
returns-in-Some c =
    let p = symbol_is_piece c.args.bytes.now c.in-Some.symbol c.in-Some.ensures.spelled c.in-Some.ensures.longest in
    rw c.spelling.ensures p

pub returns-in-None : goal.returns-in-None
returns-in-None c =
    nothing_is_fault c.args.bytes.now c.name_length-name.result c.number_length-number.result (omega arith) (omega arith) c.name_length-name.ensures c.number_length-number.ensures c.in-None.ensures.none
