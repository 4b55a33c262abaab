use Rattle.sp_lp_tokens.proofs.PieceLemmas.{name_is_piece, long_name_is_fault}
use Rattle.std.proofs.Common.{arith}
use Rattle.sp_lp_tokens.proofs.pieces.name_piece.Goals as goal

pub returns-then-length-le-LONGEST_NAME : goal.returns-then-length-le-LONGEST_NAME
returns-then-length-le-LONGEST_NAME c = name_is_piece c.args.bytes.now c.args.length c.requires.some (omega arith) c.requires.longest

pub returns-else-length-le-LONGEST_NAME : goal.returns-else-length-le-LONGEST_NAME
returns-else-length-le-LONGEST_NAME c = long_name_is_fault c.args.bytes.now c.args.length c.requires.some (omega arith) c.requires.longest
