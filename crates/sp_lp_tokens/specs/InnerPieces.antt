-- The longest token at the head of some bytes.
use Rattle.std.specs.Prelude.{ℕ, ◌<◌, List, take, Result, Ok, Err}
use Rattle.sp_lp_tokens.specs.declared.token_types.TokenKindFault.{TokenKindFault}
use Rattle.sp_lp_tokens.specs.declared.pieces.Piece.{Piece}
use Rattle.sp_lp_tokens.specs.Longest.{IsLongest}
use Rattle.sp_lp_tokens.specs.Texts.{is_token_text}
use Rattle.sp_lp_tokens.specs.Tokens.{IsKind, IsFaultKind}

-- the piece is the longest token that the bytes begin with
pub record IsPiece (bytes : List ℕ) (piece : Piece) : Type 0 where
  pub some : 0 < piece.length
  pub longest : IsLongest is_token_text bytes piece.length
  pub kind_is : IsKind (take piece.length bytes) piece.kind

-- the longest front that looks like a token is this fault; the empty one is where no token begins
pub record IsFaultyPiece (bytes : List ℕ) (fault : TokenKindFault) : Type 0 where
  pub size : ℕ
  pub longest : IsLongest is_token_text bytes size
  pub fault_is : IsFaultKind (take size bytes) fault

abbrev pub IsPieceOrFault : List ℕ → Result Piece TokenKindFault → Type 0
IsPieceOrFault bytes (Ok piece) = IsPiece bytes piece
IsPieceOrFault bytes (Err fault) = IsFaultyPiece bytes fault
