-- What a grammar sees of a token.
use Rattle.std.specs.Prelude.{ℕ, List, map}
use Rattle.sp_lp_tokens.specs.declared.token_types.Token.{Token}
use Rattle.sp_lp_tokens.specs.declared.token_types.TokenKind.{TokenKind}
use Rattle.sp_lp_tokens.specs.Tokens.{text_of}

-- what the token is, the line that it stands in, from 1, and its text
pub record SeenToken : Type 0 where
  pub kind : TokenKind
  pub line : ℕ
  pub text : List ℕ

abbrev pub seen : List ℕ → Token → SeenToken
seen source t = record { kind = t.kind; line = t.line; text = text_of source t }

-- all tokens of a file, so seen
abbrev pub all_seen : List ℕ → List Token → List SeenToken
all_seen source ts = map (seen source) ts
