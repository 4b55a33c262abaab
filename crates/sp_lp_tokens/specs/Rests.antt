-- What is left of a file's tokens when some were taken.
use Rattle.std.specs.Prelude.{◌≡◌, ℕ, ◌<◌, ◌≤◌, false, List, [], ◌∷◌, length}
use Rattle.sp_lp_tokens.specs.declared.reading.Next.{Next}
use Rattle.sp_lp_tokens.specs.declared.reading.Next.TheVariants as nexts
use Rattle.sp_lp_tokens.specs.declared.reading.Rest.{Rest}
use Rattle.sp_lp_tokens.specs.declared.token_types.Token.{Token}
use Rattle.sp_lp_tokens.specs.Gaps.{line_at}
use Rattle.sp_lp_tokens.specs.Tokens.{Ending, Complete, Faulty, Onward, TokensFrom, IsSpan}

-- all tokens are left
abbrev pub whole : Rest
whole = record { place = 0; line = 1; line_before = 0; ended = false }

-- the place lies in the file, in this line
pub record IsRest (source : List ℕ) (rest : Rest) : Type 0 where
  pub within : rest.place ≤ length source
  pub line_is : rest.line ≡ line_at source rest.place

-- the tokens that are left, and how their list ends
unfoldable pub AreLeft : List ℕ → Rest → List Token → Ending → Type 0
AreLeft source rest ts ending = Onward rest.ended ts ending (TokensFrom source rest.place rest.line_before ts ending)

-- the token is the first of what was left: with all that is left behind it, it is what was left
pub record IsFirst (source : List ℕ) (old new : Rest) (t : Token) : Type 0 where
  pub span : IsSpan source t
  pub passed : old.place < new.place
  pub onward : (ts : List Token) (ending : Ending) → AreLeft source new ts ending → AreLeft source old (t ∷ ts) ending

-- what was taken from what was left
abbrev pub IsTaken : List ℕ → Rest → Rest → Next → Type 0
IsTaken source old new nexts.Nothing = AreLeft source old [] Complete
IsTaken source old new (nexts.Fault line kind) = AreLeft source old [] (Faulty line kind)
IsTaken source old new (nexts.Token t) = IsFirst source old new t
