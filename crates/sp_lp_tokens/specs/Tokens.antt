-- The tokens of an LP file.
use Rattle.std.specs.Prelude.{◌≡◌, ℕ, ◌+◌, ◌-◌, ◌<◌, ◌≤◌, Bool, true, false, not, ◌&&◌, ◌==◌, nat_lt, List, [], ◌∷◌, length, take, drop, codes, find, Ok, Err}
use Rattle.std.specs.Option.{option_map_or}
use Rattle.sp_decimal.specs.declared.numerals.NumeralFault.TheVariants as numeral_faults
use Rattle.sp_decimal.specs.Numerals.{numeral}
use Rattle.sp_words.specs.Spellings.{same_word}
use Rattle.sp_lp_tokens.specs.declared.token_types.Token.{Token}
use Rattle.sp_lp_tokens.specs.declared.token_types.TokenKind.{TokenKind}
use Rattle.sp_lp_tokens.specs.declared.token_types.TokenKind.TheVariants.{Name, Number, Symbol}
use Rattle.sp_lp_tokens.specs.declared.token_types.TokenKindFault.{TokenKindFault}
use Rattle.sp_lp_tokens.specs.declared.token_types.TokenKindFault.TheVariants.{BadByte, Wide, LongName}
use Rattle.sp_lp_tokens.specs.Limits.{longest_name}
use Rattle.sp_lp_tokens.specs.Longest.{IsLongest}
use Rattle.sp_lp_tokens.specs.Gaps.{is_blank, gap_length, line_at}
use Rattle.sp_lp_tokens.specs.Texts.{is_name, is_number, spelling, is_token_text}

-- the bytes from a place up to another
abbrev pub text_between : List ℕ → ℕ → ℕ → List ℕ
text_between source start end = take (end - start) (drop start source)

-- the text of a token, which is a piece of its source
abbrev pub text_of : List ℕ → Token → List ℕ
text_of source t = text_between source t.start t.end

-- what a token of this text is
abbrev pub IsKind : List ℕ → TokenKind → Type 0
IsKind text Name = (is_name text ≡ true) × (length text ≤ longest_name)
IsKind text (Number n) = (is_number text ≡ true) × (numeral text ≡ Ok n)
IsKind text (Symbol s) = text ≡ spelling s

-- why this text is no token; the empty text stands for a byte that begins none
abbrev pub IsFaultKind : List ℕ → TokenKindFault → Type 0
IsFaultKind text BadByte = text ≡ []
IsFaultKind text Wide = (is_number text ≡ true) × (numeral text ≡ Err numeral_faults.Wide)
IsFaultKind text LongName = (is_name text ≡ true) × (longest_name < length text)

-- behind the gap at a place, the longest front that is a token's text lies from start to end; where none is, they are the same
pub record IsNextText (source : List ℕ) (place start end : ℕ) : Type 0 where
  pub behind_gap : start ≡ place + gap_length false (drop place source)
  pub some_left : start < length source
  pub ordered : start ≤ end
  pub longest : IsLongest is_token_text (drop start source) (end - start)

-- the token is the first of what is left from the place on
pub record IsNextToken (source : List ℕ) (place : ℕ) (t : Token) : Type 0 where
  pub next : IsNextText source place t.start t.end
  pub kind : IsKind (text_of source t) t.kind
  pub line : t.line ≡ line_at source t.start

-- what is left from the place on begins with this fault, in this line
pub record IsNextFault (source : List ℕ) (place line : ℕ) (kind : TokenKindFault) : Type 0 where
  pub start : ℕ
  pub end : ℕ
  pub next : IsNextText source place start end
  pub kind_is : IsFaultKind (text_between source start end) kind
  pub line_is : line ≡ line_at source start

-- the word end, in any case
abbrev pub is_end_word : List ℕ → Bool
is_end_word text = same_word text (codes "end")

-- the next byte that is no blank is a colon, so one stands next on the same line
unfoldable pub colon_follows : List ℕ → Bool
colon_follows bytes = option_map_or (λ b. b == 58) (find (λ b. not (is_blank b)) bytes) false

-- the list of tokens ends with this one: the word end, first on its line, and no colon behind it on that line
unfoldable pub ends_list : List ℕ → ℕ → Token → Bool
ends_list source line_before t = nat_lt line_before t.line && (is_end_word (text_of source t) && not (colon_follows (drop t.end source)))

-- how a list of tokens ends: nothing more is to be read, or a fault comes next
pub data Ending : Type 0 where
  Complete : Ending
  Faulty : ℕ → TokenKindFault → Ending

-- behind the token that ends the list comes nothing; behind any other what is said of the rest
abbrev pub Onward : Bool → List Token → Ending → Type 0 → Type 0
Onward true ts ending Rest = (ts ≡ []) × (ending ≡ Complete)
Onward false ts ending Rest = Rest

-- the tokens from a place on, and how their list ends. The token before, if there is one, stands in the line line_before, else this is 0
unfoldable pub TokensFrom : List ℕ → ℕ → ℕ → List Token → Ending → Type 0
TokensFrom source place line_before [] Complete = place + gap_length false (drop place source) ≡ length source
TokensFrom source place line_before [] (Faulty line kind) = IsNextFault source place line kind
TokensFrom source place line_before (t ∷ ts) ending =
    IsNextToken source place t × Onward (ends_list source line_before t) ts ending (TokensFrom source t.end t.line ts ending)

-- the tokens of a whole file, in their order
abbrev pub AreTokens : List ℕ → List Token → Type 0
AreTokens source ts = TokensFrom source 0 0 ts Complete

-- the first fault of a file is this one, in this line
abbrev pub IsFirstFault : List ℕ → ℕ → TokenKindFault → Type 0
IsFirstFault source line kind = (ts : List Token) × TokensFrom source 0 0 ts (Faulty line kind)

-- the token's text is a piece of the source, and has a byte at least
pub record IsSpan (source : List ℕ) (t : Token) : Type 0 where
  pub rising : t.start < t.end
  pub within : t.end ≤ length source

-- tokens one behind the other, each with a byte at least, from a place on and before another
abbrev pub AreInOrder : ℕ → List Token → ℕ → Type 0
AreInOrder from [] to = from ≤ to
AreInOrder from (t ∷ ts) to = (from ≤ t.start) × (t.start < t.end) × AreInOrder t.end ts to
