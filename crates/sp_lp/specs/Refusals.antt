-- Why an LP file is refused, and in which line.
use Rattle.std.specs.Prelude.{◌≡◌, ◌⊎◌, ℕ, ◌+◌, ◌-◌, Bool, true, false, ◌||◌, ◌&&◌, not, List, [], ◌∷◌, drop, Option, Some, is_some}
use Rattle.sp_decimal.specs.declared.numerals.Numeral.{Numeral}
use Rattle.sp_decimal.specs.declared.numerals.Numeral.TheVariants.{Exact, Huge}
use Rattle.sp_draft.specs.declared.read_refusals.ReadRefusal.{ReadRefusal}
use Rattle.sp_draft.specs.declared.read_refusals.ReadRefusal.TheVariants.{Syntax, WideNumeral, DuplicateName, UnknownName, Unsupported, NoMemory}
use Rattle.sp_lp_tokens.specs.declared.symbols.Symbol.TheVariants.{DoubleArrow, LeftBracket}
use Rattle.sp_lp_tokens.specs.declared.token_types.Token.{Token}
use Rattle.sp_lp_tokens.specs.declared.token_types.TokenKind.{TokenKind}
use Rattle.sp_lp_tokens.specs.declared.token_types.TokenKind.TheVariants as kinds
use Rattle.sp_lp_tokens.specs.declared.token_types.TokenKindFault.{TokenKindFault}
use Rattle.sp_lp_tokens.specs.declared.token_types.TokenKindFault.TheVariants as faults
use Rattle.sp_lp_tokens.specs.SeenTokens.{SeenToken, all_seen}
use Rattle.sp_lp_tokens.specs.Tokens.{AreTokens, IsFirstFault}
use Rattle.sp_lp_words.specs.declared.classes.Class.{Class}
use Rattle.sp_lp_words.specs.declared.classes.Class.TheVariants as classes
use Rattle.sp_lp_words.specs.declared.sections.Section.TheVariants.{Cuts}
use Rattle.sp_lp_words.specs.Sections.{set_kind_of}
use Rattle.sp_lp_grammar.specs.Lexemes.{Mark, marks, HeadingOf, heading_at}
use Rattle.sp_lp_grammar.specs.Reads.{IsFaultPlace}
use Rattle.sp_lp.specs.Standins.{line_of, CanBeCoefficient, CanBeConstant, CanBeWeight, CanBeLabel, CanBeSet}

-- the tokens from a place on as the grammar sees them
abbrev pub marks_from : List SeenToken → ℕ → List Mark
marks_from ts place = drop place (marks true 0 ts)

abbrev pub is_name_class : Class → Bool
is_name_class (classes.Name part) = true
is_name_class class = false

abbrev pub is_huge : Numeral → Bool
is_huge (Exact d) = false
is_huge (Huge negative) = true

abbrev pub is_huge_class : Class → Bool
is_huge_class (classes.Number n) = is_huge n
is_huge_class class = false

abbrev pub is_colon_class : Class → Bool
is_colon_class classes.Colon = true
is_colon_class class = false

abbrev pub is_cuts : Option HeadingOf → Bool
is_cuts (Some (Cuts, more)) = true
is_cuts heading = false

-- first stands: a name that is no word of a section; such a name that is the kind of a set; a huge number; a colon; `user cuts`
-- where it counts
abbrev pub name_stands : List Mark → Bool
name_stands [] = false
name_stands (m ∷ ms) = is_name_class m.class && not (is_some (heading_at m ms))

abbrev pub set_kind_stands : List Mark → Bool
set_kind_stands [] = false
set_kind_stands (m ∷ ms) = name_stands (m ∷ ms) && is_some (set_kind_of m.text)

abbrev pub huge_stands : List Mark → Bool
huge_stands [] = false
huge_stands (m ∷ ms) = is_huge_class m.class

abbrev pub colon_stands : List Mark → Bool
colon_stands [] = false
colon_stands (m ∷ ms) = is_colon_class m.class

abbrev pub cuts_stand : List Mark → Bool
cuts_stand [] = false
cuts_stand (m ∷ ms) = is_cuts (heading_at m ms)

abbrev pub is_foreign : TokenKind → Bool
is_foreign (kinds.Symbol LeftBracket) = true
is_foreign (kinds.Symbol DoubleArrow) = true
is_foreign kind = false

-- `[` or `<->` stands first
abbrev pub foreign_stands : List SeenToken → Bool
foreign_stands [] = false
foreign_stands (t ∷ ts) = is_foreign t.kind

-- the token at the place is one that the format has and that isn't read: `[`, `<->`, or a token of `user cuts` where it counts
abbrev pub is_unsupported : List SeenToken → ℕ → Bool
is_unsupported ts place = foreign_stands (drop place ts) || (cuts_stand (marks_from ts place) || cuts_stand (marks_from ts (place - 1)))

-- at the place is a huge number that is a constant, a weight, or the coefficient of the name behind it
pub record IsWideHere (ts : List SeenToken) (place : ℕ) : Type 0 where
  pub huge : huge_stands (marks_from ts place) ≡ true
  pub part : CanBeConstant ts place ⊎ (CanBeWeight ts place ⊎ ((name_stands (marks_from ts (place + 1)) ≡ true) × CanBeCoefficient ts place))

-- at the place is a name, and before it a huge number that is its coefficient
pub record IsWideBefore (ts : List SeenToken) (place : ℕ) : Type 0 where
  pub name : name_stands (marks_from ts place) ≡ true
  pub huge : huge_stands (marks_from ts (place - 1)) ≡ true
  pub part : CanBeCoefficient ts (place - 1)

-- for the token at the place a huge number is refused, which stands at the place or before it
abbrev pub IsWide : List SeenToken → ℕ → ℕ → Type 0
IsWide ts place number = (IsWideHere ts place × (number ≡ place)) ⊎ (IsWideBefore ts place × (number ≡ place - 1))

-- another name could be a label where this name can't: the name of a set, directly behind its section's word; a name that a
-- colon ends; a name with its colon and, at the place, the kind of a set
pub record IsKnownSet (ts : List SeenToken) (place : ℕ) : Type 0 where
  pub name : name_stands (marks_from ts place) ≡ true
  pub other : CanBeLabel ts place

pub record IsKnownLabel (ts : List SeenToken) (place : ℕ) : Type 0 where
  pub colon : colon_stands (marks_from ts place) ≡ true
  pub name : name_stands (marks_from ts (place - 1)) ≡ true
  pub other : CanBeLabel ts (place - 1)

pub record IsKnownOpening (ts : List SeenToken) (place : ℕ) : Type 0 where
  pub kind : set_kind_stands (marks_from ts place) ≡ true
  pub colon : colon_stands (marks_from ts (place - 1)) ≡ true
  pub name : name_stands (marks_from ts (place - 2)) ≡ true
  pub other : CanBeSet ts (place - 2)

abbrev pub IsDuplicate : List SeenToken → ℕ → Type 0
IsDuplicate ts place = IsKnownSet ts place ⊎ (IsKnownLabel ts place ⊎ IsKnownOpening ts place)

-- the refusal of the tokens, of which the fault is at the place: the first of these kinds that fits, in the line of the fault, or
-- in that of the huge number
abbrev pub IsRefusalAt : List SeenToken → ℕ → ReadRefusal → Type 0
IsRefusalAt ts place (Unsupported line) = (is_unsupported ts place ≡ true) × (line ≡ line_of ts place)
IsRefusalAt ts place (WideNumeral line) = (number : ℕ) × (is_unsupported ts place ≡ false) × IsWide ts place number × (line ≡ line_of ts number)
IsRefusalAt ts place (DuplicateName line) =
    (is_unsupported ts place ≡ false) × ((number : ℕ) → IsWide ts place number → ⊥) × IsDuplicate ts place × (line ≡ line_of ts place)
IsRefusalAt ts place (Syntax line) =
    (is_unsupported ts place ≡ false) × ((number : ℕ) → IsWide ts place number → ⊥) × (IsDuplicate ts place → ⊥) × (line ≡ line_of ts place)
IsRefusalAt ts place (UnknownName line) = ⊥
IsRefusalAt ts place NoMemory = ⊥

-- the tokens are those of no file, and the refusal is that of their fault
pub record IsListRefusal (ts : List SeenToken) (refusal : ReadRefusal) : Type 0 where
  pub place : ℕ
  pub is_place : IsFaultPlace ts place
  pub is_refusal : IsRefusalAt ts place refusal

-- the refusal of a fault of the tokens
abbrev pub refusal_of : TokenKindFault → ℕ → ReadRefusal
refusal_of faults.BadByte line = Syntax line
refusal_of faults.LongName line = Syntax line
refusal_of faults.Wide line = WideNumeral line

pub record IsTokenRefusal (bytes : List ℕ) (refusal : ReadRefusal) : Type 0 where
  pub line : ℕ
  pub kind : TokenKindFault
  pub is_fault : IsFirstFault bytes line kind
  pub refusal_is : refusal ≡ refusal_of kind line

pub record IsGrammarRefusal (bytes : List ℕ) (refusal : ReadRefusal) : Type 0 where
  pub list : List Token
  pub are_tokens : AreTokens bytes list
  pub is_refusal : IsListRefusal (all_seen bytes list) refusal

-- the refusal of a file: a fault of the tokens comes first
abbrev pub IsRefused : List ℕ → ReadRefusal → Type 0
IsRefused bytes refusal = IsTokenRefusal bytes refusal ⊎ IsGrammarRefusal bytes refusal
