-- What a token is to the grammar of LP files.
use Rattle.std.specs.Prelude.{ℕ, Bool, true, false, if◌then◌else◌, List}
use Rattle.sp_decimal.specs.declared.numerals.Numeral.TheVariants.{Huge}
use Rattle.sp_draft.specs.declared.drafts.Sense.TheVariants as senses
use Rattle.sp_lp_tokens.specs.declared.symbols.Symbol.{Symbol}
use Rattle.sp_lp_tokens.specs.declared.symbols.Symbol.TheVariants.{Plus, Minus, Colon, DoubleColon, Less, LessEqual, EqualLess, Greater, GreaterEqual, EqualGreater, Equal, Arrow}
use Rattle.sp_lp_tokens.specs.declared.token_types.TokenKind.{TokenKind}
use Rattle.sp_lp_tokens.specs.declared.token_types.TokenKind.TheVariants as kinds
use Rattle.sp_lp_tokens.specs.SeenTokens.{SeenToken}
use Rattle.sp_lp_words.specs.declared.classes.Class.{Class}
use Rattle.sp_lp_words.specs.declared.classes.Class.TheVariants as classes
use Rattle.sp_lp_words.specs.Tables.{part_of, direction_of, is_infinity}

-- plus and minus are signs, three spellings each mean at most and at least
abbrev pub symbol_class : Symbol → Class
symbol_class Plus = classes.Sign false
symbol_class Minus = classes.Sign true
symbol_class Colon = classes.Colon
symbol_class DoubleColon = classes.DoubleColon
symbol_class Less = classes.Relation senses.Less
symbol_class LessEqual = classes.Relation senses.Less
symbol_class EqualLess = classes.Relation senses.Less
symbol_class Greater = classes.Relation senses.Greater
symbol_class GreaterEqual = classes.Relation senses.Greater
symbol_class EqualGreater = classes.Relation senses.Greater
symbol_class Equal = classes.Relation senses.Equal
symbol_class Arrow = classes.Arrow
symbol_class other = classes.Other

-- the first token of a file may be an objective's word, any other one of another section's
abbrev pub word_class : Bool → List ℕ → Class
word_class true text = classes.Name (direction_of text)
word_class false text = classes.Name (part_of text)

-- the words for infinity are numbers and no names
abbrev pub name_class : Bool → List ℕ → Class
name_class first text = if is_infinity text then classes.Number (Huge false) else word_class first text

abbrev pub kind_class : Bool → List ℕ → TokenKind → Class
kind_class first text kinds.Name = name_class first text
kind_class first text (kinds.Number n) = classes.Number n
kind_class first text (kinds.Symbol s) = symbol_class s

-- what a token is, the first one of its file or a later one
unfoldable pub class_of : Bool → SeenToken → Class
class_of first t = kind_class first t.text t.kind
