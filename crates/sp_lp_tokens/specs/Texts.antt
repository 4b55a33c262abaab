-- Which texts are tokens: names, numbers and symbols.
use Rattle.std.specs.Prelude.{ℕ, Bool, false, not, ◌&&◌, ◌||◌, ◌==◌, List, [], ◌∷◌, codes}
use Rattle.std.specs.List.{list_all, list_any}
use Rattle.std.specs.Char.{is_ascii_alphanumeric, is_ascii_digit}
use Rattle.std.specs.Str.{bytes_eq}
use Rattle.sp_decimal.specs.Grammar.{is_plain_numeral}
use Rattle.sp_lp_tokens.specs.declared.symbols.Symbol.{Symbol}
use Rattle.sp_lp_tokens.specs.declared.symbols.Symbol.TheVariants.{Plus, Minus, Colon, DoubleColon, Less, LessEqual, EqualLess, Greater, GreaterEqual, EqualGreater, Equal, Arrow, DoubleArrow, LeftBracket, RightBracket, Star, Caret, Slash}

-- a letter, a digit or one of these marks
abbrev pub is_name_byte : ℕ → Bool
is_name_byte b = is_ascii_alphanumeric b || list_any (λ mark. mark == b) (codes "!\"#$%&'(),.;?@_`{}~")

-- a name's byte that is no digit and no full stop
abbrev pub begins_name : ℕ → Bool
begins_name b = is_name_byte b && not (is_ascii_digit b || (b == 46))

-- bytes of names, at least one, and the first of them may begin a name
abbrev pub is_name : List ℕ → Bool
is_name [] = false
is_name (first ∷ rest) = begins_name first && list_all is_name_byte rest

-- a numeral without a sign
abbrev pub is_number : List ℕ → Bool
is_number text = is_plain_numeral text

abbrev pub spelling : Symbol → List ℕ
spelling Plus = codes "+"
spelling Minus = codes "-"
spelling Colon = codes ":"
spelling DoubleColon = codes "::"
spelling Less = codes "<"
spelling LessEqual = codes "<="
spelling EqualLess = codes "=<"
spelling Greater = codes ">"
spelling GreaterEqual = codes ">="
spelling EqualGreater = codes "=>"
spelling Equal = codes "="
spelling Arrow = codes "->"
spelling DoubleArrow = codes "<->"
spelling LeftBracket = codes "["
spelling RightBracket = codes "]"
spelling Star = codes "*"
spelling Caret = codes "^"
spelling Slash = codes "/"

-- all symbols
abbrev pub symbols : List Symbol
symbols = Plus ∷ Minus ∷ Colon ∷ DoubleColon ∷ Less ∷ LessEqual ∷ EqualLess ∷ Greater ∷ GreaterEqual ∷ EqualGreater ∷ Equal ∷ Arrow ∷ DoubleArrow ∷ LeftBracket ∷ RightBracket ∷ Star ∷ Caret ∷ Slash ∷ []

-- some symbol has this spelling
abbrev pub is_symbol : List ℕ → Bool
is_symbol text = list_any (λ symbol. bytes_eq text (spelling symbol)) symbols

-- a name, a number or a symbol
abbrev pub is_token_text : List ℕ → Bool
is_token_text text = is_name text || is_number text || is_symbol text
