-- The symbol that a text begins with, told by its first bytes.
use Rattle.std.specs.Prelude.{ℕ, Bool, false, ◌==◌, if◌then◌else◌, List, [], ◌∷◌, Option, Some, None}
use Rattle.sp_lp_tokens.specs.declared.symbols.Symbol.{Symbol}
use Rattle.sp_lp_tokens.specs.declared.symbols.Symbol.TheVariants.{Plus, Minus, Colon, DoubleColon, Less, LessEqual, EqualLess, Greater, GreaterEqual, EqualGreater, Equal, Arrow, DoubleArrow, LeftBracket, RightBracket, Star, Caret, Slash}

-- the text begins with the byte
abbrev pub begins_with : List ℕ → ℕ → Bool
begins_with [] byte = false
begins_with (b ∷ rest) byte = b == byte

-- a minus and a greater sign stand first
abbrev pub begins_with_arrow : List ℕ → Bool
begins_with_arrow [] = false
begins_with_arrow (b ∷ rest) = if b == 45 then begins_with rest 62 else false

-- behind a less sign
abbrev pub less_symbol : List ℕ → Symbol
less_symbol rest = if begins_with rest 61 then LessEqual else (if begins_with_arrow rest then DoubleArrow else Less)

-- behind an equals sign
abbrev pub equal_symbol : List ℕ → Symbol
equal_symbol rest = if begins_with rest 60 then EqualLess else (if begins_with rest 62 then EqualGreater else Equal)

-- behind the first byte
unfoldable pub symbol_from : ℕ → List ℕ → Option Symbol
symbol_from first rest =
    if first == 43 then Some Plus else (
    if first == 45 then Some (if begins_with rest 62 then Arrow else Minus) else (
    if first == 58 then Some (if begins_with rest 58 then DoubleColon else Colon) else (
    if first == 60 then Some (less_symbol rest) else (
    if first == 61 then Some (equal_symbol rest) else (
    if first == 62 then Some (if begins_with rest 61 then GreaterEqual else Greater) else (
    if first == 91 then Some LeftBracket else (
    if first == 93 then Some RightBracket else (
    if first == 42 then Some Star else (
    if first == 94 then Some Caret else (
    if first == 47 then Some Slash else None))))))))))
