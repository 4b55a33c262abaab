-- Names in the order in which they first come, and the places where they stand.
use Rattle.std.specs.Prelude.{ℕ, Bool, if◌then◌else◌, List, ◌∷◌, [], ◌++◌, Option, position, fold}
use Rattle.std.specs.List.{list_any, position_or_len}
use Rattle.std.specs.Str.{bytes_eq}

-- a name is the list of its bytes
abbrev pub Name : Type 0
Name = List ℕ

-- the name is one of the names
abbrev pub is_among : List Name → Name → Bool
is_among names name = list_any (bytes_eq name) names

-- the place of the name among the names, from 0, if it is one of them
abbrev pub find_name : List Name → Name → Option ℕ
find_name names name = position (bytes_eq name) names

-- the place of the name among the names, or how many there are
abbrev pub place_of : List Name → Name → ℕ
place_of names name = position_or_len (bytes_eq name) names

-- the names, and this one behind them if it isn't one of them
abbrev pub with_name : List Name → Name → List Name
with_name names name = if is_among names name then names else names ++ name ∷ []

-- the names after each of the others is added in turn
abbrev pub declared : List Name → List Name → List Name
declared names others = fold with_name names others
