-- The first letters and the lengths of the spellings in the tables.
use Rattle.std.specs.Prelude.{ℕ, Bool, false, ◌||◌, ◌==◌, if◌then◌else◌, List, [], ◌∷◌, length}
use Rattle.std.specs.Char.{to_ascii_lowercase}

-- some spelling begins with the small letter and has the length: b, c, e, g, i, l, m, s, t and u in this order
unfoldable pub has_length : ℕ → ℕ → Bool
has_length letter size =
    if letter == 98 then size == 3 || (size == 5 || (size == 6 || size == 8)) else (
    if letter == 99 then size == 4 || (size == 10 || size == 11) else (
    if letter == 101 then size == 3 else (
    if letter == 103 then size == 3 || (size == 7 || size == 8) else (
    if letter == 105 then size == 3 || (size == 7 || size == 8) else (
    if letter == 108 then size == 4 else (
    if letter == 109 then size == 3 || (size == 7 || size == 8) else (
    if letter == 115 then size == 2 || (size == 3 || (size == 4 || (size == 5 || size == 7))) else (
    if letter == 116 then size == 2 || size == 4 else (
    if letter == 117 then size == 4 else false)))))))))

-- some spelling begins with the word's first letter, in either case, and is as long as the word
unfoldable pub may_be_word : List ℕ → Bool
may_be_word [] = false
may_be_word (byte ∷ bytes) = has_length (to_ascii_lowercase byte) (length (byte ∷ bytes))
