-- Words of a line by their place.
use Rattle.std.specs.Prelude.{ℕ, nat_lt, Bool, List, [], length, slice_index_or}

-- a word is the list of its bytes
abbrev pub Word : Type 0
Word = List ℕ

-- the word at the place, from 0, or the empty word
abbrev pub word_at : List Word → ℕ → Word
word_at words place = slice_index_or words place []

-- a name has at most 255 bytes
abbrev pub is_long : Word → Bool
is_long word = nat_lt 255 (length word)
