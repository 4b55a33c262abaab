-- The fields of a line: what blanks part.
use Rattle.std.specs.Prelude.{ℕ, Bool, not, ◌||◌, ◌==◌, List, length, filter}
use Rattle.std.specs.List.{slice_split}

-- a space or a tab
abbrev pub is_blank : ℕ → Bool
is_blank byte = (byte == 32) || (byte == 9)

abbrev pub is_filled : List ℕ → Bool
is_filled word = not (length word == 0)

-- what stands between blanks, where it isn't empty
abbrev pub fields : List ℕ → List (List ℕ)
fields line = filter is_filled (slice_split is_blank line)
