-- The lines of a text. A line feed ends each of them, and a carriage return directly before it belongs to none;
-- the last one may lack its line feed, and then keeps a carriage return at its end. So the empty text has no line.
use Rattle.std.specs.Prelude.{ℕ, Bool, ◌==◌, List}
use Rattle.std.specs.List.{slice_split}
use Rattle.std.specs.Str.Lines.{lines_of_parts}

abbrev pub is_feed : ℕ → Bool
is_feed byte = byte == 10

-- what stands between line feeds, each piece but the last without one carriage return at its end, and the last
-- piece only where it isn't empty
abbrev pub lines : List ℕ → List (List ℕ)
lines text = lines_of_parts (slice_split is_feed text)
