-- What private functions say.
use Rattle.std.specs.Prelude.{ℕ, ◌+◌, Option, Some, None}

-- the least row that may come after the last one, if there is one
abbrev pub next_of : Option ℕ → ℕ
next_of None = 0
next_of (Some row) = row + 1
