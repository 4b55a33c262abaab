-- The limits of LP files.
use Rattle.std.specs.Prelude.{ℕ, ◌^◌}

-- the greatest number of bytes of a name
abbrev pub longest_name : ℕ
longest_name = 255

-- the greatest number of bytes of a file
abbrev pub most_bytes : ℕ
most_bytes = 2 ^ 26
