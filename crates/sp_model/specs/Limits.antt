-- The limits of a model, each named once.
use Rattle.std.specs.Prelude.{ℕ, ◌^◌}

abbrev pub most_variables : ℕ
most_variables = 2000

abbrev pub most_rows : ℕ
most_rows = 10000

abbrev pub most_indicators : ℕ
most_indicators = 1000

abbrev pub most_sets : ℕ
most_sets = 1000

-- the greatest magnitude of a bound
abbrev pub greatest_bound : ℕ
greatest_bound = 10 ^ 15

-- the greatest width of a row and of the objective, and of every sum on the way
abbrev pub greatest_width : ℕ
greatest_width = 10 ^ 36

-- the greatest power of ten of a scale
abbrev pub greatest_scale : ℕ
greatest_scale = 30

-- how many rounds close missing bounds
abbrev pub most_rounds : ℕ
most_rounds = 32
