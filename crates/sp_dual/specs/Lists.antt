-- Lists of multipliers for the rows of a model.
use Rattle.std.specs.Prelude.{◌≢◌, ℕ, ◌+◌, ◌≤◌, List, [], ◌∷◌, length, ℤ, pos, ◌≤ℤ◌}

-- a common divisor, and rows with their multipliers
pub record MultiplierList : Type 0 where
  pub d : ℤ
  pub y : List (ℕ × ℤ)

-- the rows rise strictly, the first one from next on, and no multiplier is 0
abbrev pub Rises : ℕ → List (ℕ × ℤ) → Type 0
Rises next [] = Unit {0}
Rises next (e ∷ es) = (next ≤ e.0) × (e.1 ≢ pos 0) × Rises (e.0 + 1) es

-- the divisor is at least 1, and there are at most 10,000 entries, whose rows rise strictly and whose multipliers aren't 0
pub record IsWellFormed (m : MultiplierList) : Type 0 where
  pub positive : pos 1 ≤ℤ m.d
  pub few : length m.y ≤ 10000
  pub rising : Rises 0 m.y

-- the divisor 1, and no entry
abbrev pub zero_list : MultiplierList
zero_list = record { d = pos 1; y = [] }
