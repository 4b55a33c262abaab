-- What the parts of a check find.
use Rattle.std.specs.Prelude.{◌≡◌, ◌⊎◌, ℕ, ◌-◌, ◌<◌, List, slice_index_or, ℤ, pos}
use Rattle.sp_model.specs.Rules.{IsFirstBrokenCore}
use Rattle.sp_model.specs.Stated.{Core, OpenBounds}

-- the first core that isn't lawful is the variable's
pub record HasFirstBrokenCore (b : OpenBounds) (cores : List Core) (j : ℕ) : Type 0 where
  pub place : ℕ
  pub first : IsFirstBrokenCore b cores place j

abbrev pub core_at : List Core → ℕ → Core
core_at cores k = slice_index_or cores k (0, pos 0, pos 0)

-- the core's variable is above that of the core before it
abbrev pub RisesAt : List Core → ℕ → Type 0
RisesAt cores k = (k ≡ 0) ⊎ ((core_at cores (k - 1)).0 < (core_at cores k).0)
