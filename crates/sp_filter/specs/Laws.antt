-- What the laws of filters say.
use Rattle.std.specs.Prelude.{◌≡◌, ℕ, List, length, ℤ, pos, ◌*ℤ◌, ◌≤ℤ◌}
use Rattle.sp_model.specs.declared.parts.ModelParts.{ModelParts}
use Rattle.sp_model.specs.Boxes.{IsBetween}
use Rattle.sp_filter.specs.Filters.{distance, least_multiple, most_multiple, distances}

-- the least of what a function gives on a range
pub record IsLeastOver (f : ℤ → ℤ) (r : ℤ × ℤ) (v : ℤ) : Type 0 where
  pub reached : (w : ℤ) × IsBetween r w × (f w ≡ v)
  pub least : (w : ℤ) → IsBetween r w → v ≤ℤ f w

-- the greatest
pub record IsMostOver (f : ℤ → ℤ) (r : ℤ × ℤ) (v : ℤ) : Type 0 where
  pub reached : (w : ℤ) × IsBetween r w × (f w ≡ v)
  pub most : (w : ℤ) → IsBetween r w → f w ≤ℤ v

-- what a term of a range filter gives at a value of its variable
abbrev pub multiple_by : ℤ → ℤ → ℤ
multiple_by a v = a *ℤ v

-- what a term of a diversity filter gives there
abbrev pub distance_by : ℤ → ℤ → ℤ → ℤ
distance_by w reference v = w *ℤ pos (distance v reference)
