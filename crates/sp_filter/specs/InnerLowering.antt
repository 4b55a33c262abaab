-- What private functions ask of a filter. No public clause cites this module.
use Rattle.std.specs.Prelude.{ℕ, ◌≤◌, unsigned_abs}
use Rattle.sp_model.specs.Sums.{side_width}
use Rattle.sp_scaling.specs.Scaling.{greatest_width, size_of}
use Rattle.sp_filter.specs.declared.kinds.Filter.{Filter}
use Rattle.sp_filter.specs.declared.kinds.Filter.TheVariants.{Range, Diversity}
use Rattle.sp_filter.specs.Filters.{Weighted, count_total, least_allowed, most_allowed}

-- the magnitudes of the coefficients or weights, added up
abbrev pub factor_size : Filter → ℕ
factor_size (Range terms lo hi scale) = size_of terms
factor_size (Diversity terms lo hi scale) = count_total (λ (t : Weighted). unsigned_abs t.1) terms

-- its numbers fit 128 bits
pub record IsSmall (f : Filter) : Type 0 where
  pub factors : factor_size f ≤ greatest_width
  pub least : side_width (least_allowed f) ≤ greatest_width
  pub most : side_width (most_allowed f) ≤ greatest_width
