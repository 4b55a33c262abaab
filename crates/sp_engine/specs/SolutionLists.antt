-- The optimum and the list, apart from what was found.
use Rattle.std.specs.Prelude.{◌≡◌, List, filter, Option, ℤ}
use Rattle.sp_model.specs.declared.gaps.Gaps.{Gaps}
use Rattle.sp_model.specs.declared.parts.ModelParts.{ModelParts}
use Rattle.sp_model.specs.Models.{IsOptimum}
use Rattle.sp_list.specs.Lists.{IsListAt}
use Rattle.sp_engine.specs.Views.{Filter, passes}

-- best is the optimum, none where no point is feasible; xs are the points of the list under the gaps that pass the
-- filters
pub record Lists (m : ModelParts) (gaps : Gaps) (filters : List Filter) (best : Option ℤ) (xs : List (List ℤ))
    : Type 0 where
  pub optimum : IsOptimum m best
  pub whole : List (List ℤ)
  pub listed : IsListAt m gaps best whole
  pub filtered : xs ≡ filter (passes filters) whole
