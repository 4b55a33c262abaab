-- The first points of the list, and how a run for them ends.
use Rattle.std.specs.Prelude.{◌≡◌, ℕ, true, List, take, length, All, ℤ}
use Rattle.sp_model.specs.declared.gaps.Gaps.{Gaps}
use Rattle.sp_model.specs.Models.{IsOptimum}
use Rattle.sp_filter.specs.Held.{FilterList}
use Rattle.sp_search.specs.States.{StateOf}
use Rattle.sp_search.specs.Runs.{IsStuck}
use Rattle.sp_populate.specs.Ends.{goal_of}
use Rattle.sp_populate.specs.Listings.{IsPassedListAt, IsSerial, points_at}
use Rattle.sp_populate.specs.declared.best.NBestEnd.{NBestEnd}
use Rattle.sp_populate.specs.declared.best.NBestEnd.TheVariants.{Done, NodeLimit}

-- the least value found is the optimum, and these are the serials of the first k points of the list, in its order, or of
-- all where it is shorter
pub record IsBestListing (s : StateOf) (gaps : Gaps) (fs : FilterList) (k : ℕ) (serials : List ℕ) : Type 0 where
  pub optimum : IsOptimum s.model s.search.best
  pub known : All (IsSerial (length s.search.found)) serials
  pub whole : List (List ℤ)
  pub listed : IsPassedListAt s.model gaps fs s.search.best whole
  pub first : points_at s.search.found serials ≡ take k whole

-- each answer with what holds then
abbrev pub NBestEnds : StateOf → Gaps → FilterList → ℕ → ℕ → NBestEnd → Type 0
NBestEnds new gaps fs k limit (Done serials) = (new.search.proved ≡ true) × IsBestListing new gaps fs k serials.items
NBestEnds new gaps fs k limit NodeLimit = IsStuck new (goal_of gaps fs new) limit
