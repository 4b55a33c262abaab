-- What private functions of a run for the first points say.
use Rattle.std.specs.Prelude.{◌≡◌, ℕ, ◌≤◌, ◌⊎◌, Option, IfSome, List, filter, take, length, ℤ, ◌≤ℤ◌}
use Rattle.sp_list.specs.declared.found.Found.{Found}
use Rattle.sp_filter.specs.Held.{FilterList}
use Rattle.sp_tree.specs.Trees.{is_held}
use Rattle.sp_cover.specs.Cover.{IsShut}
use Rattle.sp_search.specs.States.{IsCovered, StateOf}
use Rattle.sp_search.specs.Runs.{IsStuck}
use Rattle.sp_populate.specs.Ends.{SparesLicensed, collecting}
use Rattle.sp_populate.specs.InnerEnds.{AreSettled, IsLater}
use Rattle.sp_populate.specs.InnerLists.{IsSorting, is_listed}
use Rattle.sp_populate.specs.declared.best.NBestEnd.{NBestEnd}
use Rattle.sp_populate.specs.declared.best.NBestEnd.TheVariants.{Done, NodeLimit}

-- a cut that isn't above this one, nor below the least value found, and up to which there are k points to list if it is less
pub record IsLowered (found : List Found) (best : Option ℤ) (fs : FilterList) (k : ℕ) (cut new : ℤ) : Type 0 where
  pub lower : new ≤ℤ cut
  pub above : IfSome best (λ v. v ≤ℤ cut) → IfSome best (λ v. v ≤ℤ new)
  pub many : (new ≡ cut) ⊎ (k ≤ length (filter (is_listed new fs) found))

-- a cut that isn't above the most, and up to which there are k points to list if it is less
pub record IsCutFor (found : List Found) (cut most : ℤ) (fs : FilterList) (k : ℕ) : Type 0 where
  pub lower : cut ≤ℤ most
  pub many : (cut ≡ most) ⊎ (k ≤ length (filter (is_listed cut fs) found))

-- what a run of collecting steps up to cuts that aren't above the most leaves: what such a run leaves, each leaf that is
-- licensed for the most, and the cover
pub record IsGathered (old new : StateOf) (most : ℤ) (fs : FilterList) (limit : ℕ) : Type 0 where
  pub run : IsLater old new most fs limit
  pub kept : SparesLicensed most (is_held fs) old.search.tree.nodes new.search.tree.nodes
  pub covered : IsCovered fs old → IsCovered fs new

-- these are the serials of the first k points to list up to the cut
pub record IsFirstOf (found : List Found) (cut : ℤ) (fs : FilterList) (k : ℕ) (serials : List ℕ) : Type 0 where
  pub all : List ℕ
  pub sorted : IsSorting found cut fs all
  pub first : serials ≡ take k all

-- the tree proves the list up to such a cut, and these are the serials of its first k points
pub record IsFirstProved (s : StateOf) (most : ℤ) (fs : FilterList) (k : ℕ) (serials : List ℕ) : Type 0 where
  pub cut : ℤ
  pub fits : IsCutFor s.search.found cut most fs k
  pub settled : AreSettled cut (is_held fs) s.search.tree.nodes
  pub shut : IsShut s.search.tree.nodes
  pub first : IsFirstOf s.search.found cut fs k serials

-- how the rounds end
abbrev pub RoundsEnd : StateOf → ℤ → FilterList → ℕ → ℕ → NBestEnd → Type 0
RoundsEnd new most fs k limit (Done serials) = IsFirstProved new most fs k serials.items
RoundsEnd new most fs k limit NodeLimit = IsStuck new (collecting most fs) limit
