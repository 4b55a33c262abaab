-- What a search with a complete tree has found.
use Rattle.std.specs.Prelude.{◌≡◌, ◌≢◌, ℕ, ◌<◌, List, length, slice_index_or, ℤ, ◌≤ℤ◌}
use Rattle.sp_model.specs.declared.parts.ModelParts.{ModelParts}
use Rattle.sp_model.specs.Models.{Feasible, objective}
use Rattle.sp_list.specs.declared.found.Found.{Found}
use Rattle.sp_filter.specs.Held.{FilterList, Passes}
use Rattle.sp_cover.specs.Cover.{no_found}

-- the point is feasible, passes each filter, and its objective isn't above the cut
pub record IsListed (m : ModelParts) (cut : ℤ) (fs : FilterList) (x : List ℤ) : Type 0 where
  pub feasible : Feasible m x
  pub passes : Passes fs.held x
  pub near : objective m x ≤ℤ cut

-- the point is among the found ones, with its objective
pub record WasFound (m : ModelParts) (found : List Found) (x : List ℤ) : Type 0 where
  pub place : ℕ
  pub known : place < length found
  pub point : (slice_index_or found place no_found).point ≡ x
  pub value : (slice_index_or found place no_found).value ≡ objective m x

-- each found point is feasible and has its objective beside it, and none was found twice
pub record AreFound (m : ModelParts) (found : List Found) : Type 0 where
  pub feasible : (k : ℕ) → k < length found → Feasible m (slice_index_or found k no_found).point
  pub value : (k : ℕ) → k < length found → objective m (slice_index_or found k no_found).point ≡ (slice_index_or found k no_found).value
  pub once : (k l : ℕ) → k < l → l < length found → (slice_index_or found k no_found).point ≢ (slice_index_or found l no_found).point
