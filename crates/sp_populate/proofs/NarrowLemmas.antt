-- Each filter held may be asked at each found point.
use Rattle.std.proofs.Common.{List, All, ℤ}
use Rattle.sp_model.specs.declared.parts.ModelParts.{ModelParts}
use Rattle.sp_model.specs.Boxes.{Bounds, IsWithin}
use Rattle.sp_model.specs.Models.{Feasible, root_of}
use Rattle.sp_list.specs.declared.found.Found.{Found}
use Rattle.sp_filter.specs.declared.kinds.Filter.{Filter}
use Rattle.sp_filter.specs.Filters.{Fits, IsNarrow, box_at}
use Rattle.sp_filter.specs.Held.{FilterList}
use Rattle.sp_cover.specs.Listing.{AreFound}
use Rattle.sp_search.specs.States.{AreFit}
use Rattle.sp_populate.proofs.ListLemmas.{each}

abbrev pub FitNarrow : ModelParts → Type 0
FitNarrow m = (f : Filter) → Fits m f → IsNarrow f (root_of m)

abbrev pub PointsNarrow : Type 0
PointsNarrow = (f : Filter) (b : Bounds) (x : List ℤ) → IsNarrow f b → IsWithin b x → IsNarrow f (box_at x)

pub narrow-found : (m : ModelParts) (fs : FilterList) (found : List Found) → AreFit m fs → AreFound m found → FitNarrow m → PointsNarrow → ((x : List ℤ) → Feasible m x → IsWithin (root_of m) x)
    → All (λ f. All (λ h. IsNarrow h.filter (box_at f.point)) fs.held) found
narrow-found m fs found fit are narrow points within =
    each (λ f. All (λ h. IsNarrow h.filter (box_at f.point)) fs.held) found
    (λ k k-in j d j-in. points _ (root_of m) _ (narrow _ (fit.each j d j-in)) (within _ (are.feasible k k-in)))
