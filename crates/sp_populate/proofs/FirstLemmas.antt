-- The first points of a tree that proves the list up to a cut are the first of the whole list.
use Rattle.std.proofs.Common.{◌≡◌, ℕ, ◌≤◌, ◌⊎◌, inl, inr, true, List, [], map, filter, take, length, All, Option, None, Some, Result, Ok, Err, IfOk, ℤ, ◌≤ℤ◌, refl, sym, ap, ◌∙◌, arith}
use Rattle.std.proofs.lemmas.List.{length-map, take-map}
use Rattle.std.proofs.lemmas.List.Elements.{All-take}
use Rattle.std.proofs.lemmas.List.Sorted.{length_permutation}
use Rattle.sp_model.specs.declared.gaps.Gaps.{Gaps}
use Rattle.sp_model.specs.declared.no_memory.NoMemory.{NoMemory}
use Rattle.sp_model.specs.declared.parts.ModelParts.{ModelParts}
use Rattle.sp_model.specs.Cuts.{cut_of}
use Rattle.sp_model.specs.Models.{IsOptimum}
use Rattle.sp_list.specs.declared.found.Found.{Found}
use Rattle.sp_list.specs.Lists.{list_of}
use Rattle.sp_filter.specs.Held.{FilterList}
use Rattle.sp_tree.specs.Trees.{IsComplete, is_held}
use Rattle.sp_cover.specs.Cover.{IsBest, IsShut, found_of}
use Rattle.sp_cover.specs.Listing.{AreFound, IsListed, WasFound}
use Rattle.sp_search.specs.States.{StateOf}
use Rattle.sp_populate.specs.Best.{IsBestListing, NBestEnds}
use Rattle.sp_populate.specs.Complete.{cut_at, cut_under}
use Rattle.sp_populate.specs.Ends.{collecting}
use Rattle.sp_populate.specs.InnerBest.{IsFirstProved, RoundsEnd}
use Rattle.sp_populate.specs.InnerEnds.{IsLater}
use Rattle.sp_populate.specs.InnerLists.{is_listed}
use Rattle.sp_populate.specs.Listings.{IsPassedList, IsPassedListAt, IsSerial, passes, points_at}
use Rattle.sp_populate.specs.declared.best.NBestEnd.{NBestEnd}
use Rattle.sp_populate.specs.declared.best.NBestEnd.TheVariants.{Done, NodeLimit}
use Rattle.sp_search.specs.declared.goals.Goal.TheVariants.{Improve}
use Rattle.sp_populate.proofs.BestLemmas.{first-same}
use Rattle.sp_populate.proofs.EndLemmas.{complete-from, goal-collects}
use Rattle.sp_populate.proofs.FilteredLemmas.{HasList, filtered_passes}
use Rattle.sp_populate.proofs.ListLemmas.{none-listed, passed_list, points_mapped}
use Rattle.sp_populate.proofs.PhaseLemmas.{cut-stays}

-- what the laws of a search say of a state
pub record IsKnown (s : StateOf) (fs : FilterList) : Type 0 where
  pub are : AreFound s.model s.search.found
  pub there : (cut : ℤ) (x : List ℤ) → IsComplete cut (is_held fs) s.search.tree.nodes → IsListed s.model cut fs x → WasFound s.model s.search.found x
  pub solved : IsShut s.search.tree.nodes → IsOptimum s.model s.search.best × IsBest s.search.found s.search.best
  pub list : HasList s.model

-- the whole list
abbrev whole_at : ModelParts → Gaps → FilterList → Option ℤ → List (List ℤ)
whole_at m gaps fs None = []
whole_at m gaps fs (Some best) = filter (passes fs) (list_of m (cut_of best gaps m.scale))

whole-listed : (m : ModelParts) (gaps : Gaps) (fs : FilterList) (best : Option ℤ) → HasList m → IsPassedListAt m gaps fs best (whole_at m gaps fs best)
whole-listed m gaps fs None there = refl
whole-listed m gaps fs (Some best) there = filtered_passes m (cut_of best gaps m.scale) fs (list_of m (cut_of best gaps m.scale)) (there (cut_of best gaps m.scale))

many-points : (found : List Found) (all : List ℕ) (fs : FilterList) (k : ℕ) (cut most : ℤ) → length (map (found_of found) all) ≡ length (filter (is_listed cut fs) found)
    → (cut ≡ most) ⊎ (k ≤ length (filter (is_listed cut fs) found)) → (cut ≡ most) ⊎ (k ≤ length (points_at found all))
many-points found all fs k cut most long (inl e) = inl e
many-points found all fs k cut most long (inr m) =
    let one = length-map all (found_of found) in
    let two = length-map all (λ serial. (found_of found serial).point) in
    inr (omega (arith, m, long, one, two))

first-at : (m : ModelParts) (gaps : Gaps) (fs : FilterList) (best : Option ℤ) (found : List Found) (all : List ℕ) (k : ℕ) (cut : ℤ) → HasList m → IsBest found best
    → All (IsSerial (length found)) all → IsPassedList m cut fs (points_at found all) → cut ≤ℤ cut_at gaps m.scale best → (cut ≡ cut_at gaps m.scale best) ⊎ (k ≤ length (points_at found all))
    → take k (points_at found all) ≡ take k (whole_at m gaps fs best)
first-at m gaps fs None found all k cut there is known h lower many = ap (take k) (none-listed found all is known)
first-at m gaps fs (Some best) found all k cut there is known h lower many =
    let most = cut_of best gaps m.scale in
    first-same m most cut fs k (points_at found all) (whole_at m gaps fs (Some best)) lower many h (filtered_passes m most fs (list_of m most) (there most))

pub best-listing : (s : StateOf) (gaps : Gaps) (fs : FilterList) (k : ℕ) (serials : List ℕ) → IsKnown s fs → IsFirstProved s (cut_under gaps s) fs k serials
    → IsBestListing s gaps fs k serials
best-listing s gaps fs k serials w h =
    let m = s.model in
    let found = s.search.found in
    let all = h.first.all in
    let sorted = h.first.sorted in
    let complete = complete-from h.cut (is_held fs) s.search.tree.nodes h.settled h.shut in
    let solved = w.solved h.shut in
    let listed : IsPassedList m h.cut fs (points_at found all) =
    rw (← points_mapped found all) (passed_list m h.cut fs found (map (found_of found) all) w.are (λ x l. w.there h.cut x complete l) sorted.same sorted.sorted) in
    let long : length (map (found_of found) all) ≡ length (filter (is_listed h.cut fs) found) = length_permutation _ _ sorted.same in
    let many = many-points found all fs k h.cut (cut_under gaps s) long h.fits.many in
    let taken : points_at found serials ≡ take k (points_at found all) = ap (points_at found) h.first.first ∙ sym (take-map (λ serial. (found_of found serial).point) k all) in
    record {
      optimum = solved.0;
      known = rw h.first.first (All-take (IsSerial (length found)) k all sorted.known);
      whole = whole_at m gaps fs s.search.best;
      listed = whole-listed m gaps fs s.search.best w.list;
      first = taken ∙ first-at m gaps fs s.search.best found all k h.cut w.list solved.1 sorted.known listed h.fits.lower many;
    }

-- each answer
pub best-tells : (mid new : StateOf) (gaps : Gaps) (fs : FilterList) (k limit : ℕ) (end : NBestEnd) → IsLater mid new (cut_under gaps mid) fs limit → mid.search.proved ≡ true
    → IsKnown new fs → RoundsEnd new (cut_under gaps mid) fs k limit end → NBestEnds new gaps fs k limit end
best-tells mid new gaps fs k limit (Done serials) run was known h =
    (run.proved ∙ was, best-listing new gaps fs k serials.items known (rw (cut-stays mid new gaps run.rest run.best) h))
best-tells mid new gaps fs k limit NodeLimit run was known h =
    goal-collects new.search.proved (collecting (cut_under gaps new) fs) Improve new limit (run.proved ∙ was) (rw (cut-stays mid new gaps run.rest run.best) h)

pub map-best : {P Q : NBestEnd → Type 0} (r : Result NBestEnd NoMemory) → ((end : NBestEnd) → P end → Q end) → IfOk r P → IfOk r Q
map-best (Ok end) f h = f end h
map-best (Err e) f h = h

pub best-is : (P : NBestEnd → Type 0) (r : Result NBestEnd NoMemory) (end : NBestEnd) → r ≡ Ok end → IfOk r P → P end
best-is P r end e h = rw e at h
