-- A kept point as a test, and that found points which are the set of the kept ones are enough.
use Rattle.std.proofs.Common.{◌≢◌, ◌<◌, ◌&&◌, List, length, get_or, sym, ◌∙◌, ◌↔◌, AllPairs, IsTrue, ℤ, int_le, arith}
use Rattle.std.proofs.lemmas.Bool.{and_parts, and_from}
use Rattle.std.proofs.lemmas.List.{get_or-map, length-map}
use Rattle.std.proofs.lemmas.List.Elements.{Contains-get_or}
use Rattle.sp_list.specs.declared.found.Found.{Found}
use Rattle.sp_model.specs.declared.parts.ModelParts.{ModelParts}
use Rattle.sp_model.specs.Boxes.{lies_in}
use Rattle.sp_model.specs.Models.{Feasible, objective, root_of}
use Rattle.sp_model.specs.Models.{constraints_hold}
use Rattle.sp_list.specs.Lists.{IsKept, IsSetOf, IsFoundEnough, AreValued, point_cmp, points_of, is_kept}
use Rattle.std.specs.List.Sorted.{IsStrictlySortedBy}
use Rattle.std.proofs.lemmas.Map.Keys.{IsDistinct-from_sorted}
use Rattle.sp_list.proofs.ListLemmas.{points_total}
use Rattle.sp_list.proofs.MemberLemmas.{pairs_from_distinct}
use Rattle.sp_list.proofs.ContainsLemmas.{le_test, test_le, Contains-map}

-- the test of a point within the closed box says whether it is feasible
pub record IsTested (m : ModelParts) : Type 0 where
  pub each : (x : List ℤ) → IsTrue (lies_in (root_of m) x && constraints_hold m x) ↔ Feasible m x

-- the test says whether a point is kept
pub kept_test : (m : ModelParts) → IsTested m → (cut : ℤ) (x : List ℤ) → IsTrue (is_kept m cut x) ↔ IsKept m cut x
kept_test m tested cut x = (
  λ t.
      let p = and_parts (lies_in (root_of m) x && constraints_hold m x) (int_le (objective m x) cut) t in
      record { feasible = (tested.each x).0 p.0; near = test_le (objective m x) cut p.1 },
  λ k.
      and_from (lies_in (root_of m) x && constraints_hold m x) (int_le (objective m x) cut) ((tested.each x).1 k.feasible) (le_test (objective m x) cut k.near),
)

-- points that differ are of found points that differ
apart_from_points : (found : List Found) → AllPairs (λ x y. x ≢ y) (points_of found) → AllPairs (λ f g. f.point ≢ g.point) found
apart_from_points found once i j d lt long same =
    let j_in : j < length (points_of found) = rw length-map long in
    let i_in : i < length found = omega arith in
    once i j d.point lt j_in
    (get_or-map (λ (f : Found). f.point) found i d d.point i_in ∙ same ∙ sym (get_or-map (λ (f : Found). f.point) found j d d.point long))

-- found points that are the set of the kept ones, with their objectives, are enough
pub enough_from_set : (m : ModelParts) → IsTested m → (cut : ℤ) (found : List Found) → AreValued m found → IsSetOf (is_kept m cut) (points_of found) → IsFoundEnough m cut found
enough_from_set m tested cut found valued set = record {
  valued = valued;
  feasible = λ k d long.
      ((kept_test m tested cut (get_or found k d).point).0 ((set.exact (get_or found k d).point).0
      (Contains-map (λ (f : Found). f.point) found (get_or found k d) (Contains-get_or found k d long)))).feasible;
  once = apart_from_points found set.once;
  enough = λ x kept. (set.exact x).1 ((kept_test m tested cut x).1 kept);
}

-- a list in strict order has no point twice
pub points_apart : (m : ModelParts) (xs : List (List ℤ)) → IsStrictlySortedBy (point_cmp m) xs → AllPairs (λ x y. x ≢ y) xs
points_apart m xs s = pairs_from_distinct (points_total m) xs (IsDistinct-from_sorted (point_cmp m) xs s)

pub found_apart : (m : ModelParts) (found : List Found) → IsStrictlySortedBy (point_cmp m) (points_of found) → AllPairs (λ f g. f.point ≢ g.point) found
found_apart m found s = apart_from_points found (points_apart m (points_of found) s)
