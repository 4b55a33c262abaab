-- Enough found points stay enough without those above the cut, and the least value of all found points is the optimum.
use Rattle.std.proofs.Common.{◌≡◌, ◌≢◌, true, List, [], refl, sym, ap, ◌∙◌, subst, ◌↔◌, All, Any, Contains, Option, None, Some, IsNone, IfSome, ℤ, ◌≤ℤ◌, int_le, arith}
use Rattle.std.proofs.lemmas.List.Elements.{All-contains, All-filter, filter_passes, All-weaker}
use Rattle.std.proofs.lemmas.List.Kept.{AllPairs-filter}
use Rattle.sp_list.specs.declared.found.Found.{Found}
use Rattle.sp_model.specs.declared.parts.ModelParts.{ModelParts}
use Rattle.sp_model.specs.Models.{Feasible, objective, IsOptimum}
use Rattle.sp_list.specs.Lists.{IsKept, IsFoundEnough, IsFoundAll, AreValued, points_of, found_within}
use Rattle.sp_list.proofs.ContainsLemmas.{le_test, test_le, Contains-map, Contains-map_parts}
use Rattle.sp_list.proofs.MemberLemmas.{contains_filter}

-- those within the cut are within it
pub all_within : (cut : ℤ) (found : List Found) → All (λ f. f.value ≤ℤ cut) (found_within cut found)
all_within cut found =
    All-weaker (λ f. int_le f.value cut ≡ true) (λ f. f.value ≤ℤ cut) (λ f h. test_le f.value cut h) (found_within cut found)
    (filter_passes (λ f. int_le f.value cut) found)

-- a kept point that was found is found within the cut
pub kept_within : (m : ModelParts) (cut : ℤ) (found : List Found) → AreValued m found → (x : List ℤ) → IsKept m cut x → Contains (points_of found) x → Contains (points_of (found_within cut found)) x
kept_within m cut found valued x kept h =
    let source = Contains-map_parts (λ (f : Found). f.point) found x h in
    let value_is : source.0.value ≡ objective m x =
    All-contains (λ f. f.value ≡ objective m f.point) found source.0 valued source.1 ∙ ap (objective m) source.2 in
    let near : source.0.value ≤ℤ cut = subst (λ v. v ≤ℤ cut) (sym value_is) kept.near in
    subst (λ y. Contains (points_of (found_within cut found)) y) source.2
    (Contains-map (λ (f : Found). f.point) (found_within cut found) source.0
    (contains_filter (λ (f : Found). int_le f.value cut) found source.0 (le_test source.0.value cut near) source.1))

-- enough are enough without those above the cut
pub enough_within : (m : ModelParts) (cut : ℤ) (found : List Found) → IsFoundEnough m cut found → IsFoundEnough m cut (found_within cut found)
enough_within m cut found e = record {
  valued = All-filter (λ f. int_le f.value cut) (λ f. f.value ≡ objective m f.point) found e.valued;
  feasible = All-filter (λ f. int_le f.value cut) (λ f. Feasible m f.point) found e.feasible;
  once = AllPairs-filter (λ f g. f.point ≢ g.point) (λ f. int_le f.value cut) found e.once;
  enough = λ x kept. kept_within m cut found e.valued x kept (e.enough x kept);
}

-- no point is feasible where all were found and none was
pub none_is_optimum : (m : ModelParts) (found : List Found) → found ≡ [] → IsFoundAll m found → IsOptimum m None
none_is_optimum m found empty all x feasible =
    let h : Contains (points_of []) x = subst (λ (fs : List Found). Contains (points_of fs) x) empty (all.whole x feasible) in
    omega (arith, h.1)

reached_at : (m : ModelParts) (found : List Found) (v : ℤ) → Any (λ f. f.value ≡ v) found → IsFoundAll m found → (x : List ℤ) × Feasible m x × (objective m x ≡ v)
reached_at m found v (k, f, long, is, value) all =
    (f.point, subst (λ (g : Found). Feasible m g.point) is (all.feasible k f long), sym (subst (λ (g : Found). g.value ≡ objective m g.point) is (all.valued k f long)) ∙ value)

least_at : (m : ModelParts) (found : List Found) (v : ℤ) → All (λ f. v ≤ℤ f.value) found → IsFoundAll m found → (x : List ℤ) → Feasible m x → v ≤ℤ objective m x
least_at m found v least all x feasible =
    let source = Contains-map_parts (λ (f : Found). f.point) found x (all.whole x feasible) in
    let value_is : source.0.value ≡ objective m x =
    All-contains (λ f. f.value ≡ objective m f.point) found source.0 all.valued source.1 ∙ ap (objective m) source.2 in
    subst (λ w. v ≤ℤ w) value_is (All-contains (λ f. v ≤ℤ f.value) found source.0 least source.1)

-- the least value of all found points is the optimum
pub least_is_optimum : (m : ModelParts) (found : List Found) (v : ℤ) → Any (λ f. f.value ≡ v) found → All (λ f. v ≤ℤ f.value) found → IsFoundAll m found → IsOptimum m (Some v)
least_is_optimum m found v reached least all = record {
  reached = reached_at m found v reached all;
  least = λ x feasible. least_at m found v least all x feasible;
}

-- the answer of a search for the least value of all found points
pub optimum_from : (m : ModelParts) (found : List Found) (o : Option ℤ) → (IsNone o ↔ (found ≡ [])) → IfSome o (λ v. Any (λ f. f.value ≡ v) found) → IfSome o (λ v. All (λ f. v ≤ℤ f.value) found) → IsFoundAll m found → IsOptimum m o
optimum_from m found None empty reached least all = none_is_optimum m found (empty.0 refl) all
optimum_from m found (Some v) empty reached least all = least_is_optimum m found v reached least all
