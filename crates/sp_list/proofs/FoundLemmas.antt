-- The walk over all points of a model finds enough for every list.
use Rattle.std.specs.Prelude.{ℤ, ◌+ℤ◌, ◌*ℤ◌, ◌^◌, unsigned_abs, All, AllPairs, Contains, map}
use Rattle.std.proofs.Common.{◌≡◌, ◌≢◌, ℕ, ◌+◌, ◌<◌, ◌≤◌, List, [], ◌∷◌, length, get_or, refl, sym, ap, ◌∙◌, subst, arith}
use Rattle.std.proofs.lemmas.Int.{ints}
use Rattle.std.proofs.lemmas.List.{get_or-map, length-map}
use Rattle.std.specs.List.Sorted.{IsStrictlySortedBy}
use Rattle.std.proofs.lemmas.List.Kept.{IsStrictlySortedBy-filter}
use Rattle.std.proofs.lemmas.List.Elements.{All-map, All-contains_itself}
use Rattle.sp_list.specs.declared.found.Found.{Found}
use Rattle.sp_model.specs.declared.parts.ModelParts.{ModelParts}
use Rattle.sp_model.specs.Boxes.{ranges, points, coordinate, IsWithin}
use Rattle.sp_model.specs.Sums.{Term, sum_at, magnitude}
use Rattle.sp_model.specs.Models.{Feasible, objective, root_of}
use Rattle.sp_model.specs.Boxes.{lex_cmp}
use Rattle.sp_model.specs.Models.{constraints_hold, feasible_points}
use Rattle.sp_list.specs.Lists.{found_at, found_points, points_of, IsFoundAll, IsFoundEnough}
use Rattle.sp_model.specs.Rules.{IsLawful}
use Rattle.sp_list.proofs.WalkLemmas.{IsWalk}
use Rattle.sp_list.proofs.ListLemmas.{lex_total}
use Rattle.sp_list.proofs.MemberLemmas.{pairs_from_distinct}
use Rattle.std.proofs.lemmas.Map.Keys.{IsDistinct-from_sorted}

points_again : (m : ModelParts) (xs : List (List ℤ)) → points_of (map (found_at m) xs) ≡ xs
points_again m [] = refl
points_again m (x ∷ xs) = ap (λ ys. x ∷ ys) (points_again m xs)

all_feasible : (m : ModelParts) → IsWalk m → All (Feasible m) (feasible_points m)
all_feasible m walk k d h = (walk.members (get_or (feasible_points m) k d)).0 (All-contains_itself (feasible_points m) k d h)

feasible_once : (m : ModelParts) → IsWalk m → AllPairs (λ x y. x ≢ y) (feasible_points m)
feasible_once m walk = pairs_from_distinct lex_total (feasible_points m) (IsDistinct-from_sorted lex_cmp (feasible_points m) walk.rising)

pub finds_all : (m : ModelParts) → IsWalk m → IsFoundAll m (found_points m)
finds_all m walk = record {
  valued = All-map (λ f. f.value ≡ objective m f.point) (found_at m) (feasible_points m) (λ k d h. refl);
  feasible = All-map (λ f. Feasible m f.point) (found_at m) (feasible_points m) (all_feasible m walk);
  whole = λ x f. subst (λ ys. Contains ys x) (sym (points_again m (feasible_points m))) ((walk.members x).1 f);
}

found_once : (m : ModelParts) (xs : List (List ℤ)) → AllPairs (λ x y. x ≢ y) xs → AllPairs (λ f g. f.point ≢ g.point) (map (found_at m) xs)
found_once m xs h i j d lt long =
    let j_in : j < length xs = (rw length-map at long) in
    let i_in : i < length xs = omega arith in
    λ same. h i j d.point lt j_in (sym (ap (λ (f : Found). f.point) (get_or-map (found_at m) xs i d.point d i_in)) ∙ same ∙ ap (λ (f : Found). f.point) (get_or-map (found_at m) xs j d.point d j_in))

pub finds_enough : (m : ModelParts) → IsWalk m → (cut : ℤ) → IsFoundEnough m cut (found_points m)
finds_enough m walk cut = record {
  valued = (finds_all m walk).valued;
  feasible = (finds_all m walk).feasible;
  once = found_once m (feasible_points m) (feasible_once m walk);
  enough = λ x k. (finds_all m walk).whole x k.feasible;
}
