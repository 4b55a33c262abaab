-- The optimum and the list under gaps as functions.
use Rattle.std.proofs.Common.{◌≡◌, List, [], ◌∷◌, map, fold, refl, sym, subst, inl, inr, ◌↔◌, Contains, Option, None, Some, ℤ, ◌≤ℤ◌}
use Rattle.std.specs.Int.{int_min}
use Rattle.std.proofs.lemmas.Int.{fold-int_min_bounds, fold-int_min_reached}
use Rattle.std.proofs.lemmas.List.Elements.{All-contains}
use Rattle.sp_model.specs.declared.gaps.Gaps.{Gaps}
use Rattle.sp_model.specs.declared.parts.ModelParts.{ModelParts}
use Rattle.sp_model.specs.Cuts.{cut_of}
use Rattle.sp_model.specs.Models.{Feasible, objective, IsOptimum}
use Rattle.sp_model.specs.Models.{feasible_points}
use Rattle.sp_list.specs.Lists.{IsListAt, IsListWithin, least_number, optimum_of, list_at, list_within_of}
use Rattle.sp_list.proofs.AnswerLemmas.{one_optimum, one_within}
use Rattle.sp_list.proofs.ListOfLemmas.{list_of_is_list}
use Rattle.sp_list.proofs.ContainsLemmas.{Contains-cons_cases, Contains-here, Contains-later, Contains-none, Contains-map, Contains-map_parts}
use Rattle.sp_list.proofs.WalkLemmas.{IsWalk}

-- the least objective is that of a point
least_reached : (m : ModelParts) (x : List ℤ) (xs : List (List ℤ)) (v : ℤ) → v ≡ fold int_min (objective m x) (map (objective m) xs) → (y : List ℤ) × Contains (x ∷ xs) y × (objective m y ≡ v)
least_reached m x xs v e =
    elim (fold-int_min_reached (objective m x) (map (objective m) xs) v e) [
      | inl here ↦ (x, Contains-here x xs, sym here)
      | inr later ↦
          let source = Contains-map_parts (objective m) xs v later in
          (source.0, Contains-later x xs source.0 source.1, source.2)
    ]

-- and no point has a lesser one
least_bounds : (m : ModelParts) (x : List ℤ) (xs : List (List ℤ)) (v : ℤ) → v ≡ fold int_min (objective m x) (map (objective m) xs) → (y : List ℤ) → Contains (x ∷ xs) y → v ≤ℤ objective m y
least_bounds m x xs v e y h =
    let bounds = fold-int_min_bounds (objective m x) (map (objective m) xs) v e in
    elim (Contains-cons_cases x xs y h) [
      | inl here ↦ subst (λ z. v ≤ℤ objective m z) here bounds.0
      | inr later ↦ All-contains (λ w. v ≤ℤ w) (map (objective m) xs) (objective m y) bounds.1 (Contains-map (objective m) xs y later)
    ]

least_of_all : (m : ModelParts) (xs : List (List ℤ)) → ((x : List ℤ) → Contains xs x ↔ Feasible m x) → IsOptimum m (least_number (map (objective m) xs))
least_of_all m [] all = λ x feasible. Contains-none x ((all x).1 feasible)
least_of_all m (x ∷ xs) all =
    let v : ℤ = fold int_min (objective m x) (map (objective m) xs) in
    let source = least_reached m x xs v refl in
    record {
      reached = (source.0, (all source.0).0 source.1, source.2);
      least = λ y feasible. least_bounds m x xs v refl y ((all y).1 feasible);
    }

-- the function gives an optimum
pub optimum_of_is : (m : ModelParts) → IsWalk m → IsOptimum m (optimum_of m)
optimum_of_is m walk = least_of_all m (feasible_points m) walk.members

pub optimum_iff : (m : ModelParts) → IsWalk m → (best : Option ℤ) → IsOptimum m best ↔ (best ≡ optimum_of m)
optimum_iff m walk best = (
  λ h. one_optimum m best (optimum_of m) h (optimum_of_is m walk),
  λ e. subst (λ o. IsOptimum m o) (sym e) (optimum_of_is m walk),
)

list_at_is : (m : ModelParts) → IsWalk m → (gaps : Gaps) (best : Option ℤ) → IsListAt m gaps best (list_at m gaps best)
list_at_is m walk gaps None = refl
list_at_is m walk gaps (Some best) = list_of_is_list m walk (cut_of best gaps m.scale)

-- the function gives the list under the gaps
pub within_is : (m : ModelParts) → IsWalk m → (gaps : Gaps) → IsListWithin m gaps (list_within_of m gaps)
within_is m walk gaps = record { best = optimum_of m; optimum = optimum_of_is m walk; listed = list_at_is m walk gaps (optimum_of m) }

pub within_iff : (m : ModelParts) → IsWalk m → (gaps : Gaps) (xs : List (List ℤ)) → IsListWithin m gaps xs ↔ (xs ≡ list_within_of m gaps)
within_iff m walk gaps xs = (
  λ h. one_within m gaps xs (list_within_of m gaps) h (within_is m walk gaps),
  λ e. subst (λ l. IsListWithin m gaps l) (sym e) (within_is m walk gaps),
)
