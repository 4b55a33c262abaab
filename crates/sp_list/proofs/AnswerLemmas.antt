-- The optimum, the list under gaps, its first k and the found list are each determined.
use Rattle.std.proofs.Common.{◌≡◌, ℕ, List, [], ◌∷◌, take, refl, sym, ap, ◌∙◌, subst, Option, None, Some, ℤ, ◌≤ℤ◌, arith}
use Rattle.std.proofs.lemmas.Int.{ints}
use Rattle.std.proofs.lemmas.List.Elements.{All-head, All-tail}
use Rattle.sp_list.specs.declared.found.Found.{Found}
use Rattle.sp_model.specs.declared.gaps.Gaps.{Gaps}
use Rattle.sp_model.specs.declared.parts.ModelParts.{ModelParts}
use Rattle.sp_model.specs.Cuts.{cut_of}
use Rattle.sp_model.specs.Models.{objective, IsOptimum, IsLeast}
use Rattle.sp_list.specs.Lists.{IsListAt, IsListWithin, IsBest, IsFoundList, AreValued, points_of}
use Rattle.sp_list.proofs.ListLemmas.{unique}

no_less : (a b : ℤ) → a ≤ℤ b → b ≤ℤ a → a ≡ b
no_less a b h k = omega (arith, ints)

least_at_most : (m : ModelParts) (v w : ℤ) → IsLeast m v → IsLeast m w → v ≤ℤ w
least_at_most m v w s t = subst (λ u. v ≤ℤ u) t.reached.2 (s.least t.reached.0 t.reached.1)

-- a model has one optimum
pub one_optimum : (m : ModelParts) (a b : Option ℤ) → IsOptimum m a → IsOptimum m b → a ≡ b
one_optimum m None None s t = refl
one_optimum m None (Some w) s t = absurd (s t.reached.0 t.reached.1)
one_optimum m (Some v) None s t = absurd (t s.reached.0 s.reached.1)
one_optimum m (Some v) (Some w) s t = ap Some (no_less v w (least_at_most m v w s t) (least_at_most m w v t s))

one_at : (m : ModelParts) (gaps : Gaps) (best : Option ℤ) (xs ys : List (List ℤ)) → IsListAt m gaps best xs → IsListAt m gaps best ys → xs ≡ ys
one_at m gaps None xs ys s t = s ∙ sym t
one_at m gaps (Some best) xs ys s t = unique m (cut_of best gaps m.scale) xs ys s t

-- at most one list fits the gaps
pub one_within : (m : ModelParts) (gaps : Gaps) (xs ys : List (List ℤ)) → IsListWithin m gaps xs → IsListWithin m gaps ys → xs ≡ ys
one_within m gaps xs ys s t =
    one_at m gaps s.best xs ys s.listed (subst (λ o. IsListAt m gaps o ys) (one_optimum m t.best s.best t.optimum s.optimum) t.listed)

-- and one first part of it
pub one_best : (m : ModelParts) (gaps : Gaps) (k : ℕ) (xs ys : List (List ℤ)) → IsBest m gaps k xs → IsBest m gaps k ys → xs ≡ ys
one_best m gaps k xs ys s t = s.first ∙ ap (take k) (one_within m gaps s.whole t.whole s.listed t.listed) ∙ sym t.first

abbrev find_of : List ℤ → ℤ → Found
find_of p v = record { point = p; value = v }

-- the same point and the same value
same_find : (f g : Found) → f.point ≡ g.point → f.value ≡ g.value → f ≡ g
same_find f g point value =
    ap (λ p. find_of p f.value) point ∙ ap (λ v. find_of g.point v) value

-- found points with their values are determined by their points
same_finds : (m : ModelParts) (found other : List Found) → AreValued m found → AreValued m other → points_of found ≡ points_of other → found ≡ other
same_finds m [] [] s t e = refl
same_finds m [] (g ∷ gs) s t e = cc
same_finds m (f ∷ fs) [] s t e = cc
same_finds m (f ∷ fs) (g ∷ gs) s t e =
    let point : f.point ≡ g.point = cc in
    let rest : points_of fs ≡ points_of gs = cc in
    let value : f.value ≡ g.value =
    All-head (λ f. f.value ≡ objective m f.point) f fs s ∙ ap (objective m) point ∙ sym (All-head (λ f. f.value ≡ objective m f.point) g gs t) in
    ap (λ v. v ∷ fs) (same_find f g point value)
    ∙ ap (λ vs. g ∷ vs) (same_finds m fs gs (All-tail (λ f. f.value ≡ objective m f.point) f fs s) (All-tail (λ f. f.value ≡ objective m f.point) g gs t) rest)

-- at most one list of found points fits
pub one_found : (m : ModelParts) (cut : ℤ) (found other : List Found) → IsFoundList m cut found → IsFoundList m cut other → found ≡ other
one_found m cut found other s t = same_finds m found other s.valued t.valued (unique m cut (points_of found) (points_of other) s.points t.points)
