-- What the laws of models say.
use Rattle.std.proofs.Common.{◌≡◌, ◌↔◌, ℕ, ◌+◌, ◌<◌, ◌≤◌, true, ◌&&◌, List, [], ◌∷◌, All, Contains, IsTrue, Option, None, Some, is_some, unwrap_or, length, map, filter, ℤ, pos, ◌+ℤ◌, ◌*ℤ◌, ◌≤ℤ◌, ◌<ℤ◌, refl, sym, ap, ◌∙◌, subst, arith}
use Rattle.std.specs.Int.RustNames.{unsigned_abs}
use Rattle.std.specs.List.Sorted.{IsStrictlySortedBy}
use Rattle.std.proofs.lemmas.Bool.{and_parts, and_from}
use Rattle.std.proofs.lemmas.Int.{ints}
use Rattle.std.proofs.lemmas.List.{ext_get_or}
use Rattle.std.proofs.lemmas.List.Kept.{IsStrictlySortedBy-filter}
use Rattle.sp_model.specs.declared.parts.ModelParts.{ModelParts}
use Rattle.sp_model.specs.Boxes.{coordinate, lex_cmp, lies_in, points, range_at, IsWithin}
use Rattle.sp_model.specs.Limits.{greatest_bound, greatest_width, most_variables}
use Rattle.sp_model.specs.Models.{Feasible, constraints_hold, feasible_points, objective, root_of}
use Rattle.sp_model.specs.Rounds.{closed, rounded}
use Rattle.sp_model.specs.Rules.{IsLawful}
use Rattle.sp_model.specs.Stated.{IsClosedRange, open_at, stated_of}
use Rattle.sp_model.specs.Sums.{Term, sum_at, magnitude, side_width}
use Rattle.sp_model.proofs.ClosedLemmas.{range_of_root, stated_stay}
use Rattle.sp_model.proofs.FilterLemmas.{contains_filter, contains_before_filter, passes_filter}
use Rattle.sp_model.proofs.ModelLemmas.{cost_small, feasible_from_test, test_from_feasible}
use Rattle.sp_model.proofs.PointLemmas.{contains_points, within_iff_lies_in}
use Rattle.sp_model.proofs.RisingLemmas.{points_rise}
use Rattle.sp_model.proofs.NearLemmas.{rounded_near}
use Rattle.sp_model.proofs.RoundLemmas.{length_root, length_rounded, root_is}
use Rattle.sp_model.proofs.RowLemmas.{same_range}
use Rattle.sp_model.proofs.SoundLemmas.{feasible_within}

pub long_root : (m : ModelParts) → IsLawful m → length (root_of m) ≡ length m.lower
long_root m l = length_root m l.box.bounds.variables.paired

pub short_root : (m : ModelParts) → IsLawful m → length (root_of m) ≤ most_variables
short_root m l = omega (arith, long_root m l, l.box.bounds.variables.few)

sum-le-magnitude : (ts : List Term) (x : List ℤ) → unsigned_abs (sum_at ts x) ≤ magnitude ts x
sum-le-magnitude [] x = omega arith
sum-le-magnitude (t ∷ ts) x = both (t.1 *ℤ coordinate x t.0) (sum_at ts x) (sum-le-magnitude ts x)
  where
    both : (a b : ℤ) {n : ℕ} → unsigned_abs b ≤ n → unsigned_abs (a +ℤ b) ≤ unsigned_abs a + n
    both a b h = omega (arith, ints)

pub small_objective : (m : ModelParts) (x : List ℤ) → IsLawful m → IsWithin (root_of m) x → unsigned_abs (objective m x) ≤ greatest_width
small_objective m x l w = both m.constant (sum_at m.cost x) (sum-le-magnitude m.cost x) (cost_small m x l w)
  where
    both : (a b : ℤ) {n : ℕ} → unsigned_abs b ≤ n → unsigned_abs a + n ≤ greatest_width → unsigned_abs (a +ℤ b) ≤ greatest_width
    both a b h k = omega (arith, ints)

pub tested : (m : ModelParts) (x : List ℤ) → IsLawful m → IsTrue (lies_in (root_of m) x && constraints_hold m x) ↔ Feasible m x
tested m x l = (
  λ t.
      let p = and_parts (lies_in (root_of m) x) (constraints_hold m x) t in
      feasible_from_test m x l ((within_iff_lies_in (root_of m) x).1 p.0) p.1,
  λ f.
      and_from (lies_in (root_of m) x) (constraints_hold m x) ((within_iff_lies_in (root_of m) x).0 (feasible_within m x l.box f)) (test_from_feasible m x f),
)

-- the points of the closed box that pass each constraint are the feasible ones
pub contains_feasible : (m : ModelParts) (x : List ℤ) → IsLawful m → Contains (feasible_points m) x ↔ Feasible m x
contains_feasible m x l = (
  λ h.
      feasible_from_test m x l ((contains_points (root_of m) x).0 (contains_before_filter (constraints_hold m) (points (root_of m)) x h)) (passes_filter (constraints_hold m) (points (root_of m)) x h),
  λ f.
      contains_filter (constraints_hold m) (points (root_of m)) x (test_from_feasible m x f) ((contains_points (root_of m) x).1 (feasible_within m x l.box f)),
)

pub feasible_rise : (m : ModelParts) → IsStrictlySortedBy lex_cmp (feasible_points m)
feasible_rise m = IsStrictlySortedBy-filter lex_cmp (constraints_hold m) (points (root_of m)) (points_rise (root_of m))

pub lower_stays : (m : ModelParts) (j : ℕ) (v : ℤ) → (open_at (stated_of m) j).0 ≡ Some v → (range_at (root_of m) j).0 ≡ v
lower_stays m j v e = ap (λ r. r.0) (range_of_root m j) ∙ ap (λ o. unwrap_or o (pos 0)) (((stated_stay m).each j).lower v e)

pub upper_stays : (m : ModelParts) (j : ℕ) (v : ℤ) → (open_at (stated_of m) j).1 ≡ Some v → (range_at (root_of m) j).1 ≡ v
upper_stays m j v e = ap (λ r. r.1) (range_of_root m j) ∙ ap (λ o. unwrap_or o (pos 0)) (((stated_stay m).each j).upper v e)

-- ---- where no bound is missing

same_bound : (o p : Option ℤ) → is_some o ≡ true → ((v : ℤ) → o ≡ Some v → p ≡ Some v) → p ≡ o
same_bound None p s h = cc
same_bound (Some v) p s h = h v refl

pub rounded_is_stated : (m : ModelParts) → All IsClosedRange (stated_of m) → rounded m ≡ stated_of m
rounded_is_stated m h =
    let long : length (rounded m) ≡ length (stated_of m) = length_rounded m in
    ext_get_or (None, None) (rounded m) (stated_of m) long (λ j l.
    let here = h j (None, None) (omega (arith, long)) in
    let stays = (stated_stay m).each j in
    same_range (open_at (rounded m) j) (open_at (stated_of m) j)
    (same_bound (open_at (stated_of m) j).0 (open_at (rounded m) j).0 here.lower stays.lower)
    (same_bound (open_at (stated_of m) j).1 (open_at (rounded m) j).1 here.upper stays.upper))

pub closed_is_stated : (m : ModelParts) → All IsClosedRange (stated_of m) → root_of m ≡ map closed (stated_of m)
closed_is_stated m h = root_is m ∙ ap (map closed) (rounded_is_stated m h)

-- ---- how great the bounds of the closed box are

small_side : (o : Option ℤ) → side_width o ≤ greatest_bound → unsigned_abs (unwrap_or o (pos 0)) ≤ greatest_bound
small_side None h = omega arith
small_side (Some v) h = h

pub small_bounds : (m : ModelParts) (j : ℕ) → IsLawful m → (unsigned_abs (range_at (root_of m) j).0 ≤ greatest_bound) × (unsigned_abs (range_at (root_of m) j).1 ≤ greatest_bound)
small_bounds m j l =
    let near = rounded_near m l.box.bounds.bounds j in
    let e = range_of_root m j in (
      subst (λ r. unsigned_abs r.0 ≤ greatest_bound) (sym e) (small_side (open_at (rounded m) j).0 near.least),
      subst (λ r. unsigned_abs r.1 ≤ greatest_bound) (sym e) (small_side (open_at (rounded m) j).1 near.greatest),
    )
