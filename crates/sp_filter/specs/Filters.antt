-- Filters: their sums at a point, what these can be over a box, and how wide they are.
use Rattle.std.specs.Prelude.{◌≡◌, ℕ, ◌+◌, ◌*◌, ◌^◌, ◌<◌, ◌≤◌, max, Bool, not, ◌&&◌, ◌||◌, List, [], ◌∷◌, map, length, All, Option, ℤ, pos, ◌+ℤ◌, ◌-ℤ◌, ◌*ℤ◌, ◌≤ℤ◌, unsigned_abs, IsTrue}
use Rattle.std.specs.Int.{int_min, int_max}
use Rattle.sp_model.specs.declared.parts.ModelParts.{ModelParts}
use Rattle.sp_model.specs.Boxes.{Bounds, range_at, coordinate, natural}
use Rattle.sp_model.specs.Sums.{Term, reach, side_width}
use Rattle.sp_model.specs.Models.{root_of}
use Rattle.sp_model.specs.Stated.{is_at_least, is_at_most}
use Rattle.sp_filter.specs.declared.kinds.Filter.{Filter}
use Rattle.sp_filter.specs.declared.kinds.Filter.TheVariants.{Range, Diversity}

-- a variable with its weight and its reference
abbrev pub Weighted : Type 0
Weighted = ℕ × ℤ × ℤ

-- f of each item, added up
abbrev pub total : {X : Type 0} → (X → ℤ) → List X → ℤ
total f [] = pos 0
total f (x ∷ xs) = f x +ℤ total f xs

-- the same for numbers that aren't negative
abbrev pub count_total : {X : Type 0} → (X → ℕ) → List X → ℕ
count_total f [] = 0
count_total f (x ∷ xs) = f x + count_total f xs

-- ---- at a point

-- how far a value is from a reference
abbrev pub distance : ℤ → ℤ → ℕ
distance value reference = unsigned_abs (value -ℤ reference)

-- what a term adds to the sum at a point: the coefficient times the value, the weight times the distance
abbrev pub multiple_at : List ℤ → Term → ℤ
multiple_at x t = t.1 *ℤ coordinate x t.0

abbrev pub distance_at : List ℤ → Weighted → ℤ
distance_at x t = t.1 *ℤ pos (distance (coordinate x t.0) t.2)

-- the sum of a filter at a point
abbrev pub filter_sum : Filter → List ℤ → ℤ
filter_sum (Range terms lo hi scale) x = total (multiple_at x) terms
filter_sum (Diversity terms lo hi scale) x = total (distance_at x) terms

-- the bounds of the sum, where it has them
abbrev pub least_allowed : Filter → Option ℤ
least_allowed (Range terms lo hi scale) = lo
least_allowed (Diversity terms lo hi scale) = lo

abbrev pub most_allowed : Filter → Option ℤ
most_allowed (Range terms lo hi scale) = hi
most_allowed (Diversity terms lo hi scale) = hi

-- the sum lies between the bounds that it has
abbrev pub is_passed : Filter → List ℤ → Bool
is_passed f x = is_at_least (least_allowed f) (filter_sum f x) && is_at_most (most_allowed f) (filter_sum f x)

-- ---- over a box

-- the lesser and the greater of a number's multiples by the two ends of a range
abbrev pub least_multiple : ℤ → ℤ × ℤ → ℤ
least_multiple a r = int_min (a *ℤ r.0) (a *ℤ r.1)

abbrev pub most_multiple : ℤ → ℤ × ℤ → ℤ
most_multiple a r = int_max (a *ℤ r.0) (a *ℤ r.1)

-- how near to a reference, and how far from it, a value of a range can be; 0 where the reference lies in the range
abbrev pub nearest : ℤ × ℤ → ℤ → ℕ
nearest r reference = max (natural (r.0 -ℤ reference)) (natural (reference -ℤ r.1))

abbrev pub farthest : ℤ × ℤ → ℤ → ℕ
farthest r reference = max (distance r.0 reference) (distance r.1 reference)

-- the distances that the values of a range have from a reference lie in this range
abbrev pub distances : ℤ × ℤ → ℤ → ℤ × ℤ
distances r reference = (pos (nearest r reference), pos (farthest r reference))

-- the least and the greatest value of the sum: those of its terms, added up
abbrev pub least_sum : Filter → Bounds → ℤ
least_sum (Range terms lo hi scale) b = total (λ t. least_multiple t.1 (range_at b t.0)) terms
least_sum (Diversity terms lo hi scale) b = total (λ t. least_multiple t.1 (distances (range_at b t.0) t.2)) terms

abbrev pub most_sum : Filter → Bounds → ℤ
most_sum (Range terms lo hi scale) b = total (λ t. most_multiple t.1 (range_at b t.0)) terms
most_sum (Diversity terms lo hi scale) b = total (λ t. most_multiple t.1 (distances (range_at b t.0) t.2)) terms

-- the greatest values of the terms stay below the least that is allowed, or the least ones above the most
abbrev pub is_closed : Filter → Bounds → Bool
is_closed f b = not (is_at_least (least_allowed f) (most_sum f b)) || not (is_at_most (most_allowed f) (least_sum f b))

-- ---- widths

-- the width over a box: each coefficient times the reach of its variable, each weight times that reach and the magnitude of
-- the reference together, and the bounds, in magnitudes and added up
abbrev pub multiple_width : Bounds → Term → ℕ
multiple_width b t = unsigned_abs t.1 * reach (range_at b t.0)

abbrev pub distance_width : Bounds → Weighted → ℕ
distance_width b t = unsigned_abs t.1 * (reach (range_at b t.0) + unsigned_abs t.2)

abbrev pub terms_width : Filter → Bounds → ℕ
terms_width (Range terms lo hi scale) b = count_total (multiple_width b) terms
terms_width (Diversity terms lo hi scale) b = count_total (distance_width b) terms

abbrev pub filter_width : Filter → Bounds → ℕ
filter_width f b = terms_width f b + side_width (least_allowed f) + side_width (most_allowed f)

-- each term's variable is one of so many
abbrev pub AreKnown : Filter → ℕ → Type 0
AreKnown (Range terms lo hi scale) count = All (λ t. t.0 < count) terms
AreKnown (Diversity terms lo hi scale) count = All (λ t. t.0 < count) terms

-- no weight of a diversity filter is negative
abbrev pub AreWeightsLawful : Filter → Type 0
AreWeightsLawful (Range terms lo hi scale) = Unit {0}
AreWeightsLawful (Diversity terms lo hi scale) = All (λ t. pos 0 ≤ℤ t.1) terms

-- over a box: the variables are known, and the sum is so narrow that nothing passes 128 bits
pub record IsNarrow (f : Filter) (b : Bounds) : Type 0 where
  pub known : AreKnown f (length b)
  pub narrow : filter_width f b ≤ 10 ^ 36

-- the box whose only point is this one
abbrev pub box_at : List ℤ → Bounds
box_at x = map (λ v. (v, v)) x

-- a filter for a model
pub record Fits (m : ModelParts) (f : Filter) : Type 0 where
  pub known : AreKnown f (length m.lower)
  pub weights : AreWeightsLawful f
  pub narrow : filter_width f (root_of m) ≤ 10 ^ 36

-- a box within another: as many ranges, each within that of the other and not empty
pub record LiesIn (outer inner : Bounds) : Type 0 where
  pub long : length inner ≡ length outer
  pub each : (j : ℕ) → j < length outer → ((range_at outer j).0 ≤ℤ (range_at inner j).0) × ((range_at inner j).0 ≤ℤ (range_at inner j).1) × ((range_at inner j).1 ≤ℤ (range_at outer j).1)
