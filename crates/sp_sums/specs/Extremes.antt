-- The least and the greatest sum of terms over a box, and which rows can't hold there.
use Rattle.std.specs.Prelude.{◌≡◌, ◌<◌, ◌^◌, ◌≤◌, Bool, not, ◌||◌, cond, List, [], ◌∷◌, length, All, Option, Some, ℤ, pos, ◌+ℤ◌, ◌*ℤ◌, ◌≤ℤ◌, ◌<ℤ◌, int_le}
use Rattle.sp_model.specs.declared.parts.Row.{Row}
use Rattle.sp_model.specs.Boxes.{Bounds, range_at, IsWithin}
use Rattle.sp_model.specs.Stated.{is_at_least, is_at_most}
use Rattle.sp_model.specs.Sums.{Term, sum_at, width_over}
use Rattle.sp_sums.specs.declared.spans.Span.{Span}

-- the least and the greatest value of a term over a range, by the sign of its coefficient
abbrev pub term_least : ℤ → ℤ × ℤ → ℤ
term_least a r = cond (int_le (pos 0) a) (a *ℤ r.0) (a *ℤ r.1)

abbrev pub term_most : ℤ → ℤ × ℤ → ℤ
term_most a r = cond (int_le (pos 0) a) (a *ℤ r.1) (a *ℤ r.0)

-- what each term has at its variable's range, added up
abbrev pub sum_over : (ℤ → ℤ × ℤ → ℤ) → Bounds → List Term → ℤ
sum_over f b [] = pos 0
sum_over f b (t ∷ ts) = f t.1 (range_at b t.0) +ℤ sum_over f b ts

abbrev pub least_over : Bounds → List Term → ℤ
least_over b ts = sum_over term_least b ts

abbrev pub most_over : Bounds → List Term → ℤ
most_over b ts = sum_over term_most b ts

-- both of them
abbrev pub span_over : Bounds → List Term → Span
span_over b ts = record { least = least_over b ts; most = most_over b ts }

-- both sums of a row
abbrev pub span_of : Bounds → Row → Span
span_of b row = span_over b row.terms

-- the greatest sum is below the row's least side
abbrev pub is_low : Row → Span → Bool
is_low row s = not (is_at_least row.lo s.most)

-- the least sum is above the row's greatest side
abbrev pub is_high : Row → Span → Bool
is_high row s = not (is_at_most row.hi s.least)

abbrev pub is_broken : Row → Span → Bool
is_broken row s = is_low row s || is_high row s

-- the row is low or high over the box
abbrev pub is_broken_over : Bounds → Row → Bool
is_broken_over b row = is_broken row (span_of b row)

-- terms whose sum over the box stays within 10^36: their variables are the box's, and their width is at most that
pub record AreTermsNarrow (b : Bounds) (ts : List Term) : Type 0 where
  pub known : All (λ t. t.0 < length b) ts
  pub narrow : width_over b ts ≤ 10 ^ 36

-- at each point of the box the sum lies between the two
pub record IsSpanned (b : Bounds) (ts : List Term) : Type 0 where
  pub least : (x : List ℤ) → IsWithin b x → least_over b ts ≤ℤ sum_at ts x
  pub most : (x : List ℤ) → IsWithin b x → sum_at ts x ≤ℤ most_over b ts

-- and each of the two is the sum at a point of the box
pub record IsReached (b : Bounds) (ts : List Term) : Type 0 where
  pub least : (x : List ℤ) × IsWithin b x × (sum_at ts x ≡ least_over b ts)
  pub most : (x : List ℤ) × IsWithin b x × (sum_at ts x ≡ most_over b ts)

-- the side is there, and the number is below it
pub record IsBelowSide (side : Option ℤ) (v : ℤ) : Type 0 where
  pub side_is : ℤ
  pub given : side ≡ Some side_is
  pub below : v <ℤ side_is

-- the side is there, and the number is above it
pub record IsAboveSide (side : Option ℤ) (v : ℤ) : Type 0 where
  pub side_is : ℤ
  pub given : side ≡ Some side_is
  pub above : side_is <ℤ v
