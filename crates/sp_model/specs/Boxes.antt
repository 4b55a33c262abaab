-- A box is a list of closed ranges of whole numbers, one for each variable.
use Rattle.std.specs.Prelude.{◌≡◌, ℕ, zero, suc, ◌+◌, ◌*◌, ◌<◌, Bool, true, false, ◌&&◌, List, [], ◌∷◌, length, map, flat_map, slice_index_or, ℤ, pos, negsuc, ◌+ℤ◌, ◌-ℤ◌, ◌≤ℤ◌, ◌<ℤ◌, int_le}
use Rattle.std.specs.Cmp.Lexicographic.{slice_cmp}
use Rattle.std.specs.Ordering.{int_cmp}
use Rattle.std.specs.declared.cmp.Ordering.{Ordering}

-- the least and the greatest value of each variable
abbrev pub Bounds : Type 0
Bounds = List (ℤ × ℤ)

-- the ranges from a list of least and a list of greatest values
abbrev pub ranges : List ℤ → List ℤ → Bounds
ranges [] us = []
ranges (l ∷ ls) [] = []
ranges (l ∷ ls) (u ∷ us) = (l, u) ∷ ranges ls us

-- the range of a variable, 0 to 0 past the last one
abbrev pub range_at : Bounds → ℕ → ℤ × ℤ
range_at b j = slice_index_or b j (pos 0, pos 0)

-- the value of a variable at a point, 0 past the last one
abbrev pub coordinate : List ℤ → ℕ → ℤ
coordinate x j = slice_index_or x j (pos 0)

-- the value is in the range
pub record IsBetween (r : ℤ × ℤ) (v : ℤ) : Type 0 where
  pub least : r.0 ≤ℤ v
  pub greatest : v ≤ℤ r.1

-- the point has one value for each range, and each value lies within its range
pub record IsWithin (b : Bounds) (x : List ℤ) : Type 0 where
  pub long : length x ≡ length b
  pub each : (j : ℕ) → j < length b → IsBetween (range_at b j) (coordinate x j)

-- the same as a test
abbrev pub lies_in : Bounds → List ℤ → Bool
lies_in [] [] = true
lies_in [] (x ∷ xs) = false
lies_in (r ∷ rs) [] = false
lies_in (r ∷ rs) (x ∷ xs) = (int_le r.0 x && int_le x r.1) && lies_in rs xs

-- a whole number, or 0 for one below 0
abbrev pub natural : ℤ → ℕ
natural (pos n) = n
natural (negsuc n) = 0

-- how many whole numbers a range holds
abbrev pub width_of : ℤ × ℤ → ℕ
width_of r = natural ((r.1 +ℤ pos 1) -ℤ r.0)

-- n whole numbers from the least on, rising by one
abbrev pub numbers_from : ℤ → ℕ → List ℤ
numbers_from least zero = []
numbers_from least (suc n) = least ∷ numbers_from (least +ℤ pos 1) n

-- the points of a box in lexicographic order
abbrev pub points : Bounds → List (List ℤ)
points [] = [] ∷ []
points (r ∷ rs) = flat_map (λ v. map (λ x. v ∷ x) (points rs)) (numbers_from r.0 (width_of r))

-- lexicographically: by the first value that differs
abbrev pub lex_cmp : List ℤ → List ℤ → Ordering
lex_cmp x y = slice_cmp int_cmp x y

-- how many points a box has, as a number of any size
abbrev pub point_count : Bounds → ℕ
point_count [] = 1
point_count (r ∷ rs) = width_of r * point_count rs

-- the part of a box with the variable's values up to at
abbrev pub below : Bounds → ℕ → ℤ → Bounds
below [] v at = []
below (r ∷ rs) zero at = (r.0, at) ∷ rs
below (r ∷ rs) (suc v) at = r ∷ below rs v at

-- the part of a box with the variable's values above at
abbrev pub above : Bounds → ℕ → ℤ → Bounds
above [] v at = []
above (r ∷ rs) zero at = (at +ℤ pos 1, r.1) ∷ rs
above (r ∷ rs) (suc v) at = r ∷ above rs v at

-- the variable is the box's, its least value is at most at, and its greatest is above it
pub record CanSplit (b : Bounds) (v : ℕ) (at : ℤ) : Type 0 where
  pub known : v < length b
  pub least : (range_at b v).0 ≤ℤ at
  pub greatest : at <ℤ (range_at b v).1

-- the nodes of a tree that is split down to single points of a box with so many points
abbrev pub room : ℕ → ℕ
room zero = 1
room (suc n) = suc (n + n)
