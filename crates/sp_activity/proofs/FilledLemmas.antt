-- No range of a box is empty exactly where the box has points.
use Rattle.std.proofs.Common.{ℕ, zero, suc, ◌*◌, ◌<◌, ◌↔◌, [], ◌∷◌, length, arith, ℤ, pos, negsuc, ◌+ℤ◌, ◌-ℤ◌, ◌≤ℤ◌, ◌<ℤ◌}
use Rattle.std.proofs.Math.Nat.{mul-pos}
use Rattle.std.proofs.lemmas.Int.{ints}
use Rattle.sp_model.specs.Boxes.{Bounds, natural, point_count, range_at, width_of}
use Rattle.sp_sums.specs.Ranges.{IsFilled}

first_factor : (m n : ℕ) → 0 < m * n → 0 < m
first_factor zero n h = absurd (omega arith)
first_factor (suc m) n h = omega arith

second_factor : (m n : ℕ) → 0 < m * n → 0 < n
second_factor m zero h = absurd (omega arith)
second_factor m (suc n) h = omega arith

natural_above : (z : ℤ) → pos 0 <ℤ z → 0 < natural z
natural_above (pos n) h = omega (arith, ints)
natural_above (negsuc n) h = absurd (omega (arith, ints))

above_natural : (z : ℤ) → 0 < natural z → pos 0 <ℤ z
above_natural (pos n) h = omega (arith, ints)
above_natural (negsuc n) h = absurd (omega arith)

wide : (r : ℤ × ℤ) → r.0 ≤ℤ r.1 → 0 < width_of r
wide r h = natural_above ((r.1 +ℤ pos 1) -ℤ r.0) (omega (arith, ints))

filled : (r : ℤ × ℤ) → 0 < width_of r → r.0 ≤ℤ r.1
filled r h = let z : pos 0 <ℤ ((r.1 +ℤ pos 1) -ℤ r.0) = above_natural ((r.1 +ℤ pos 1) -ℤ r.0) h in omega (arith, ints)

filled_counts : (b : Bounds) → IsFilled b → 0 < point_count b
filled_counts [] f = omega arith
filled_counts (r ∷ rs) f = mul-pos (wide r (f.each 0 (omega arith))) (filled_counts rs record { each = λ j l. f.each (suc j) (omega arith) })

filled_at : (b : Bounds) → 0 < point_count b → (j : ℕ) → j < length b → (range_at b j).0 ≤ℤ (range_at b j).1
filled_at [] h j l = absurd (omega arith)
filled_at (r ∷ rs) h zero l = filled r (first_factor (width_of r) (point_count rs) h)
filled_at (r ∷ rs) h (suc j) l = filled_at rs (second_factor (width_of r) (point_count rs) h) j (omega arith)

pub filled_by_count : (b : Bounds) → IsFilled b ↔ (0 < point_count b)
filled_by_count b = (filled_counts b, λ h. record { each = filled_at b h })
