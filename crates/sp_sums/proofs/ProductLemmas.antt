-- A product of whole numbers whose second factor changes.
use Rattle.std.proofs.Common.{◌≡◌, zero, suc, ◌+◌, ◌*◌, ◌^◌, ◌≤◌, ℤ, pos, negsuc, ◌-ℤ◌, ◌*ℤ◌, arith}
use Rattle.std.proofs.lemmas.Int.{ints}
use Rattle.std.specs.Int.RustNames.{unsigned_abs}
use lib.IntN.{suc_ℤ-*ℤ, pred_ℤ-*ℤ, zero-*ℤ}

pub mul-sub : (a u v : ℤ) → a *ℤ (u -ℤ v) ≡ (a *ℤ u) -ℤ (a *ℤ v)
mul-sub (pos zero) u v = omega (arith, ints, zero-*ℤ (u -ℤ v), zero-*ℤ u, zero-*ℤ v)
mul-sub (pos (suc n)) u v = omega (arith, ints, mul-sub (pos n) u v, suc_ℤ-*ℤ (pos n) (u -ℤ v), suc_ℤ-*ℤ (pos n) u, suc_ℤ-*ℤ (pos n) v)
mul-sub (negsuc zero) u v = omega (arith, ints, zero-*ℤ (u -ℤ v), zero-*ℤ u, zero-*ℤ v, pred_ℤ-*ℤ (pos 0) (u -ℤ v), pred_ℤ-*ℤ (pos 0) u, pred_ℤ-*ℤ (pos 0) v)
mul-sub (negsuc (suc n)) u v = omega (arith, ints, mul-sub (negsuc n) u v, pred_ℤ-*ℤ (negsuc n) (u -ℤ v), pred_ℤ-*ℤ (negsuc n) u, pred_ℤ-*ℤ (negsuc n) v)

abs-sub : (a b : ℤ) → unsigned_abs (a -ℤ b) ≤ unsigned_abs a + unsigned_abs b
abs-sub a b = omega (arith, ints)

pub change_small : (a u v : ℤ) → unsigned_abs (a *ℤ u) ≤ 10 ^ 36 → unsigned_abs (a *ℤ v) ≤ 10 ^ 36 → unsigned_abs (a *ℤ (u -ℤ v)) ≤ 2 * 10 ^ 36
change_small a u v h k = rw (mul-sub a u v) (omega (arith, abs-sub (a *ℤ u) (a *ℤ v), h, k))
