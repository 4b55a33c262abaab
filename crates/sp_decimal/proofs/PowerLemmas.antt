-- The powers of ten.
use Rattle.std.proofs.Common.{◌≡◌, ℕ, ◌^◌, ◌<◌, ◌≤◌, get_or, arith}
use Rattle.std.proofs.lemmas.List.FromFn.{get_or-map-range_with_len}
use Rattle.std.proofs.Math.Nat.{one-le-pow, pow-le-pow_right}
use Rattle.sp_decimal.specs.declared.rounding.TheConstants.{POWERS}

pub power_at : (k : ℕ) → k ≤ 30 → get_or POWERS k 0 ≡ 10 ^ k
power_at k h = get_or-map-range_with_len (λ j. 10 ^ j) 0 31 k k 0 (omega arith) (omega arith)

pub power-positive : (k : ℕ) → 0 < 10 ^ k
power-positive k = omega (arith, one-le-pow k 10 (omega arith))

pub power-small : (k : ℕ) → k ≤ 30 → 10 ^ k ≤ 10 ^ 30
power-small k h = pow-le-pow_right {n = 10} (omega arith) h
