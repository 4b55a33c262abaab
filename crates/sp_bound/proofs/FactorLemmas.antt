-- Products of whole numbers: sums in a factor, three factors, and how a product grows.
use Rattle.std.proofs.Common.{◌≡◌, zero, suc, ℤ, pos, negsuc, ◌+ℤ◌, ◌-ℤ◌, ◌*ℤ◌, ◌≤ℤ◌, sym, ap, ◌∙◌, arith}
use Rattle.std.proofs.Math.IntN.{suc_ℤ-*ℤ, pred_ℤ-*ℤ, zero-*ℤ, *ℤ_comm}
use Rattle.std.proofs.lemmas.Int.{ints}

pub mul-add : (a u v : ℤ) → a *ℤ (u +ℤ v) ≡ (a *ℤ u) +ℤ (a *ℤ v)
mul-add (pos zero) u v = omega (arith, ints, zero-*ℤ (u +ℤ v), zero-*ℤ u, zero-*ℤ v)
mul-add (pos (suc n)) u v = omega (arith, ints, mul-add (pos n) u v, suc_ℤ-*ℤ (pos n) (u +ℤ v), suc_ℤ-*ℤ (pos n) u, suc_ℤ-*ℤ (pos n) v)
mul-add (negsuc zero) u v = omega (arith, ints, zero-*ℤ (u +ℤ v), zero-*ℤ u, zero-*ℤ v, pred_ℤ-*ℤ (pos 0) (u +ℤ v), pred_ℤ-*ℤ (pos 0) u, pred_ℤ-*ℤ (pos 0) v)
mul-add (negsuc (suc n)) u v = omega (arith, ints, mul-add (negsuc n) u v, pred_ℤ-*ℤ (negsuc n) (u +ℤ v), pred_ℤ-*ℤ (negsuc n) u, pred_ℤ-*ℤ (negsuc n) v)

pub mul-sub : (a u v : ℤ) → a *ℤ (u -ℤ v) ≡ (a *ℤ u) -ℤ (a *ℤ v)
mul-sub (pos zero) u v = omega (arith, ints, zero-*ℤ (u -ℤ v), zero-*ℤ u, zero-*ℤ v)
mul-sub (pos (suc n)) u v = omega (arith, ints, mul-sub (pos n) u v, suc_ℤ-*ℤ (pos n) (u -ℤ v), suc_ℤ-*ℤ (pos n) u, suc_ℤ-*ℤ (pos n) v)
mul-sub (negsuc zero) u v = omega (arith, ints, zero-*ℤ (u -ℤ v), zero-*ℤ u, zero-*ℤ v, pred_ℤ-*ℤ (pos 0) (u -ℤ v), pred_ℤ-*ℤ (pos 0) u, pred_ℤ-*ℤ (pos 0) v)
mul-sub (negsuc (suc n)) u v = omega (arith, ints, mul-sub (negsuc n) u v, pred_ℤ-*ℤ (negsuc n) (u -ℤ v), pred_ℤ-*ℤ (negsuc n) u, pred_ℤ-*ℤ (negsuc n) v)

pub add-mul : (u v a : ℤ) → (u +ℤ v) *ℤ a ≡ (u *ℤ a) +ℤ (v *ℤ a)
add-mul u v a = omega (arith, ints, *ℤ_comm (u +ℤ v) a, *ℤ_comm u a, *ℤ_comm v a, mul-add a u v)

pub sub-mul : (u v a : ℤ) → (u -ℤ v) *ℤ a ≡ (u *ℤ a) -ℤ (v *ℤ a)
sub-mul u v a = omega (arith, ints, *ℤ_comm (u -ℤ v) a, *ℤ_comm u a, *ℤ_comm v a, mul-sub a u v)

zero-assoc : (b v : ℤ) → (pos 0 *ℤ b) *ℤ v ≡ pos 0 *ℤ (b *ℤ v)
zero-assoc b v = ap (λ z. z *ℤ v) (zero-*ℤ b) ∙ zero-*ℤ v ∙ sym (zero-*ℤ (b *ℤ v))

pub mul-assoc : (a b v : ℤ) → (a *ℤ b) *ℤ v ≡ a *ℤ (b *ℤ v)
mul-assoc (pos zero) b v = zero-assoc b v
mul-assoc (pos (suc n)) b v =
    ap (λ z. z *ℤ v) (suc_ℤ-*ℤ (pos n) b) ∙ add-mul (pos n *ℤ b) b v ∙ ap (λ z. z +ℤ (b *ℤ v)) (mul-assoc (pos n) b v) ∙ sym (suc_ℤ-*ℤ (pos n) (b *ℤ v))
mul-assoc (negsuc zero) b v =
    ap (λ z. z *ℤ v) (pred_ℤ-*ℤ (pos 0) b) ∙ sub-mul (pos 0 *ℤ b) b v ∙ ap (λ z. z -ℤ (b *ℤ v)) (zero-assoc b v) ∙ sym (pred_ℤ-*ℤ (pos 0) (b *ℤ v))
mul-assoc (negsuc (suc n)) b v =
    ap (λ z. z *ℤ v) (pred_ℤ-*ℤ (negsuc n) b) ∙ sub-mul (negsuc n *ℤ b) b v ∙ ap (λ z. z -ℤ (b *ℤ v)) (mul-assoc (negsuc n) b v) ∙ sym (pred_ℤ-*ℤ (negsuc n) (b *ℤ v))

-- a factor that isn't below 0 keeps the order
pub mul-le : (a u v : ℤ) → pos 0 ≤ℤ a → u ≤ℤ v → (a *ℤ u) ≤ℤ (a *ℤ v)
mul-le (pos zero) u v p h = omega (arith, ints, zero-*ℤ u, zero-*ℤ v)
mul-le (pos (suc n)) u v p h = omega (arith, ints, mul-le (pos n) u v (omega (arith, ints)) h, suc_ℤ-*ℤ (pos n) u, suc_ℤ-*ℤ (pos n) v)
mul-le (negsuc n) u v p h = absurd (omega (arith, ints, p))

-- and one that isn't above 0 turns it
pub mul-turns : (a u v : ℤ) → a ≤ℤ pos 0 → u ≤ℤ v → (a *ℤ v) ≤ℤ (a *ℤ u)
mul-turns (pos zero) u v p h = omega (arith, ints, zero-*ℤ u, zero-*ℤ v)
mul-turns (pos (suc n)) u v p h = absurd (omega (arith, ints, p))
mul-turns (negsuc zero) u v p h = omega (arith, ints, zero-*ℤ u, zero-*ℤ v, pred_ℤ-*ℤ (pos 0) u, pred_ℤ-*ℤ (pos 0) v)
mul-turns (negsuc (suc n)) u v p h = omega (arith, ints, mul-turns (negsuc n) u v (omega (arith, ints)) h, pred_ℤ-*ℤ (negsuc n) u, pred_ℤ-*ℤ (negsuc n) v)

pub one_times : (v : ℤ) → pos 1 *ℤ v ≡ v
one_times v = omega (arith, ints, suc_ℤ-*ℤ (pos 0) v, zero-*ℤ v)

pub times_one : (v : ℤ) → v *ℤ pos 1 ≡ v
times_one v = *ℤ_comm v (pos 1) ∙ one_times v
