-- Two decimals compared in the finer of their units compare as they do in every finer one.
use Rattle.std.proofs.Common.{◌≡◌, ℕ, zero, suc, ◌+◌, ◌-◌, ◌*◌, ◌^◌, ◌<◌, ◌≤◌, max, inl, inr, refl, sym, ap, ◌∙◌, arith, int_cmp, Ordering, Less, Equal, Greater, ℤ, pos, negsuc, neg_ℤ, ◌*ℤ◌, ◌<ℤ◌, FitsSigned}
use Rattle.std.specs.Prelude.{unsigned_abs}
use Rattle.std.specs.Int.{w128}
use Rattle.std.specs.Cmp.{int_cmp_is, int_ranks}
use Rattle.std.specs.Ordering.{MatchOrdering}
use Rattle.std.proofs.lemmas.Bool.{cases_lt}
use Rattle.std.proofs.lemmas.Int.{ints, fits_signed_from_abs}
use Rattle.std.proofs.lemmas.Nat.{pow-add}
use Rattle.std.proofs.Math.Nat.{mul-le-mul_right, one-le-pow}
use Rattle.sp_decimal.specs.DecimalFraction.{DecimalFraction}
use Rattle.sp_scaling.specs.Scaling.{units}

power_positive : (n : ℕ) → 0 < 10 ^ n
power_positive n = let k = one-le-pow n 10 (omega arith) in omega arith

minus_times : (c t : ℕ) → neg_ℤ (pos c) *ℤ pos t ≡ neg_ℤ (pos (c * t))
minus_times zero t = omega (arith, ints)
minus_times (suc c) t = refl

times_twice : (z : ℤ) (a b : ℕ) → z *ℤ pos (a * b) ≡ (z *ℤ pos a) *ℤ pos b
times_twice (pos n) a b = let e : n * (a * b) ≡ (n * a) * b = omega arith in ap pos e
times_twice (negsuc n) a b = let e : suc n * (a * b) ≡ (suc n * a) * b = omega arith in ap (λ k. neg_ℤ (pos k)) e ∙ sym (minus_times (suc n * a) b)

-- a decimal in a finer unit
finer : (d : DecimalFraction) (m : ℕ) → d.s ≤ m → m ≤ 30 → units 30 d ≡ units m d *ℤ pos (10 ^ (30 - m))
finer d m h k =
    let e : 30 - d.s ≡ (m - d.s) + (30 - m) = omega arith in
    ap (λ n. d.p *ℤ pos (10 ^ n)) e
    ∙ (ap (λ n. d.p *ℤ pos n) (pow-add 10 (m - d.s) (30 - m)) ∙ times_twice d.p (10 ^ (m - d.s)) (10 ^ (30 - m)))

times_below : (a b : ℤ) (t : ℕ) → 0 < t → a <ℤ b → (a *ℤ pos t) <ℤ (b *ℤ pos t)
times_below (pos m) (pos n) t p h = let k = mul-le-mul_right {m = suc m} {n = n} t (omega (arith, ints)) in omega (arith, ints)
times_below (pos m) (negsuc n) t p h = absurd (omega (arith, ints))
times_below (negsuc m) (pos n) t p h = let k = mul-le-mul_right {m = 1} {n = suc m} t (omega arith) in omega (arith, ints)
times_below (negsuc m) (negsuc n) t p h = let k = mul-le-mul_right {m = suc (suc n)} {n = suc m} t (omega (arith, ints)) in omega (arith, ints)

match_map : (r : Ordering) (P Q R S T U : Type 0) → (P → S) → (Q → T) → (R → U) → MatchOrdering r P Q R → MatchOrdering r S T U
match_map Less P Q R S T U f g h m = f m
match_map Equal P Q R S T U f g h m = g m
match_map Greater P Q R S T U f g h m = h m

cmp_times : (a b : ℤ) (t : ℕ) → 0 < t → int_cmp a b ≡ int_cmp (a *ℤ pos t) (b *ℤ pos t)
cmp_times a b t p =
    int_cmp_is (a *ℤ pos t) (b *ℤ pos t) (int_cmp a b)
    (match_map (int_cmp a b) (a <ℤ b) (a ≡ b) (b <ℤ a) ((a *ℤ pos t) <ℤ (b *ℤ pos t)) ((a *ℤ pos t) ≡ (b *ℤ pos t)) ((b *ℤ pos t) <ℤ (a *ℤ pos t))
    (times_below a b t p) (λ e. ap (λ z. z *ℤ pos t) e) (times_below b a t p) (int_ranks a b))

-- two decimals in a unit that is fine enough for both compare as in units of 10^-30
pub cmp_units : (a b : DecimalFraction) (m : ℕ) → a.s ≤ m → b.s ≤ m → m ≤ 30 → int_cmp (units m a) (units m b) ≡ int_cmp (units 30 a) (units 30 b)
cmp_units a b m h k l =
    let some : 0 < 10 ^ (30 - m) = power_positive (30 - m) in
    cmp_times (units m a) (units m b) (10 ^ (30 - m)) some
    ∙ (ap (λ z. int_cmp z (units m b *ℤ pos (10 ^ (30 - m)))) (sym (finer a m h l)) ∙ ap (λ z. int_cmp (units 30 a) z) (sym (finer b m k l)))

times_one : (z : ℤ) → z *ℤ pos (10 ^ 0) ≡ z
times_one (pos n) = let e : n * 10 ^ 0 ≡ n = omega arith in ap pos e
times_one (negsuc n) = let e : suc n * 10 ^ 0 ≡ suc n = omega arith in ap (λ k. neg_ℤ (pos k)) e

-- in its own unit a decimal is its digits
own_unit : (d : DecimalFraction) (m : ℕ) → m ≡ d.s → units m d ≡ d.p
own_unit d m e =
    let z : m - d.s ≡ 0 = omega arith in
    ap (λ n. d.p *ℤ pos (10 ^ n)) z ∙ times_one d.p

wide : (z : ℤ) → (FitsSigned w128 z → ⊥) → 2 ^ 127 ≤ unsigned_abs z
wide z h = elim (cases_lt (unsigned_abs z) (2 ^ 127)) [ inl l ↦ absurd (h (fits_signed_from_abs w128 z l)) | inr g ↦ g ]

sign_kept : (z : ℤ) (t : ℕ) → 2 ^ 127 ≤ unsigned_abs (z *ℤ pos t) → (z <ℤ pos 0 → (z *ℤ pos t) <ℤ pos 0) × (pos 0 <ℤ z → pos 0 <ℤ (z *ℤ pos t))
sign_kept (pos n) t h = (λ l. absurd (omega (arith, ints)), λ l. omega (arith, ints))
sign_kept (negsuc n) t h = (λ l. omega (arith, ints), λ l. absurd (omega (arith, ints)))

-- a number far from 0 compares with one near it by its sign
far_cmp : (x y p : ℤ) → 2 ^ 127 ≤ unsigned_abs x → unsigned_abs y < 10 ^ 30 → (p <ℤ pos 0 → x <ℤ pos 0) × (pos 0 <ℤ p → pos 0 <ℤ x) → (p ≡ pos 0 → ⊥) → int_cmp p (pos 0) ≡ int_cmp x y
far_cmp x y p far near sign some =
    int_cmp_is x y (int_cmp p (pos 0))
    (match_map (int_cmp p (pos 0)) (p <ℤ pos 0) (p ≡ pos 0) (pos 0 <ℤ p) (x <ℤ y) (x ≡ y) (y <ℤ x)
    (λ l. let s = sign.0 l in omega (arith, ints)) (λ e. absurd (some e)) (λ l. let s = sign.1 l in omega (arith, ints)) (int_ranks p (pos 0)))

pub far_cmp_flipped : (x y p : ℤ) → 2 ^ 127 ≤ unsigned_abs x → unsigned_abs y < 10 ^ 30 → (p <ℤ pos 0 → x <ℤ pos 0) × (pos 0 <ℤ p → pos 0 <ℤ x) → (p ≡ pos 0 → ⊥) → int_cmp (pos 0) p ≡ int_cmp y x
far_cmp_flipped x y p far near sign some =
    int_cmp_is y x (int_cmp (pos 0) p)
    (match_map (int_cmp (pos 0) p) (pos 0 <ℤ p) (pos 0 ≡ p) (p <ℤ pos 0) (y <ℤ x) (y ≡ x) (x <ℤ y)
    (λ l. let s = sign.1 l in omega (arith, ints)) (λ e. absurd (some (sym e))) (λ l. let s = sign.0 l in omega (arith, ints)) (int_ranks (pos 0) p))

zero_times : (z : ℤ) (t : ℕ) → z ≡ pos 0 → z *ℤ pos t ≡ pos 0
zero_times z t e = let none : 0 * t ≡ 0 = omega arith in ap (λ y. y *ℤ pos t) e ∙ ap pos none

-- the finer of two units, where one of the decimals is too great for it
coarser : (a b : DecimalFraction) (m : ℕ) → m ≡ max a.s b.s → unsigned_abs a.p < 10 ^ 30 → 2 ^ 127 ≤ unsigned_abs (units m a) → m ≡ b.s
coarser a b m e small far =
    elim (cases_lt a.s b.s) [
      | inl l ↦ omega arith
      | inr g ↦ (let own = own_unit a m (omega arith) in let f : 2 ^ 127 ≤ unsigned_abs a.p = rw own at far in absurd (omega arith))
    ]

nonzero : (d : DecimalFraction) (m : ℕ) → 2 ^ 127 ≤ unsigned_abs (units m d) → d.p ≡ pos 0 → ⊥
nonzero d m far e =
    let z = zero_times d.p (10 ^ (m - d.s)) e in
    let f : 2 ^ 127 ≤ unsigned_abs (pos 0) = rw z at far in
    omega arith

-- the first is too great for the finer unit
pub first_far : (a b : DecimalFraction) (m : ℕ) → m ≡ max a.s b.s → m ≤ 30 → unsigned_abs a.p < 10 ^ 30 → unsigned_abs b.p < 10 ^ 30 → (FitsSigned w128 (units m a) → ⊥)
    → int_cmp a.p (pos 0) ≡ int_cmp (units 30 a) (units 30 b)
first_far a b m e l p q h =
    let far = wide (units m a) h in
    let own : units m b ≡ b.p = own_unit b m (coarser a b m e p far) in
    let near : unsigned_abs (units m b) < 10 ^ 30 = rw own q in
    far_cmp (units m a) (units m b) a.p far near (sign_kept a.p (10 ^ (m - a.s)) far) (nonzero a m far)
    ∙ cmp_units a b m (omega arith) (omega arith) l

-- the second is
pub second_far : (a b : DecimalFraction) (m : ℕ) → m ≡ max a.s b.s → m ≤ 30 → unsigned_abs a.p < 10 ^ 30 → unsigned_abs b.p < 10 ^ 30 → (FitsSigned w128 (units m b) → ⊥)
    → int_cmp (pos 0) b.p ≡ int_cmp (units 30 a) (units 30 b)
second_far a b m e l p q h =
    let far = wide (units m b) h in
    let own : units m a ≡ a.p = own_unit a m (coarser b a m (omega arith) q far) in
    let near : unsigned_abs (units m a) < 10 ^ 30 = rw own p in
    far_cmp_flipped (units m b) (units m a) b.p far near (sign_kept b.p (10 ^ (m - b.s)) far) (nonzero b m far)
    ∙ cmp_units a b m (omega arith) (omega arith) l
