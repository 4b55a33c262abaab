-- Quotients as the rules take them: the greatest whole number that isn't above, and the least that isn't below.
use Rattle.std.proofs.Common.{◌≡◌, ℕ, zero, suc, ◌*◌, ◌/◌, ◌<◌, ◌≤◌, ◌↔◌, Bool, true, false, ℤ, pos, negsuc, neg_ℤ, ◌*ℤ◌, ◌≤ℤ◌, ◌<ℤ◌, int_lt, sym, ap, ◌∙◌, subst, inl, inr, ◌⊎◌, arith}
use Rattle.std.proofs.Math.IntN.{*ℤ_comm, *ℤ-negsuc, zero-*ℤ}
use Rattle.std.proofs.Math.Nat.{div-lt_iff_lt-mul, mul_comm}
use Rattle.std.proofs.lemmas.Bool.{cases_lt}
use Rattle.std.proofs.lemmas.Int.{ints}
use Rattle.std.specs.Int.{int_div_euclid}
use Rattle.sp_model.specs.Rounds.{floor_of, ceiling_of}

-- ---- a positive divisor

above : (n : ℕ) (v d : ℤ) → 0 < n → (pos n *ℤ v) ≤ℤ d → v ≤ℤ int_div_euclid d (pos n)
above n (pos a) (pos p) h l = nat_case (cases_lt (p / n) a)
  where
    product : n * a ≤ p
    product = omega (arith, ints, l)

    nat_case : ((p / n) < a) ⊎ (a ≤ p / n) → pos a ≤ℤ pos (p / n)
    nat_case (inl below) = absurd (let k : p < a * n = (div-lt_iff_lt-mul h).0 below in omega (arith, product, mul_comm n a))
    nat_case (inr here) = omega (arith, ints)
above n (pos a) (negsuc p) h l = absurd (omega (arith, ints, l))
above n (negsuc a) (pos p) h l = omega (arith, ints)
above n (negsuc a) (negsuc p) h l = nat_case (cases_lt a (p / n))
  where
    product : p < suc a * n
    product = omega (arith, ints, l, mul_comm n (suc a))

    nat_case : (a < (p / n)) ⊎ ((p / n) ≤ a) → negsuc a ≤ℤ negsuc (p / n)
    nat_case (inl over) = absurd (let k : p / n < suc a = (div-lt_iff_lt-mul h).1 product in omega arith)
    nat_case (inr here) = omega (arith, ints)

back : (n : ℕ) (v d : ℤ) → 0 < n → v ≤ℤ int_div_euclid d (pos n) → (pos n *ℤ v) ≤ℤ d
back n (pos a) (pos p) h l = nat_case (cases_lt p (a * n))
  where
    quotient : a ≤ p / n
    quotient = omega (arith, ints, l)

    nat_case : (p < a * n) ⊎ (a * n ≤ p) → (pos n *ℤ pos a) ≤ℤ pos p
    nat_case (inl below) = absurd (let k : p / n < a = (div-lt_iff_lt-mul h).1 below in omega (arith, quotient))
    nat_case (inr here) = omega (arith, ints, mul_comm n a)
back n (pos a) (negsuc p) h l = absurd (omega (arith, ints, l))
back n (negsuc a) (pos p) h l = omega (arith, ints)
back n (negsuc a) (negsuc p) h l =
    let quotient : p / n < suc a = omega (arith, ints, l) in
    let product : p < suc a * n = (div-lt_iff_lt-mul h).0 quotient in
    omega (arith, ints, mul_comm n (suc a))

-- ---- signs

neg_times_suc : (n : ℕ) (v : ℤ) → negsuc n *ℤ v ≡ neg_ℤ (pos (suc n) *ℤ v)
neg_times_suc n v = *ℤ_comm (negsuc n) v ∙ *ℤ-negsuc v n ∙ ap neg_ℤ (*ℤ_comm v (pos (suc n)))

neg_neg : (v : ℤ) → neg_ℤ (neg_ℤ v) ≡ v
neg_neg v = omega (arith, ints)

times_neg : (a v : ℤ) → a *ℤ neg_ℤ v ≡ neg_ℤ (a *ℤ v)
times_neg a (pos zero) = *ℤ_comm a (pos zero) ∙ zero-*ℤ a ∙ sym (ap neg_ℤ (*ℤ_comm a (pos zero) ∙ zero-*ℤ a))
times_neg a (pos (suc n)) = *ℤ-negsuc a n
times_neg a (negsuc n) = sym (ap neg_ℤ (*ℤ-negsuc a n) ∙ neg_neg (a *ℤ pos (suc n)))

lt_test : (a b : ℤ) → a <ℤ b → int_lt a b ≡ true
lt_test a b h = grind (arith, ints)

ge_test : (a b : ℤ) → b ≤ℤ a → int_lt a b ≡ false
ge_test a b h = grind (arith, ints)

floor_pos : (d a : ℤ) → pos 0 <ℤ a → floor_of d a ≡ int_div_euclid d a
floor_pos d a h = rw (lt_test (pos 0) a h)

floor_neg : (d a : ℤ) → a <ℤ pos 0 → floor_of d a ≡ int_div_euclid (neg_ℤ d) (neg_ℤ a)
floor_neg d a h = rw (ge_test (pos 0) a (omega (arith, ints)))

-- ---- the four quotients

pub floor_exact : (d a v : ℤ) → pos 0 <ℤ a → ((a *ℤ v) ≤ℤ d) ↔ (v ≤ℤ floor_of d a)
floor_exact d (pos n) v h =
    let k : 0 < n = omega (arith, ints) in
    let e = floor_pos d (pos n) h in
    (λ l. subst (λ z. v ≤ℤ z) (sym e) (above n v d k l), λ l. back n v d k (subst (λ z. v ≤ℤ z) e l))
floor_exact d (negsuc n) v h = absurd (omega (arith, ints, h))

pub floor_exact_below : (d a v : ℤ) → a <ℤ pos 0 → (d ≤ℤ (a *ℤ v)) ↔ (v ≤ℤ floor_of d a)
floor_exact_below d (pos n) v h = absurd (omega (arith, ints, h))
floor_exact_below d (negsuc n) v h =
    let k : 0 < suc n = omega arith in
    let e = floor_neg d (negsuc n) h in
    let p = neg_times_suc n v in (
      λ l. subst (λ z. v ≤ℤ z) (sym e) (above (suc n) v (neg_ℤ d) k (omega (arith, ints, l, p))),
      λ l. let b = back (suc n) v (neg_ℤ d) k (subst (λ z. v ≤ℤ z) e l) in omega (arith, ints, b, p),
    )

pub ceiling_exact : (d a v : ℤ) → pos 0 <ℤ a → (d ≤ℤ (a *ℤ v)) ↔ (ceiling_of d a ≤ℤ v)
ceiling_exact d a v h =
    let p = times_neg a v in
    let f = floor_exact (neg_ℤ d) a (neg_ℤ v) h in (
      λ l. let r = f.0 (omega (arith, ints, l, p)) in omega (arith, ints, r),
      λ l. let r = f.1 (omega (arith, ints, l)) in omega (arith, ints, r, p),
    )

pub ceiling_exact_below : (d a v : ℤ) → a <ℤ pos 0 → ((a *ℤ v) ≤ℤ d) ↔ (ceiling_of d a ≤ℤ v)
ceiling_exact_below d a v h =
    let p = times_neg a v in
    let f = floor_exact_below (neg_ℤ d) a (neg_ℤ v) h in (
      λ l. let r = f.0 (omega (arith, ints, l, p)) in omega (arith, ints, r),
      λ l. let r = f.1 (omega (arith, ints, l)) in omega (arith, ints, r, p),
    )
