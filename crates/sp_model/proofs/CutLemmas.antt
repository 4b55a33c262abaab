-- The cut is the greatest whole number within the gaps, and how it is computed without a number past 128 bits.
use Rattle.std.proofs.Common.{◌≡◌, ℕ, zero, suc, ◌+◌, ◌*◌, ◌/◌, ◌%◌, ◌^◌, ◌<◌, ◌≤◌, ◌↔◌, inl, inr, min, false, ℤ, pos, negsuc, neg_ℤ, ◌+ℤ◌, ◌-ℤ◌, ◌*ℤ◌, ◌≤ℤ◌, ◌<ℤ◌, int_le, unsigned_abs, sym, ap, ◌∙◌, subst, arith, div-add-mod'}
use Rattle.std.proofs.Math.Nat.{add-mul-div_right, le-div_iff_mul-le, one-le-pow, pow-le-pow_right}
use Rattle.std.specs.Int.{int_min}
use Rattle.std.proofs.lemmas.Int.{ints, clamps}
use Rattle.std.proofs.lemmas.Bool.{cases_Bool, cond-true, cond-false}
use Rattle.sp_model.specs.declared.gaps.Gap.{Gap}
use Rattle.sp_model.specs.declared.gaps.Gap.TheVariants.{Unlimited, Of}
use Rattle.sp_model.specs.declared.gaps.Gaps.{Gaps}
use Rattle.sp_model.specs.Cuts.{least_of, ceiling, cut_by, cut_of, IsWithinGap, IsWithinGaps}
use Rattle.sp_model.proofs.PointLemmas.{test_le}

-- ---- the lesser of two numbers

le_untest : (a b : ℤ) → int_le a b ≡ false → b <ℤ a
le_untest a b h = grind (arith, ints)

-- the definition's word is std's
pub least_is_min : (a b : ℤ) → least_of a b ≡ int_min a b
least_is_min a b =
    elim (cases_Bool (int_le a b)) [
      | inl t ↦ cond-true (int_le a b) a b t ∙ (let h = test_le a b t in omega (arith, ints, clamps))
      | inr f ↦ cond-false (int_le a b) a b f ∙ (let h = le_untest a b f in omega (arith, ints, clamps))
    ]

pub le_least : (z a b : ℤ) → (z ≤ℤ least_of a b) ↔ ((z ≤ℤ a) × (z ≤ℤ b))
le_least z a b =
    let e = least_is_min a b in (
      λ h. let k : z ≤ℤ int_min a b = subst (λ m. z ≤ℤ m) e h in (omega (arith, ints, clamps), omega (arith, ints, clamps)),
      λ h. let left : z ≤ℤ a = h.0 in
          let right : z ≤ℤ b = h.1 in
          let k : z ≤ℤ int_min a b = omega (arith, ints, clamps) in
          subst (λ m. z ≤ℤ m) (sym e) k,
    )

-- ---- a quotient, as the greatest whole number within a bound

neg_below : (m n : ℕ) → neg_ℤ (pos m) ≤ℤ pos n
neg_below zero n = omega (arith, ints)
neg_below (suc m) n = omega (arith, ints)

pub le_quotient : (w : ℤ) (d n : ℕ) → 0 < d → (w ≤ℤ pos (n / d)) ↔ ((w *ℤ pos d) ≤ℤ pos n)
le_quotient (pos k) d n h =
    let iff = le-div_iff_mul-le {k = d} {x = k} {y = n} h in (
      λ p. let q : k ≤ n / d = omega (arith, ints) in let r = iff.0 q in omega (arith, ints),
      λ p. let q : k * d ≤ n = omega (arith, ints) in let r = iff.1 q in omega (arith, ints),
    )
le_quotient (negsuc k) d n h = (λ p. neg_below (suc k * d) n, λ p. omega (arith, ints))

pub power_positive : (s : ℕ) → 0 < 10 ^ s
power_positive s = one-le-pow s 10 (omega arith)

pub power_bound : (s n : ℕ) → s ≤ n → 10 ^ s ≤ 10 ^ n
power_bound s n h = pow-le-pow_right {n = 10} (omega arith) h

-- ---- the greatest whole number within the gaps

pub le_part : (best : ℤ) (gap : Gap) (base : ℕ) (z : ℤ) → z ≤ℤ ceiling → (z ≤ℤ cut_by best gap base) ↔ IsWithinGap best gap base z
le_part best Unlimited base z h = (λ p. tt, λ p. h)
le_part best (Of p s) base z h =
    let iff = le_quotient (z -ℤ best) (10 ^ s) (p * base) (power_positive s) in
    (λ k. iff.0 (omega (arith, ints)), λ k. let q = iff.1 k in omega (arith, ints))

pub le_cut : (best : ℤ) (gaps : Gaps) (scale : ℕ) (z : ℤ) → (z ≤ℤ cut_of best gaps scale) ↔ IsWithinGaps best gaps scale z
le_cut best gaps scale z =
    let parts = le_least z (cut_by best gaps.abs (10 ^ scale)) (cut_by best gaps.rel (unsigned_abs best)) in
    let all = le_least z (least_of (cut_by best gaps.abs (10 ^ scale)) (cut_by best gaps.rel (unsigned_abs best))) ceiling in (
      λ h. let a = all.0 h in
          let b = parts.0 a.0 in
          record {
            abs = (le_part best gaps.abs (10 ^ scale) z a.1).0 b.0;
            rel = (le_part best gaps.rel (unsigned_abs best) z a.1).0 b.1;
            small = a.1;
          },
      λ w. all.1 (parts.1 ((le_part best gaps.abs (10 ^ scale) z w.small).1 w.abs, (le_part best gaps.rel (unsigned_abs best) z w.small).1 w.rel), w.small),
    )

-- ---- how it is computed

-- the base is divided first
pub quotient_split : (p b d : ℕ) → 0 < d → p * b / d ≡ p * (b % d) / d + p * (b / d)
quotient_split p b d h =
    let parts : p * b ≡ p * (b % d) + p * (b / d) * d = let e = div-add-mod' b d in ap (λ n. p * n) (sym e) ∙ omega arith in
    ap (λ n. n / d) parts ∙ add-mul-div_right (p * (b % d)) (p * (b / d)) h

-- a reach past the farthest one is past the ceiling
pub part_is : (best : ℤ) (p s base : ℕ) (reach : ℕ) → unsigned_abs best ≤ 10 ^ 36 → reach ≡ min (p * base / 10 ^ s) (2 * 10 ^ 36) → int_min (best +ℤ pos reach) ceiling ≡ least_of (cut_by best (Of p s) base) ceiling
part_is best p s base reach near e =
    (let far : reach ≡ min (p * base / 10 ^ s) (2 * 10 ^ 36) = e in omega (arith, ints, clamps)) ∙ sym (least_is_min (best +ℤ pos (p * base / 10 ^ s)) ceiling)

-- the lesser of the two parts, each at most the ceiling
pub cut_is : (best : ℤ) (gaps : Gaps) (scale : ℕ) → int_min (least_of (cut_by best gaps.abs (10 ^ scale)) ceiling) (least_of (cut_by best gaps.rel (unsigned_abs best)) ceiling) ≡ cut_of best gaps scale
cut_is best gaps scale = mins (cut_by best gaps.abs (10 ^ scale)) (cut_by best gaps.rel (unsigned_abs best)) ceiling
  where
    mins : (a b c : ℤ) → int_min (least_of a c) (least_of b c) ≡ least_of (least_of a b) c
    mins a b c =
        ap (λ m. int_min m (least_of b c)) (least_is_min a c) ∙ ap (λ m. int_min (int_min a c) m) (least_is_min b c)
        ∙ (let e : int_min (int_min a c) (int_min b c) ≡ int_min (int_min a b) c = omega (arith, ints, clamps) in e)
        ∙ ap (λ m. int_min m c) (sym (least_is_min a b)) ∙ sym (least_is_min (least_of a b) c)
