-- The side of a kept row: what a sum passes exactly where the bound passes the threshold.
use Rattle.std.proofs.Common.{◌≡◌, ℕ, ◌-◌, ◌*◌, ◌^◌, ◌≤◌, Bool, true, false, not, cond, nat_lt, Option, None, Some, ℤ, pos, negsuc, ◌+ℤ◌, ◌-ℤ◌, ◌*ℤ◌, ◌≤ℤ◌, ◌<ℤ◌, int_le, int_lt, refl, sym, ap, subst, ◌∙◌, arith}
use Rattle.std.specs.Int.RustNames.{unsigned_abs}
use Rattle.std.proofs.Math.IntN.{*ℤ_comm}
use Rattle.std.proofs.lemmas.Bool.Decides.{nat_tests}
use Rattle.std.proofs.lemmas.Int.{ints, by_lt_z}
use Rattle.sp_model.specs.Rounds.{ceiling_of}
use Rattle.sp_model.specs.Stated.{is_at_most}
use Rattle.sp_bound.specs.Bounds.{fits}
use Rattle.sp_bound.specs.Closing.{is_above}
use Rattle.sp_bound.specs.Inner.{IsSideAt, IsSideOf, far_side, if_fits, side_or_far}
use Rattle.sp_bound.proofs.FactorLemmas.{mul-le, mul-turns, times_one}
use Rattle.sp_bound.proofs.SoundLemmas.{IsCeiling}

-- ---- tests

le_true : (a b : ℤ) → a ≤ℤ b → int_le a b ≡ true
le_true a b h = grind (arith, ints)

le_false : (a b : ℤ) → b <ℤ a → int_le a b ≡ false
le_false a b h = grind (arith, ints)

lt_true : (a b : ℤ) → a <ℤ b → int_lt a b ≡ true
lt_true a b h = grind (arith, ints)

lt_false : (a b : ℤ) → b ≤ℤ a → int_lt a b ≡ false
lt_false a b h = grind (arith, ints)

le_read : (a b : ℤ) → int_le a b ≡ true → a ≤ℤ b
le_read a b h = grind (arith, ints)

le_read_false : (a b : ℤ) → int_le a b ≡ false → b <ℤ a
le_read_false a b h = grind (arith, ints)

-- ---- numbers past 128 bits

above_test : (n k : ℕ) → nat_lt n k ≡ false → k ≤ n
above_test n k h = grind (arith, nat_tests)

past_end : (z : ℤ) → fits z ≡ false → 2 ^ 127 ≤ unsigned_abs z
past_end (pos n) h = let l : 2 ^ 127 ≤ n = above_test n (2 ^ 127) h in omega (arith, l)
past_end (negsuc n) h = let l : 2 ^ 127 ≤ n = above_test n (2 ^ 127) h in omega (arith, l)

none_case : (p : Bool) (z : ℤ) → cond p (Some z) None ≡ None → p ≡ false
none_case true z e = absurd (cc)
none_case false z e = refl

some_case : (p : Bool) (z v : ℤ) → cond p (Some z) None ≡ Some v → v ≡ z
some_case true z v e = cc
some_case false z v e = absurd (cc)

wide : (z : ℤ) → if_fits z ≡ None → 2 ^ 127 ≤ unsigned_abs z
wide z h = past_end z (none_case (fits z) z h)

pub near : (z v : ℤ) → if_fits z ≡ Some v → v ≡ z
near z v h = some_case (fits z) z v h

-- ---- the far sides

high_side : (p s : ℤ) → unsigned_abs s ≤ 10 ^ 36 → pos (2 * 10 ^ 36) ≤ℤ p → IsSideAt p s None
high_side p s h g = record { tells = λ v k. sym (le_true (s +ℤ v) p (omega (arith, ints, h, g, k))) }

low_side : (p s : ℤ) → unsigned_abs s ≤ 10 ^ 36 → p <ℤ negsuc (2 * 10 ^ 36) → IsSideAt p s (Some (negsuc (2 ^ 127 - 1)))
low_side p s h g = record {
  tells = λ v k. le_false v (negsuc (2 ^ 127 - 1)) (omega (arith, ints, k)) ∙ sym (le_false (s +ℤ v) p (omega (arith, ints, h, g, k)));
}

far_case : (p s z : ℤ) (c : Bool) → int_lt (pos 0) z ≡ c → unsigned_abs s ≤ 10 ^ 36 → (pos 0 <ℤ z → pos (2 * 10 ^ 36) ≤ℤ p) → (z ≤ℤ pos 0 → p <ℤ negsuc (2 * 10 ^ 36)) → IsSideAt p s (cond c None (Some (negsuc (2 ^ 127 - 1))))
far_case p s z true e h high low = high_side p s h (high (let l : pos 0 <ℤ z = grind (arith, ints) in l))
far_case p s z false e h high low = low_side p s h (low (let l : z ≤ℤ pos 0 = grind (arith, ints) in l))

-- the product itself is the far number: beside the sides it doesn't fit
pub product_far : (p s : ℤ) (hi : Option ℤ) → unsigned_abs s ≤ 10 ^ 36 → if_fits (p -ℤ s) ≡ None → hi ≡ far_side p → IsSideAt p s hi
product_far p s hi h far e =
    let big = wide (p -ℤ s) far in
    substitute (far_case p s p (int_lt (pos 0) p) refl h (λ l. omega (arith, ints, big, h, l)) (λ l. omega (arith, ints, big, h, l)))
  where
    substitute : IsSideAt p s (far_side p) → IsSideAt p s hi
    substitute k = record { tells = λ v g. ap (λ (o : Option ℤ). is_at_most o v) e ∙ k.tells v g }

near_case : (p s v : ℤ) (a b : Bool) → int_le v (p -ℤ s) ≡ a → int_le (s +ℤ v) p ≡ b → int_le v (p -ℤ s) ≡ int_le (s +ℤ v) p
near_case p s v true true e f = e ∙ sym f
near_case p s v false false e f = e ∙ sym f
near_case p s v true false e f = absurd (let l = le_read v (p -ℤ s) e in let g = le_read_false (s +ℤ v) p f in omega (arith, ints, l, g))
near_case p s v false true e f = absurd (let l = le_read_false v (p -ℤ s) e in let g = le_read (s +ℤ v) p f in omega (arith, ints, l, g))

pub product_near : (p s : ℤ) (hi : Option ℤ) → hi ≡ Some (p -ℤ s) → IsSideAt p s hi
product_near p s hi e = record { tells = λ v k. ap (λ (o : Option ℤ). is_at_most o v) e ∙ near_case p s v (int_le v (p -ℤ s)) (int_le (s +ℤ v) p) refl refl }

-- the side itself, or the far one
product_case : (p s : ℤ) (o hi : Option ℤ) → unsigned_abs s ≤ 10 ^ 36 → if_fits (p -ℤ s) ≡ o → hi ≡ side_or_far p o → IsSideAt p s hi
product_case p s None hi h e f = product_far p s hi h e f
product_case p s (Some v) hi h e f = product_near p s hi (f ∙ ap Some (near (p -ℤ s) v e))

pub product_told : (p s : ℤ) (o hi : Option ℤ) → unsigned_abs s ≤ 10 ^ 36 → o ≡ if_fits (p -ℤ s) → hi ≡ side_or_far p o → IsSideAt p s hi
product_told p s o hi h e f = product_case p s o hi h (sym e) f

-- a divisor of at least 1 takes a number away from 0
grows : (d z : ℤ) → pos 1 ≤ℤ d → pos 0 ≤ℤ z → z ≤ℤ (d *ℤ z)
grows d z h g = let m = mul-le z (pos 1) d g h in omega (arith, ints, m, times_one z, *ℤ_comm z d)

falls : (d z : ℤ) → pos 1 ≤ℤ d → z ≤ℤ pos 0 → (d *ℤ z) ≤ℤ z
falls d z h g = let m = mul-turns z (pos 1) d g h in omega (arith, ints, m, times_one z, *ℤ_comm z d)

pub excess_far : (d z s : ℤ) (hi : Option ℤ) → pos 1 ≤ℤ d → unsigned_abs s ≤ 10 ^ 36 → if_fits (d *ℤ z) ≡ None → hi ≡ far_side z → IsSideAt (d *ℤ z) s hi
excess_far d z s hi one h far e =
    let big = wide (d *ℤ z) far in
    substitute (far_case (d *ℤ z) s z (int_lt (pos 0) z) refl h (λ l. (let g = grows d z one (omega (arith, ints, l)) in omega (arith, ints, big, g, l))) (λ l. (let g = falls d z one l in omega (arith, ints, big, g, l))))
  where
    substitute : IsSideAt (d *ℤ z) s (far_side z) → IsSideAt (d *ℤ z) s hi
    substitute k = record { tells = λ v g. ap (λ (o : Option ℤ). is_at_most o v) e ∙ k.tells v g }

pub threshold_far : (t k d s : ℤ) (hi : Option ℤ) → unsigned_abs k ≤ 10 ^ 36 → pos 1 ≤ℤ d → unsigned_abs s ≤ 10 ^ 36 → if_fits (t -ℤ k) ≡ None → hi ≡ far_side t → IsSideAt (d *ℤ (t -ℤ k)) s hi
threshold_far t k d s hi small one h far e =
    let big = wide (t -ℤ k) far in
    substitute (far_case (d *ℤ (t -ℤ k)) s t (int_lt (pos 0) t) refl h (λ l. (let g = grows d (t -ℤ k) one (omega (arith, ints, big, small, l)) in omega (arith, ints, big, small, g, l))) (λ l. (let g = falls d (t -ℤ k) one (omega (arith, ints, big, small, l)) in omega (arith, ints, big, small, g, l))))
  where
    substitute : IsSideAt (d *ℤ (t -ℤ k)) s (far_side t) → IsSideAt (d *ℤ (t -ℤ k)) s hi
    substitute p = record { tells = λ v g. ap (λ (o : Option ℤ). is_at_most o v) e ∙ p.tells v g }

-- ---- the threshold

pub side_told : IsCeiling → (t k d s : ℤ) (hi : Option ℤ) → pos 1 ≤ℤ d → IsSideAt (d *ℤ (t -ℤ k)) s hi → IsSideOf (Some t) k d s hi
side_told c t k d s hi one p = record { tells = λ v g. p.tells v g ∙ by_test v (int_le (s +ℤ v) (d *ℤ (t -ℤ k))) refl }
  where
    by_test : (v : ℤ) (a : Bool) → int_le (s +ℤ v) (d *ℤ (t -ℤ k)) ≡ a → int_le (s +ℤ v) (d *ℤ (t -ℤ k)) ≡ not (int_lt t (ceiling_of (s +ℤ v) d +ℤ k))
    by_test v true e =
        let below : ceiling_of (s +ℤ v) d ≤ℤ (t -ℤ k) = (c.law (s +ℤ v) d (t -ℤ k) (omega (arith, ints, one))).0 (le_read (s +ℤ v) (d *ℤ (t -ℤ k)) e) in
        e ∙ sym (ap not (lt_false t (ceiling_of (s +ℤ v) d +ℤ k) (omega (arith, ints, below))))
    by_test v false e =
        let above : t <ℤ (ceiling_of (s +ℤ v) d +ℤ k) = by_lt_z t (ceiling_of (s +ℤ v) d +ℤ k) (λ l. l) (λ g. absurd (
        let u = (c.law (s +ℤ v) d (t -ℤ k) (omega (arith, ints, one))).1 (let b : ceiling_of (s +ℤ v) d ≤ℤ (t -ℤ k) = omega (arith, ints, g) in b) in
        let w = le_read_false (s +ℤ v) (d *ℤ (t -ℤ k)) e in
        omega (arith, ints, u, w)
        )) in
        e ∙ sym (ap not (lt_true t (ceiling_of (s +ℤ v) d +ℤ k) above))

pub side_without : (t : Option ℤ) (k d s : ℤ) → t ≡ None → IsSideOf t k d s None
side_without t k d s e = record { tells = λ v g. ap (λ (o : Option ℤ). not (is_above o (Some (ceiling_of (s +ℤ v) d +ℤ k)))) (sym e) }

-- a product that is written the other way
pub side_same : (p q s : ℤ) (hi : Option ℤ) → p ≡ q → IsSideAt p s hi → IsSideAt q s hi
side_same p q s hi e k = subst (λ (z : ℤ). IsSideAt z s hi) e k

pub side_given : IsCeiling → (o : Option ℤ) (t k d s : ℤ) (hi : Option ℤ) → o ≡ Some t → pos 1 ≤ℤ d → IsSideAt (d *ℤ (t -ℤ k)) s hi → IsSideOf o k d s hi
side_given c o t k d s hi e one p = subst (λ (x : Option ℤ). IsSideOf x k d s hi) (sym e) (side_told c t k d s hi one p)
