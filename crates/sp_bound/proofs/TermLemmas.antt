-- Costs as terms: those that aren't 0, by rising variable.
use Rattle.std.proofs.Common.{◌≡◌, ◌≢◌, ℕ, zero, suc, ◌+◌, ◌*◌, ◌^◌, ◌<◌, ◌≤◌, Bool, true, false, cond, nat_eq, List, [], ◌∷◌, length, ℤ, pos, ◌+ℤ◌, All, AllPairs, None, refl, sym, ap, ap₂, ◌∙◌, arith, inl, inr}
use Rattle.std.specs.Ordering.{int_eq}
use Rattle.std.specs.Int.RustNames.{unsigned_abs}
use Rattle.std.proofs.lemmas.Bool.{cases_lt}
use Rattle.std.proofs.lemmas.Bool.Decides.{nat_tests, Decides-int_eq}
use Rattle.std.proofs.lemmas.Int.{ints}
use Rattle.std.proofs.lemmas.List.Kept.{AllPairs-cons}
use Rattle.sp_model.specs.declared.parts.Row.{Row}
use Rattle.sp_model.specs.Boxes.{Bounds}
use Rattle.sp_model.specs.Sums.{Term, reach, width_over}
use Rattle.sp_sums.specs.Extremes.{least_over, term_least}
use Rattle.sp_sums.specs.Rows.{IsRowFit}
use Rattle.sp_bound.specs.Bounds.{coefficient_in}
use Rattle.sp_bound.specs.Inner.{spread}
use Rattle.sp_bound.specs.KeptBounds.{cost_terms}
use Rattle.sp_bound.proofs.IdleLemmas.{least_none}
use Rattle.sp_bound.proofs.SafeLemmas.{none_reaching, reaching, spread-along, width-over}
use Rattle.sp_bound.proofs.VariableLemmas.{IsNoneAtZero, along, along-terms, no-coefficient, over, over-box}

all_cons : {X : Type 0} (P : X → Type 0) (x : X) (xs : List X) → P x → All P xs → All P (x ∷ xs)
all_cons P x xs h k zero d l = h
all_cons P x xs h k (suc i) d l = k i d (omega (arith, l))

all_none : {X : Type 0} (P : X → Type 0) → All P []
all_none P i d l = absurd (omega (arith, l))

-- ---- where the terms are

abbrev IsFrom : ℕ → Term → Type 0
IsFrom j t = j ≤ t.0

abbrev IsBelow : ℕ → Term → Type 0
IsBelow n t = t.0 < n

from_case : (j : ℕ) (v : ℤ) (ts : List Term) (p : Bool) → All (IsFrom (suc j)) ts → All (IsFrom j) (cond p ts ((j, v) ∷ ts))
from_case j v ts true h = λ k d l. omega (arith, h k d l)
from_case j v ts false h = all_cons (IsFrom j) (j, v) ts (omega arith) (λ k d l. omega (arith, h k d l))

terms-from : (c : ℕ → ℤ) (j : ℕ) (qs : Bounds) → All (IsFrom j) (cost_terms c j qs)
terms-from c j [] = all_none (IsFrom j)
terms-from c j (q ∷ qs) = from_case j (c j) (cost_terms c (suc j) qs) (int_eq (c j) (pos 0)) (terms-from c (suc j) qs)

below_case : (j n : ℕ) (v : ℤ) (ts : List Term) (p : Bool) → j < n → All (IsBelow n) ts → All (IsBelow n) (cond p ts ((j, v) ∷ ts))
below_case j n v ts true l h = h
below_case j n v ts false l h = all_cons (IsBelow n) (j, v) ts l h

terms-below : (c : ℕ → ℤ) (j n : ℕ) (qs : Bounds) → j + length qs ≤ n → All (IsBelow n) (cost_terms c j qs)
terms-below c j n [] h = all_none (IsBelow n)
terms-below c j n (q ∷ qs) h = below_case j n (c j) (cost_terms c (suc j) qs) (int_eq (c j) (pos 0)) (omega (arith, h)) (terms-below c (suc j) n qs (omega (arith, h)))

rise_case : (j : ℕ) (v : ℤ) (ts : List Term) (p : Bool) → All (IsFrom (suc j)) ts → AllPairs (λ (t : Term) (u : Term). t.0 < u.0) ts → AllPairs (λ (t : Term) (u : Term). t.0 < u.0) (cond p ts ((j, v) ∷ ts))
rise_case j v ts true a h = h
rise_case j v ts false a h = AllPairs-cons (λ (t : Term) (u : Term). t.0 < u.0) (j, v) ts (λ k d l. omega (arith, a k d l)) h

terms-rise : (c : ℕ → ℤ) (j : ℕ) (qs : Bounds) → AllPairs (λ (t : Term) (u : Term). t.0 < u.0) (cost_terms c j qs)
terms-rise c j [] = λ i k d l g. absurd (omega (arith, g))
terms-rise c j (q ∷ qs) = rise_case j (c j) (cost_terms c (suc j) qs) (int_eq (c j) (pos 0)) (terms-from c (suc j) qs) (terms-rise c (suc j) qs)

-- ---- what they are

pick_same : (k n : ℕ) (a e : ℤ) (c : Bool) → nat_eq k n ≡ c → k ≡ n → cond c a e ≡ a
pick_same k n a e true h s = refl
pick_same k n a e false h s = absurd (grind (arith, nat_tests))

pick_other : (k n : ℕ) (a e : ℤ) (c : Bool) → nat_eq k n ≡ c → k ≢ n → cond c a e ≡ e
pick_other k n a e true h s = absurd (let same : k ≡ n = grind (arith, nat_tests) in s same)
pick_other k n a e false h s = refl

here_case : (j : ℕ) (v : ℤ) (ts : List Term) (p : Bool) → int_eq v (pos 0) ≡ p → All (IsFrom (suc j)) ts → coefficient_in (cond p ts ((j, v) ∷ ts)) j ≡ v
here_case j v ts true e h = no-coefficient j ts (λ k d l. omega (arith, h k d l)) ∙ sym ((Decides-int_eq v (pos 0)).0 e)
here_case j v ts false e h = pick_same j j v (coefficient_in ts j) (nat_eq j j) refl refl

other_case : (j k : ℕ) (v : ℤ) (ts : List Term) (p : Bool) → j < k → coefficient_in (cond p ts ((j, v) ∷ ts)) k ≡ coefficient_in ts k
other_case j k v ts true l = refl
other_case j k v ts false l = pick_other j k v (coefficient_in ts k) (nat_eq j k) refl (omega (arith, l))

coefficient-terms : (c : ℕ → ℤ) (j k : ℕ) (qs : Bounds) → j ≤ k → k < j + length qs → coefficient_in (cost_terms c j qs) k ≡ c k
coefficient-terms c j k [] h l = absurd (omega (arith, h, l))
coefficient-terms c j k (q ∷ qs) h l = elim (cases_lt j k) [
  | inl g ↦ (other_case j k (c j) (cost_terms c (suc j) qs) (int_eq (c j) (pos 0)) g ∙ coefficient-terms c (suc j) k qs (omega (arith, g)) (omega (arith, l)))
  | inr g ↦ (let same : j ≡ k = omega (arith, h, g) in ap (coefficient_in (cost_terms c j (q ∷ qs))) (sym same) ∙ here_case j (c j) (cost_terms c (suc j) qs) (int_eq (c j) (pos 0)) refl (terms-from c (suc j) qs) ∙ ap c same)
]

-- ---- sums

along-within : {X : Type 0} (f : ℤ → X → ℤ) (c e : ℕ → ℤ) (j : ℕ) (xs : List X) → ((k : ℕ) → j ≤ k → k < j + length xs → c k ≡ e k) → along f c j xs ≡ along f e j xs
along-within f c e j [] h = refl
along-within f c e j (x ∷ xs) h =
    ap₂ (λ (u : ℤ) (v : ℤ). u +ℤ v) (ap (λ (v : ℤ). f v x) (h j (omega arith) (omega arith))) (along-within f c e (suc j) xs (λ k g l. h k (omega (arith, g)) (omega (arith, l))))

terms-sum : {X : Type 0} (f : ℤ → X → ℤ) → IsNoneAtZero f → (d : X) (c : ℕ → ℤ) (qs : Bounds) (xs : List X) → length xs ≡ length qs → over f d xs (cost_terms c 0 qs) ≡ along f c 0 xs
terms-sum f z d c qs xs e =
    sym (along-terms f z d xs (cost_terms c 0 qs) (λ k t l. omega (arith, e, terms-below c 0 (length qs) qs (omega arith) k t l)) (terms-rise c 0 qs))
    ∙ along-within f (coefficient_in (cost_terms c 0 qs)) c 0 xs (λ k g l. coefficient-terms c 0 k qs (omega arith) (omega (arith, l, e)))

pub terms-least : (c : ℕ → ℤ) (root b : Bounds) → length b ≡ length root → least_over b (cost_terms c 0 root) ≡ along term_least c 0 b
terms-least c root b e = sym (over-box term_least b (cost_terms c 0 root)) ∙ terms-sum term_least least_none (pos 0, pos 0) c root b e

terms-width : (c : ℕ → ℤ) (root : Bounds) → pos (width_over root (cost_terms c 0 root)) ≡ pos (spread c 0 root)
terms-width c root = width-over root (cost_terms c 0 root) ∙ terms-sum reaching none_reaching (pos 0, pos 0) c root root refl ∙ sym (spread-along c 0 root)

abbrev pub bare : List Term → Row
bare ts = record { terms = ts; lo = None; hi = None }

pub terms-fit : (c : ℕ → ℤ) (root : Bounds) → spread c 0 root ≤ 10 ^ 36 → IsRowFit root (bare (cost_terms c 0 root))
terms-fit c root h = record {
  narrow = record { known = λ k d l. omega (arith, terms-below c 0 (length root) root (omega arith) k d l); narrow = omega (arith, ints, terms-width c root, h) };
  rising = terms-rise c 0 root;
}

pub terms-same : (c e : ℕ → ℤ) (j : ℕ) (qs : Bounds) → ((k : ℕ) → j ≤ k → k < j + length qs → c k ≡ e k) → cost_terms c j qs ≡ cost_terms e j qs
terms-same c e j [] h = refl
terms-same c e j (q ∷ qs) h =
    ap₂ (λ (v : ℤ) (ts : List Term). cond (int_eq v (pos 0)) ts ((j, v) ∷ ts)) (h j (omega arith) (omega arith)) (terms-same c e (suc j) qs (λ k g l. h k (omega (arith, g)) (omega (arith, l))))

pub spread-same : (c e : ℕ → ℤ) (j : ℕ) (qs : Bounds) → ((k : ℕ) → j ≤ k → k < j + length qs → c k ≡ e k) → spread c j qs ≡ spread e j qs
spread-same c e j [] h = refl
spread-same c e j (q ∷ qs) h =
    let here : unsigned_abs (c j) ≡ unsigned_abs (e j) = ap unsigned_abs (h j (omega arith) (omega arith)) in
    ap₂ (λ (u : ℕ) (v : ℕ). u + v) (ap (λ (u : ℕ). u * reach q) here) (spread-same c e (suc j) qs (λ k g l. h k (omega (arith, g)) (omega (arith, l))))
