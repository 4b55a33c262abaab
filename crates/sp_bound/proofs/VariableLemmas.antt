-- Sums over all variables, and over those that have a term.
use Rattle.std.proofs.Common.{◌≡◌, ◌≢◌, ℕ, zero, suc, ◌+◌, ◌<◌, ◌≤◌, Bool, true, false, cond, nat_eq, List, [], ◌∷◌, length, get_or, ℤ, pos, ◌+ℤ◌, ◌-ℤ◌, ◌*ℤ◌, All, AllPairs, refl, sym, ap, ap₂, ◌∙◌, arith}
use Rattle.std.proofs.Math.IntN.{*ℤ-zero, zero-*ℤ}
use Rattle.std.proofs.lemmas.Bool.Decides.{nat_tests}
use Rattle.std.proofs.lemmas.Int.{ints}
use Rattle.sp_model.specs.Boxes.{Bounds, range_at}
use Rattle.sp_model.specs.Sums.{Term, sum_at}
use Rattle.sp_sums.specs.Extremes.{sum_over}
use Rattle.sp_bound.specs.Bounds.{coefficient_in}
use Rattle.sp_bound.proofs.FactorLemmas.{mul-add, mul-assoc, sub-mul}

-- what each item has beside the number of its variable, added up from variable j on
abbrev pub along : {X : Type 0} → (ℤ → X → ℤ) → (ℕ → ℤ) → ℕ → List X → ℤ
along f c j [] = pos 0
along f c j (x ∷ xs) = f (c j) x +ℤ along f c (suc j) xs

-- what each term has at its variable's item, added up
abbrev pub over : {X : Type 0} → (ℤ → X → ℤ) → X → List X → List Term → ℤ
over f d xs [] = pos 0
over f d xs (t ∷ ts) = f t.1 (get_or xs t.0 d) +ℤ over f d xs ts

-- the number 0 has 0 at each item
abbrev pub IsNoneAtZero : {X : Type 0} → (ℤ → X → ℤ) → Type 0
IsNoneAtZero {X} f = (x : X) → f (pos 0) x ≡ pos 0

pick-same : (k n : ℕ) (a e : ℤ) (c : Bool) → nat_eq k n ≡ c → k ≡ n → cond c a e ≡ a
pick-same k n a e true h s = refl
pick-same k n a e false h s = absurd (grind (arith, nat_tests))

pick-other : (k n : ℕ) (a e : ℤ) (c : Bool) → nat_eq k n ≡ c → k ≢ n → cond c a e ≡ e
pick-other k n a e true h s = absurd (let same : k ≡ n = grind (arith, nat_tests) in s same)
pick-other k n a e false h s = refl

pub along-same : {X : Type 0} (f : ℤ → X → ℤ) (c e : ℕ → ℤ) (j : ℕ) (xs : List X) → ((k : ℕ) → j ≤ k → c k ≡ e k) → along f c j xs ≡ along f e j xs
along-same f c e j [] h = refl
along-same f c e j (x ∷ xs) h =
    ap₂ (λ u v. u +ℤ v) (ap (λ v. f v x) (h j (omega arith))) (along-same f c e (suc j) xs (λ k g. h k (omega (arith, g))))

pub along-zero : {X : Type 0} (f : ℤ → X → ℤ) → IsNoneAtZero f → (j : ℕ) (xs : List X) → along f (λ k. pos 0) j xs ≡ pos 0
along-zero f z j [] = refl
along-zero f z j (x ∷ xs) = omega (arith, ints, z x, along-zero f z (suc j) xs)

-- one variable has another number, and had 0
one_here : {X : Type 0} (f : ℤ → X → ℤ) → IsNoneAtZero f → (k j : ℕ) (a : ℤ) (g : ℕ → ℤ) (x : X) (xs : List X) → k ≡ j → g k ≡ pos 0 → along f (λ n. cond (nat_eq k n) a (g n)) j (x ∷ xs) ≡ f a x +ℤ along f g j (x ∷ xs)
one_here f z k j a g x xs e h =
    let head : f (cond (nat_eq k j) a (g j)) x ≡ f a x = ap (λ v. f v x) (pick-same k j a (g j) (nat_eq k j) refl e) in
    let tail : along f (λ n. cond (nat_eq k n) a (g n)) (suc j) xs ≡ along f g (suc j) xs = along-same f (λ n. cond (nat_eq k n) a (g n)) g (suc j) xs (λ n l. pick-other k n a (g n) (nat_eq k n) refl (omega (arith, l, e))) in
    let none : f (g j) x ≡ pos 0 = ap (λ v. f v x) (ap g (sym e) ∙ h) ∙ z x in
    omega (arith, ints, head, tail, none)

pub along-one : {X : Type 0} (f : ℤ → X → ℤ) → IsNoneAtZero f → (d : X) (k j i : ℕ) (a : ℤ) (g : ℕ → ℤ) (xs : List X) → k ≡ j + i → i < length xs → g k ≡ pos 0 → along f (λ n. cond (nat_eq k n) a (g n)) j xs ≡ f a (get_or xs i d) +ℤ along f g j xs
along-one f z d k j i a g [] e l h = absurd (omega (arith, l))
along-one f z d k j zero a g (x ∷ xs) e l h = one_here f z k j a g x xs (omega (arith, e)) h
along-one f z d k j (suc i) a g (x ∷ xs) e l h =
    let head : f (cond (nat_eq k j) a (g j)) x ≡ f (g j) x = ap (λ v. f v x) (pick-other k j a (g j) (nat_eq k j) refl (omega (arith, e))) in
    let tail : along f (λ n. cond (nat_eq k n) a (g n)) (suc j) xs ≡ f a (get_or xs i d) +ℤ along f g (suc j) xs = along-one f z d k (suc j) i a g xs (omega (arith, e)) (omega (arith, l)) h in
    omega (arith, ints, head, tail)

-- a variable below all terms has no coefficient
pub no-coefficient : (j : ℕ) (ts : List Term) → All (λ (t : Term). j < t.0) ts → coefficient_in ts j ≡ pos 0
no-coefficient j [] h = refl
no-coefficient j (t ∷ ts) h =
    let above : j < t.0 = h 0 t (omega arith) in
    pick-other t.0 j t.1 (coefficient_in ts j) (nat_eq t.0 j) refl (omega (arith, above)) ∙ no-coefficient j ts (λ k d l. h (suc k) d (omega (arith, l)))

-- the sum over all variables is that over the terms, which are of known variables and rise
pub along-terms : {X : Type 0} (f : ℤ → X → ℤ) → IsNoneAtZero f → (d : X) (xs : List X) (ts : List Term) → All (λ (t : Term). t.0 < length xs) ts → AllPairs (λ (t : Term) (u : Term). t.0 < u.0) ts → along f (coefficient_in ts) 0 xs ≡ over f d xs ts
along-terms f z d xs [] known rising = along-zero f z 0 xs
along-terms f z d xs (t ∷ ts) known rising =
    let here : t.0 < length xs = known 0 t (omega arith) in
    let none : coefficient_in ts t.0 ≡ pos 0 = no-coefficient t.0 ts (λ k e l. rising 0 (suc k) e (omega arith) (omega (arith, l))) in
    let rest : along f (coefficient_in ts) 0 xs ≡ over f d xs ts = along-terms f z d xs ts (λ k e l. known (suc k) e (omega (arith, l))) (λ i k e l g. rising (suc i) (suc k) e (omega (arith, l)) (omega (arith, g))) in
    along-one f z d t.0 0 t.0 t.1 (coefficient_in ts) xs (omega arith) here none ∙ ap (λ v. f t.1 (get_or xs t.0 d) +ℤ v) rest

-- ---- the two sums that are taken

-- a number times a value
abbrev pub times : ℤ → ℤ → ℤ
times a v = a *ℤ v

pub none-times : IsNoneAtZero times
none-times v = zero-*ℤ v

pub over-point : (x : List ℤ) (ts : List Term) → over times (pos 0) x ts ≡ sum_at ts x
over-point x [] = refl
over-point x (t ∷ ts) = ap (λ v. (t.1 *ℤ get_or x t.0 (pos 0)) +ℤ v) (over-point x ts)

pub over-box : (f : ℤ → ℤ × ℤ → ℤ) (b : Bounds) (ts : List Term) → over f (pos 0, pos 0) b ts ≡ sum_over f b ts
over-box f b [] = refl
over-box f b (t ∷ ts) = ap (λ v. f t.1 (range_at b t.0) +ℤ v) (over-box f b ts)

-- ---- multiples and differences of the numbers

pub along-sub : (c g : ℕ → ℤ) (y : ℤ) (j : ℕ) (xs : List ℤ) → along times (λ k. c k -ℤ (y *ℤ g k)) j xs ≡ along times c j xs -ℤ (y *ℤ along times g j xs)
along-sub c g y j [] = omega (arith, ints, *ℤ-zero y)
along-sub c g y j (v ∷ vs) =
    omega (arith, ints, along-sub c g y (suc j) vs, sub-mul (c j) (y *ℤ g j) v, mul-assoc y (g j) v, mul-add y (g j *ℤ v) (along times g (suc j) vs))

pub along-scale : (c : ℕ → ℤ) (d : ℤ) (j : ℕ) (xs : List ℤ) → along times (λ k. d *ℤ c k) j xs ≡ d *ℤ along times c j xs
along-scale c d j [] = sym (*ℤ-zero d)
along-scale c d j (v ∷ vs) =
    omega (arith, ints, along-scale c d (suc j) vs, mul-assoc d (c j) v, mul-add d (c j *ℤ v) (along times c (suc j) vs))
