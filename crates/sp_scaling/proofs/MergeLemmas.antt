-- Terms in order, put together, are the collected terms.
use Rattle.std.proofs.Common.{◌≡◌, ℕ, zero, suc, ◌+◌, ◌-◌, ◌<◌, ◌≤◌, Bool, true, false, ◌==◌, List, [], ◌∷◌, ◌++◌, length, get_or, map, filter, refl, ap, ◌∙◌, sym, subst, arith}
use Rattle.std.specs.Prelude.{if◌then◌else◌, ℤ, pos, negsuc, ◌+ℤ◌, sum_by, All, Result, Ok, Err, IfOk}
use Rattle.std.specs.List.{range_with_len}
use Rattle.std.specs.List.Sorted.{IsPermutation, IsNonDecreasingBy}
use Rattle.std.proofs.lemmas.Bool.{eqb-true, eq-eqb}
use Rattle.std.proofs.lemmas.Int.{ints}
use Rattle.std.proofs.lemmas.List.Elements.{All-nil, All-cons, All-head, All-tail, All-weaker}
use Rattle.std.proofs.lemmas.List.Sums.{sum_by-cons}
use Rattle.std.proofs.lemmas.List.Sorted.{sum_by-IsPermutation, IsPermutation-sym, All-permutation}
use Rattle.sp_model.specs.Models.{is_nonzero}
use Rattle.sp_model.specs.Sums.{Term}
use Rattle.sp_scaling.specs.Scaling.{coefficient, past, collected, turned_terms}
use Rattle.sp_scaling.specs.Merging.{emitted, merged}

pub if-ok-list : {A E : Type 0} (r : Result A E) (m n : A) → m ≡ n → IfOk r (λ x. x ≡ m) → IfOk r (λ x. x ≡ n)
if-ok-list (Ok x) m n e h = h ∙ e
if-ok-list (Err d) m n e h = tt

-- the sums of the variables from a on, of which there are n
abbrev pub span : ℕ → ℕ → List Term → List Term
span a n ts = filter (λ t. is_nonzero t.1) (map (λ j. (j, coefficient ts j)) (range_with_len a n))

-- one variable before others
abbrev pub with_first : ℕ → ℤ → List Term → List Term
with_first j v more = if is_nonzero v then (j, v) ∷ more else more

span-agree : (a n : ℕ) (us vs : List Term) → ((j : ℕ) → a ≤ j → coefficient us j ≡ coefficient vs j) → span a n us ≡ span a n vs
span-agree a zero us vs f = refl
span-agree a (suc n) us vs f =
    ap (λ v. with_first a v (span (a + 1) n us)) (f a (omega arith))
    ∙ ap (λ more. with_first a (coefficient vs a) more) (span-agree (a + 1) n us vs (λ j h. f j (omega arith)))

span-empty : (a n : ℕ) (us : List Term) → ((j : ℕ) → a ≤ j → j < a + n → coefficient us j ≡ pos 0) → span a n us ≡ []
span-empty a zero us f = refl
span-empty a (suc n) us f =
    ap (λ v. with_first a v (span (a + 1) n us)) (f a (omega arith) (omega arith))
    ∙ span-empty (a + 1) n us (λ j h l. f j (omega arith) (omega arith))

first-append : (b : Bool) (t : Term) (xs ys : List Term) → (if b then t ∷ (xs ++ ys) else xs ++ ys) ≡ (if b then t ∷ xs else xs) ++ ys
first-append true t xs ys = refl
first-append false t xs ys = refl

span-split : (a m n : ℕ) (us : List Term) → span a (m + n) us ≡ span a m us ++ span (a + m) n us
span-split a zero n us =
    let e : zero + n ≡ n = omega arith in
    let f : a ≡ a + zero = omega arith in
    ap (λ k. span a k us) e ∙ ap (λ k. span k n us) f
span-split a (suc m) n us =
    let e : suc m + n ≡ suc (m + n) = omega arith in
    let f : (a + 1) + m ≡ a + suc m = omega arith in
    ap (λ k. span a k us) e
    ∙ (ap (λ more. with_first a (coefficient us a) more) (span-split (a + 1) m n us ∙ ap (λ k. span (a + 1) m us ++ span k n us) f)
    ∙ first-append (is_nonzero (coefficient us a)) (a, coefficient us a) (span (a + 1) m us) (span (a + suc m) n us))

-- the variables rise from k on
abbrev Rising : ℕ → List Term → Type 0
Rising k [] = Unit {0}
Rising k (t ∷ ts) = (k ≤ t.0) × Rising t.0 ts

differ : (b : Bool) → (b ≡ true → ⊥) → b ≡ false
differ true h = absurd (h refl)
differ false h = refl

pub other : (i j : ℕ) → (i ≡ j → ⊥) → (i == j) ≡ false
other i j h = differ (i == j) (λ e. h (eqb-true i j e))

pub coefficient-other : (t : Term) (ts : List Term) (j : ℕ) → (t.0 == j) ≡ false → coefficient (t ∷ ts) j ≡ coefficient ts j
coefficient-other t ts j e = rw e (omega (arith, ints))

coefficient-own : (t : Term) (ts : List Term) (j : ℕ) → (t.0 == j) ≡ true → coefficient (t ∷ ts) j ≡ t.1 +ℤ coefficient ts j
coefficient-own t ts j e = rw e refl

coefficient-below : (k : ℕ) (ts : List Term) (j : ℕ) → Rising k ts → j < k → coefficient ts j ≡ pos 0
coefficient-below k [] j h l = refl
coefficient-below k (t ∷ ts) j h l =
    coefficient-other t ts j (other t.0 j (λ e. omega (arith, h.0)))
    ∙ coefficient-below t.0 ts j h.1 (omega (arith, h.0))

-- one variable that comes twice
merge-two : (b : Bool) (v w c : ℤ) → (if b then v +ℤ w else pos 0) +ℤ c ≡ (if b then v else pos 0) +ℤ ((if b then w else pos 0) +ℤ c)
merge-two true v w c = omega (arith, ints)
merge-two false v w c = omega (arith, ints)

coefficient-merged : (j : ℕ) (v : ℤ) (t : Term) (ts : List Term) (i : ℕ) → t.0 ≡ j → coefficient ((j, v +ℤ t.1) ∷ ts) i ≡ coefficient ((j, v) ∷ t ∷ ts) i
coefficient-merged j v t ts i e = merge-two (j == i) v t.1 (coefficient ts i) ∙ ap (λ k. (if j == i then v else pos 0) +ℤ ((if k == i then t.1 else pos 0) +ℤ coefficient ts i)) (sym e)

past-tail : (t : Term) (ts : List Term) (n : ℕ) → past (t ∷ ts) ≤ n → (t.0 < n) × (past ts ≤ n)
past-tail t ts n h = (omega arith, omega arith)

span-alone : (j : ℕ) (v : ℤ) (us : List Term) (e : ℕ) → coefficient us j ≡ v → ((i : ℕ) → j + 1 ≤ i → i < j + 1 + e → coefficient us i ≡ pos 0) → span j (suc e) us ≡ emitted j v
span-alone j v us e first rest =
    ap (λ w. with_first j w (span (j + 1) e us)) first
    ∙ ap (λ more. with_first j v more) (span-empty (j + 1) e us rest)

own : (j : ℕ) → (j == j) ≡ true
own j = eq-eqb j j refl

-- a term stands alone up to the next variable
alone : (j e m : ℕ) (v : ℤ) (t : Term) (ts : List Term) → Rising t.0 ts → t.0 ≡ j + suc e → span j (suc e + m) ((j, v) ∷ t ∷ ts) ≡ emitted j v ++ span t.0 m (t ∷ ts)
alone j e m v t ts r next =
    let us : List Term = (j, v) ∷ t ∷ ts in
    let rising : Rising t.0 (t ∷ ts) = (omega arith, r) in
    let first : coefficient us j ≡ v = coefficient-own (j, v) (t ∷ ts) j (own j) ∙ (ap (λ c. v +ℤ c) (coefficient-below t.0 (t ∷ ts) j rising (omega arith)) ∙ omega (arith, ints)) in
    let rest : (i : ℕ) → j + 1 ≤ i → i < j + 1 + e → coefficient us i ≡ pos 0 = λ i low high. coefficient-other (j, v) (t ∷ ts) i (other j i (λ same. omega arith)) ∙ coefficient-below t.0 (t ∷ ts) i rising (omega arith) in
    let later : (i : ℕ) → t.0 ≤ i → coefficient us i ≡ coefficient (t ∷ ts) i = λ i low. coefficient-other (j, v) (t ∷ ts) i (other j i (λ same. omega arith)) in
    span-split j (suc e) m us
    ∙ (ap (λ front. front ++ span (j + suc e) m us) (span-alone j v us e first rest)
    ∙ (ap (λ k. emitted j v ++ span k m us) (sym next)
    ∙ ap (λ back. emitted j v ++ back) (span-agree t.0 m us (t ∷ ts) later)))

-- the claim of the terms that are left
abbrev Spans : List Term → Type 0
Spans ts = (j : ℕ) (v : ℤ) (n : ℕ) → Rising j ts → past ts ≤ j + n → 1 ≤ n → merged j v ts ≡ span j n ((j, v) ∷ ts)

merged-turn : (b : Bool) (t : Term) (ts : List Term) (j : ℕ) (v : ℤ) (n : ℕ) → (t.0 == j) ≡ b → Rising j (t ∷ ts) → past (t ∷ ts) ≤ j + n → Spans ts → (if b then merged j (v +ℤ t.1) ts else emitted j v ++ merged t.0 t.1 ts) ≡ span j n ((j, v) ∷ t ∷ ts)
merged-turn true t ts j v n e r bound ih =
    let same : t.0 ≡ j = eqb-true t.0 j e in
    let some : 1 ≤ n = omega arith in
    let short : past ts ≤ j + n = omega arith in
    ih j (v +ℤ t.1) n (subst (λ k. Rising k ts) same r.1) short some ∙ span-agree j n ((j, v +ℤ t.1) ∷ ts) ((j, v) ∷ t ∷ ts) (λ i _. coefficient-merged j v t ts i same)
merged-turn false t ts j v n e r bound ih =
    let ne : t.0 ≡ j → ⊥ = λ same. let h = eq-eqb t.0 j same in cc in
    let above : j ≤ t.0 = r.0 in
    let next : t.0 ≡ j + suc (t.0 - j - 1) = omega arith in
    let count : n ≡ suc (t.0 - j - 1) + (j + n - t.0) = omega arith in
    let some : 1 ≤ j + n - t.0 = omega arith in
    let short : past ts ≤ t.0 + (j + n - t.0) = omega arith in
    ap (λ back. emitted j v ++ back) (ih t.0 t.1 (j + n - t.0) r.1 short some)
    ∙ (sym (alone j (t.0 - j - 1) (j + n - t.0) v t ts r.1 next)
    ∙ ap (λ k. span j k ((j, v) ∷ t ∷ ts)) (sym count))

merged-none : (j : ℕ) (v : ℤ) (n : ℕ) → 1 ≤ n → emitted j v ≡ span j n ((j, v) ∷ [])
merged-none j v zero some = absurd (omega arith)
merged-none j v (suc m) some =
    let first : coefficient ((j, v) ∷ []) j ≡ v = coefficient-own (j, v) [] j (own j) ∙ omega (arith, ints) in
    sym (span-alone j v ((j, v) ∷ []) m first (λ i low high. coefficient-other (j, v) [] i (other j i (λ same. omega arith))))

merged-span : (ts : List Term) → Spans ts
merged-span [] = λ j v n r bound some. merged-none j v n some
merged-span (t ∷ ts) = λ j v n r bound some. merged-turn (t.0 == j) t ts j v n refl r bound (merged-span ts)

-- sums of lists with the same terms
plus : ℤ → ℕ
plus (pos n) = n
plus (negsuc n) = 0

minus : ℤ → ℕ
minus (pos n) = 0
minus (negsuc n) = suc n

abbrev plus_at : ℕ → Term → ℕ
plus_at j t = if t.0 == j then plus t.1 else 0

abbrev minus_at : ℕ → Term → ℕ
minus_at j t = if t.0 == j then minus t.1 else 0

parts-of-number : (z : ℤ) → z +ℤ pos (minus z) ≡ pos (plus z)
unfolding plus minus
parts-of-number (pos n) = omega (arith, ints)
parts-of-number (negsuc n) = omega (arith, ints)

part-step : (b : Bool) (z c : ℤ) (m p : ℕ) → c +ℤ pos m ≡ pos p → ((if b then z else pos 0) +ℤ c) +ℤ pos ((if b then minus z else 0) + m) ≡ pos ((if b then plus z else 0) + p)
part-step true z c m p h = let e = parts-of-number z in omega (arith, ints)
part-step false z c m p h = omega (arith, ints)

coefficient-parts : (ts : List Term) (j : ℕ) → coefficient ts j +ℤ pos (sum_by (minus_at j) ts) ≡ pos (sum_by (plus_at j) ts)
coefficient-parts [] j = refl
coefficient-parts (t ∷ ts) j = rw (sum_by-cons (minus_at j) t ts, sum_by-cons (plus_at j) t ts) (part-step (t.0 == j) t.1 (coefficient ts j) (sum_by (minus_at j) ts) (sum_by (plus_at j) ts) (coefficient-parts ts j))

coefficient-permuted : (xs ys : List Term) → IsPermutation xs ys → (j : ℕ) → coefficient ys j ≡ coefficient xs j
coefficient-permuted xs ys h j =
    let a = coefficient-parts xs j in
    let b = coefficient-parts ys j in
    let m = sum_by-IsPermutation (minus_at j) xs ys h in
    let p = sum_by-IsPermutation (plus_at j) xs ys h in
    omega (arith, ints)

past-all : (ts : List Term) → All (λ t. t.0 < past ts) ts
past-all [] = All-nil _
past-all (t ∷ ts) = All-cons (λ u. u.0 < past (t ∷ ts)) t ts (omega arith) (All-weaker (λ (u : Term). u.0 < past ts) (λ u. u.0 < past (t ∷ ts)) (λ u h. omega arith) ts (past-all ts))

pub past-below : (ts : List Term) (n : ℕ) → All (λ t. t.0 < n) ts → past ts ≤ n
past-below [] n h = omega arith
past-below (t ∷ ts) n h =
    let a : t.0 < n = All-head (λ (u : Term). u.0 < n) t ts h in
    let b = past-below ts n (All-tail (λ (u : Term). u.0 < n) t ts h) in
    omega arith

past-permuted : (xs ys : List Term) → IsPermutation xs ys → past ys ≤ past xs
past-permuted xs ys h = past-below ys (past xs) (All-permutation (λ (t : Term). t.0 < past xs) xs ys h (past-all xs))

pub collected-permuted : (xs ys : List Term) → IsPermutation xs ys → collected ys ≡ collected xs
collected-permuted xs ys h =
    let e : past ys ≡ past xs = omega (arith, past-permuted xs ys h, past-permuted ys xs (IsPermutation-sym xs ys h)) in
    ap (λ n. span 0 n ys) e ∙ span-agree 0 (past xs) ys xs (λ j _. coefficient-permuted xs ys h j)

-- terms in order
rising-from : (k : ℕ) (ts : List Term) → ((i : ℕ) (d : Term) → i < length ts → k ≤ (get_or ts i d).0) → IsNonDecreasingBy (λ t. t.0) ts → Rising k ts
rising-from k [] f h = tt
rising-from k (t ∷ ts) f h =
    (f 0 t (omega arith), rising-from t.0 ts (λ i d l. h 0 (suc i) d (omega arith) (omega arith)) (λ i j d l m. h (suc i) (suc j) d (omega arith) (omega arith)))

no-first : (b : Bool) (c : ℤ) → (if b then pos 0 else pos 0) +ℤ c ≡ c
no-first true c = omega (arith, ints)
no-first false c = omega (arith, ints)

pub merged-collected : (ts : List Term) → IsNonDecreasingBy (λ t. t.0) ts → merged 0 (pos 0) ts ≡ collected ts
merged-collected [] h = refl
merged-collected (t ∷ ts) h =
    let some : 1 ≤ past (t ∷ ts) = omega arith in
    let bound : past (t ∷ ts) ≤ 0 + past (t ∷ ts) = omega arith in
    merged-span (t ∷ ts) 0 (pos 0) (past (t ∷ ts)) (rising-from 0 (t ∷ ts) (λ i d l. omega arith) h) bound some
    ∙ span-agree 0 (past (t ∷ ts)) ((0, pos 0) ∷ t ∷ ts) (t ∷ ts) (λ i _. no-first (0 == i) (coefficient (t ∷ ts) i))

-- not turned, the terms stay
pub turned-plain : (negate : Bool) (ts : List Term) → negate ≡ false → turned_terms negate ts ≡ ts
turned-plain true ts h = cc
turned-plain false [] h = refl
turned-plain false (t ∷ ts) h = ap (λ us. t ∷ us) (turned-plain false ts h)
