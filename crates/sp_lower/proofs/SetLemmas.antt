-- Members that were sorted are those in order of weight, and equal weights stand side by side.
use Rattle.std.proofs.Common.{◌≡◌, ◌≢◌, All, AllPairs, ℕ, suc, ◌+◌, ◌<◌, ◌≤◌, Bool, true, false, ◌&&◌, ◌||◌, ◌==◌, List, [], ◌∷◌, length, get_or, drop, map, refl, ap, ◌∙◌, sym, subst, arith, inl, inr, is_lt, int_cmp, Ordering, Less, add-one, drop-cons, ℤ, ◌≤ℤ◌, ◌<ℤ◌}
use Rattle.std.specs.Prelude.{if◌then◌else◌, sum_by, int_lt, nat_lt}
use Rattle.std.specs.List.{list_any}
use Rattle.std.specs.List.Sorted.{IsPermutation, IsSortedBy}
use Rattle.std.specs.Ordering.{int_eq}
use Rattle.std.proofs.lemmas.Bool.{cases_Bool, eqb-true, eq-eqb, ltb-true, lt-ltb}
use Rattle.std.proofs.lemmas.Int.{ints}
use Rattle.std.proofs.lemmas.List.{length-drop}
use Rattle.std.proofs.lemmas.List.Elements.{All-nil, All-cons}
use Rattle.std.proofs.lemmas.List.Kept.{AllPairs-cons}
use Rattle.std.proofs.lemmas.List.Sums.{sum_by-cons}
use Rattle.std.proofs.lemmas.List.Sorted.{sum_by-IsPermutation}
use Rattle.sp_scaling.specs.Scaling.{WrittenTerm}
use Rattle.sp_lower.specs.Sets.{weight_of, placed, by_weight, count_where, weighs, has_tie, has_twin, members_of, is_bad_set}
use Rattle.sp_draft.specs.declared.drafts.DraftSos.{DraftSos}
use Rattle.sp_lower.specs.InnerSets.{rises}

-- ---- tests of whole numbers

lt_yes : (a b : ℤ) → int_lt a b ≡ true → a <ℤ b
lt_yes a b h = grind (arith, ints)

lt_no : (a b : ℤ) → int_lt a b ≡ false → b ≤ℤ a
lt_no a b h = grind (arith, ints)

eq_no : (a b : ℤ) → a <ℤ b → int_eq a b ≡ false
eq_no a b h = grind (arith, ints)

eq_same : (a b : ℤ) → a ≡ b → int_eq a b ≡ true
eq_same a b h = grind (arith, ints)

eq_yes : (a b : ℤ) → int_eq a b ≡ true → a ≡ b
eq_yes a b h = grind (arith, ints)

cmp_less : (a b : ℤ) → is_lt (int_cmp a b) ≡ int_lt a b
cmp_less a b =
    elim (cases_Bool (int_lt a b)) [
      | inl t ↦ rw t refl
      | inr f ↦ (elim (cases_Bool (int_lt b a)) [ inl t ↦ rw (f, t) refl | inr g ↦ rw (f, g) refl ])
    ]

strict : (a b : ℤ) → a ≤ℤ b → (a ≡ b → ⊥) → a <ℤ b
strict a b h k = elim (cases_Bool (int_lt a b)) [ inl t ↦ lt_yes a b t | inr f ↦ (let g = lt_no a b f in absurd (k (omega (arith, ints)))) ]

neither : (a b : ℤ) → (a <ℤ b → ⊥) → (b <ℤ a → ⊥) → a ≡ b
neither a b h k =
    elim (cases_Bool (int_lt a b)) [
      | inl t ↦ absurd (h (lt_yes a b t))
      | inr f ↦ (let g = lt_no a b f in elim (cases_Bool (int_lt b a)) [ inl t ↦ absurd (k (lt_yes b a t)) | inr u ↦ (let v = lt_no b a u in omega (arith, ints)) ])
    ]

and_right : (a b : Bool) → b ≡ false → (a && b) ≡ false
and_right true b h = h
and_right false b h = refl

tails : (a b : Bool) (m n : ℕ) → a ≡ b → (if a then 1 else 0) + m ≡ (if b then 1 else 0) + n → m ≡ n
tails true true m n e h = omega arith
tails true false m n e h = cc
tails false true m n e h = cc
tails false false m n e h = omega arith

-- ---- rising members

-- all members are heavier than this
Above : ℤ → List WrittenTerm → Type 0
Above k [] = Unit {0}
Above k (m ∷ ms) = (k <ℤ weight_of m) × Above k ms

-- each member is lighter than all later ones
Rising : List WrittenTerm → Type 0
Rising [] = Unit {0}
Rising (m ∷ ms) = Above (weight_of m) ms × Rising ms

above_more : (k l : ℤ) (ms : List WrittenTerm) → k ≤ℤ l → Above l ms → Above k ms
unfolding Above
above_more k l [] h a = tt
above_more k l (m ∷ ms) h a = (let b = a.0 in omega (arith, ints), above_more k l ms h a.1)

and_both : (a b : Bool) → (a && b) ≡ true → (a ≡ true) × (b ≡ true)
and_both true b h = (refl, h)
and_both false b h = cc

-- the test says so
rises_rising : (ms : List WrittenTerm) → rises ms ≡ true → Rising ms
unfolding Above Rising
rises_rising [] h = tt
rises_rising (m ∷ []) h = (tt, tt)
rises_rising (m ∷ n ∷ ms) h =
    let parts = and_both (int_lt (weight_of m) (weight_of n)) (rises (n ∷ ms)) h in
    let less = lt_yes (weight_of m) (weight_of n) parts.0 in
    let rest = rises_rising (n ∷ ms) parts.1 in
    ((less, above_more (weight_of m) (weight_of n) ms (omega (arith, ints)) rest.0), rest)

-- ---- counts

pick : (test : WrittenTerm → Bool) → WrittenTerm → ℕ
pick test m = if test m then 1 else 0

count_summed : (test : WrittenTerm → Bool) (ms : List WrittenTerm) → count_where test ms ≡ sum_by (pick test) ms
unfolding pick
count_summed test [] = refl
count_summed test (m ∷ ms) = ap (λ n. (if test m then 1 else 0) + n) (count_summed test ms) ∙ sym (sum_by-cons (pick test) m ms)

count_permuted : (test : WrittenTerm → Bool) (xs ys : List WrittenTerm) → IsPermutation xs ys → count_where test ys ≡ count_where test xs
count_permuted test xs ys h = count_summed test ys ∙ (sum_by-IsPermutation (pick test) xs ys h ∙ sym (count_summed test xs))

count_yes : (test : WrittenTerm → Bool) (m : WrittenTerm) (ms : List WrittenTerm) → test m ≡ true → count_where test (m ∷ ms) ≡ 1 + count_where test ms
count_yes test m ms h = rw h refl

count_no : (test : WrittenTerm → Bool) (m : WrittenTerm) (ms : List WrittenTerm) → test m ≡ false → count_where test (m ∷ ms) ≡ count_where test ms
count_no test m ms h = rw h (omega arith)

count_more : (test : WrittenTerm → Bool) (m : WrittenTerm) (ms : List WrittenTerm) → count_where test ms ≤ count_where test (m ∷ ms)
count_more test m ms = elim (cases_Bool (test m)) [ inl t ↦ omega (arith, count_yes test m ms t) | inr f ↦ omega (arith, count_no test m ms f) ]

-- no member above a weight has it
count_above : (k l : ℤ) (ms : List WrittenTerm) → k ≤ℤ l → Above l ms → count_where (weighs k) ms ≡ 0
unfolding Above
count_above k l [] h a = refl
count_above k l (m ∷ ms) h a =
    let less : k <ℤ weight_of m = (let b = a.0 in omega (arith, ints)) in
    count_no (weighs k) m ms (eq_no k (weight_of m) less) ∙ count_above k l ms h a.1

-- a weight stands in rising members at most once
count_rising : (k : ℤ) (ms : List WrittenTerm) → Rising ms → count_where (weighs k) ms ≤ 1
unfolding Rising
count_rising k [] r = omega arith
count_rising k (m ∷ ms) r =
    elim (cases_Bool (weighs k m)) [
      | inl t ↦ (let e = eq_yes k (weight_of m) t in
          let none = count_above k (weight_of m) ms (omega (arith, ints)) r.0 in
          omega (arith, count_yes (weighs k) m ms t))
      | inr f ↦ omega (arith, count_no (weighs k) m ms f, count_rising k ms r.1)
    ]

-- ---- ties

lt_false : (n : ℕ) → n ≤ 1 → nat_lt 1 n ≡ false
lt_false n h = elim (cases_Bool (nat_lt 1 n)) [ inl t ↦ (let l = ltb-true 1 n t in absurd (omega arith)) | inr f ↦ f ]

none_tied : (xs zs : List WrittenTerm) → ((k : ℤ) → count_where (weighs k) xs ≤ 1) → list_any (λ m. nat_lt 1 (count_where (weighs (weight_of m)) xs)) zs ≡ false
none_tied xs [] h = refl
none_tied xs (m ∷ zs) h = rw (lt_false (count_where (weighs (weight_of m)) xs) (h (weight_of m))) (none_tied xs zs h)

-- where the sorted members rise, there is no tie
pub no_tie : (xs ys : List WrittenTerm) → IsPermutation xs ys → rises ys ≡ true → has_tie xs ≡ false
no_tie xs ys h r =
    none_tied xs xs (λ k. omega (arith, count_permuted (weighs k) xs ys h, count_rising k ys (rises_rising ys r)))

or_true : (a b : Bool) → b ≡ true → (a || b) ≡ true
or_true true b h = refl
or_true false b h = h

one_tied : (k : ℤ) (xs zs : List WrittenTerm) → 1 < count_where (weighs k) xs → 0 < count_where (weighs k) zs → list_any (λ m. nat_lt 1 (count_where (weighs (weight_of m)) xs)) zs ≡ true
one_tied k xs [] h l = absurd (omega arith)
one_tied k xs (m ∷ zs) h l =
    elim (cases_Bool (weighs k m)) [
      | inl t ↦ (let e = eq_yes k (weight_of m) t in
          let two : nat_lt 1 (count_where (weighs (weight_of m)) xs) ≡ true = subst (λ w. nat_lt 1 (count_where (weighs w) xs) ≡ true) e (lt-ltb 1 (count_where (weighs k) xs) h) in
          rw two refl)
      | inr f ↦ (let rest = one_tied k xs zs h (omega (arith, count_no (weighs k) m zs f)) in or_true (nat_lt 1 (count_where (weighs (weight_of m)) xs)) _ rest)
    ]

-- ---- going along members

next_item : {X : Type 0} (xs : List X) (i : ℕ) (x : X) → i < length xs → x ≡ get_or xs i x → drop i xs ≡ x ∷ drop (i + 1) xs
next_item xs i x h e = rw add-one (drop-cons xs i x h ∙ ap (λ v. v ∷ drop (suc i) xs) (sym e))

two_items : (ms : List WrittenTerm) (i : ℕ) (m n : WrittenTerm) → i + 1 < length ms → m ≡ get_or ms i m → n ≡ get_or ms (i + 1) n → drop i ms ≡ m ∷ n ∷ drop (i + 1 + 1) ms
two_items ms i m n h e f = next_item ms i m (omega arith) e ∙ ap (λ rest. m ∷ rest) (next_item ms (i + 1) n h f)

and_left : (a b : Bool) → a ≡ true → (a && b) ≡ b
and_left true b h = refl
and_left false b h = cc

and_false : (a b : Bool) → a ≡ false → (a && b) ≡ false
and_false true b h = cc
and_false false b h = refl

-- the next member is heavier
pub rises_on : (ms : List WrittenTerm) (i : ℕ) (m n : WrittenTerm) → i + 1 < length ms → m ≡ get_or ms i m → n ≡ get_or ms (i + 1) n → Less ≡ int_cmp (weight_of m) (weight_of n) → rises (drop i ms) ≡ rises (drop (i + 1) ms)
rises_on ms i m n h e f less =
    let lt : int_lt (weight_of m) (weight_of n) ≡ true = sym (cmp_less (weight_of m) (weight_of n)) ∙ ap is_lt (sym less) in
    ap rises (two_items ms i m n h e f)
    ∙ (and_left (int_lt (weight_of m) (weight_of n)) (rises (n ∷ drop (i + 1 + 1) ms)) lt ∙ ap rises (sym (next_item ms (i + 1) n h f)))

-- it isn't
pub rises_not : (ms : List WrittenTerm) (i : ℕ) (m n : WrittenTerm) (o : Ordering) → i + 1 < length ms → m ≡ get_or ms i m → n ≡ get_or ms (i + 1) n → o ≡ int_cmp (weight_of m) (weight_of n) → is_lt o ≡ false → rises (drop i ms) ≡ false
rises_not ms i m n o h e f is nay =
    let lt : int_lt (weight_of m) (weight_of n) ≡ false = sym (cmp_less (weight_of m) (weight_of n)) ∙ (ap is_lt (sym is) ∙ nay) in
    ap rises (two_items ms i m n h e f) ∙ and_false (int_lt (weight_of m) (weight_of n)) (rises (n ∷ drop (i + 1 + 1) ms)) lt

rises_short : (ms : List WrittenTerm) → length ms ≤ 1 → rises ms ≡ true
rises_short [] h = refl
rises_short (m ∷ []) h = refl
rises_short (m ∷ n ∷ ms) h = absurd (omega arith)

-- at most one member is left
pub rises_end : (ms : List WrittenTerm) (i : ℕ) → length ms ≤ i + 1 → rises (drop i ms) ≡ true
rises_end ms i h = rises_short (drop i ms) (omega (arith, length-drop i ms))

-- ---- equal weights side by side

sorted_tail : (m : WrittenTerm) (ms : List WrittenTerm) → IsSortedBy (λ a b. is_lt (int_cmp (weight_of a) (weight_of b))) (m ∷ ms) → IsSortedBy (λ a b. is_lt (int_cmp (weight_of a) (weight_of b))) ms
sorted_tail m ms s = λ k d l h. let e : suc k + 1 ≡ suc (k + 1) = omega arith in rw e at (s (suc k) d (omega arith) (omega arith))

-- sorted members that don't rise have a weight twice
twice : (ys : List WrittenTerm) → IsSortedBy (λ a b. is_lt (int_cmp (weight_of a) (weight_of b))) ys → rises ys ≡ false → (k : ℤ) × (1 < count_where (weighs k) ys)
twice [] s r = cc
twice (m ∷ []) s r = cc
twice (m ∷ n ∷ ms) s r =
    elim (cases_Bool (int_lt (weight_of m) (weight_of n))) [
      | inl t ↦ (let rest : rises (n ∷ ms) ≡ false = sym (and_left (int_lt (weight_of m) (weight_of n)) (rises (n ∷ ms)) t) ∙ r in
          let more = twice (n ∷ ms) (sorted_tail m (n ∷ ms) s) rest in
          (more.0, omega (arith, more.1, count_more (weighs more.0) m (n ∷ ms))))
      | inr f ↦ (let not_less = sym (cmp_less (weight_of n) (weight_of m)) ∙ s 0 m (omega arith) (omega arith) in
          let up = lt_no (weight_of n) (weight_of m) not_less in
          let down = lt_no (weight_of m) (weight_of n) f in
          let same : weight_of m ≡ weight_of n = omega (arith, ints) in
          let first = count_yes (weighs (weight_of m)) m (n ∷ ms) (eq_same (weight_of m) (weight_of m) refl) in
          let second = count_yes (weighs (weight_of m)) n ms (eq_same (weight_of m) (weight_of n) same) in
          (weight_of m, omega arith))
    ]

-- where the sorted members don't rise, there is a tie
pub a_tie : (xs ys : List WrittenTerm) → IsPermutation xs ys → IsSortedBy (λ a b. is_lt (int_cmp (weight_of a) (weight_of b))) ys → rises ys ≡ false → has_tie xs ≡ true
a_tie xs ys h s r =
    let found = twice ys s r in
    let same = count_permuted (weighs found.0) xs ys h in
    let more = found.1 in
    one_tied found.0 xs xs (omega arith) (omega arith)

-- ---- the members in order of weight

count_swap : (test : WrittenTerm → Bool) (m n : WrittenTerm) (ms : List WrittenTerm) → count_where test (m ∷ n ∷ ms) ≡ count_where test (n ∷ m ∷ ms)
count_swap test m n ms = omega arith

count_choice : (test : WrittenTerm → Bool) (b : Bool) (xs ys : List WrittenTerm) (n : ℕ) → count_where test xs ≡ n → count_where test ys ≡ n → count_where test (if b then xs else ys) ≡ n
count_choice test true xs ys n h k = h
count_choice test false xs ys n h k = k

count_placed : (test : WrittenTerm → Bool) (m : WrittenTerm) (ms : List WrittenTerm) → count_where test (placed m ms) ≡ count_where test (m ∷ ms)
count_placed test m [] = refl
count_placed test m (n ∷ ms) =
    count_choice test (int_lt (weight_of m) (weight_of n)) (m ∷ n ∷ ms) (n ∷ placed m ms) _ refl
    (ap (λ k. (if test n then 1 else 0) + k) (count_placed test m ms) ∙ count_swap test n m ms)

count_ordered : (test : WrittenTerm → Bool) (ms : List WrittenTerm) → count_where test (by_weight ms) ≡ count_where test ms
count_ordered test [] = refl
count_ordered test (m ∷ ms) = count_placed test m (by_weight ms) ∙ ap (λ k. (if test m then 1 else 0) + k) (count_ordered test ms)

above_placed : (k : ℤ) (m : WrittenTerm) (ms : List WrittenTerm) → k <ℤ weight_of m → Above k ms → Above k (placed m ms)
unfolding Above
above_placed k m [] h a = (h, tt)
above_placed k m (n ∷ ms) h a =
    elim (cases_Bool (int_lt (weight_of m) (weight_of n))) [
      | inl t ↦ rw t (h, a)
      | inr f ↦ rw f (a.0, above_placed k m ms h a.1)
    ]

rising_placed : (m : WrittenTerm) (ms : List WrittenTerm) → Rising ms → count_where (weighs (weight_of m)) ms ≡ 0 → Rising (placed m ms)
unfolding Above Rising
rising_placed m [] r h = (tt, tt)
rising_placed m (n ∷ ms) r h =
    elim (cases_Bool (int_lt (weight_of m) (weight_of n))) [
      | inl t ↦ (let less = lt_yes (weight_of m) (weight_of n) t in rw t ((less, above_more (weight_of m) (weight_of n) ms (omega (arith, ints)) r.0), r))
      | inr f ↦ (let low = lt_no (weight_of m) (weight_of n) f in
          let apart : weight_of m ≡ weight_of n → ⊥ = λ e. (let k = count_yes (weighs (weight_of m)) n ms (eq_same (weight_of m) (weight_of n) e) in absurd (omega arith)) in
          let less : weight_of n <ℤ weight_of m = strict (weight_of n) (weight_of m) low (λ e. apart (sym e)) in
          let rest : count_where (weighs (weight_of m)) ms ≡ 0 = omega (arith, count_more (weighs (weight_of m)) n ms) in
          rw f (above_placed (weight_of n) m ms less r.0, rising_placed m ms r.1 rest))
    ]

rising_ordered : (ms : List WrittenTerm) → ((k : ℤ) → count_where (weighs k) ms ≤ 1) → Rising (by_weight ms)
unfolding Rising
rising_ordered [] h = tt
rising_ordered (m ∷ ms) h =
    let one = h (weight_of m) in
    let own = count_yes (weighs (weight_of m)) m ms (eq_same (weight_of m) (weight_of m) refl) in
    let none : count_where (weighs (weight_of m)) (by_weight ms) ≡ 0 = omega (arith, count_ordered (weighs (weight_of m)) ms) in
    rising_placed m (by_weight ms) (rising_ordered ms (λ k. omega (arith, h k, count_more (weighs k) m ms))) none

-- a member with this weight and this variable
is_of : ℤ → ℕ → WrittenTerm → Bool
is_of k v m = weighs k m && (v == m.0)

is_of_own : (m : WrittenTerm) → is_of (weight_of m) m.0 m ≡ true
unfolding is_of
is_of_own m = rw (eq_same (weight_of m) (weight_of m) refl, eq-eqb m.0 m.0 refl) refl

count_of_above : (k l : ℤ) (v : ℕ) (ms : List WrittenTerm) → k ≤ℤ l → Above l ms → count_where (is_of k v) ms ≡ 0
unfolding Above is_of
count_of_above k l v [] h a = refl
count_of_above k l v (m ∷ ms) h a =
    let less : k <ℤ weight_of m = (let b = a.0 in omega (arith, ints)) in
    count_no (is_of k v) m ms (and_false (weighs k m) (v == m.0) (eq_no k (weight_of m) less)) ∙ count_of_above k l v ms h a.1

-- what the first members have in common
heads : (x y : WrittenTerm) (xs ys : List WrittenTerm) → Above (weight_of x) xs → Above (weight_of y) ys
    → ((k : ℤ) (v : ℕ) → count_where (is_of k v) (x ∷ xs) ≡ count_where (is_of k v) (y ∷ ys)) → (weight_of x ≡ weight_of y) × (x.0 ≡ y.0)
unfolding is_of
heads x y xs ys a b same =
    let mine = count_yes (is_of (weight_of x) x.0) x xs (is_of_own x) in
    let yours = count_yes (is_of (weight_of y) y.0) y ys (is_of_own y) in
    let p = same (weight_of x) x.0 in
    let q = same (weight_of y) y.0 in
    let low : weight_of x <ℤ weight_of y → ⊥ = λ l. (
    let first = count_no (is_of (weight_of x) x.0) y ys (and_false (weighs (weight_of x) y) (x.0 == y.0) (eq_no (weight_of x) (weight_of y) l)) in
    let rest = count_of_above (weight_of x) (weight_of y) x.0 ys (omega (arith, ints)) b in absurd (omega arith)) in
    let high : weight_of y <ℤ weight_of x → ⊥ = λ l. (
    let first = count_no (is_of (weight_of y) y.0) x xs (and_false (weighs (weight_of y) x) (y.0 == x.0) (eq_no (weight_of y) (weight_of x) l)) in
    let rest = count_of_above (weight_of y) (weight_of x) y.0 xs (omega (arith, ints)) a in absurd (omega arith)) in
    let weight : weight_of x ≡ weight_of y = neither (weight_of x) (weight_of y) low high in
    let var : x.0 ≡ y.0 = elim (cases_Bool (x.0 == y.0)) [
      | inl t ↦ eqb-true x.0 y.0 t
      | inr f ↦ (let first = count_no (is_of (weight_of x) x.0) y ys (and_right (weighs (weight_of x) y) (x.0 == y.0) f) in
          let rest = count_of_above (weight_of x) (weight_of y) x.0 ys (omega (arith, ints)) b in absurd (omega arith))
    ] in
    (weight, var)

first_same : (x y : WrittenTerm) (k : ℤ) (v : ℕ) → weight_of x ≡ weight_of y → x.0 ≡ y.0 → is_of k v x ≡ is_of k v y
unfolding is_of
first_same x y k v e f = ap (λ w. int_eq k w && (v == x.0)) e ∙ ap (λ u. int_eq k (weight_of y) && (v == u)) f

-- rising members with the same weights and variables have the same variables in the same order
same_vars : (xs ys : List WrittenTerm) → Rising xs → Rising ys → ((k : ℤ) (v : ℕ) → count_where (is_of k v) xs ≡ count_where (is_of k v) ys) → map (λ m. m.0) xs ≡ map (λ m. m.0) ys
unfolding Rising
same_vars [] [] r s same = refl
same_vars [] (y ∷ ys) r s same = (let own = count_yes (is_of (weight_of y) y.0) y ys (is_of_own y) in let e = same (weight_of y) y.0 in absurd (omega arith))
same_vars (x ∷ xs) [] r s same = (let own = count_yes (is_of (weight_of x) x.0) x xs (is_of_own x) in let e = same (weight_of x) x.0 in absurd (omega arith))
same_vars (x ∷ xs) (y ∷ ys) r s same =
    let h = heads x y xs ys r.0 s.0 same in
    let rest : (k : ℤ) (v : ℕ) → count_where (is_of k v) xs ≡ count_where (is_of k v) ys = λ k v. (let e = same k v in let f = first_same x y k v h.0 h.1 in tails (is_of k v x) (is_of k v y) _ _ f e) in
    ap (λ v. v ∷ map (λ m. m.0) xs) h.1 ∙ ap (λ vs. y.0 ∷ vs) (same_vars xs ys r.1 s.1 rest)

-- sorted members that rise are those in order of weight
pub ordered_vars : (xs ys : List WrittenTerm) → IsPermutation xs ys → rises ys ≡ true → map (λ m. m.0) (by_weight xs) ≡ map (λ m. m.0) ys
ordered_vars xs ys h r =
    let up = rises_rising ys r in
    same_vars (by_weight xs) ys (rising_ordered xs (λ k. omega (arith, count_permuted (weighs k) xs ys h, count_rising k ys up))) up
    (λ k v. count_ordered (is_of k v) xs ∙ sym (count_permuted (is_of k v) xs ys h))

-- ---- a variable twice

differ_test : (v w : ℕ) → (v ≡ w → ⊥) → (v == w) ≡ false
differ_test v w h = elim (cases_Bool (v == w)) [ inl t ↦ absurd (h (eqb-true v w t)) | inr f ↦ f ]

pub or_parts : (a b : Bool) → (a || b) ≡ false → (a ≡ false) × (b ≡ false)
or_parts true b h = cc
or_parts false b h = (refl, h)

no_such : (v : ℕ) (ws : List ℕ) → ((k : ℕ) (d : ℕ) → k < length ws → v ≡ get_or ws k d → ⊥) → list_any (λ w. v == w) ws ≡ false
no_such v [] h = refl
no_such v (w ∷ ws) h = rw (differ_test v w (h 0 w (omega arith))) (no_such v ws (λ k d l. h (suc k) d (omega arith)))

-- distinct variables have no twin
pub no_twin : (vs : List ℕ) → AllPairs (λ v w. v ≢ w) vs → has_twin vs ≡ false
no_twin [] h = refl
no_twin (v ∷ vs) h =
    rw (no_such v vs (λ k d l e. h 0 (suc k) d (omega arith) (omega arith) e)) (no_twin vs (λ i j d l m. h (suc i) (suc j) d (omega arith) (omega arith)))

all_differ : (v : ℕ) (ws : List ℕ) → list_any (λ w. v == w) ws ≡ false → All (λ w. v ≢ w) ws
all_differ v [] h = All-nil _
all_differ v (w ∷ ws) h =
    let parts = or_parts (v == w) (list_any (λ u. v == u) ws) h in
    All-cons (λ u. v ≢ u) w ws (λ e. let t = eq-eqb v w e in cc) (all_differ v ws parts.1)

-- and variables without a twin are distinct
pub distinct_pairs : (vs : List ℕ) → has_twin vs ≡ false → AllPairs (λ v w. v ≢ w) vs
distinct_pairs [] h = λ i j d l m. absurd (omega arith)
distinct_pairs (v ∷ vs) h =
    let parts = or_parts (list_any (λ w. v == w) vs) (has_twin vs) h in
    AllPairs-cons (λ u w. u ≢ w) v vs (all_differ v vs parts.0) (distinct_pairs vs parts.1)

-- ---- a bad set

pub tied_set : (set : DraftSos) → has_tie set.members ≡ true → is_bad_set set ≡ true
tied_set set h = rw h refl

pub good_set : (set : DraftSos) → has_tie set.members ≡ false → AllPairs (λ v w. v ≢ w) (members_of set) → is_bad_set set ≡ false
good_set set h d = rw (h, no_twin (members_of set) d) refl

pub twin_set : (set : DraftSos) → (AllPairs (λ v w. v ≢ w) (members_of set) → ⊥) → is_bad_set set ≡ true
twin_set set h = elim (cases_Bool (has_twin (members_of set))) [ inl t ↦ or_true (has_tie set.members) (has_twin (members_of set)) t | inr f ↦ absurd (h (distinct_pairs (members_of set) f)) ]
