-- Chains of places by fingerprints.
use Rattle.std.proofs.Common.{◌≡◌, ◌≢◌, ℕ, zero, suc, ◌-◌, ◌%◌, ◌<◌, ◌≤◌, ◌⊎◌, inl, inr, nat_eq, Bool, true, false, cond, List, [], ◌∷◌, ◌++◌, length, map, replicate, Contains, slice_index_or, slice_set, refl, sym, ap, subst, ◌∙◌, arith}
use Rattle.std.proofs.lemmas.List.{get_or_append_left}
use Rattle.std.proofs.lemmas.Bool.{cases_lt}
use Rattle.std.proofs.lemmas.Bool.Decides.{nat_tests}
use Rattle.sp_dual.specs.Lists.{MultiplierList}
use Rattle.sp_tree.specs.Tables.{list_at}
use Rattle.sp_tree.specs.InnerTables.{print_of, chain_of, latest, AreLinked}
use Rattle.sp_tree.proofs.ListLemmas.{item-set}
use Rattle.sp_tree.proofs.TableLemmas.{list-nowhere}

eq-true : (a b : ℕ) → nat_eq a b ≡ true → a ≡ b
eq-true a b h = grind (arith, nat_tests)

eq-false : (a b : ℕ) → nat_eq a b ≡ false → a ≢ b
eq-false a b h e = grind (arith, nat_tests)

true-or-false : (b : Bool) → (b ≡ true) ⊎ (b ≡ false)
true-or-false true = inl refl
true-or-false false = inr refl

-- the last place before n in a chain: 0, and none is in it; or one more than a place in it, and none behind that
pub record IsLast (prints : List ℕ) (size chain n at : ℕ) : Type 0 where
  pub few : at ≤ n
  pub here : (p : ℕ) → at ≡ suc p → chain_of prints size p ≡ chain
  pub past : (k : ℕ) → at ≤ k → k < n → chain_of prints size k ≢ chain

last-step : (prints : List ℕ) (size chain n at : ℕ) (c : Bool) → nat_eq (chain_of prints size n) chain ≡ c → IsLast prints size chain n at → IsLast prints size chain (suc n) (cond c (suc n) at)
last-step prints size chain n at true h l = record {
  few = omega arith;
  here = λ p e. let same : p ≡ n = omega (arith, e) in rw same (eq-true (chain_of prints size n) chain h);
  past = λ k a b. absurd (omega (arith, a, b));
}
last-step prints size chain n at false h l = record {
  few = let f = l.few in omega (arith, f);
  here = l.here;
  past = λ k a b. elim (cases_lt k n) [
    | inl m ↦ l.past k a m
    | inr m ↦ let same : k ≡ n = omega (arith, b, m) in rw same (eq-false (chain_of prints size n) chain h)
  ];
}

pub latest-last : (prints : List ℕ) (size chain n : ℕ) → IsLast prints size chain n (latest prints size chain n)
latest-last prints size chain zero = record { few = omega arith; here = λ p e. absurd (omega (arith, e)); past = λ k a b. absurd (omega (arith, b)) }
latest-last prints size chain (suc n) = last-step prints size chain n (latest prints size chain n) (nat_eq (chain_of prints size n) chain) refl (latest-last prints size chain n)

-- more fingerprints at the end leave the earlier places in their chains
pub latest-append : (prints more : List ℕ) (size chain n : ℕ) → n ≤ length prints → latest (prints ++ more) size chain n ≡ latest prints size chain n
latest-append prints more size chain zero h = refl
latest-append prints more size chain (suc n) h =
    let same : slice_index_or (prints ++ more) n 0 ≡ slice_index_or prints n 0 = get_or_append_left prints more 0 n (omega (arith, h)) in
    rw (same, latest-append prints more size chain n (omega (arith, h))) refl

-- another item stays
item-other : (xs : List ℕ) (id i x : ℕ) → i ≢ id → slice_index_or (slice_set xs id x) i 0 ≡ slice_index_or xs i 0
item-other [] id i x other = refl
item-other (y ∷ ys) zero zero x other = absurd (other refl)
item-other (y ∷ ys) zero (suc i) x other = refl
item-other (y ∷ ys) (suc id) zero x other = refl
item-other (y ∷ ys) (suc id) (suc i) x other = item-other ys id i x (λ e. other (ap suc e))

cond-yes : (c : Bool) (a b : ℕ) → c ≡ true → cond c a b ≡ a
cond-yes c a b h = rw h refl

cond-no : (c : Bool) (a b : ℕ) → c ≡ false → cond c a b ≡ b
cond-no c a b h = rw h refl

head-step : (prints heads : List ℕ) (size chain n b : ℕ) → chain_of prints size n ≡ chain → chain < length heads → slice_index_or heads b 0 ≡ latest prints size b n
    → slice_index_or (slice_set heads chain (suc n)) b 0 ≡ latest prints size b (suc n)
head-step prints heads size chain n b is chain-in h =
    elim (true-or-false (nat_eq (chain_of prints size n) b)) [
      | inl e ↦
          let same : b ≡ chain = sym (eq-true (chain_of prints size n) b e) ∙ is in
          (rw same (item-set heads chain (suc n) 0 chain-in)) ∙ sym (cond-yes (nat_eq (chain_of prints size n) b) (suc n) (latest prints size b n) e)
      | inr e ↦
          let other : b ≢ chain = λ same. eq-false (chain_of prints size n) b e (is ∙ sym same) in
          item-other heads chain b (suc n) other ∙ h ∙ sym (cond-no (nat_eq (chain_of prints size n) b) (suc n) (latest prints size b n) e)
    ]

-- one more place in its chain
pub linked-step : (prints : List ℕ) (size : ℕ) (next heads : List ℕ) (n chain : ℕ) → AreLinked prints size next heads n → length heads ≡ size → chain_of prints size n ≡ chain → chain < size → n < length next
    → AreLinked prints size (slice_set next n (slice_index_or heads chain 0)) (slice_set heads chain (suc n)) (suc n)
linked-step prints size next heads n chain l sized is chain-in n-in = record {
  heads_are = λ b h. head-step prints heads size chain n b is (omega (arith, sized, chain-in)) (l.heads_are b h);
  next_are = λ p h. elim (cases_lt p n) [
    | inl k ↦ item-other next n p (slice_index_or heads chain 0) (λ e. absurd (omega (arith, e, k))) ∙ l.next_are p k
    | inr k ↦
        let same : p ≡ n = omega (arith, h, k) in
        rw (same, is) (item-set next n (slice_index_or heads chain 0) 0 n-in ∙ l.heads_are chain chain-in)
  ];
}

-- one more fingerprint
pub linked-append : (prints : List ℕ) (size : ℕ) (next heads : List ℕ) (x y : ℕ) → AreLinked prints size next heads (length prints) → length next ≡ length prints → AreLinked (prints ++ (x ∷ [])) size (next ++ (y ∷ [])) heads (length prints)
linked-append prints size next heads x y l long = record {
  heads_are = λ b h. l.heads_are b h ∙ sym (latest-append prints (x ∷ []) size b (length prints) (omega arith));
  next_are = λ p h.
      let same : slice_index_or (prints ++ (x ∷ [])) p 0 ≡ slice_index_or prints p 0 = get_or_append_left prints (x ∷ []) 0 p h in
      get_or_append_left next (y ∷ []) 0 p (omega (arith, long, h)) ∙ l.next_are p h
      ∙ rw same (sym (latest-append prints (x ∷ []) size (chain_of prints size p) p (omega (arith, h))));
}

abbrev pub zeros : ℕ → List ℕ
zeros n = replicate n 0

none-linked : (size b : ℕ) → slice_index_or (zeros size) b 0 ≡ zero
none-linked zero b = refl
none-linked (suc size) zero = refl
none-linked (suc size) (suc b) = none-linked size b

pub nothing-linked : (prints : List ℕ) (size : ℕ) (next : List ℕ) → AreLinked prints size next (zeros size) 0
nothing-linked prints size next = record { heads_are = λ b h. none-linked size b; next_are = λ p h. absurd (omega (arith, h)) }

-- ---- the search along a chain

-- the list may stand before the place m alone, and at is the last place before m in its chain
pub record IsLeft (lists : List MultiplierList) (size : ℕ) (list : MultiplierList) (at m : ℕ) : Type 0 where
  pub few : m ≤ length lists
  pub here : at ≡ latest (map print_of lists) size (print_of list % size) m
  pub none : (k : ℕ) → m ≤ k → k < length lists → list_at lists k ≢ list

print-at : (lists : List MultiplierList) (k : ℕ) → k < length lists → slice_index_or (map print_of lists) k 0 ≡ print_of (list_at lists k)
print-at [] k h = absurd (omega (arith, h))
print-at (m ∷ ms) zero h = refl
print-at (m ∷ ms) (suc k) h = print-at ms k (omega (arith, h))

-- a list at a place of another chain is another one
other-chain : (lists : List MultiplierList) (size : ℕ) (list : MultiplierList) (k : ℕ) → k < length lists → chain_of (map print_of lists) size k ≢ print_of list % size → list_at lists k ≢ list
other-chain lists size list k h other e = other (ap (λ x. x % size) (print-at lists k h ∙ ap print_of e))

pub left-start : (lists : List MultiplierList) (size : ℕ) (list : MultiplierList) (at : ℕ) → at ≡ latest (map print_of lists) size (print_of list % size) (length lists) → IsLeft lists size list at (length lists)
left-start lists size list at e = record { few = omega arith; here = e; none = λ k a b. absurd (omega (arith, a, b)) }

pub left-known : (lists : List MultiplierList) (size : ℕ) (list : MultiplierList) (at m : ℕ) → IsLeft lists size list at m → 0 < at → at ≤ length lists
left-known lists size list at m l from =
    let last = latest-last (map print_of lists) size (print_of list % size) m in
    let few = last.few in
    let few' = l.few in
    let here = l.here in
    omega (arith, few, few', here)

pub left-next : (lists : List MultiplierList) (size : ℕ) (list : MultiplierList) (p m next : ℕ) → IsLeft lists size list (suc p) m → list_at lists p ≢ list
    → next ≡ latest (map print_of lists) size (chain_of (map print_of lists) size p) p → IsLeft lists size list next p
left-next lists size list p m next l other is =
    let last : IsLast (map print_of lists) size (print_of list % size) m (suc p) = subst (λ (x : ℕ). IsLast (map print_of lists) size (print_of list % size) m x) (sym l.here) (latest-last (map print_of lists) size (print_of list % size) m) in
    let few = last.few in
    let few' = l.few in
    record {
      few = omega (arith, few, few');
      here = is ∙ rw (last.here p refl) refl;
      none = λ k a b. elim (cases_lt k (suc p)) [
        | inl h ↦ let same : k ≡ p = omega (arith, a, h) in rw same other
        | inr h ↦ elim (cases_lt k m) [
          | inl j ↦ other-chain lists size list k b (last.past k h j)
          | inr j ↦ l.none k j b
        ]
      ];
    }

pub left-on : (lists : List MultiplierList) (size : ℕ) (list : MultiplierList) (at m next : ℕ) → IsLeft lists size list at m → 0 < at → list_at lists (at - 1) ≢ list
    → next ≡ latest (map print_of lists) size (chain_of (map print_of lists) size (at - 1)) (at - 1) → IsLeft lists size list next (at - 1)
left-on lists size list at m next l from other is =
    let e : at ≡ suc (at - 1) = omega (arith, from) in
    left-next lists size list (at - 1) m next (subst (λ (x : ℕ). IsLeft lists size list x m) e l) other is

pub next-less : (prints : List ℕ) (size : ℕ) (next heads : List ℕ) (n at : ℕ) → AreLinked prints size next heads n → 0 < at → at ≤ n → slice_index_or next (at - 1) 0 < at
next-less prints size next heads n at l from at-in =
    let is = l.next_are (at - 1) (omega (arith, from, at-in)) in
    let last = latest-last prints size (chain_of prints size (at - 1)) (at - 1) in
    let few = last.few in
    omega (arith, is, few, from)

pub left-none : (lists : List MultiplierList) (size : ℕ) (list : MultiplierList) (at m : ℕ) → IsLeft lists size list at m → at ≡ 0 → ¬ Contains lists list
left-none lists size list at m l zero-at =
    let last = latest-last (map print_of lists) size (print_of list % size) m in
    list-nowhere lists list (λ k h. elim (cases_lt k m) [
      | inl j ↦ other-chain lists size list k h (last.past k (let here = l.here in omega (arith, here, zero-at)) j)
      | inr j ↦ l.none k j h
    ])
