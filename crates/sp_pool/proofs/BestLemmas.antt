-- What Worst leaves is the best.
use Rattle.std.proofs.Common.{◌≡◌, ℕ, zero, suc, ◌+◌, ◌-◌, ◌<◌, ◌≤◌, min, Bool, true, false, not, ◌||◌, ◌&&◌, cond, List, [], ◌∷◌, ◌++◌, length, ℤ, ◌≤ℤ◌, ◌<ℤ◌, int_le, refl, sym, ap, ◌∙◌, inl, inr, arith, length-append}
use Rattle.std.proofs.lemmas.Bool.{cases_Bool, cases_lt, cond-true, cond-false}
use Rattle.std.proofs.lemmas.Int.{ints}
use Rattle.std.specs.Prelude.{All}
use Rattle.std.proofs.lemmas.List.Elements.{All-nil, All-cons, All-head, All-tail}
use Rattle.std.specs.List.{list_any}
use Rattle.sp_pool.specs.declared.members.Member.{Member}
use Rattle.sp_pool.specs.declared.members.Offered.{Offered}
use Rattle.sp_pool.specs.declared.members.Rule.TheVariants.{Worst}
use Rattle.sp_pool.specs.Pools.{PoolState, is_above, within, without_worst, admitted, without, taken, cut_at, best_with, member_of, after_offer, after_offers, lasting, lasting_one, best_of, IsWithoutWorst}
use Rattle.sp_pool.proofs.RankLemmas.{le_true, le_false, le_test, lt_test, no_either, either_back, worst_shorter, above_more, above_none}
use Rattle.sp_pool.proofs.PoolLemmas.{filter_shorter, admitted_room, admitted_full, without_few}

-- ---- an appended member

or_none : (a : Bool) → (a || false) ≡ a
or_none true = refl
or_none false = refl

or_assoc : (a b c : Bool) → (a || (b || c)) ≡ ((a || b) || c)
or_assoc true b c = refl
or_assoc false b c = refl

any_push : (f : Member → Bool) (ms : List Member) (m : Member) → list_any f (ms ++ m ∷ []) ≡ (list_any f ms || f m)
any_push f [] m = or_none (f m)
any_push f (x ∷ xs) m = ap (λ b. f x || b) (any_push f xs m) ∙ or_assoc (f x) (list_any f xs) (f m)

not_le : (a b : ℤ) → not (int_le a b) ≡ true → b <ℤ a
not_le a b h = grind (arith, ints)

-- some member is greater than m, and x isn't: then one isn't less than x
above_some : (x m : Member) (xs : List Member) → list_any (is_above m.value) xs ≡ true → int_le x.value m.value ≡ true → list_any (λ other. int_le x.value other.value) xs ≡ true
above_some x m [] h le = absurd (cc)
above_some x m (y ∷ ys) h le =
    elim (cases_Bool (is_above m.value y)) [
      | inl t ↦
          let a = not_le y.value m.value t in
          let b = le_true x.value m.value le in
          ap (λ c. c || list_any (λ other. int_le x.value other.value) ys) (le_test x.value y.value (omega (arith, ints)))
      | inr f ↦ either_back (int_le x.value y.value) _ (above_some x m ys (sym (ap (λ b. b || list_any (is_above m.value) ys) f) ∙ h) le)
    ]

-- some member isn't less than x, which is greater than m: then one is greater than m
above_too : (x m : Member) (xs : List Member) → list_any (λ other. int_le x.value other.value) xs ≡ true → int_le x.value m.value ≡ false → list_any (is_above m.value) xs ≡ true
above_too x m [] h gt = absurd (cc)
above_too x m (y ∷ ys) h gt =
    elim (cases_Bool (int_le x.value y.value)) [
      | inl t ↦
          let a = le_true x.value y.value t in
          let b = le_false x.value m.value gt in
          ap (λ c. not c || list_any (is_above m.value) ys) (lt_test y.value m.value (omega (arith, ints)))
      | inr f ↦ either_back (is_above m.value y) _ (above_too x m ys (sym (ap (λ b. b || list_any (λ other. int_le x.value other.value) ys) f) ∙ h) gt)
    ]

-- the member of greatest value leaves, or the new one where none is greater
push_worst : (ms : List Member) (m : Member) → without_worst (ms ++ m ∷ []) ≡ cond (list_any (is_above m.value) ms) (without_worst ms ++ m ∷ []) ms
push_worst [] m = refl
push_worst (x ∷ xs) m =
    elim (cases_Bool (int_le x.value m.value)) [
      | inl le ↦
          let any : list_any (λ other. int_le x.value other.value) (xs ++ m ∷ []) ≡ true = any_push (λ other. int_le x.value other.value) xs m ∙ either_back (list_any (λ other. int_le x.value other.value) xs) _ le in
          cond-true (list_any (λ other. int_le x.value other.value) (xs ++ m ∷ [])) (x ∷ without_worst (xs ++ m ∷ [])) (xs ++ m ∷ []) any
          ∙ ap (λ ms. x ∷ ms) (push_worst xs m)
          ∙ elim (cases_Bool (list_any (is_above m.value) xs)) [
            | inl t ↦
                let keeps : without_worst (x ∷ xs) ≡ x ∷ without_worst xs = cond-true (list_any (λ other. int_le x.value other.value) xs) (x ∷ without_worst xs) xs (above_some x m xs t le) in
                ap (λ ms. x ∷ ms) (cond-true (list_any (is_above m.value) xs) (without_worst xs ++ m ∷ []) xs t)
                ∙ sym (cond-true (list_any (is_above m.value) (x ∷ xs)) (without_worst (x ∷ xs) ++ m ∷ []) (x ∷ xs) (either_back (is_above m.value x) _ t) ∙ ap (λ ms. ms ++ m ∷ []) keeps)
            | inr f ↦
                let none : list_any (is_above m.value) (x ∷ xs) ≡ false = ap (λ b. not b || list_any (is_above m.value) xs) le ∙ f in
                ap (λ ms. x ∷ ms) (cond-false (list_any (is_above m.value) xs) (without_worst xs ++ m ∷ []) xs f)
                ∙ sym (cond-false (list_any (is_above m.value) (x ∷ xs)) (without_worst (x ∷ xs) ++ m ∷ []) (x ∷ xs) none)
          ]
      | inr gt ↦
          let same : list_any (λ other. int_le x.value other.value) (xs ++ m ∷ []) ≡ list_any (λ other. int_le x.value other.value) xs = any_push (λ other. int_le x.value other.value) xs m ∙ ap (λ b. list_any (λ other. int_le x.value other.value) xs || b) gt ∙ or_none (list_any (λ other. int_le x.value other.value) xs) in
          let over : list_any (is_above m.value) (x ∷ xs) ≡ true = ap (λ b. not b || list_any (is_above m.value) xs) gt in
          ap (λ b. cond b (x ∷ without_worst (xs ++ m ∷ [])) (xs ++ m ∷ [])) same
          ∙ elim (cases_Bool (list_any (λ other. int_le x.value other.value) xs)) [
            | inl t ↦
                cond-true (list_any (λ other. int_le x.value other.value) xs) (x ∷ without_worst (xs ++ m ∷ [])) (xs ++ m ∷ []) t
                ∙ ap (λ ms. x ∷ ms) (push_worst xs m ∙ cond-true (list_any (is_above m.value) xs) (without_worst xs ++ m ∷ []) xs (above_too x m xs t gt))
                ∙ sym (cond-true (list_any (is_above m.value) (x ∷ xs)) (without_worst (x ∷ xs) ++ m ∷ []) (x ∷ xs) over ∙ ap (λ ms. ms ++ m ∷ []) (cond-true (list_any (λ other. int_le x.value other.value) xs) (x ∷ without_worst xs) xs t))
            | inr f ↦
                cond-false (list_any (λ other. int_le x.value other.value) xs) (x ∷ without_worst (xs ++ m ∷ [])) (xs ++ m ∷ []) f
                ∙ sym (cond-true (list_any (is_above m.value) (x ∷ xs)) (without_worst (x ∷ xs) ++ m ∷ []) (x ∷ xs) over ∙ ap (λ ms. ms ++ m ∷ []) (cond-false (list_any (λ other. int_le x.value other.value) xs) (x ∷ without_worst xs) xs f))
          ]
    ]

-- none above m where none of them was before
none_without : (m : Member) (ms : List Member) → list_any (is_above m.value) ms ≡ false → list_any (is_above m.value) (without_worst ms) ≡ false
none_without m [] h = refl
none_without m (x ∷ xs) h =
    let e = no_either (is_above m.value x) (list_any (is_above m.value) xs) h in
    elim (cases_Bool (list_any (λ other. int_le x.value other.value) xs)) [
      | inl t ↦
          ap (list_any (is_above m.value)) (cond-true (list_any (λ other. int_le x.value other.value) xs) (x ∷ without_worst xs) xs t)
          ∙ ap (λ b. b || list_any (is_above m.value) (without_worst xs)) e.0 ∙ none_without m xs e.1
      | inr f ↦ ap (list_any (is_above m.value)) (cond-false (list_any (λ other. int_le x.value other.value) xs) (x ∷ without_worst xs) xs f) ∙ e.1
    ]

none_left : (m : Member) (k : ℕ) (ms : List Member) → list_any (is_above m.value) ms ≡ false → list_any (is_above m.value) (without Worst k ms) ≡ false
none_left m zero ms h = h
none_left m (suc k) ms h = none_left m k (without_worst ms) (none_without m ms h)

-- an offer to the full pool, and then to all and cut down: the new member takes the place of the worst one or stays out
push_without : (k : ℕ) (ms : List Member) (m : Member) → without Worst (suc k) (ms ++ m ∷ []) ≡ cond (list_any (is_above m.value) (without Worst k ms)) (without_worst (without Worst k ms) ++ m ∷ []) (without Worst k ms)
push_without zero ms m = push_worst ms m
push_without (suc k) ms m =
    elim (cases_Bool (list_any (is_above m.value) ms)) [
      | inl t ↦ ap (without Worst (suc k)) (push_worst ms m ∙ cond-true (list_any (is_above m.value) ms) (without_worst ms ++ m ∷ []) ms t) ∙ push_without k (without_worst ms) m
      | inr f ↦
          ap (without Worst (suc k)) (push_worst ms m ∙ cond-false (list_any (is_above m.value) ms) (without_worst ms ++ m ∷ []) ms f)
          ∙ sym (cond-false (list_any (is_above m.value) (without Worst k (without_worst ms))) (without_worst (without Worst k (without_worst ms)) ++ m ∷ []) (without Worst k (without_worst ms)) (none_left m k (without_worst ms) (none_without m ms f)))
    ]

length_best : (count : ℕ) (ms : List Member) → length (best_of count ms) ≡ min count (length ms)
length_best count ms = let e = without_few Worst (length ms - count) ms (omega arith) in omega arith

all_best : (count : ℕ) (ms : List Member) → length ms ≤ count → best_of count ms ≡ ms
all_best count ms h = let e : length ms - count ≡ 0 = omega arith in ap (λ k. without Worst k ms) e

without_none_left : (ms : List Member) (k : ℕ) → length ms ≤ k → without Worst k ms ≡ []
without_none_left ms zero h = nil ms (omega arith)
  where
    nil : (xs : List Member) → length xs ≡ 0 → xs ≡ []
    nil [] e = refl
    nil (x ∷ xs) e = absurd (omega arith)
without_none_left [] (suc k) h = without_none_left [] k (omega arith)
without_none_left (x ∷ xs) (suc k) h = let one = worst_shorter (x ∷ xs) (omega arith) in without_none_left (without_worst (x ∷ xs)) k (omega arith)

pub best_admitted : (count : ℕ) (ms : List Member) (m : Member) → admitted Worst count (best_of count ms) m ≡ best_of count (ms ++ m ∷ [])
best_admitted zero ms m =
    without_none_left ms (length ms - 0) (omega arith) ∙ sym (without_none_left (ms ++ m ∷ []) (length (ms ++ m ∷ []) - 0) (omega arith))
best_admitted (suc n) ms m =
    let long = length_best (suc n) ms in
    let pushed = length-append ms (m ∷ []) in
    elim (cases_lt (length ms) (suc n)) [
      | inl lt ↦
          admitted_room Worst (suc n) (best_of (suc n) ms) m (omega arith) ∙ ap (λ xs. xs ++ m ∷ []) (all_best (suc n) ms (omega arith))
          ∙ sym (all_best (suc n) (ms ++ m ∷ []) (omega arith))
      | inr ge ↦
          let k : length (ms ++ m ∷ []) - suc n ≡ suc (length ms - suc n) = omega arith in
          admitted_full Worst (suc n) (best_of (suc n) ms) m (omega arith) (omega arith)
          ∙ sym (ap (λ i. without Worst i (ms ++ m ∷ [])) k ∙ push_without (length ms - suc n) ms m)
    ]

-- ---- a cut

within_without : (cut : ℤ) (count : ℕ) (k : ℕ) (ms : List Member) → length ms ≡ count + k → within cut (without Worst k ms) ≡ best_of count (within cut ms)
within_without cut count zero ms e = sym (all_best count (within cut ms) (let s = filter_shorter (λ m. int_le m.value cut) ms in omega arith))
within_without cut count (suc k) ms e =
    let one = worst_shorter ms (omega arith) in
    elim (cases_Bool (list_any (is_above cut) ms)) [
      | inl t ↦ within_without cut count k (without_worst ms) (omega arith) ∙ ap (best_of count) (above_more cut ms t)
      | inr f ↦
          let kept = none_cut cut (suc k) ms f in
          above_none cut (without Worst (suc k) ms) kept ∙ (let e' : suc k ≡ length ms - count = omega arith in ap (λ i. without Worst i ms) e') ∙ sym (ap (best_of count) (above_none cut ms f))
    ]
  where
    none_cut_one : (cut : ℤ) (ms : List Member) → list_any (is_above cut) ms ≡ false → list_any (is_above cut) (without_worst ms) ≡ false
    none_cut_one cut ms h = none_without (record { serial = 0; value = cut }) ms h

    none_cut : (cut : ℤ) (k : ℕ) (ms : List Member) → list_any (is_above cut) ms ≡ false → list_any (is_above cut) (without Worst k ms) ≡ false
    none_cut cut k ms h = none_left (record { serial = 0; value = cut }) k ms h

pub within_best_of : (cut : ℤ) (count : ℕ) (ms : List Member) → within cut (best_of count ms) ≡ best_of count (within cut ms)
within_best_of cut count ms =
    elim (cases_lt (length ms) count) [
      | inl lt ↦ ap (within cut) (all_best count ms (omega arith)) ∙ sym (all_best count (within cut ms) (let s = filter_shorter (λ m. int_le m.value cut) ms in omega arith))
      | inr ge ↦ within_without cut count (length ms - count) ms (omega arith)
    ]

-- ---- offers one after another

pub offers_best : (s : PoolState) (ms : List Member) (offers : List Offered) → s.rule ≡ Worst → s.members ≡ best_of s.capacity ms → (after_offers s offers).members ≡ best_of s.capacity (lasting s ms offers)
unfolding after_offer
offers_best s ms [] w e = e
offers_best s ms (o ∷ os) w e =
    let best = best_with s.best o.value in
    let cut = cut_at s best in
    let cut_down : within cut s.members ≡ best_of s.capacity (within cut ms) = ap (within cut) e ∙ within_best_of cut s.capacity ms in
    offers_best (after_offer s o) (lasting_one cut ms o) os w
    (ap (λ xs. taken s.rule s.capacity cut xs o) cut_down ∙ ap (λ r. taken r s.capacity cut (best_of s.capacity (within cut ms)) o) w ∙ step (o.passes && int_le o.value cut) (within cut ms))
  where
    step : (b : Bool) (xs : List Member) → cond b (admitted Worst s.capacity (best_of s.capacity xs) (member_of o)) (best_of s.capacity xs) ≡ best_of s.capacity (cond b (xs ++ member_of o ∷ []) xs)
    step true xs = best_admitted s.capacity xs (member_of o)
    step false xs = refl

pub worst_holds : (s : PoolState) (offers : List Offered) → s.rule ≡ Worst → length s.members ≤ s.capacity → (after_offers s offers).members ≡ best_of s.capacity (lasting s s.members offers)
worst_holds s offers w few = offers_best s s.members offers w (sym (all_best s.capacity s.members few))

-- ---- which member is the worst one

less_all : (v : ℤ) (ms : List Member) → list_any (λ other. int_le v other.value) ms ≡ false → All (λ m. m.value <ℤ v) ms
less_all v [] h = All-nil (λ m. m.value <ℤ v)
less_all v (x ∷ xs) h = let e = no_either (int_le v x.value) (list_any (λ other. int_le v other.value) xs) h in All-cons (λ m. m.value <ℤ v) x xs (le_false v x.value e.0) (less_all v xs e.1)

-- some member isn't less than v: then the worst one isn't
worst_above : (v : ℤ) (before : List Member) (worst : Member) (behind : List Member) → list_any (λ other. int_le v other.value) (before ++ worst ∷ behind) ≡ true → All (λ m. m.value ≤ℤ worst.value) before → All (λ m. m.value <ℤ worst.value) behind → v ≤ℤ worst.value
worst_above v [] worst behind h b a =
    elim (cases_Bool (int_le v worst.value)) [
      | inl t ↦ le_true v worst.value t
      | inr f ↦ behind_above behind (sym (ap (λ c. c || list_any (λ other. int_le v other.value) behind) f) ∙ h) a
    ]
  where
    behind_above : (xs : List Member) → list_any (λ other. int_le v other.value) xs ≡ true → All (λ m. m.value <ℤ worst.value) xs → v ≤ℤ worst.value
    behind_above [] h a = absurd (cc)
    behind_above (x ∷ xs) h a =
        elim (cases_Bool (int_le v x.value)) [
          | inl t ↦ let p = le_true v x.value t in let q = All-head (λ m. m.value <ℤ worst.value) x xs a in omega (arith, ints)
          | inr f ↦ behind_above xs (sym (ap (λ c. c || list_any (λ other. int_le v other.value) xs) f) ∙ h) (All-tail (λ m. m.value <ℤ worst.value) x xs a)
        ]
worst_above v (x ∷ xs) worst behind h b a =
    elim (cases_Bool (int_le v x.value)) [
      | inl t ↦ let p = le_true v x.value t in let q = All-head (λ m. m.value ≤ℤ worst.value) x xs b in omega (arith, ints)
      | inr f ↦ worst_above v xs worst behind (sym (ap (λ c. c || list_any (λ other. int_le v other.value) (xs ++ worst ∷ behind)) f) ∙ h) (All-tail (λ m. m.value ≤ℤ worst.value) x xs b) a
    ]

some_member : (ms : List Member) (f : Member → Bool) → list_any f ms ≡ true → 0 < length ms
some_member [] f h = absurd (cc)
some_member (x ∷ xs) f h = omega arith

pub worst_dropped : (ms : List Member) → 0 < length ms → IsWithoutWorst ms (without_worst ms)
worst_dropped [] h = absurd (omega arith)
worst_dropped (m ∷ ms) h =
    elim (cases_Bool (list_any (λ other. int_le m.value other.value) ms)) [
      | inl t ↦
          let later : IsWithoutWorst ms (without_worst ms) = worst_dropped ms (some_member ms (λ other. int_le m.value other.value) t) in
          record {
            before = m ∷ later.before;
            worst = later.worst;
            behind = later.behind;
            is = ap (λ xs. m ∷ xs) later.is;
            left_is = cond-true (list_any (λ other. int_le m.value other.value) ms) (m ∷ without_worst ms) ms t ∙ ap (λ xs. m ∷ xs) later.left_is;
            none_greater = All-cons (λ x. x.value ≤ℤ later.worst.value) m later.before (worst_above m.value later.before later.worst later.behind (sym (ap (list_any (λ other. int_le m.value other.value)) later.is) ∙ t) later.none_greater later.less_behind) later.none_greater;
            less_behind = later.less_behind;
          }
      | inr f ↦
          record {
            before = [];
            worst = m;
            behind = ms;
            is = refl;
            left_is = cond-false (list_any (λ other. int_le m.value other.value) ms) (m ∷ without_worst ms) ms f;
            none_greater = All-nil (λ x. x.value ≤ℤ m.value);
            less_behind = less_all m.value ms f;
          }
    ]
