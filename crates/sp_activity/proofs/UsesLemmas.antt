-- How lists of uses grow, and how truths settle.
use Rattle.std.proofs.Common.{◌≡◌, ◌≢◌, ◌⊎◌, ℕ, zero, suc, ◌+◌, ◌<◌, ◌≤◌, Bool, true, false, nat_eq, inl, inr, List, [], ◌∷◌, ◌++◌, length, map, get_or, set, take, drop, replicate, All, Contains, refl, sym, ap, ◌∙◌, subst, arith, get_or-set_same, get_or-set_other, zero-lt-suc, suc-le-suc, le_of_suc-le-suc, not-suc-le-zero}
use Rattle.std.proofs.lemmas.Bool.Decides.{nat_tests}
use Rattle.std.proofs.lemmas.Bool.{cases_lt}
use Rattle.std.proofs.lemmas.List.{length-set, get_or-replicate, length-replicate, get_or_past, get_or_default, same_lists, take_more, drop_more, map-append, get_or-map, length-map}
use Rattle.std.proofs.lemmas.List.Elements.{Contains-append_left, Contains-append_right, Contains-append_cases}
use Rattle.sp_model.specs.Sums.{Term}
use Rattle.sp_model.specs.declared.parts.Indicator.{Indicator}
use Rattle.sp_activity.specs.Uses.{AreUses, IsSettling, IsUsed, gate_vars, uses_at, vars_at}

-- ---- elements

pub Contains-here : {X : Type 0} (x : X) (xs : List X) → Contains (x ∷ xs) x
Contains-here x xs = (0, zero-lt-suc (length xs), refl)

pub Contains-later : {X : Type 0} (y : X) (ys : List X) (x : X) → Contains ys x → Contains (y ∷ ys) x
Contains-later y ys x h = (suc h.0, suc-le-suc h.1, h.2)

at_cases : {X : Type 0} (y : X) (ys : List X) (x : X) (k : ℕ) → k < length (y ∷ ys) → get_or (y ∷ ys) k x ≡ x → (y ≡ x) ⊎ Contains ys x
at_cases y ys x zero h e = inl e
at_cases y ys x (suc k) h e = inr (k, le_of_suc-le-suc h, e)

pub Contains-cons_cases : {X : Type 0} (y : X) (ys : List X) (x : X) → Contains (y ∷ ys) x → (y ≡ x) ⊎ Contains ys x
Contains-cons_cases y ys x h = at_cases y ys x h.0 h.1 h.2

pub Contains-none : {X : Type 0} (x : X) → Contains [] x → ⊥
Contains-none x h = not-suc-le-zero h.1

same_number : (a b : ℕ) → nat_eq a b ≡ true → a ≡ b
same_number a b e = grind (arith, nat_tests)

other_number : (a b : ℕ) → nat_eq a b ≡ false → a ≢ b
other_number a b e = grind (arith, nat_tests)

-- ---- one item more in one list

added_more : (lists : List (List ℕ)) (v item : ℕ) (j k : ℕ) (c : Bool) → nat_eq j v ≡ c → Contains (uses_at lists j) k → Contains (uses_at (set lists v (uses_at lists v ++ item ∷ [])) j) k
added_more lists v item j k true e h =
    let same : j ≡ v = same_number j v e in
    elim (cases_lt v (length lists)) [
      | inl l ↦ rw (same, get_or-set_same lists v (uses_at lists v ++ item ∷ []) [] l) (Contains-append_left (uses_at lists v) (item ∷ []) k (subst (λ (n : ℕ). Contains (uses_at lists n) k) same h))
      | inr g ↦ absurd (Contains-none k (subst (λ (l : List ℕ). Contains l k) (get_or_past lists v [] g) (subst (λ (n : ℕ). Contains (uses_at lists n) k) same h)))
    ]
added_more lists v item j k false e h = rw (get_or-set_other lists v j (uses_at lists v ++ item ∷ []) [] (other_number j v e)) h

added_here : (lists : List (List ℕ)) (v item : ℕ) → v < length lists → Contains (uses_at (set lists v (uses_at lists v ++ item ∷ [])) v) item
added_here lists v item h = rw (get_or-set_same lists v (uses_at lists v ++ item ∷ []) [] h) (Contains-append_right (uses_at lists v) (item ∷ []) item (Contains-here item []))

last_cases : (xs : List ℕ) (item k : ℕ) → Contains (xs ++ item ∷ []) k → (k ≡ item) ⊎ Contains xs k
last_cases xs item k h = elim (Contains-append_cases xs (item ∷ []) k h) [
  | inl l ↦ inr l
  | inr r ↦ elim (Contains-cons_cases item [] k r) [
    | inl e ↦ inl (sym e)
    | inr n ↦ absurd (Contains-none k n)
  ]
]

added_only : (lists : List (List ℕ)) (v item : ℕ) (j k : ℕ) (c : Bool) → nat_eq j v ≡ c → v < length lists → Contains (uses_at (set lists v (uses_at lists v ++ item ∷ [])) j) k → (k ≡ item) ⊎ Contains (uses_at lists j) k
added_only lists v item j k true e l h =
    let same : j ≡ v = same_number j v e in
    let here : Contains (uses_at lists v ++ item ∷ []) k = subst (λ (xs : List ℕ). Contains xs k) (get_or-set_same lists v (uses_at lists v ++ item ∷ []) [] l) (subst (λ (n : ℕ). Contains (uses_at (set lists v (uses_at lists v ++ item ∷ [])) n) k) same h) in
    elim (last_cases (uses_at lists v) item k here) [
      | inl a ↦ inl a
      | inr b ↦ inr (subst (λ (n : ℕ). Contains (uses_at lists n) k) (sym same) b)
    ]
added_only lists v item j k false e l h = inr (subst (λ (xs : List ℕ). Contains xs k) (get_or-set_other lists v j (uses_at lists v ++ item ∷ []) [] (other_number j v e)) h)

pub used_one : (item v : ℕ) (old new : List (List ℕ)) → v < length old → new ≡ set old v (uses_at old v ++ item ∷ []) → IsUsed item (v ∷ []) old new
used_one item v old new h e = rw e record {
  long = length-set old v (uses_at old v ++ item ∷ []);
  here = λ j c. elim (Contains-cons_cases v [] j c) [
    | inl s ↦ subst (λ (n : ℕ). Contains (uses_at (set old v (uses_at old v ++ item ∷ [])) n) item) s (added_here old v item h)
    | inr n ↦ absurd (Contains-none j n)
  ];
  more = λ j k c. added_more old v item j k (nat_eq j v) refl c;
  only = λ j k c. added_only old v item j k (nat_eq j v) refl h c;
}

pub used_none : (item : ℕ) (lists : List (List ℕ)) → IsUsed item [] lists lists
used_none item lists = record {
  long = refl;
  here = λ j c. absurd (Contains-none j c);
  more = λ j k c. c;
  only = λ j k c. inr c;
}

-- one list of variables after another
pub used_both : (item : ℕ) (us vs : List ℕ) (old mid new : List (List ℕ)) → IsUsed item us old mid → IsUsed item vs mid new → IsUsed item (us ++ vs) old new
used_both item us vs old mid new a b = record {
  long = b.long ∙ a.long;
  here = λ j c. elim (Contains-append_cases us vs j c) [
    | inl l ↦ b.more j item (a.here j l)
    | inr r ↦ b.here j r
  ];
  more = λ j k c. b.more j k (a.more j k c);
  only = λ j k c. elim (b.only j k c) [
    | inl e ↦ inl e
    | inr m ↦ a.only j k m
  ];
}

-- ---- item after item

pub record IsListed (count at : ℕ) (items lists : List (List ℕ)) : Type 0 where
  pub long : length lists ≡ count
  pub known : (j k : ℕ) → Contains (uses_at lists j) k → k < at
  pub covers : (j k : ℕ) → j < count → k < at → Contains (vars_at items k) j → Contains (uses_at lists j) k

pub listed_start : (count : ℕ) (items lists : List (List ℕ)) → lists ≡ replicate count [] → IsListed count 0 items lists
listed_start count items lists e = record {
  long = ap length e ∙ length-replicate count [];
  known = λ j k c. absurd (Contains-none k (subst (λ (xs : List ℕ). Contains xs k) (empty_at count lists e j) c));
  covers = λ j k h l c. absurd (not-suc-le-zero l);
}
  where
    empty_at : (count : ℕ) (lists : List (List ℕ)) → lists ≡ replicate count [] → (j : ℕ) → uses_at lists j ≡ []
    empty_at count lists e j = elim (cases_lt j count) [
      | inl l ↦ ap (λ (xs : List (List ℕ)). uses_at xs j) e ∙ get_or-replicate {A = List ℕ} count j [] [] l
      | inr g ↦ (let long : length lists ≤ j = omega (arith, ap length e, length-replicate {A = List ℕ} count []) in get_or_past lists j [] long)
    ]

covers_step : (count at : ℕ) (items : List (List ℕ)) (vars : List ℕ) (old new : List (List ℕ)) (j k : ℕ) (c : Bool) → nat_eq k at ≡ c → IsListed count at items old → vars_at items at ≡ vars → IsUsed at vars old new → j < count → k < at + 1 → Contains (vars_at items k) j → Contains (uses_at new j) k
covers_step count at items vars old new j k true e l v u h b c =
    let same : k ≡ at = same_number k at e in
    let here : Contains vars j = subst (λ (xs : List ℕ). Contains xs j) (ap (vars_at items) same ∙ v) c in
    subst (λ (n : ℕ). Contains (uses_at new j) n) (sym same) (u.here j here)
covers_step count at items vars old new j k false e l v u h b c =
    let other = other_number k at e in
    u.more j k (l.covers j k h (omega arith) c)

pub listed_turn : (count at : ℕ) (items : List (List ℕ)) (vars : List ℕ) (old new : List (List ℕ)) → IsListed count at items old → vars_at items at ≡ vars → IsUsed at vars old new → IsListed count (at + 1) items new
listed_turn count at items vars old new l v u = record {
  long = u.long ∙ l.long;
  known = λ j k c. elim (u.only j k c) [
    | inl e ↦ omega arith
    | inr m ↦ omega (arith, l.known j k m)
  ];
  covers = λ j k h b c. covers_step count at items vars old new j k (nat_eq k at) refl l v u h b c;
}

pub listed_stop : (count at : ℕ) (items lists : List (List ℕ)) → at ≡ length items → IsListed count at items lists → AreUses count items lists
listed_stop count at items lists e l = record {
  long = l.long;
  known = λ j i d h. omega (arith, e, l.known j (get_or (uses_at lists j) i d) (i, h, get_or_default (uses_at lists j) i (get_or (uses_at lists j) i d) d h));
  covers = λ j k h b c. l.covers j k h (omega (arith, e)) c;
}

-- ---- truths that settle

pub settling_turn : (target : List Bool) (p : ℕ) (rest : List ℕ) (now new : List Bool) → IsSettling target (p ∷ rest) now → new ≡ set now p (get_or target p false) → IsSettling target rest new
settling_turn target p rest now new s e = rw e record {
  long = length-set now p (get_or target p false) ∙ s.long;
  known = λ i d h. s.known (suc i) d (omega arith);
  each = λ k h n. settle_at target p rest now s k (nat_eq k p) refl h n;
}
  where
    settle_at : (target : List Bool) (p : ℕ) (rest : List ℕ) (now : List Bool) → IsSettling target (p ∷ rest) now → (k : ℕ) (c : Bool) → nat_eq k p ≡ c → k < length target → ¬ Contains rest k → get_or (set now p (get_or target p false)) k false ≡ get_or target k false
    settle_at target p rest now s k true e h n =
        let same : k ≡ p = same_number k p e in
        let inside : p < length now = omega (arith, s.long) in
        rw same (get_or-set_same now p (get_or target p false) false inside)
    settle_at target p rest now s k false e h n =
        let other = other_number k p e in
        get_or-set_other now p k (get_or target p false) false other ∙ s.each k h (λ c. elim (Contains-cons_cases p rest k c) [
          | inl g ↦ other (sym g)
          | inr g ↦ n g
        ])

pub settling_stop : (target now : List Bool) → IsSettling target [] now → now ≡ target
settling_stop target now s = same_lists now target s.long
    (λ k d h. (
    let inside : k < length target = omega (arith, s.long) in
    get_or_default now k d false h ∙ s.each k inside (λ c. Contains-none k c) ∙ get_or_default target k false d inside
    ))

-- ---- as the loops read them

pub used_next : (item : ℕ) (vs : List ℕ) (i v : ℕ) (old now new : List (List ℕ)) → i < length vs → v ≡ get_or vs i v → v < length old → IsUsed item (take i vs) old now → new ≡ set now v (uses_at now v ++ item ∷ []) → IsUsed item (take (i + 1) vs) old new
used_next item vs i v old now new h e b u n =
    let inside : v < length now = omega (arith, u.long) in
    let whole : take (i + 1) vs ≡ take i vs ++ v ∷ [] = take_more vs i v h ∙ ap (λ (w : ℕ). take i vs ++ w ∷ []) (sym e) in
    rw whole (used_both item (take i vs) (v ∷ []) old now new u (used_one item v now new inside n))

pub used_term : (item : ℕ) (ts : List Term) (i : ℕ) (t : Term) (old now new : List (List ℕ)) → i < length ts → t ≡ get_or ts i t → t.0 < length old → IsUsed item (map (λ (u : Term). u.0) (take i ts)) old now → new ≡ set now t.0 (uses_at now t.0 ++ item ∷ []) → IsUsed item (map (λ (u : Term). u.0) (take (i + 1) ts)) old new
used_term item ts i t old now new h e b u n =
    let inside : t.0 < length now = omega (arith, u.long) in
    let whole : map (λ (u : Term). u.0) (take (i + 1) ts) ≡ map (λ (u : Term). u.0) (take i ts) ++ t.0 ∷ [] =
    ap (map (λ (u : Term). u.0)) (take_more ts i t h ∙ ap (λ (w : Term). take i ts ++ w ∷ []) (sym e)) ∙ map-append (λ (u : Term). u.0) (take i ts) (t ∷ []) in
    rw whole (used_both item (map (λ (u : Term). u.0) (take i ts)) (t.0 ∷ []) old now new u (used_one item t.0 now new inside n))

-- an item of one variable, as its list was read
pub listed_one : (count at : ℕ) (items : List (List ℕ)) (v n : ℕ) (old new : List (List ℕ)) → IsListed count at items old → vars_at items at ≡ v ∷ [] → n ≡ v → v < count → new ≡ set old n (uses_at old n ++ at ∷ []) → IsListed count (at + 1) items new
listed_one count at items v n old new l e s h p =
    listed_turn count at items (v ∷ []) old new l e (used_one at v old new (omega (arith, l.long)) (p ∙ ap (λ (k : ℕ). set old k (uses_at old k ++ at ∷ [])) s))

-- an item of one variable and others after it
pub listed_two : (count at : ℕ) (items : List (List ℕ)) (v n : ℕ) (vs : List ℕ) (old mid new : List (List ℕ)) → IsListed count at items old → vars_at items at ≡ v ∷ vs → n ≡ v → v < count → mid ≡ set old n (uses_at old n ++ at ∷ []) → IsUsed at vs mid new → IsListed count (at + 1) items new
listed_two count at items v n vs old mid new l e s h p u =
    listed_turn count at items (v ∷ vs) old new l e
    (used_both at (v ∷ []) vs old mid new (used_one at v old mid (omega (arith, l.long)) (p ∙ ap (λ (k : ℕ). set old k (uses_at old k ++ at ∷ [])) s)) u)

-- the terms of an indicator's row are known
pub term_known : (count n : ℕ) (i : Indicator) (ts : List Term) → All (λ (v : ℕ). v < count) (gate_vars i) → ts ≡ i.row.terms → n ≡ count → All (λ (t : Term). t.0 < n) ts
term_known count n i ts h e s = rw (e, s) (λ k d l. (
    let long : suc k < length (gate_vars i) = omega (arith, length-map i.row.terms (λ (t : Term). t.0)) in
    let here = h (suc k) 0 long in
    rw (get_or-map (λ (t : Term). t.0) i.row.terms k d 0 l) at here
    ))

-- the next place, as the loops read it
pub settling_next : (target : List Bool) (places : List ℕ) (i p : ℕ) (now new : List Bool) (bit : Bool) → i < length places → p ≡ get_or places i p → IsSettling target (drop i places) now → bit ≡ get_or target p false → new ≡ set now p bit → IsSettling target (drop (i + 1) places) new
settling_next target places i p now new bit h e s b n =
    let d : drop i places ≡ p ∷ drop (i + 1) places = drop_more places i p h ∙ ap (λ (v : ℕ). v ∷ drop (i + 1) places) (sym e) in
    settling_turn target p (drop (i + 1) places) now new (rw d at s) (n ∙ ap (set now p) b)

-- it is a known one
pub settling_known : (target : List Bool) (places : List ℕ) (i p : ℕ) (now : List Bool) → i < length places → p ≡ get_or places i p → IsSettling target (drop i places) now → p < length target
settling_known target places i p now h e s =
    let d : drop i places ≡ p ∷ drop (i + 1) places = drop_more places i p h ∙ ap (λ (v : ℕ). v ∷ drop (i + 1) places) (sym e) in
    let rest : IsSettling target (p ∷ drop (i + 1) places) now = rw d at s in
    rest.known 0 p (omega arith)

-- and of truths that a test gives
pub place_known : {X : Type 0} (f : X → Bool) (xs : List X) (places : List ℕ) (i : ℕ) (now : List Bool) → i < length places → IsSettling (map f xs) (drop i places) now → get_or places i 0 < length xs
place_known f xs places i now h s =
    omega (arith, length-map xs f, settling_known (map f xs) places i (get_or places i 0) now h (get_or_default places i 0 (get_or places i 0) h) s)

pub settling_map : {X : Type 0} (f : X → Bool) (xs : List X) (d : X) (places : List ℕ) (i : ℕ) (now new : List Bool) (bit : Bool) → i < length places → IsSettling (map f xs) (drop i places) now → bit ≡ f (get_or xs (get_or places i 0) d) → new ≡ set now (get_or places i 0) bit → IsSettling (map f xs) (drop (i + 1) places) new
settling_map f xs d places i now new bit h s b n =
    let known : get_or places i 0 < length xs = place_known f xs places i now h s in
    settling_next (map f xs) places i (get_or places i 0) now new bit h (get_or_default places i 0 (get_or places i 0) h) s
    (b ∙ sym (get_or-map f xs (get_or places i 0) d false known)) n
