-- Serials, counted.
use Rattle.std.proofs.Common.{◌≡◌, ℕ, suc, ◌+◌, ◌<◌, ◌≤◌, Bool, true, false, not, ◌||◌, cond, eqb, ltb, List, [], ◌∷◌, ◌++◌, length, filter, get_or, Some, None, Ok, Err, refl, sym, ap, ◌∙◌, subst, inl, inr, arith}
use Rattle.std.proofs.lemmas.Bool.{cases_Bool, cases_lt, cond-true, cond-false, false≢true}
use Rattle.std.proofs.lemmas.Bool.Decides.{nat_tests}
use Rattle.std.proofs.lemmas.List.{get_or_default, length-map}
use Rattle.std.proofs.lemmas.List.Edits.{get_or-remove_below, get_or-remove_above, length-remove}
use Rattle.std.proofs.lemmas.List.Kept.{IsNonDecreasingBy-filter}
use Rattle.std.proofs.lemmas.List.Sorted.{searched, sum_by-IsPermutation, IsNonDecreasingBy-insert, IsPermutation-insert, IsPermutation-remove}
use Rattle.std.proofs.lemmas.List.Sums.{sum_by-cons}
use Rattle.std.specs.List.{list_any, sum_by, insert, remove}
use Rattle.std.specs.List.Sorted.{IsNonDecreasing, IsPermutation, IsBinarySearchResult}
use Rattle.std.specs.Ordering.{nat_cmp}
use Rattle.sp_pool.specs.declared.members.Member.{Member}
use Rattle.sp_pool.specs.Pools.{holds, is_listed}
use Rattle.sp_pool.specs.InnerLines.{Keyed, has_key, AreApart, without_key, member_at, members_in}
use Rattle.sp_pool.specs.InnerSerials.{times, serials_of, IsTally}
use Rattle.sp_pool.proofs.RankLemmas.{filter_yes, filter_no, eqb_self}
use Rattle.sp_pool.proofs.SweepLemmas.{same_key, some_member, without_none, listed_by_halves}

-- ---- how often

times_here : (s x : ℕ) (xs : List ℕ) → eqb x s ≡ true → times s (x ∷ xs) ≡ suc (times s xs)
times_here s x xs h = cond-true (eqb x s) _ _ h

times_there : (s x : ℕ) (xs : List ℕ) → eqb x s ≡ false → times s (x ∷ xs) ≡ times s xs
times_there s x xs h = cond-false (eqb x s) _ _ h

abbrev one_of : ℕ → ℕ → ℕ
one_of s x = cond (eqb x s) 1 0

times_sum : (s : ℕ) (xs : List ℕ) → times s xs ≡ sum_by (one_of s) xs
times_sum s [] = refl
times_sum s (x ∷ xs) =
    let more = sum_by-cons (one_of s) x xs in
    let rest = times_sum s xs in
    elim (cases_Bool (eqb x s)) [
      | inl y ↦ let a = times_here s x xs y in let b : one_of s x ≡ 1 = cond-true (eqb x s) 1 0 y in omega arith
      | inr n ↦ let a = times_there s x xs n in let b : one_of s x ≡ 0 = cond-false (eqb x s) 1 0 n in omega arith
    ]

pub times_alike : (s : ℕ) (xs ys : List ℕ) → IsPermutation xs ys → times s ys ≡ times s xs
times_alike s xs ys h = times_sum s ys ∙ sum_by-IsPermutation (one_of s) xs ys h ∙ sym (times_sum s xs)

times_cons : (s x : ℕ) (xs ys : List ℕ) → times s xs ≡ times s ys → times s (x ∷ xs) ≡ times s (x ∷ ys)
times_cons s x xs ys h = ap (λ n. cond (eqb x s) (suc n) n) h

times_push : (s x : ℕ) (ys : List ℕ) → times s (ys ++ x ∷ []) ≡ times s (x ∷ ys)
times_push s x [] = refl
times_push s x (y ∷ ys) =
    times_cons s y (ys ++ x ∷ []) (x ∷ ys) (times_push s x ys) ∙ turned s x y (times s ys)
  where
    turned : (s x y n : ℕ) → cond (eqb y s) (suc (cond (eqb x s) (suc n) n)) (cond (eqb x s) (suc n) n) ≡ cond (eqb x s) (suc (cond (eqb y s) (suc n) n)) (cond (eqb y s) (suc n) n)
    turned s x y n = either (eqb x s) (eqb y s)
      where
        either : (a b : Bool) → cond b (suc (cond a (suc n) n)) (cond a (suc n) n) ≡ cond a (suc (cond b (suc n) n)) (cond b (suc n) n)
        either true true = refl
        either true false = refl
        either false true = refl
        either false false = refl

-- a serial is among them where it stands there at all
any_times : (s : ℕ) (xs : List ℕ) → list_any (λ x. eqb x s) xs ≡ ltb 0 (times s xs)
any_times s [] = refl
any_times s (x ∷ xs) =
    elim (cases_Bool (eqb x s)) [
      | inl y ↦ ap (λ b. b || list_any (λ i. eqb i s) xs) y ∙ sym (ap (ltb 0) (times_here s x xs y) ∙ positive (times s xs))
      | inr n ↦ ap (λ b. b || list_any (λ i. eqb i s) xs) n ∙ any_times s xs ∙ sym (ap (ltb 0) (times_there s x xs n))
    ]
  where
    positive : (n : ℕ) → ltb 0 (suc n) ≡ true
    positive n = grind (arith, nat_tests)

holds_any : (s : ℕ) (ms : List Member) → list_any (λ x. eqb x s) (serials_of ms) ≡ holds ms s
holds_any s [] = refl
holds_any s (m ∷ ms) = ap (λ b. eqb m.serial s || b) (holds_any s ms)

pub tally_holds : (s : ℕ) (xs : List ℕ) (ms : List Member) → IsTally xs ms → list_any (λ x. eqb x s) xs ≡ holds ms s
tally_holds s xs ms h = any_times s xs ∙ ap (ltb 0) (h.each s) ∙ sym (any_times s (serials_of ms)) ∙ holds_any s ms

-- ---- as many serials as members

-- the list without the first place of a serial
abbrev less_one : ℕ → List ℕ → List ℕ
less_one s [] = []
less_one s (x ∷ xs) = cond (eqb x s) xs (x ∷ less_one s xs)

less_shorter : (s : ℕ) (xs : List ℕ) → 0 < times s xs → suc (length (less_one s xs)) ≡ length xs
less_shorter s [] h = let none : times s [] ≡ 0 = refl in absurd (omega arith)
less_shorter s (x ∷ xs) h =
    elim (cases_Bool (eqb x s)) [
      | inl y ↦ ap (λ l. suc (length l)) (cond-true (eqb x s) xs (x ∷ less_one s xs) y)
      | inr n ↦ ap (λ l. suc (length l)) (cond-false (eqb x s) xs (x ∷ less_one s xs) n) ∙ ap suc (less_shorter s xs (let a = times_there s x xs n in omega arith))
    ]

less_times : (s t : ℕ) (xs : List ℕ) → 0 < times s xs → times t (s ∷ less_one s xs) ≡ times t xs
less_times s t [] h = let none : times s [] ≡ 0 = refl in absurd (omega arith)
less_times s t (x ∷ xs) h =
    elim (cases_Bool (eqb x s)) [
      | inl y ↦ ap (λ l. times t (s ∷ l)) (cond-true (eqb x s) xs (x ∷ less_one s xs) y) ∙ ap (λ i. times t (i ∷ xs)) (sym (same_key x s y))
      | inr n ↦
          ap (λ l. times t (s ∷ l)) (cond-false (eqb x s) xs (x ∷ less_one s xs) n) ∙ sym (times_push t s (x ∷ less_one s xs))
          ∙ times_cons t x (less_one s xs ++ s ∷ []) xs (times_push t s (less_one s xs) ∙ less_times s t xs (let a = times_there s x xs n in omega arith))
    ]

times_less : (s t : ℕ) (xs ys : List ℕ) → times t (s ∷ xs) ≡ times t (s ∷ ys) → times t xs ≡ times t ys
times_less s t xs ys h =
    elim (cases_Bool (eqb s t)) [
      | inl y ↦ let a = times_here t s xs y in let b = times_here t s ys y in omega arith
      | inr n ↦ let a = times_there t s xs n in let b = times_there t s ys n in omega arith
    ]

as_long : (xs ys : List ℕ) → ((s : ℕ) → times s xs ≡ times s ys) → length xs ≡ length ys
as_long [] [] h = refl
as_long [] (y ∷ ys) h = let a : 0 ≡ times y (y ∷ ys) = h y in let b = times_here y y ys (eqb_self y) in absurd (omega arith)
as_long (x ∷ xs) ys h =
    let has : 0 < times x ys = let a = h x in let b = times_here x x xs (eqb_self x) in omega arith in
    ap suc (as_long xs (less_one x ys) (λ t. times_less x t xs (less_one x ys) (h t ∙ sym (less_times x t ys has)))) ∙ less_shorter x ys has

pub tally_long : (xs : List ℕ) (ms : List Member) → IsTally xs ms → length xs ≡ length ms
tally_long xs ms h = as_long xs (serials_of ms) h.each ∙ length-map ms (λ (m : Member). m.serial)

-- ---- members that come and go

serials_push : (ps : List Keyed) (key : ℕ) (m : Member) → serials_of (members_in (ps ++ (key, m) ∷ [])) ≡ serials_of (members_in ps) ++ m.serial ∷ []
serials_push [] key m = refl
serials_push (p ∷ ps) key m = ap (λ l. p.1.serial ∷ l) (serials_push ps key m)

pub tally_push : (ps qs : List Keyed) (xs ys : List ℕ) (key : ℕ) (m : Member) → IsTally xs (members_in ps) → IsPermutation (m.serial ∷ xs) ys → qs ≡ ps ++ (key, m) ∷ [] → IsTally ys (members_in qs)
tally_push ps qs xs ys key m h p is =
    record {
      each = λ s.
          times_alike s (m.serial ∷ xs) ys p ∙ times_cons s m.serial xs (serials_of (members_in ps)) (h.each s) ∙ sym (times_push s m.serial (serials_of (members_in ps)))
          ∙ sym (ap (times s) (serials_push ps key m)) ∙ ap (λ l. times s (serials_of (members_in l))) (sym is);
    }

times_out : (s key : ℕ) (ps : List Keyed) (m : Member) → AreApart ps → Some m ≡ member_at key ps → times s (m.serial ∷ serials_of (members_in (without_key key ps))) ≡ times s (serials_of (members_in ps))
times_out s key [] m h at = absurd (cc)
times_out s key (p ∷ ps) m h at =
    elim (cases_Bool (eqb p.0 key)) [
      | inl t ↦
          let same : m ≡ p.1 = some_member m p.1 (at ∙ cond-true (eqb p.0 key) (Some p.1) (member_at key ps) t) in
          let none : has_key key ps ≡ false = subst (λ k. has_key k ps ≡ false) (same_key p.0 key t) h.0 in
          ap (λ l. times s (m.serial ∷ serials_of (members_in l))) (filter_no (λ (q : Keyed). not (eqb q.0 key)) p ps (ap not t) ∙ without_none key ps none) ∙ ap (λ (i : Member). times s (i.serial ∷ serials_of (members_in ps))) same
      | inr f ↦
          ap (λ l. times s (m.serial ∷ serials_of (members_in l))) (filter_yes (λ (q : Keyed). not (eqb q.0 key)) p ps (ap not f))
          ∙ sym (times_push s m.serial (p.1.serial ∷ serials_of (members_in (without_key key ps))))
          ∙ times_cons s p.1.serial (serials_of (members_in (without_key key ps)) ++ m.serial ∷ []) (serials_of (members_in ps))
          (times_push s m.serial (serials_of (members_in (without_key key ps))) ∙ times_out s key ps m h.1 (at ∙ cond-false (eqb p.0 key) (Some p.1) (member_at key ps) f))
    ]

held_at : (key : ℕ) (ps : List Keyed) (m : Member) → Some m ≡ member_at key ps → holds (members_in ps) m.serial ≡ true
held_at key [] m at = absurd (cc)
held_at key (p ∷ ps) m at =
    elim (cases_Bool (eqb p.0 key)) [
      | inl t ↦
          let same : m ≡ p.1 = some_member m p.1 (at ∙ cond-true (eqb p.0 key) (Some p.1) (member_at key ps) t) in
          ap (λ (i : Member). eqb i.serial m.serial || holds (members_in ps) m.serial) (sym same) ∙ ap (λ b. b || holds (members_in ps) m.serial) (eqb_self m.serial)
      | inr f ↦ second (eqb p.1.serial m.serial) (holds (members_in ps) m.serial) (held_at key ps m (at ∙ cond-false (eqb p.0 key) (Some p.1) (member_at key ps) f))
    ]
  where
    second : (a b : Bool) → b ≡ true → (a || b) ≡ true
    second true b h = refl
    second false b h = h

pub tally_out : (ps qs : List Keyed) (xs ys : List ℕ) (key : ℕ) (m : Member) → IsTally xs (members_in ps) → AreApart ps → Some m ≡ member_at key ps → (list_any (λ x. eqb x m.serial) xs ≡ true → IsPermutation xs (m.serial ∷ ys)) → qs ≡ without_key key ps → IsTally ys (members_in qs)
tally_out ps qs xs ys key m h apart at p is =
    let gone = p (tally_holds m.serial xs (members_in ps) h ∙ held_at key ps m at) in
    record {
      each = λ s.
          times_less m.serial s ys (serials_of (members_in qs))
          (times_alike s xs (m.serial ∷ ys) gone ∙ h.each s ∙ sym (times_out s key ps m apart at) ∙ ap (λ l. times s (m.serial ∷ serials_of (members_in l))) (sym is));
    }

none_out : (key : ℕ) (ps : List Keyed) → None ≡ member_at key ps → has_key key ps ≡ false
none_out key [] e = refl
none_out key (p ∷ ps) e =
    elim (cases_Bool (eqb p.0 key)) [
      | inl t ↦ let x : None ≡ Some p.1 = e ∙ cond-true (eqb p.0 key) (Some p.1) (member_at key ps) t in absurd (cc)
      | inr f ↦ ap (λ b. b || has_key key ps) f ∙ none_out key ps (e ∙ cond-false (eqb p.0 key) (Some p.1) (member_at key ps) f)
    ]

pub out_none : (key : ℕ) (ps : List Keyed) → None ≡ member_at key ps → ps ≡ without_key key ps
out_none key ps e = sym (without_none key ps (none_out key ps e))

-- ---- members that are kept by their serials

times_filter : (s : ℕ) (p : ℕ → Bool) (xs : List ℕ) → times s (filter p xs) ≡ cond (p s) (times s xs) 0
times_filter s p [] = either_way (p s) (times s [])
  where
    either_way : (b : Bool) (n : ℕ) → n ≡ cond b n n
    either_way true n = refl
    either_way false n = refl
times_filter s p (x ∷ xs) =
    elim (cases_Bool (eqb x s)) [
      | inl e ↦
          let same : p x ≡ p s = ap p (same_key x s e) in
          elim (cases_Bool (p s)) [
            | inl y ↦
                ap (times s) (filter_yes p x xs (same ∙ y)) ∙ times_here s x (filter p xs) e ∙ ap suc (times_filter s p xs ∙ cond-true (p s) (times s xs) 0 y)
                ∙ sym (cond-true (p s) (times s (x ∷ xs)) 0 y ∙ times_here s x xs e)
            | inr n ↦ ap (times s) (filter_no p x xs (same ∙ n)) ∙ times_filter s p xs ∙ cond-false (p s) (times s xs) 0 n ∙ sym (cond-false (p s) (times s (x ∷ xs)) 0 n)
          ]
      | inr f ↦
          let kept : times s (filter p (x ∷ xs)) ≡ times s (filter p xs) =
          elim (cases_Bool (p x)) [
            | inl y ↦ ap (times s) (filter_yes p x xs y) ∙ times_there s x (filter p xs) f
            | inr n ↦ ap (times s) (filter_no p x xs n)
          ] in kept ∙ times_filter s p xs ∙ ap (λ n. cond (p s) n 0) (sym (times_there s x xs f))
    ]

-- whether the serial is listed
abbrev pub listing : List ℕ → ℕ → Bool
listing serials s = list_any (λ listed. eqb listed s) serials

serials_filter : (serials : List ℕ) (ms : List Member) → serials_of (filter (is_listed serials) ms) ≡ filter (listing serials) (serials_of ms)
serials_filter serials [] = refl
serials_filter serials (m ∷ ms) =
    elim (cases_Bool (is_listed serials m)) [
      | inl y ↦ ap serials_of (filter_yes (is_listed serials) m ms y) ∙ ap (λ l. m.serial ∷ l) (serials_filter serials ms) ∙ sym (filter_yes (listing serials) m.serial (serials_of ms) y)
      | inr n ↦ ap serials_of (filter_no (is_listed serials) m ms n) ∙ serials_filter serials ms ∙ sym (filter_no (listing serials) m.serial (serials_of ms) n)
    ]

pub tally_kept : (serials xs ys : List ℕ) (ms ns : List Member) → IsTally xs ms → ys ≡ filter (listing serials) xs → ns ≡ filter (is_listed serials) ms → IsTally ys ns
tally_kept serials xs ys ms ns h is kept =
    record {
      each = λ s.
          ap (times s) is ∙ times_filter s (listing serials) xs ∙ ap (λ n. cond (listing serials s) n 0) (h.each s) ∙ sym (times_filter s (listing serials) (serials_of ms))
          ∙ sym (ap (times s) (serials_filter serials ms)) ∙ ap (λ l. times s (serials_of l)) (sym kept);
    }

-- ---- places in the list

pub rising_remove : (xs : List ℕ) (i : ℕ) → IsNonDecreasing xs → i < length xs → IsNonDecreasing (remove xs i)
rising_remove xs i up within a b d le lt =
    let long = length-remove xs i within in
    elim (cases_lt b i) [
      | inl low ↦
          let x = get_or-remove_below xs i d a (omega arith) within in
          let y = get_or-remove_below xs i d b low within in
          let z = up a b d le (omega arith) in
          omega arith
      | inr high ↦
          let y = get_or-remove_above xs i d b high within in
          elim (cases_lt a i) [
            | inl low ↦
                let x = get_or-remove_below xs i d a low within in
                let z = up a (b + 1) d (omega arith) (omega arith) in
                omega arith
            | inr over ↦
                let x = get_or-remove_above xs i d a over within in
                let z = up (a + 1) (b + 1) d (omega arith) (omega arith) in
                omega arith
          ]
    ]

pub rising_insert : (xs shown ys : List ℕ) (i x : ℕ) → IsNonDecreasing xs → shown ≡ xs → i ≤ length shown → ((k d : ℕ) → k < i → get_or shown k d ≤ x) → ((k d : ℕ) → i ≤ k → k < length shown → x ≤ get_or shown k d) → ys ≡ insert xs i x → IsNonDecreasing ys
rising_insert xs shown ys i x up same within low high is =
    subst IsNonDecreasing (sym is)
    (IsNonDecreasingBy-insert (λ y. y) xs i x up (subst (λ l. i ≤ length l) same within) (λ k d lt. subst (λ l. get_or l k d ≤ x) same (low k d lt))
    (λ k d le lt. subst (λ l. x ≤ get_or l k d) same (high k d le (subst (λ l. k < length l) (sym same) lt))))

pub put_in : (xs ys : List ℕ) (i x : ℕ) → ys ≡ insert xs i x → IsPermutation (x ∷ xs) ys
put_in xs ys i x is = subst (IsPermutation (x ∷ xs)) (sym is) (IsPermutation-insert xs i x)

pub rising_taken : (xs shown ys : List ℕ) (i x : ℕ) → IsNonDecreasing xs → shown ≡ xs → IsBinarySearchResult (λ y. nat_cmp y x) shown (Ok i) → ys ≡ remove xs i → IsNonDecreasing ys
rising_taken xs shown ys i x up same found is =
    let s = searched xs x (Ok i) (subst (λ l. IsBinarySearchResult (λ y. nat_cmp y x) l (Ok i)) same found) (λ j k le lt. up j k 0 le lt) in subst IsNonDecreasing (sym is) (rising_remove xs i up s.0)

pub taken_once : (xs shown ys : List ℕ) (i x : ℕ) → IsNonDecreasing xs → shown ≡ xs → IsBinarySearchResult (λ y. nat_cmp y x) shown (Ok i) → ys ≡ remove xs i → IsPermutation xs (x ∷ ys)
taken_once xs shown ys i x up same found is =
    let s = searched xs x (Ok i) (subst (λ l. IsBinarySearchResult (λ y. nat_cmp y x) l (Ok i)) same found) (λ j k le lt. up j k 0 le lt) in
    subst (λ l. IsPermutation xs (x ∷ l)) (sym is) (IsPermutation-remove xs i x s.0 (sym s.1 ∙ get_or_default xs i 0 x s.0))

pub none_taken : (xs shown : List ℕ) (i x : ℕ) → IsNonDecreasing xs → shown ≡ xs → IsBinarySearchResult (λ y. nat_cmp y x) shown (Err i) → list_any (λ y. eqb y x) xs ≡ true → IsPermutation xs (x ∷ xs)
none_taken xs shown i x up same found has =
    absurd (false≢true (listed_by_halves xs x (Err i) up (subst (λ l. IsBinarySearchResult (λ y. nat_cmp y x) l (Err i)) same found) ∙ has))

pub rising_kept : (p : ℕ → Bool) (xs ys : List ℕ) → IsNonDecreasing xs → ys ≡ filter p xs → IsNonDecreasing ys
rising_kept p xs ys up is = subst IsNonDecreasing (sym is) (IsNonDecreasingBy-filter (λ y. y) p xs up)
