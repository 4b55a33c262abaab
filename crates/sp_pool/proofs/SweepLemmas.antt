-- Members that are kept by their serials.
use Rattle.std.proofs.Common.{◌≡◌, ℕ, ◌+◌, ◌<◌, ◌≤◌, Bool, true, false, not, ◌||◌, ◌&&◌, cond, eqb, List, [], ◌∷◌, length, filter, drop, get_or, Some, None, Result, Ok, Err, is_some, is_ok, refl, sym, ap, ◌∙◌, subst, inl, inr, arith}
use Rattle.std.proofs.lemmas.Bool.{cases_Bool, cases_lt, cond-true, cond-false}
use Rattle.std.proofs.lemmas.List.{drop_more, drop_all, get_or_default}
use Rattle.std.proofs.lemmas.Bool.Decides.{nat_tests}
use Rattle.std.proofs.lemmas.List.Folds.{list_any_at, list_any_none}
use Rattle.std.proofs.lemmas.List.Sorted.{searched}
use Rattle.std.specs.List.{list_any}
use Rattle.std.specs.List.Sorted.{IsNonDecreasing, IsBinarySearchResult}
use Rattle.std.specs.Ordering.{nat_cmp}
use Rattle.sp_pool.specs.declared.members.Member.{Member}
use Rattle.sp_pool.specs.Pools.{is_listed}
use Rattle.sp_pool.specs.InnerLines.{Keyed, Row, has_key, AreApart, without_key, member_at, keys, members_in}
use Rattle.sp_pool.specs.InnerRanks.{by_rank, is_held, unless_listed, swept, IsRanked}
use Rattle.sp_pool.proofs.RankLemmas.{any_ranked, AllFound, found_ranked, by_rank_filter, apart_filter, filter_yes, filter_no, no_either, either_back, eqb_self}

-- ---- one member that is looked at

pub unless_absent : (serials : List ℕ) (key : ℕ) (ps : List Keyed) → has_key key ps ≡ false → unless_listed serials key ps ≡ ps
unless_absent serials key [] h = refl
unless_absent serials key (p ∷ ps) h =
    let e = no_either (eqb p.0 key) (has_key key ps) h in
    filter_yes (λ (q : Keyed). not (eqb q.0 key) || is_listed serials q.1) p ps (ap (λ b. not b || is_listed serials p.1) e.0) ∙ ap (λ xs. p ∷ xs) (unless_absent serials key ps e.1)

pub same_key : (j k : ℕ) → eqb j k ≡ true → j ≡ k
same_key j k t = grind (arith, nat_tests)

pub some_member : (a b : Member) → Some a ≡ Some b → a ≡ b
some_member a b e = cc

pub unless_kept : (serials : List ℕ) (key : ℕ) (ps : List Keyed) (m : Member) → AreApart ps → Some m ≡ member_at key ps → is_listed serials m ≡ true → unless_listed serials key ps ≡ ps
unless_kept serials key [] m h at l = refl
unless_kept serials key (p ∷ ps) m h at l =
    elim (cases_Bool (eqb p.0 key)) [
      | inl t ↦
          let same : m ≡ p.1 = some_member m p.1 (at ∙ cond-true (eqb p.0 key) (Some p.1) (member_at key ps) t) in
          let none : has_key key ps ≡ false = subst (λ k. has_key k ps ≡ false) (same_key p.0 key t) h.0 in
          filter_yes (λ (q : Keyed). not (eqb q.0 key) || is_listed serials q.1) p ps (either_back (not (eqb p.0 key)) _ (ap (is_listed serials) (sym same) ∙ l)) ∙ ap (λ xs. p ∷ xs) (unless_absent serials key ps none)
      | inr f ↦
          filter_yes (λ (q : Keyed). not (eqb q.0 key) || is_listed serials q.1) p ps (ap (λ b. not b || is_listed serials p.1) f)
          ∙ ap (λ xs. p ∷ xs) (unless_kept serials key ps m h.1 (at ∙ cond-false (eqb p.0 key) (Some p.1) (member_at key ps) f) l)
    ]

pub without_none : (key : ℕ) (ps : List Keyed) → has_key key ps ≡ false → without_key key ps ≡ ps
without_none key [] h = refl
without_none key (p ∷ ps) h = let e = no_either (eqb p.0 key) (has_key key ps) h in filter_yes (λ (q : Keyed). not (eqb q.0 key)) p ps (ap not e.0) ∙ ap (λ xs. p ∷ xs) (without_none key ps e.1)

both_false : (a b : Bool) → a ≡ true → b ≡ false → (not a || b) ≡ false
both_false a b h k = ap (λ x. not x || b) h ∙ k

pub unless_dropped : (serials : List ℕ) (key : ℕ) (ps : List Keyed) (m : Member) → AreApart ps → Some m ≡ member_at key ps → is_listed serials m ≡ false → without_key key ps ≡ unless_listed serials key ps
unless_dropped serials key [] m h at l = refl
unless_dropped serials key (p ∷ ps) m h at l =
    elim (cases_Bool (eqb p.0 key)) [
      | inl t ↦
          let same : m ≡ p.1 = some_member m p.1 (at ∙ cond-true (eqb p.0 key) (Some p.1) (member_at key ps) t) in
          let none : has_key key ps ≡ false = subst (λ k. has_key k ps ≡ false) (same_key p.0 key t) h.0 in
          filter_no (λ (q : Keyed). not (eqb q.0 key)) p ps (ap not t) ∙ without_none key ps none
          ∙ sym (filter_no (λ (q : Keyed). not (eqb q.0 key) || is_listed serials q.1) p ps (both_false (eqb p.0 key) (is_listed serials p.1) t (ap (is_listed serials) (sym same) ∙ l)) ∙ unless_absent serials key ps none)
      | inr f ↦
          filter_yes (λ (q : Keyed). not (eqb q.0 key)) p ps (ap not f)
          ∙ ap (λ xs. p ∷ xs) (unless_dropped serials key ps m h.1 (at ∙ cond-false (eqb p.0 key) (Some p.1) (member_at key ps) f) l)
          ∙ sym (filter_yes (λ (q : Keyed). not (eqb q.0 key) || is_listed serials q.1) p ps (ap (λ b. not b || is_listed serials p.1) f))
    ]

pub unless_none : (serials : List ℕ) (key : ℕ) (ps : List Keyed) → None ≡ member_at key ps → ps ≡ unless_listed serials key ps
unless_none serials key ps e = sym (unless_absent serials key ps (absent ps e))
  where
    absent : (qs : List Keyed) → None ≡ member_at key qs → has_key key qs ≡ false
    absent [] e = refl
    absent (q ∷ qs) e =
        elim (cases_Bool (eqb q.0 key)) [
          | inl t ↦ let x : None ≡ Some q.1 = e ∙ cond-true (eqb q.0 key) (Some q.1) (member_at key qs) t in absurd (cc)
          | inr f ↦ ap (λ b. b || has_key key qs) f ∙ absent qs (e ∙ cond-false (eqb q.0 key) (Some q.1) (member_at key qs) f)
        ]

-- ---- all of them

filter_twice : (f g : Keyed → Bool) (ps : List Keyed) → filter f (filter g ps) ≡ filter (λ p. g p && f p) ps
filter_twice f g [] = refl
filter_twice f g (p ∷ ps) =
    elim (cases_Bool (g p)) [
      | inl y ↦ ap (filter f) (filter_yes g p ps y) ∙ ap (λ xs. cond (f p) (p ∷ xs) xs) (filter_twice f g ps) ∙ sym (ap (λ b. cond (b && f p) (p ∷ filter (λ q. g q && f q) ps) (filter (λ q. g q && f q) ps)) y)
      | inr n ↦ ap (filter f) (filter_no g p ps n) ∙ filter_twice f g ps ∙ sym (ap (λ b. cond (b && f p) (p ∷ filter (λ q. g q && f q) ps) (filter (λ q. g q && f q) ps)) n)
    ]

filter_on : (f g : Keyed → Bool) (ps : List Keyed) → ((p : Keyed) → has_key p.0 ps ≡ true → f p ≡ g p) → filter f ps ≡ filter g ps
filter_on f g [] h = refl
filter_on f g (p ∷ ps) h =
    ap (λ b. cond b (p ∷ filter f ps) (filter f ps)) (h p (ap (λ b. b || has_key p.0 ps) (eqb_self p.0)))
    ∙ ap (λ xs. cond (g p) (p ∷ xs) xs) (filter_on f g ps (λ q there. h q (either_back (eqb p.0 q.0) _ there)))

-- whether the key isn't among these, or the member's serial is listed
abbrev stays : List ℕ → List ℕ → Keyed → Bool
stays serials ks p = not (list_any (λ k. eqb p.0 k) ks) || is_listed serials p.1

stays_more : (a b l : Bool) → ((not a || l) && (not b || l)) ≡ (not (a || b) || l)
stays_more true true true = refl
stays_more true true false = refl
stays_more true false true = refl
stays_more true false false = refl
stays_more false true true = refl
stays_more false true false = refl
stays_more false false true = refl
stays_more false false false = refl

pub swept_is : (serials ks : List ℕ) (ps : List Keyed) → swept serials ks ps ≡ filter (stays serials ks) ps
swept_is serials [] ps = sym (all_stay ps)
  where
    all_stay : (qs : List Keyed) → filter (stays serials []) qs ≡ qs
    all_stay [] = refl
    all_stay (q ∷ qs) = ap (λ xs. q ∷ xs) (all_stay qs)
swept_is serials (k ∷ ks) ps =
    swept_is serials ks (unless_listed serials k ps) ∙ filter_twice (stays serials ks) (λ (p : Keyed). not (eqb p.0 k) || is_listed serials p.1) ps
    ∙ filter_on (λ (p : Keyed). (not (eqb p.0 k) || is_listed serials p.1) && stays serials ks p) (stays serials (k ∷ ks)) ps (λ p there. stays_more (eqb p.0 k) (list_any (λ i. eqb p.0 i) ks) (is_listed serials p.1))

eqb_turn : (j k : ℕ) → eqb j k ≡ eqb k j
eqb_turn j k = grind (arith, nat_tests)

any_keys : (key : ℕ) (qs : List Keyed) → list_any (λ k. eqb key k) (keys qs) ≡ has_key key qs
any_keys key [] = refl
any_keys key (q ∷ qs) = ap (λ b. b || list_any (λ k. eqb key k) (keys qs)) (eqb_turn key q.0) ∙ ap (λ b. eqb q.0 key || b) (any_keys key qs)

pub swept_all : (serials : List ℕ) (ps : List Keyed) → swept serials (keys (by_rank ps)) ps ≡ filter (λ p. is_listed serials p.1) ps
swept_all serials ps =
    swept_is serials (keys (by_rank ps)) ps
    ∙ filter_on (stays serials (keys (by_rank ps))) (λ (p : Keyed). is_listed serials p.1) ps
    (λ p there. ap (λ b. not b || is_listed serials p.1) (any_keys p.0 (by_rank ps) ∙ any_ranked (λ (q : Keyed). eqb q.0 p.0) ps ∙ there))

pub members_filter : (t : Member → Bool) (ps : List Keyed) → members_in (filter (λ p. t p.1) ps) ≡ filter t (members_in ps)
members_filter t [] = refl
members_filter t (p ∷ ps) =
    elim (cases_Bool (t p.1)) [
      | inl y ↦ ap members_in (filter_yes (λ (q : Keyed). t q.1) p ps y) ∙ ap (λ xs. p.1 ∷ xs) (members_filter t ps) ∙ sym (filter_yes t p.1 (members_in ps) y)
      | inr n ↦ ap members_in (filter_no (λ (q : Keyed). t q.1) p ps n) ∙ members_filter t ps ∙ sym (filter_no t p.1 (members_in ps) n)
    ]

-- ---- the list by value afterwards

held_none : (t : Keyed → Bool) (key : ℕ) (ps : List Keyed) → has_key key ps ≡ false → member_at key (filter t ps) ≡ None
held_none t key [] h = refl
held_none t key (p ∷ ps) h =
    let e = no_either (eqb p.0 key) (has_key key ps) h in
    elim (cases_Bool (t p)) [
      | inl y ↦ ap (member_at key) (filter_yes t p ps y) ∙ cond-false (eqb p.0 key) (Some p.1) (member_at key (filter t ps)) e.0 ∙ held_none t key ps e.1
      | inr n ↦ ap (member_at key) (filter_no t p ps n) ∙ held_none t key ps e.1
    ]

held_is : (t : Member → Bool) (key : ℕ) (ps : List Keyed) (m : Member) → AreApart ps → member_at key ps ≡ Some m → is_held (filter (λ p. t p.1) ps) key ≡ t m
held_is t key [] m h at = absurd (cc)
held_is t key (p ∷ ps) m h at =
    let test : Keyed → Bool = λ q. t q.1 in
    elim (cases_Bool (eqb p.0 key)) [
      | inl e ↦
          let same : p.1 ≡ m = some_member p.1 m (sym (cond-true (eqb p.0 key) (Some p.1) (member_at key ps) e) ∙ at) in
          let none : has_key key ps ≡ false = subst (λ k. has_key k ps ≡ false) (same_key p.0 key e) h.0 in
          elim (cases_Bool (t p.1)) [
            | inl y ↦ ap (λ qs. is_held qs key) (filter_yes test p ps y) ∙ ap is_some (cond-true (eqb p.0 key) (Some p.1) (member_at key (filter test ps)) e) ∙ sym y ∙ ap t same
            | inr n ↦ ap (λ qs. is_held qs key) (filter_no test p ps n) ∙ ap is_some (held_none test key ps none) ∙ sym n ∙ ap t same
          ]
      | inr o ↦
          let at' : member_at key ps ≡ Some m = sym (cond-false (eqb p.0 key) (Some p.1) (member_at key ps) o) ∙ at in
          elim (cases_Bool (t p.1)) [
            | inl y ↦ ap (λ qs. is_held qs key) (filter_yes test p ps y) ∙ ap is_some (cond-false (eqb p.0 key) (Some p.1) (member_at key (filter test ps)) o) ∙ held_is t key ps m h.1 at'
            | inr n ↦ ap (λ qs. is_held qs key) (filter_no test p ps n) ∙ held_is t key ps m h.1 at'
          ]
    ]

held_keys : (t : Member → Bool) (ps qs : List Keyed) → AreApart ps → AllFound ps qs → filter (is_held (filter (λ p. t p.1) ps)) (keys qs) ≡ keys (filter (λ p. t p.1) qs)
held_keys t ps [] h f = refl
held_keys t ps (q ∷ qs) h f =
    ap (λ b. cond b (q.0 ∷ filter (is_held (filter (λ (p : Keyed). t p.1) ps)) (keys qs)) (filter (is_held (filter (λ (p : Keyed). t p.1) ps)) (keys qs))) (held_is t q.0 ps q.1 h f.0)
    ∙ ap (λ xs. cond (t q.1) (q.0 ∷ xs) xs) (held_keys t ps qs h f.1) ∙ either_way (t q.1)
  where
    either_way : (b : Bool) → cond b (q.0 ∷ keys (filter (λ (p : Keyed). t p.1) qs)) (keys (filter (λ (p : Keyed). t p.1) qs)) ≡ keys (cond b (q ∷ filter (λ (p : Keyed). t p.1) qs) (filter (λ (p : Keyed). t p.1) qs))
    either_way true = refl
    either_way false = refl

pub ranked_retain : (row row' : Row) (ranks ranks' serials : List ℕ) → IsRanked row ranks → row'.items ≡ swept serials ranks row.items → ranks' ≡ filter (is_held row'.items) ranks → IsRanked row' ranks' × (members_in row'.items ≡ filter (is_listed serials) (members_in row.items))
ranked_retain row row' ranks ranks' serials h is kept =
    let items : row'.items ≡ filter (λ p. is_listed serials p.1) row.items = is ∙ ap (λ rs. swept serials rs row.items) h.ranked ∙ swept_all serials row.items in
    let rs : ranks' ≡ keys (by_rank row'.items) =
    kept ∙ ap (λ ps. filter (is_held ps) ranks) items ∙ ap (filter (is_held (filter (λ (p : Keyed). is_listed serials p.1) row.items))) h.ranked
    ∙ held_keys (is_listed serials) row.items (by_rank row.items) h.apart (found_ranked row.items h.apart)
    ∙ sym (ap keys (by_rank_filter (λ (p : Keyed). is_listed serials p.1) row.items)) ∙ ap (λ ps. keys (by_rank ps)) (sym items)
    in (
      record { ranked = rs; apart = subst AreApart (sym items) (apart_filter (λ (p : Keyed). is_listed serials p.1) row.items h.apart) },
      ap members_in items ∙ members_filter (is_listed serials) row.items,
    )

-- ---- serials that are listed

pub listed_by_halves : (xs : List ℕ) (x : ℕ) (r : Result ℕ ℕ) → IsNonDecreasing xs → IsBinarySearchResult (λ y. nat_cmp y x) xs r → is_ok r ≡ list_any (λ y. eqb y x) xs
listed_by_halves xs x (Ok i) up h =
    let s = searched xs x (Ok i) h (λ j k le lt. up j k 0 le lt) in
    sym (list_any_at (λ y. eqb y x) xs i 0 s.0 (ap (λ y. eqb y x) s.1 ∙ eqb_self x))
listed_by_halves xs x (Err i) up h =
    let s = searched xs x (Err i) h (λ j k le lt. up j k 0 le lt) in
    sym (list_any_none (λ y. eqb y x) xs (λ k d lt. apart k d lt s))
  where
    apart : (k d : ℕ) → k < length xs → ((i ≤ length xs) × ((k : ℕ) → k < i → get_or xs k 0 < x) × ((k : ℕ) → i ≤ k → k < length xs → x < get_or xs k 0)) → eqb (get_or xs k d) x ≡ false
    apart k d lt s =
        let same : get_or xs k d ≡ get_or xs k 0 = get_or_default xs k d 0 lt in
        elim (cases_lt k i) [
          | inl before ↦ let b = s.1 k before in grind (arith, nat_tests)
          | inr behind ↦ let b = s.2 k behind lt in grind (arith, nat_tests)
        ]

-- ---- loops

pub swept_more : (serials ks : List ℕ) (i key : ℕ) (ps : List Keyed) → i < length ks → key ≡ get_or ks i key → swept serials (drop (i + 1) ks) (unless_listed serials key ps) ≡ swept serials (drop i ks) ps
swept_more serials ks i key ps lt is = sym (ap (λ rs. swept serials rs ps) (drop_more ks i key lt) ∙ ap (λ k. swept serials (drop (i + 1) ks) (unless_listed serials k ps)) (sym is))

pub swept_done : (serials ks : List ℕ) (i : ℕ) (ps : List Keyed) → length ks ≤ i → swept serials (drop i ks) ps ≡ ps
swept_done serials ks i ps le = ap (λ rs. swept serials rs ps) (drop_all i ks le)

pub unless_apart : (serials : List ℕ) (key : ℕ) (ps : List Keyed) → AreApart ps → AreApart (unless_listed serials key ps)
unless_apart serials key ps h = apart_filter (λ (p : Keyed). not (eqb p.0 key) || is_listed serials p.1) ps h
