-- The order by value and then by arrival, as members come and go.
use Rattle.std.proofs.Common.{◌≡◌, ℕ, zero, suc, ◌+◌, ◌-◌, ◌<◌, ◌≤◌, Bool, true, false, not, ◌||◌, ◌&&◌, cond, eqb, List, [], ◌∷◌, ◌++◌, length, filter, take, drop, Option, Some, None, ℤ, pos, ◌≤ℤ◌, ◌<ℤ◌, int_le, refl, sym, ap, ◌∙◌, subst, inl, inr, arith}
use Rattle.std.proofs.lemmas.Bool.{cases_Bool, cond-true, cond-false}
use Rattle.std.proofs.lemmas.Bool.Decides.{nat_tests}
use Rattle.std.proofs.lemmas.Int.{ints}
use Rattle.std.proofs.lemmas.List.Folds.{list_any_at}
use Rattle.std.proofs.lemmas.List.Sums.{prefix_len_is, prefix_len-le-length}
use Rattle.std.proofs.lemmas.List.{length-map}
use Rattle.std.specs.Prelude.{slice_get}
use Rattle.std.specs.List.{list_any, list_all, prefix_len, insert, remove}
use Rattle.std.specs.List.Sorted.{IsPartitionedBy, IsPartitionPoint}
use Rattle.sp_pool.specs.declared.members.Member.{Member}
use Rattle.sp_pool.specs.Pools.{is_above, within, without_worst}
use Rattle.sp_pool.specs.InnerLines.{Keyed, Row, has_key, AreApart, without_key, member_at, first_key, keys, members_in}
use Rattle.sp_pool.proofs.LineLemmas.{apart_push}
use Rattle.sp_pool.specs.InnerRanks.{placed, by_rank, is_lesser, is_up_to, at_keys, IsParted, IsRanked}

-- ---- values

pub le_true : (a b : ℤ) → int_le a b ≡ true → a ≤ℤ b
le_true a b h = grind (arith, ints)

pub le_false : (a b : ℤ) → int_le a b ≡ false → b <ℤ a
le_false a b h = grind (arith, ints)

pub le_test : (a b : ℤ) → a ≤ℤ b → int_le a b ≡ true
le_test a b h = grind (arith, ints)

pub lt_test : (a b : ℤ) → b <ℤ a → int_le a b ≡ false
lt_test a b h = grind (arith, ints)

pub le_chain : (a b c : ℤ) → int_le a b ≡ true → int_le b c ≡ true → int_le a c ≡ true
le_chain a b c h k = let x = le_true a b h in let y = le_true b c k in le_test a c (omega (arith, ints))

-- ---- a member that comes last

-- put behind all whose value isn't greater
abbrev pub put_after : Keyed → List Keyed → List Keyed
put_after p [] = p ∷ []
put_after p (q ∷ qs) = cond (int_le q.1.value p.1.value) (q ∷ put_after p qs) (p ∷ q ∷ qs)

placed_after : (q p : Keyed) (qs : List Keyed) → placed q (put_after p qs) ≡ put_after p (placed q qs)
placed_after q p [] =
    elim (cases_Bool (int_le q.1.value p.1.value)) [
      | inl t ↦ cond-true (int_le q.1.value p.1.value) _ _ t ∙ sym (cond-true (int_le q.1.value p.1.value) _ _ t)
      | inr f ↦ cond-false (int_le q.1.value p.1.value) _ _ f ∙ sym (cond-false (int_le q.1.value p.1.value) _ _ f)
    ]
placed_after q p (r ∷ rs) =
    elim (cases_Bool (int_le r.1.value p.1.value)) [
      | inl rp ↦
          ap (placed q) (cond-true (int_le r.1.value p.1.value) (r ∷ put_after p rs) (p ∷ r ∷ rs) rp) ∙ elim (cases_Bool (int_le q.1.value r.1.value)) [
            | inl qr ↦
                cond-true (int_le q.1.value r.1.value) _ _ qr
                ∙ sym (ap (put_after p) (cond-true (int_le q.1.value r.1.value) (q ∷ r ∷ rs) (r ∷ placed q rs) qr) ∙ cond-true (int_le q.1.value p.1.value) _ _ (le_chain q.1.value r.1.value p.1.value qr rp) ∙ ap (λ xs. q ∷ xs) (cond-true (int_le r.1.value p.1.value) (r ∷ put_after p rs) (p ∷ r ∷ rs) rp))
            | inr rq ↦
                cond-false (int_le q.1.value r.1.value) _ _ rq ∙ ap (λ xs. r ∷ xs) (placed_after q p rs)
                ∙ sym (ap (put_after p) (cond-false (int_le q.1.value r.1.value) (q ∷ r ∷ rs) (r ∷ placed q rs) rq) ∙ cond-true (int_le r.1.value p.1.value) _ _ rp)
          ]
      | inr pr ↦
          ap (placed q) (cond-false (int_le r.1.value p.1.value) (r ∷ put_after p rs) (p ∷ r ∷ rs) pr) ∙ elim (cases_Bool (int_le q.1.value r.1.value)) [
            | inl qr ↦
                sym (ap (put_after p) (cond-true (int_le q.1.value r.1.value) (q ∷ r ∷ rs) (r ∷ placed q rs) qr)
                ∙ elim (cases_Bool (int_le q.1.value p.1.value)) [
                  | inl qp ↦
                      cond-true (int_le q.1.value p.1.value) (q ∷ put_after p (r ∷ rs)) (p ∷ q ∷ r ∷ rs) qp ∙ ap (λ xs. q ∷ xs) (cond-false (int_le r.1.value p.1.value) (r ∷ put_after p rs) (p ∷ r ∷ rs) pr)
                      ∙ sym (cond-true (int_le q.1.value p.1.value) (q ∷ p ∷ r ∷ rs) (p ∷ placed q (r ∷ rs)) qp)
                  | inr pq ↦
                      cond-false (int_le q.1.value p.1.value) (q ∷ put_after p (r ∷ rs)) (p ∷ q ∷ r ∷ rs) pq ∙ ap (λ xs. p ∷ xs) (sym (cond-true (int_le q.1.value r.1.value) (q ∷ r ∷ rs) (r ∷ placed q rs) qr))
                      ∙ sym (cond-false (int_le q.1.value p.1.value) (q ∷ p ∷ r ∷ rs) (p ∷ placed q (r ∷ rs)) pq)
                ])
            | inr rq ↦
                let x = le_false q.1.value r.1.value rq in
                let y = le_false r.1.value p.1.value pr in
                let pq : int_le q.1.value p.1.value ≡ false = lt_test q.1.value p.1.value (omega (arith, ints)) in
                cond-false (int_le q.1.value p.1.value) (q ∷ p ∷ r ∷ rs) (p ∷ placed q (r ∷ rs)) pq ∙ ap (λ xs. p ∷ xs) (cond-false (int_le q.1.value r.1.value) (q ∷ r ∷ rs) (r ∷ placed q rs) rq)
                ∙ sym (ap (put_after p) (cond-false (int_le q.1.value r.1.value) (q ∷ r ∷ rs) (r ∷ placed q rs) rq) ∙ cond-false (int_le r.1.value p.1.value) (r ∷ put_after p (placed q rs)) (p ∷ r ∷ placed q rs) pr)
          ]
    ]

pub by_rank_push : (ps : List Keyed) (p : Keyed) → by_rank (ps ++ p ∷ []) ≡ put_after p (by_rank ps)
by_rank_push [] p = refl
by_rank_push (q ∷ ps) p = ap (placed q) (by_rank_push ps p) ∙ placed_after q p (by_rank ps)

-- ---- values rise

abbrev pub Rises : List Keyed → Type 0
Rises [] = Unit {0}
Rises (q ∷ qs) = (list_all (λ r. int_le q.1.value r.1.value) qs ≡ true) × Rises qs

both : (a b : Bool) → a ≡ true → b ≡ true → (a && b) ≡ true
both a b h k = ap (λ x. x && b) h ∙ k

parts : (a b : Bool) → (a && b) ≡ true → (a ≡ true) × (b ≡ true)
parts true b h = (refl, h)
parts false b h = absurd (cc)

all_placed : (v : ℤ) (p : Keyed) (qs : List Keyed) → int_le v p.1.value ≡ true → list_all (λ r. int_le v r.1.value) qs ≡ true → list_all (λ r. int_le v r.1.value) (placed p qs) ≡ true
all_placed v p [] h k = both _ _ h refl
all_placed v p (q ∷ qs) h k =
    let e = parts _ _ k in
    elim (cases_Bool (int_le p.1.value q.1.value)) [
      | inl t ↦ ap (list_all (λ (r : Keyed). int_le v r.1.value)) (cond-true (int_le p.1.value q.1.value) (p ∷ q ∷ qs) (q ∷ placed p qs) t) ∙ both _ _ h k
      | inr f ↦ ap (list_all (λ (r : Keyed). int_le v r.1.value)) (cond-false (int_le p.1.value q.1.value) (p ∷ q ∷ qs) (q ∷ placed p qs) f) ∙ both _ _ e.0 (all_placed v p qs h e.1)
    ]

all_lower : (v w : ℤ) (qs : List Keyed) → int_le v w ≡ true → list_all (λ r. int_le w r.1.value) qs ≡ true → list_all (λ r. int_le v r.1.value) qs ≡ true
all_lower v w [] h k = refl
all_lower v w (q ∷ qs) h k = let e = parts _ _ k in both _ _ (le_chain v w q.1.value h e.0) (all_lower v w qs h e.1)

rises_placed : (p : Keyed) (qs : List Keyed) → Rises qs → Rises (placed p qs)
rises_placed p [] h = (refl, tt)
rises_placed p (q ∷ qs) h =
    elim (cases_Bool (int_le p.1.value q.1.value)) [
      | inl t ↦
          let r : Rises (p ∷ q ∷ qs) = (both _ _ t (all_lower p.1.value q.1.value qs t h.0), h) in
          subst Rises (sym (cond-true (int_le p.1.value q.1.value) (p ∷ q ∷ qs) (q ∷ placed p qs) t)) r
      | inr f ↦
          let x = le_false p.1.value q.1.value f in
          let r : Rises (q ∷ placed p qs) = (all_placed q.1.value p qs (le_test q.1.value p.1.value (omega (arith, ints))) h.0, rises_placed p qs h.1) in
          subst Rises (sym (cond-false (int_le p.1.value q.1.value) (p ∷ q ∷ qs) (q ∷ placed p qs) f)) r
    ]

pub rises : (ps : List Keyed) → Rises (by_rank ps)
rises [] = tt
rises (p ∷ ps) = rises_placed p (by_rank ps) (rises ps)

-- ---- the same members

or_swap : (a b c : Bool) → (a || (b || c)) ≡ (b || (a || c))
or_swap true true c = refl
or_swap true false c = refl
or_swap false true c = refl
or_swap false false c = refl

any_placed : (f : Keyed → Bool) (p : Keyed) (qs : List Keyed) → list_any f (placed p qs) ≡ (f p || list_any f qs)
any_placed f p [] = refl
any_placed f p (q ∷ qs) =
    elim (cases_Bool (int_le p.1.value q.1.value)) [
      | inl t ↦ ap (list_any f) (cond-true (int_le p.1.value q.1.value) (p ∷ q ∷ qs) (q ∷ placed p qs) t)
      | inr o ↦ ap (list_any f) (cond-false (int_le p.1.value q.1.value) (p ∷ q ∷ qs) (q ∷ placed p qs) o) ∙ ap (λ x. f q || x) (any_placed f p qs) ∙ or_swap (f q) (f p) (list_any f qs)
    ]

pub any_ranked : (f : Keyed → Bool) (ps : List Keyed) → list_any f (by_rank ps) ≡ list_any f ps
any_ranked f [] = refl
any_ranked f (p ∷ ps) = any_placed f p (by_rank ps) ∙ ap (λ x. f p || x) (any_ranked f ps)

pub no_either : (a b : Bool) → (a || b) ≡ false → (a ≡ false) × (b ≡ false)
no_either false b h = (refl, h)
no_either true b h = absurd (cc)

pub either_back : (a b : Bool) → b ≡ true → (a || b) ≡ true
either_back true b h = refl
either_back false b h = h

neither : (a b : Bool) → a ≡ false → b ≡ false → (a || b) ≡ false
neither a b h k = ap (λ x. x || b) h ∙ k

eqb_swap : (j k : ℕ) → eqb j k ≡ eqb k j
eqb_swap j k = grind (arith, nat_tests)

apart_placed : (p : Keyed) (qs : List Keyed) → has_key p.0 qs ≡ false → AreApart qs → AreApart (placed p qs)
apart_placed p [] h k = (refl, tt)
apart_placed p (q ∷ qs) h k =
    elim (cases_Bool (int_le p.1.value q.1.value)) [
      | inl t ↦
          let r : AreApart (p ∷ q ∷ qs) = (h, k) in
          subst AreApart (sym (cond-true (int_le p.1.value q.1.value) (p ∷ q ∷ qs) (q ∷ placed p qs) t)) r
      | inr o ↦
          let e = no_either (eqb q.0 p.0) (has_key p.0 qs) h in
          let r : AreApart (q ∷ placed p qs) = (any_placed (λ (x : Keyed). eqb x.0 q.0) p qs ∙ neither _ _ (eqb_swap p.0 q.0 ∙ e.0) k.0, apart_placed p qs e.1 k.1) in
          subst AreApart (sym (cond-false (int_le p.1.value q.1.value) (p ∷ q ∷ qs) (q ∷ placed p qs) o)) r
    ]

pub apart_ranked : (ps : List Keyed) → AreApart ps → AreApart (by_rank ps)
apart_ranked [] h = tt
apart_ranked (p ∷ ps) h = apart_placed p (by_rank ps) (any_ranked (λ (x : Keyed). eqb x.0 p.0) ps ∙ h.0) (apart_ranked ps h.1)

-- ---- each key leads to its member

abbrev pub AllFound : List Keyed → List Keyed → Type 0
AllFound ps [] = Unit {0}
AllFound ps (q ∷ qs) = (member_at q.0 ps ≡ Some q.1) × AllFound ps qs

found_more : (p : Keyed) (ps qs : List Keyed) → has_key p.0 qs ≡ false → AllFound ps qs → AllFound (p ∷ ps) qs
found_more p ps [] h k = tt
found_more p ps (q ∷ qs) h k =
    let e = no_either (eqb q.0 p.0) (has_key p.0 qs) h in
    (cond-false (eqb p.0 q.0) (Some p.1) (member_at q.0 ps) (eqb_swap p.0 q.0 ∙ e.0) ∙ k.0, found_more p ps qs e.1 k.1)

pub eqb_self : (k : ℕ) → eqb k k ≡ true
eqb_self k = grind (arith, nat_tests)

pub found_self : (ps : List Keyed) → AreApart ps → AllFound ps ps
found_self [] h = tt
found_self (p ∷ ps) h = (cond-true (eqb p.0 p.0) (Some p.1) (member_at p.0 ps) (eqb_self p.0), found_more p ps ps h.0 (found_self ps h.1))

found_placed : (ps : List Keyed) (p : Keyed) (qs : List Keyed) → member_at p.0 ps ≡ Some p.1 → AllFound ps qs → AllFound ps (placed p qs)
found_placed ps p [] h k = (h, tt)
found_placed ps p (q ∷ qs) h k =
    elim (cases_Bool (int_le p.1.value q.1.value)) [
      | inl t ↦
          let r : AllFound ps (p ∷ q ∷ qs) = (h, k) in
          subst (AllFound ps) (sym (cond-true (int_le p.1.value q.1.value) (p ∷ q ∷ qs) (q ∷ placed p qs) t)) r
      | inr o ↦
          let r : AllFound ps (q ∷ placed p qs) = (k.0, found_placed ps p qs h k.1) in
          subst (AllFound ps) (sym (cond-false (int_le p.1.value q.1.value) (p ∷ q ∷ qs) (q ∷ placed p qs) o)) r
    ]

found_ranks : (ps qs : List Keyed) → AllFound ps qs → AllFound ps (by_rank qs)
found_ranks ps [] h = tt
found_ranks ps (q ∷ qs) h = found_placed ps q (by_rank qs) h.0 (found_ranks ps qs h.1)

pub found_ranked : (ps : List Keyed) → AreApart ps → AllFound ps (by_rank ps)
found_ranked ps h = found_ranks ps ps (found_self ps h)

-- ---- the list by value is searched by halves

any_down : (test : Option Member → Bool) → ((a b : Member) → int_le a.value b.value ≡ true → test (Some b) ≡ true → test (Some a) ≡ true) → (ps : List Keyed) (q : Keyed) (qs : List Keyed) → AllFound ps qs → list_all (λ r. int_le q.1.value r.1.value) qs ≡ true → list_any (at_keys test ps) (keys qs) ≡ true → test (Some q.1) ≡ true
any_down test down ps q [] h k a = absurd (cc)
any_down test down ps q (r ∷ rs) h k a =
    let e = parts _ _ k in
    elim (cases_Bool (at_keys test ps r.0)) [
      | inl t ↦ down q.1 r.1 e.0 (sym (ap test h.0) ∙ t)
      | inr f ↦ any_down test down ps q rs h.1 e.1 (sym (ap (λ x. x || list_any (at_keys test ps) (keys rs)) f) ∙ a)
    ]

pub parted_keys : (test : Option Member → Bool) → ((a b : Member) → int_le a.value b.value ≡ true → test (Some b) ≡ true → test (Some a) ≡ true) → (ps qs : List Keyed) → AllFound ps qs → Rises qs → IsParted (at_keys test ps) (keys qs)
parted_keys test down ps [] h k = tt
parted_keys test down ps (q ∷ qs) h k = (λ a. ap test h.0 ∙ any_down test down ps q qs h.1 k.0 a, parted_keys test down ps qs h.1 k.1)

lesser_down : (v : ℤ) (a b : Member) → int_le a.value b.value ≡ true → is_lesser v (Some b) ≡ true → is_lesser v (Some a) ≡ true
lesser_down v a b h k =
    let x = le_true a.value b.value h in
    elim (cases_Bool (int_le v b.value)) [
      | inl t ↦ let n : not (int_le v b.value) ≡ false = ap not t in absurd (cc)
      | inr f ↦ let y = le_false v b.value f in ap not (lt_test v a.value (omega (arith, ints)))
    ]

up_to_down : (v : ℤ) (a b : Member) → int_le a.value b.value ≡ true → is_up_to v (Some b) ≡ true → is_up_to v (Some a) ≡ true
up_to_down v a b h k = le_chain a.value b.value v h k

pub parted_lesser : (v : ℤ) (ps : List Keyed) → AreApart ps → IsParted (at_keys (is_lesser v) ps) (keys (by_rank ps))
parted_lesser v ps h = parted_keys (is_lesser v) (lesser_down v) ps (by_rank ps) (found_ranked ps h) (rises ps)

pub parted_up_to : (v : ℤ) (ps : List Keyed) → AreApart ps → IsParted (at_keys (is_up_to v) ps) (keys (by_rank ps))
parted_up_to v ps h = parted_keys (is_up_to v) (up_to_down v) ps (by_rank ps) (found_ranked ps h) (rises ps)

pub partitioned : (p : ℕ → Bool) (xs : List ℕ) → IsParted p xs → IsPartitionedBy p xs
partitioned p [] h i j d le lt t = absurd (omega arith)
partitioned p (x ∷ xs) h zero zero d le lt t = t
partitioned p (x ∷ xs) h zero (suc j) d le lt t = h.0 (list_any_at p xs j d (omega arith) t)
partitioned p (x ∷ xs) h (suc i) zero d le lt t = absurd (omega arith)
partitioned p (x ∷ xs) h (suc i) (suc j) d le lt t = partitioned p xs h.1 i j d (omega arith) (omega arith) t

-- ---- where a member stands in the list by value

prefix_yes : {X : Type 0} (p : X → Bool) (x : X) (xs : List X) → p x ≡ true → prefix_len p (x ∷ xs) ≡ suc (prefix_len p xs)
prefix_yes p x xs h = cond-true (p x) (1 + prefix_len p xs) 0 h ∙ omega arith

prefix_no : {X : Type 0} (p : X → Bool) (x : X) (xs : List X) → p x ≡ false → prefix_len p (x ∷ xs) ≡ 0
prefix_no p x xs h = cond-false (p x) (1 + prefix_len p xs) 0 h

prefix_keys : (test : Option Member → Bool) (ps qs : List Keyed) → AllFound ps qs → prefix_len (at_keys test ps) (keys qs) ≡ prefix_len (λ q. test (Some q.1)) qs
prefix_keys test ps [] h = refl
prefix_keys test ps (q ∷ qs) h = ap (λ b. cond b (1 + prefix_len (at_keys test ps) (keys qs)) 0) (ap test h.0) ∙ ap (λ n. cond (test (Some q.1)) (1 + n) 0) (prefix_keys test ps qs h.1)

pub insert_after : (p : Keyed) (qs : List Keyed) → keys (put_after p qs) ≡ insert (keys qs) (prefix_len (λ q. int_le q.1.value p.1.value) qs) p.0
insert_after p [] = refl
insert_after p (q ∷ qs) =
    elim (cases_Bool (int_le q.1.value p.1.value)) [
      | inl t ↦
          ap keys (cond-true (int_le q.1.value p.1.value) (q ∷ put_after p qs) (p ∷ q ∷ qs) t) ∙ ap (λ xs. q.0 ∷ xs) (insert_after p qs)
          ∙ sym (ap (λ n. insert (keys (q ∷ qs)) n p.0) (prefix_yes (λ (r : Keyed). int_le r.1.value p.1.value) q qs t))
      | inr f ↦
          ap keys (cond-false (int_le q.1.value p.1.value) (q ∷ put_after p qs) (p ∷ q ∷ qs) f)
          ∙ sym (ap (λ n. insert (keys (q ∷ qs)) n p.0) (prefix_no (λ (r : Keyed). int_le r.1.value p.1.value) q qs f))
    ]

-- where the new member is put
pub ranked_push : (ps : List Keyed) (key : ℕ) (m : Member) → AreApart ps → insert (keys (by_rank ps)) (prefix_len (at_keys (is_up_to m.value) ps) (keys (by_rank ps))) key ≡ keys (by_rank (ps ++ (key, m) ∷ []))
ranked_push ps key m h =
    ap (λ n. insert (keys (by_rank ps)) n key) (prefix_keys (is_up_to m.value) ps (by_rank ps) (found_ranked ps h)) ∙ sym (insert_after (key, m) (by_rank ps)) ∙ sym (ap keys (by_rank_push ps (key, m)))

not_lesser : (p : Keyed) → not (int_le p.1.value p.1.value) ≡ false
not_lesser p = ap not (le_test p.1.value p.1.value (omega (arith, ints)))

remove_placed : (p : Keyed) (qs : List Keyed) → remove (keys (placed p qs)) (prefix_len (λ q. not (int_le p.1.value q.1.value)) (placed p qs)) ≡ keys qs
remove_placed p [] = ap (remove (p.0 ∷ [])) (prefix_no (λ (q : Keyed). not (int_le p.1.value q.1.value)) p [] (not_lesser p))
remove_placed p (q ∷ qs) =
    elim (cases_Bool (int_le p.1.value q.1.value)) [
      | inl t ↦
          ap (λ xs. remove (keys xs) (prefix_len (λ (r : Keyed). not (int_le p.1.value r.1.value)) xs)) (cond-true (int_le p.1.value q.1.value) (p ∷ q ∷ qs) (q ∷ placed p qs) t)
          ∙ ap (remove (keys (p ∷ q ∷ qs))) (prefix_no (λ (r : Keyed). not (int_le p.1.value r.1.value)) p (q ∷ qs) (not_lesser p))
      | inr f ↦
          ap (λ xs. remove (keys xs) (prefix_len (λ (r : Keyed). not (int_le p.1.value r.1.value)) xs)) (cond-false (int_le p.1.value q.1.value) (p ∷ q ∷ qs) (q ∷ placed p qs) f)
          ∙ ap (remove (keys (q ∷ placed p qs))) (prefix_yes (λ (r : Keyed). not (int_le p.1.value r.1.value)) q (placed p qs) (ap not f)) ∙ ap (λ xs. q.0 ∷ xs) (remove_placed p qs)
    ]

prefix_placed : (p : Keyed) (qs : List Keyed) → prefix_len (λ q. not (int_le p.1.value q.1.value)) (placed p qs) < length (keys (placed p qs))
prefix_placed p [] = let e = prefix_no (λ (q : Keyed). not (int_le p.1.value q.1.value)) p [] (not_lesser p) in omega arith
prefix_placed p (q ∷ qs) =
    elim (cases_Bool (int_le p.1.value q.1.value)) [
      | inl t ↦
          let P : List Keyed → Type 0 = λ xs. prefix_len (λ (r : Keyed). not (int_le p.1.value r.1.value)) xs < length (keys xs) in
          let h : P (p ∷ q ∷ qs) = let e = prefix_no (λ (r : Keyed). not (int_le p.1.value r.1.value)) p (q ∷ qs) (not_lesser p) in omega arith in
          subst P (sym (cond-true (int_le p.1.value q.1.value) (p ∷ q ∷ qs) (q ∷ placed p qs) t)) h
      | inr f ↦
          let P : List Keyed → Type 0 = λ xs. prefix_len (λ (r : Keyed). not (int_le p.1.value r.1.value)) xs < length (keys xs) in
          let h : P (q ∷ placed p qs) = let e = prefix_yes (λ (r : Keyed). not (int_le p.1.value r.1.value)) q (placed p qs) (ap not f) in let i = prefix_placed p qs in omega arith in
          subst P (sym (cond-false (int_le p.1.value q.1.value) (p ∷ q ∷ qs) (q ∷ placed p qs) f)) h
    ]

-- where the first member stands
pub ranked_first : (p : Keyed) (ps : List Keyed) → AreApart (p ∷ ps) → remove (keys (by_rank (p ∷ ps))) (prefix_len (at_keys (is_lesser p.1.value) (p ∷ ps)) (keys (by_rank (p ∷ ps)))) ≡ keys (by_rank ps)
ranked_first p ps h = ap (remove (keys (by_rank (p ∷ ps)))) (prefix_keys (is_lesser p.1.value) (p ∷ ps) (by_rank (p ∷ ps)) (found_ranked (p ∷ ps) h)) ∙ remove_placed p (by_rank ps)

pub first_within : (p : Keyed) (ps : List Keyed) → AreApart (p ∷ ps) → prefix_len (at_keys (is_lesser p.1.value) (p ∷ ps)) (keys (by_rank (p ∷ ps))) < length (keys (by_rank (p ∷ ps)))
first_within p ps h = let e = prefix_keys (is_lesser p.1.value) (p ∷ ps) (by_rank (p ∷ ps)) (found_ranked (p ∷ ps) h) in let i = prefix_placed p (by_rank ps) in omega arith

-- ---- members that are taken out

placed_front : (p : Keyed) (qs : List Keyed) → list_all (λ r. int_le p.1.value r.1.value) qs ≡ true → placed p qs ≡ p ∷ qs
placed_front p [] h = refl
placed_front p (q ∷ qs) h = cond-true (int_le p.1.value q.1.value) _ _ (parts _ _ h).0

all_filter : (f t : Keyed → Bool) (qs : List Keyed) → list_all f qs ≡ true → list_all f (filter t qs) ≡ true
all_filter f t [] h = refl
all_filter f t (q ∷ qs) h =
    let e = parts _ _ h in
    elim (cases_Bool (t q)) [
      | inl y ↦ ap (list_all f) (cond-true (t q) (q ∷ filter t qs) (filter t qs) y) ∙ both _ _ e.0 (all_filter f t qs e.1)
      | inr n ↦ ap (list_all f) (cond-false (t q) (q ∷ filter t qs) (filter t qs) n) ∙ all_filter f t qs e.1
    ]

pub filter_yes : {X : Type 0} (t : X → Bool) (x : X) (xs : List X) → t x ≡ true → filter t (x ∷ xs) ≡ x ∷ filter t xs
filter_yes t x xs h = cond-true (t x) (x ∷ filter t xs) (filter t xs) h

pub filter_no : {X : Type 0} (t : X → Bool) (x : X) (xs : List X) → t x ≡ false → filter t (x ∷ xs) ≡ filter t xs
filter_no t x xs h = cond-false (t x) (x ∷ filter t xs) (filter t xs) h

filter_placed_yes : (t : Keyed → Bool) (p : Keyed) (qs : List Keyed) → Rises qs → t p ≡ true → filter t (placed p qs) ≡ placed p (filter t qs)
filter_placed_yes t p [] h y = filter_yes t p [] y
filter_placed_yes t p (q ∷ qs) h y =
    elim (cases_Bool (int_le p.1.value q.1.value)) [
      | inl le ↦
          ap (filter t) (cond-true (int_le p.1.value q.1.value) (p ∷ q ∷ qs) (q ∷ placed p qs) le) ∙ filter_yes t p (q ∷ qs) y
          ∙ sym (placed_front p (filter t (q ∷ qs)) (all_filter (λ (r : Keyed). int_le p.1.value r.1.value) t (q ∷ qs) (both _ _ le (all_lower p.1.value q.1.value qs le h.0))))
      | inr gt ↦
          ap (filter t) (cond-false (int_le p.1.value q.1.value) (p ∷ q ∷ qs) (q ∷ placed p qs) gt) ∙ elim (cases_Bool (t q)) [
            | inl qy ↦
                filter_yes t q (placed p qs) qy ∙ ap (λ xs. q ∷ xs) (filter_placed_yes t p qs h.1 y)
                ∙ sym (ap (placed p) (filter_yes t q qs qy) ∙ cond-false (int_le p.1.value q.1.value) (p ∷ q ∷ filter t qs) (q ∷ placed p (filter t qs)) gt)
            | inr qn ↦ filter_no t q (placed p qs) qn ∙ filter_placed_yes t p qs h.1 y ∙ sym (ap (placed p) (filter_no t q qs qn))
          ]
    ]

filter_placed_no : (t : Keyed → Bool) (p : Keyed) (qs : List Keyed) → t p ≡ false → filter t (placed p qs) ≡ filter t qs
filter_placed_no t p [] n = filter_no t p [] n
filter_placed_no t p (q ∷ qs) n =
    elim (cases_Bool (int_le p.1.value q.1.value)) [
      | inl le ↦ ap (filter t) (cond-true (int_le p.1.value q.1.value) (p ∷ q ∷ qs) (q ∷ placed p qs) le) ∙ filter_no t p (q ∷ qs) n
      | inr gt ↦ ap (filter t) (cond-false (int_le p.1.value q.1.value) (p ∷ q ∷ qs) (q ∷ placed p qs) gt) ∙ ap (λ xs. cond (t q) (q ∷ xs) xs) (filter_placed_no t p qs n)
    ]

pub by_rank_filter : (t : Keyed → Bool) (ps : List Keyed) → by_rank (filter t ps) ≡ filter t (by_rank ps)
by_rank_filter t [] = refl
by_rank_filter t (p ∷ ps) =
    elim (cases_Bool (t p)) [
      | inl y ↦ ap by_rank (filter_yes t p ps y) ∙ ap (placed p) (by_rank_filter t ps) ∙ sym (filter_placed_yes t p (by_rank ps) (rises ps) y)
      | inr n ↦ ap by_rank (filter_no t p ps n) ∙ by_rank_filter t ps ∙ sym (filter_placed_no t p (by_rank ps) n)
    ]

any_filter : (f t : Keyed → Bool) (qs : List Keyed) → list_any f qs ≡ false → list_any f (filter t qs) ≡ false
any_filter f t [] h = refl
any_filter f t (q ∷ qs) h =
    let e = no_either _ _ h in
    elim (cases_Bool (t q)) [
      | inl y ↦ ap (list_any f) (filter_yes t q qs y) ∙ neither _ _ e.0 (any_filter f t qs e.1)
      | inr n ↦ ap (list_any f) (filter_no t q qs n) ∙ any_filter f t qs e.1
    ]

pub apart_filter : (t : Keyed → Bool) (ps : List Keyed) → AreApart ps → AreApart (filter t ps)
apart_filter t [] h = tt
apart_filter t (p ∷ ps) h =
    elim (cases_Bool (t p)) [
      | inl y ↦ let r : AreApart (p ∷ filter t ps) = (any_filter (λ (x : Keyed). eqb x.0 p.0) t ps h.0, apart_filter t ps h.1) in subst AreApart (sym (filter_yes t p ps y)) r
      | inr n ↦ subst AreApart (sym (filter_no t p ps n)) (apart_filter t ps h.1)
    ]

-- ---- the member of greatest value

abbrev pub last_of : Keyed → List Keyed → Keyed
last_of d [] = d
last_of d (q ∷ qs) = last_of q qs

last_placed : (d p : Keyed) (qs : List Keyed) → last_of d (placed p qs) ≡ cond (list_any (λ q. int_le p.1.value q.1.value) qs) (last_of d qs) p
last_placed d p [] = refl
last_placed d p (q ∷ qs) =
    elim (cases_Bool (int_le p.1.value q.1.value)) [
      | inl t ↦
          ap (last_of d) (cond-true (int_le p.1.value q.1.value) (p ∷ q ∷ qs) (q ∷ placed p qs) t)
          ∙ sym (ap (λ b. cond (b || list_any (λ (r : Keyed). int_le p.1.value r.1.value) qs) (last_of q qs) p) t)
      | inr f ↦
          ap (last_of d) (cond-false (int_le p.1.value q.1.value) (p ∷ q ∷ qs) (q ∷ placed p qs) f) ∙ last_placed q p qs
          ∙ sym (ap (λ b. cond (b || list_any (λ (r : Keyed). int_le p.1.value r.1.value) qs) (last_of q qs) p) f)
    ]

last_in : (d : Keyed) (qs : List Keyed) (f : Keyed → Bool) → list_any f qs ≡ true → has_key (last_of d qs).0 qs ≡ true
last_in d [] f h = absurd (cc)
last_in d (q ∷ []) f h = ap (λ b. b || false) (eqb_self q.0)
last_in d (q ∷ r ∷ rs) f h = either_back (eqb q.0 (last_of r rs).0) _ (last_in q (r ∷ rs) (λ _. true) refl)

without_absent : (key : ℕ) (ps : List Keyed) → has_key key ps ≡ false → without_key key ps ≡ ps
without_absent key [] h = refl
without_absent key (p ∷ ps) h = let e = no_either _ _ h in filter_yes (λ (q : Keyed). not (eqb q.0 key)) p ps (ap not e.0) ∙ ap (λ xs. p ∷ xs) (without_absent key ps e.1)

pub any_members : (f : Member → Bool) (ps : List Keyed) → list_any (λ p. f p.1) ps ≡ list_any f (members_in ps)
any_members f [] = refl
any_members f (p ∷ ps) = ap (λ b. f p.1 || b) (any_members f ps)

pub key_apart : (key : ℕ) (p : Keyed) (ps : List Keyed) → has_key p.0 ps ≡ false → has_key key ps ≡ true → eqb p.0 key ≡ false
key_apart key p ps h k =
    elim (cases_Bool (eqb p.0 key)) [
      | inl t ↦ let e : p.0 ≡ key = grind (arith, nat_tests) in let x : has_key key ps ≡ false = subst (λ i. has_key i ps ≡ false) e h in absurd (cc)
      | inr f ↦ f
    ]

pub worst_is : (d : Keyed) (ps : List Keyed) → AreApart ps → members_in (without_key (last_of d (by_rank ps)).0 ps) ≡ without_worst (members_in ps)
worst_is d [] h = refl
worst_is d (p ∷ ps) h =
    let same : list_any (λ (q : Keyed). int_le p.1.value q.1.value) (by_rank ps) ≡ list_any (λ m. int_le p.1.value m.value) (members_in ps) = any_ranked (λ (q : Keyed). int_le p.1.value q.1.value) ps ∙ any_members (λ m. int_le p.1.value m.value) ps in
    elim (cases_Bool (list_any (λ m. int_le p.1.value m.value) (members_in ps))) [
      | inl t ↦
          let w : last_of d (by_rank (p ∷ ps)) ≡ last_of d (by_rank ps) = last_placed d p (by_rank ps) ∙ cond-true (list_any (λ (q : Keyed). int_le p.1.value q.1.value) (by_rank ps)) (last_of d (by_rank ps)) p (same ∙ t) in
          let there : has_key (last_of d (by_rank ps)).0 ps ≡ true = sym (any_ranked (λ (x : Keyed). eqb x.0 (last_of d (by_rank ps)).0) ps) ∙ last_in d (by_rank ps) (λ (q : Keyed). int_le p.1.value q.1.value) (same ∙ t) in
          ap (λ (k : Keyed). members_in (without_key k.0 (p ∷ ps))) w
          ∙ ap members_in (filter_yes (λ (q : Keyed). not (eqb q.0 (last_of d (by_rank ps)).0)) p ps (ap not (key_apart (last_of d (by_rank ps)).0 p ps h.0 there)))
          ∙ ap (λ ms. p.1 ∷ ms) (worst_is d ps h.1)
          ∙ sym (cond-true (list_any (λ m. int_le p.1.value m.value) (members_in ps)) (p.1 ∷ without_worst (members_in ps)) (members_in ps) t)
      | inr f ↦
          let w : last_of d (by_rank (p ∷ ps)) ≡ p = last_placed d p (by_rank ps) ∙ cond-false (list_any (λ (q : Keyed). int_le p.1.value q.1.value) (by_rank ps)) (last_of d (by_rank ps)) p (same ∙ f) in
          ap (λ (k : Keyed). members_in (without_key k.0 (p ∷ ps))) w
          ∙ ap members_in (filter_no (λ (q : Keyed). not (eqb q.0 p.0)) p ps (ap not (eqb_self p.0)))
          ∙ ap members_in (without_absent p.0 ps h.0)
          ∙ sym (cond-false (list_any (λ m. int_le p.1.value m.value) (members_in ps)) (p.1 ∷ without_worst (members_in ps)) (members_in ps) f)
    ]

-- the keys before the last one
pub init_without : (qs : List Keyed) (ks : List ℕ) (k : ℕ) → keys qs ≡ ks ++ k ∷ [] → AreApart qs → keys (without_key k qs) ≡ ks
init_without [] [] k e h = absurd (cc)
init_without [] (x ∷ xs) k e h = absurd (cc)
init_without (q ∷ []) [] k e h =
    let s : q.0 ≡ k = cc in
    ap (λ i. keys (without_key i (q ∷ []))) (sym s) ∙ ap keys (filter_no (λ (r : Keyed). not (eqb r.0 q.0)) q [] (ap not (eqb_self q.0)))
init_without (q ∷ r ∷ rs) [] k e h = absurd (cc)
init_without (q ∷ qs) (x ∷ xs) k e h =
    let s : q.0 ≡ x = cc in
    let rest : keys qs ≡ xs ++ k ∷ [] = cc in
    let there : has_key k qs ≡ true = in_keys qs xs k rest in
    ap keys (filter_yes (λ (r : Keyed). not (eqb r.0 k)) q qs (ap not (key_apart k q qs h.0 there))) ∙ ap (λ ys. q.0 ∷ ys) (init_without qs xs k rest h.1) ∙ ap (λ i. i ∷ xs) s
  where
    in_keys : (qs : List Keyed) (xs : List ℕ) (k : ℕ) → keys qs ≡ xs ++ k ∷ [] → has_key k qs ≡ true
    in_keys [] [] k e = absurd (cc)
    in_keys [] (x ∷ xs) k e = absurd (cc)
    in_keys (q ∷ qs) [] k e = let s : q.0 ≡ k = cc in ap (λ b. b || has_key k qs) (ap (λ i. eqb i k) s ∙ eqb_self k)
    in_keys (q ∷ qs) (x ∷ xs) k e = let rest : keys qs ≡ xs ++ k ∷ [] = cc in either_back (eqb q.0 k) _ (in_keys qs xs k rest)

last_keys : (d : Keyed) (qs : List Keyed) (ks : List ℕ) (k : ℕ) → keys qs ≡ ks ++ k ∷ [] → (last_of d qs).0 ≡ k
last_keys d [] [] k e = absurd (cc)
last_keys d [] (x ∷ xs) k e = absurd (cc)
last_keys d (q ∷ []) [] k e = cc
last_keys d (q ∷ r ∷ rs) [] k e = absurd (cc)
last_keys d (q ∷ qs) (x ∷ xs) k e = let rest : keys qs ≡ xs ++ k ∷ [] = cc in last_keys q qs xs k rest

pub popped_members : (ps : List Keyed) (ks : List ℕ) (k : ℕ) → keys (by_rank ps) ≡ ks ++ k ∷ [] → AreApart ps → members_in (without_key k ps) ≡ without_worst (members_in ps)
popped_members ps ks k e h =
    let d : Keyed = (0, record { serial = 0; value = pos 0 }) in
    ap (λ i. members_in (without_key i ps)) (sym (last_keys d (by_rank ps) ks k e)) ∙ worst_is d ps h

pub popped_ranks : (ps : List Keyed) (ks : List ℕ) (k : ℕ) → keys (by_rank ps) ≡ ks ++ k ∷ [] → AreApart ps → ks ≡ keys (by_rank (without_key k ps))
popped_ranks ps ks k e h = sym (ap keys (by_rank_filter (λ (p : Keyed). not (eqb p.0 k)) ps) ∙ init_without (by_rank ps) ks k e (apart_ranked ps h))

-- ---- as the calls need it

pub counted : (p : ℕ → Bool) (xs : List ℕ) (n : ℕ) → n ≤ length xs → IsPartitionPoint (λ y. p y ≡ true) (λ y. p y ≡ false) xs n → n ≡ prefix_len p xs
counted p xs n le h = sym (prefix_len_is p xs n 0 le (λ k lt. h.0 k 0 (omega arith) lt) (λ lt. h.1 n 0 (omega arith) lt))

pub ranked_pop : (row row' : Row) (ranks ks : List ℕ) (k : ℕ) → IsRanked row ranks → ranks ≡ ks ++ k ∷ [] → row'.items ≡ without_key k row.items → IsRanked row' ks
ranked_pop row row' ranks ks k h e is =
    record {
      ranked = popped_ranks row.items ks k (sym h.ranked ∙ e) h.apart ∙ ap (λ ps. keys (by_rank ps)) (sym is);
      apart = subst AreApart (sym is) (apart_filter (λ (p : Keyed). not (eqb p.0 k)) row.items h.apart);
    }

pub members_pop : (row row' : Row) (ranks ks : List ℕ) (k : ℕ) → IsRanked row ranks → ranks ≡ ks ++ k ∷ [] → row'.items ≡ without_key k row.items → members_in row'.items ≡ without_worst (members_in row.items)
members_pop row row' ranks ks k h e is = ap members_in is ∙ popped_members row.items ks k (sym h.ranked ∙ e) h.apart

nothing_ranked : (ps : List Keyed) → keys (by_rank ps) ≡ [] → ps ≡ []
nothing_ranked [] e = refl
nothing_ranked (p ∷ ps) e = absurd (let lt = prefix_placed p (by_rank ps) in let l : length (keys (placed p (by_rank ps))) ≡ 0 = ap length e in omega arith)

pub no_members : (row : Row) (ranks : List ℕ) → IsRanked row ranks → ranks ≡ [] → members_in row.items ≡ without_worst (members_in row.items)
no_members row ranks h e = let none = nothing_ranked row.items (sym h.ranked ∙ e) in ap members_in none ∙ sym (ap (λ ps. without_worst (members_in ps)) none)

pub ranked_append : (row row' : Row) (ranks ranks' : List ℕ) (place key : ℕ) (m : Member) → IsRanked row ranks → place ≡ prefix_len (at_keys (is_up_to m.value) row.items) ranks → ranks' ≡ insert ranks place key → row'.items ≡ row.items ++ (key, m) ∷ [] → has_key key row.items ≡ false → IsRanked row' ranks'
ranked_append row row' ranks ranks' place key m h at put is fresh =
    record {
      ranked = put ∙ ap (λ n. insert ranks n key) at ∙ ap (λ rs. insert rs (prefix_len (at_keys (is_up_to m.value) row.items) rs) key) h.ranked ∙ ranked_push row.items key m h.apart ∙ ap (λ ps. keys (by_rank ps)) (sym is);
      apart = subst AreApart (sym is) (apart_push row.items (key, m) h.apart fresh);
    }

pub prefix_within : (p : ℕ → Bool) (xs : List ℕ) (n : ℕ) → n ≡ prefix_len p xs → n ≤ length xs
prefix_within p xs n e = let h = prefix_len-le-length p xs in omega arith

length_placed : (p : Keyed) (qs : List Keyed) → length (placed p qs) ≡ suc (length qs)
length_placed p [] = refl
length_placed p (q ∷ qs) =
    elim (cases_Bool (int_le p.1.value q.1.value)) [
      | inl t ↦ ap length (cond-true (int_le p.1.value q.1.value) (p ∷ q ∷ qs) (q ∷ placed p qs) t)
      | inr f ↦ ap length (cond-false (int_le p.1.value q.1.value) (p ∷ q ∷ qs) (q ∷ placed p qs) f) ∙ ap suc (length_placed p qs)
    ]

length_ranked : (ps : List Keyed) → length (by_rank ps) ≡ length ps
length_ranked [] = refl
length_ranked (p ∷ ps) = length_placed p (by_rank ps) ∙ ap suc (length_ranked ps)

pub as_many : (row : Row) (ranks : List ℕ) → IsRanked row ranks → length ranks ≡ length (members_in row.items)
as_many row ranks h = ap length h.ranked ∙ length-map (by_rank row.items) (λ (p : Keyed). p.0) ∙ length_ranked row.items ∙ sym (length-map row.items (λ (p : Keyed). p.1))

-- the first member is the one that the line begins with
pub record IsFirst (row : Row) (key : ℕ) (m : Member) (rest : List Keyed) : Type 0 where
  pub is : row.items ≡ (key, m) ∷ rest

pub first_is : (row : Row) (key : ℕ) (m : Member) → Some key ≡ first_key row.items None → Some m ≡ member_at key row.items → (rest : List Keyed) × IsFirst row key m rest
first_is row key m e f = from row.items refl
  where
    pair_is : {p : Keyed} → key ≡ p.0 → m ≡ p.1 → (let q : Keyed = (key, m) in q) ≡ p
    pair_is {p} k v = ap (λ i. (let q : Keyed = (i, m) in q)) k ∙ ap (λ x. (let q : Keyed = (p.0, x) in q)) v

    from : (ps : List Keyed) → row.items ≡ ps → (rest : List Keyed) × IsFirst row key m rest
    from [] is = let x : Some key ≡ None = e ∙ ap (λ qs. first_key qs None) is in absurd (cc)
    from (p ∷ ps) is =
        let x : Some key ≡ Some p.0 = e ∙ ap (λ qs. first_key qs None) is in
        let k : key ≡ p.0 = cc in
        let y : Some m ≡ Some p.1 = f ∙ ap (member_at key) is ∙ ap (λ i. member_at i (p ∷ ps)) k ∙ cond-true (eqb p.0 p.0) (Some p.1) (member_at p.0 ps) (eqb_self p.0) in
        let v : m ≡ p.1 = cc in
        (ps, record { is = is ∙ ap (λ q. q ∷ ps) (sym (pair_is k v)) })

pub ranked_drop : (row row' : Row) (ranks ranks' : List ℕ) (place key : ℕ) (m : Member) (rest : List Keyed) → IsFirst row key m rest → IsRanked row ranks → place ≡ prefix_len (at_keys (is_lesser m.value) row.items) ranks → ranks' ≡ remove ranks place → row'.items ≡ without_key key row.items → IsRanked row' ranks' × (members_in row'.items ≡ drop 1 (members_in row.items))
ranked_drop row row' ranks ranks' place key m rest f h at cut is =
    let apart : AreApart ((key, m) ∷ rest) = subst AreApart f.is h.apart in
    let left : row'.items ≡ rest = is ∙ ap (without_key key) f.is ∙ filter_no (λ (q : Keyed). not (eqb q.0 key)) (key, m) rest (ap not (eqb_self key)) ∙ without_absent key rest apart.0 in
    let r : ranks' ≡ keys (by_rank rest) =
    cut ∙ ap (remove ranks) at ∙ ap (λ rs. remove rs (prefix_len (at_keys (is_lesser m.value) row.items) rs)) h.ranked ∙ ap (λ ps. remove (keys (by_rank ps)) (prefix_len (at_keys (is_lesser m.value) ps) (keys (by_rank ps)))) f.is
    ∙ ranked_first (key, m) rest apart
    in (
      record { ranked = r ∙ ap (λ ps. keys (by_rank ps)) (sym left); apart = subst AreApart (sym left) apart.1 },
      ap members_in left ∙ sym (ap (λ ps. drop 1 (members_in ps)) f.is),
    )

pub drop_within : (row : Row) (ranks : List ℕ) (place key : ℕ) (m : Member) (rest : List Keyed) → IsFirst row key m rest → IsRanked row ranks → place ≡ prefix_len (at_keys (is_lesser m.value) row.items) ranks → place < length ranks
drop_within row ranks place key m rest f h at =
    let apart : AreApart ((key, m) ∷ rest) = subst AreApart f.is h.apart in
    let w = first_within (key, m) rest apart in
    let r : ranks ≡ keys (by_rank ((key, m) ∷ rest)) = h.ranked ∙ ap (λ ps. keys (by_rank ps)) f.is in
    let e : place ≡ prefix_len (at_keys (is_lesser m.value) ((key, m) ∷ rest)) (keys (by_rank ((key, m) ∷ rest))) = at ∙ ap (λ ps. prefix_len (at_keys (is_lesser m.value) ps) ranks) f.is ∙ ap (prefix_len (at_keys (is_lesser m.value) ((key, m) ∷ rest))) r in
    let l : length ranks ≡ length (keys (by_rank ((key, m) ∷ rest))) = ap length r in
    omega arith

-- ---- whether a member's value is greater than a number

over_last : (v : ℤ) (d : Keyed) (q : Keyed) (qs : List Keyed) → Rises (q ∷ qs) → list_any (λ r. not (int_le r.1.value v)) (q ∷ qs) ≡ not (int_le (last_of d (q ∷ qs)).1.value v)
over_last v d q [] h = or_none (not (int_le q.1.value v))
  where
    or_none : (a : Bool) → (a || false) ≡ a
    or_none true = refl
    or_none false = refl
over_last v d q (r ∷ rs) h =
    elim (cases_Bool (int_le q.1.value v)) [
      | inl t ↦ ap (λ b. not b || list_any (λ (x : Keyed). not (int_le x.1.value v)) (r ∷ rs)) t ∙ over_last v q r rs h.1
      | inr f ↦
          let x = le_false q.1.value v f in
          let y = le_true q.1.value r.1.value (parts _ _ h.0).0 in
          let g : int_le r.1.value v ≡ false = lt_test r.1.value v (omega (arith, ints)) in
          let later : list_any (λ (x : Keyed). not (int_le x.1.value v)) (r ∷ rs) ≡ true = ap (λ b. not b || list_any (λ (x : Keyed). not (int_le x.1.value v)) rs) g in
          ap (λ b. not b || list_any (λ (x : Keyed). not (int_le x.1.value v)) (r ∷ rs)) f ∙ sym later ∙ over_last v q r rs h.1
    ]

last_at : (d : Keyed) (q : Keyed) (qs : List Keyed) → slice_get (keys (q ∷ qs)) (length (q ∷ qs) - 1) ≡ Some (last_of d (q ∷ qs)).0
last_at d q [] = refl
last_at d q (r ∷ rs) = let e : length (q ∷ r ∷ rs) - 1 ≡ suc (length (r ∷ rs) - 1) = omega arith in ap (slice_get (keys (q ∷ r ∷ rs))) e ∙ last_at q r rs

last_found : (d : Keyed) (ps : List Keyed) (q : Keyed) (qs : List Keyed) → AllFound ps (q ∷ qs) → member_at (last_of d (q ∷ qs)).0 ps ≡ Some (last_of d (q ∷ qs)).1
last_found d ps q [] h = h.0
last_found d ps q (r ∷ rs) h = last_found q ps r rs h.1

pub exceeds_some : (row : Row) (ranks : List ℕ) (key : ℕ) (v : ℤ) → IsRanked row ranks → Some key ≡ slice_get ranks (length ranks - 1) → not (is_up_to v (member_at key row.items)) ≡ list_any (is_above v) (members_in row.items)
exceeds_some row ranks key v h e = from (by_rank row.items) refl
  where
    from : (qs : List Keyed) → by_rank row.items ≡ qs → not (is_up_to v (member_at key row.items)) ≡ list_any (is_above v) (members_in row.items)
    from [] is = let x : Some key ≡ None = e ∙ ap (λ rs. slice_get rs (length rs - 1)) (h.ranked ∙ ap keys is) in absurd (cc)
    from (q ∷ qs) is =
        let n : length (keys (q ∷ qs)) ≡ length (q ∷ qs) = length-map (q ∷ qs) (λ (p : Keyed). p.0) in
        let x : Some key ≡ Some (last_of q (q ∷ qs)).0 = e ∙ ap (λ rs. slice_get rs (length rs - 1)) (h.ranked ∙ ap keys is) ∙ ap (λ m. slice_get (keys (q ∷ qs)) (m - 1)) n ∙ last_at q q qs in
        let k : key ≡ (last_of q (q ∷ qs)).0 = cc in
        let found : AllFound row.items (q ∷ qs) = subst (AllFound row.items) is (found_ranked row.items h.apart) in
        let up : Rises (q ∷ qs) = subst Rises is (rises row.items) in
        ap (λ i. not (is_up_to v (member_at i row.items))) k ∙ ap (λ m. not (is_up_to v m)) (last_found q row.items q qs found)
        ∙ sym (over_last v q q qs up) ∙ ap (list_any (λ (r : Keyed). not (int_le r.1.value v))) (sym is) ∙ any_ranked (λ (r : Keyed). not (int_le r.1.value v)) row.items ∙ any_members (is_above v) row.items

pub exceeds_none : (row : Row) (ranks : List ℕ) (v : ℤ) → IsRanked row ranks → None ≡ slice_get ranks (length ranks - 1) → false ≡ list_any (is_above v) (members_in row.items)
exceeds_none row ranks v h e = from row.items refl
  where
    some_at : (xs : List ℕ) (i : ℕ) → i < length xs → (n : ℕ) × (slice_get xs i ≡ Some n)
    some_at [] i lt = absurd (omega arith)
    some_at (x ∷ xs) zero lt = (x, refl)
    some_at (x ∷ xs) (suc i) lt = some_at xs i (omega arith)

    from : (ps : List Keyed) → row.items ≡ ps → false ≡ list_any (is_above v) (members_in row.items)
    from [] is = sym (ap (λ qs. list_any (is_above v) (members_in qs)) is)
    from (p ∷ ps) is =
        let l : length ranks ≡ suc (length ps) = as_many row ranks h ∙ ap (λ qs. length (members_in qs)) is ∙ length-map (p ∷ ps) (λ (q : Keyed). q.1) in
        let lt : length ranks - 1 < length ranks = omega arith in
        let x : (n : ℕ) × (slice_get ranks (length ranks - 1) ≡ Some n) = some_at ranks (length ranks - 1) lt in
        let y : None ≡ Some x.0 = e ∙ x.1 in
        absurd (cc)

-- ---- members above a cut

pub above_more : (cut : ℤ) (ms : List Member) → list_any (is_above cut) ms ≡ true → within cut (without_worst ms) ≡ within cut ms
above_more cut [] h = refl
above_more cut (m ∷ ms) h =
    elim (cases_Bool (list_any (λ other. int_le m.value other.value) ms)) [
      | inl t ↦
          ap (within cut) (cond-true (list_any (λ other. int_le m.value other.value) ms) (m ∷ without_worst ms) ms t) ∙ elim (cases_Bool (list_any (is_above cut) ms)) [
            | inl a ↦ ap (λ xs. cond (int_le m.value cut) (m ∷ xs) xs) (above_more cut ms a)
            | inr n ↦ absurd (let a : is_above cut m ≡ true = or_first (is_above cut m) _ n h in let b = above_other cut m ms t a in let f : false ≡ true = sym n ∙ b in cc)
          ]
      | inr f ↦
          ap (within cut) (cond-false (list_any (λ other. int_le m.value other.value) ms) (m ∷ without_worst ms) ms f)
          ∙ sym (filter_no (λ (x : Member). int_le x.value cut) m ms (not_true (int_le m.value cut) (above_first cut m ms f h)))
    ]
  where
    or_first : (a b : Bool) → b ≡ false → (a || b) ≡ true → a ≡ true
    or_first true b n h = refl
    or_first false b n h = absurd (let f : false ≡ true = sym n ∙ h in cc)

    not_true : (a : Bool) → not a ≡ true → a ≡ false
    not_true true h = absurd (cc)
    not_true false h = refl

    not_false : (a : Bool) → a ≡ false → not a ≡ true
    not_false a h = ap not h

    or_back : (a b : Bool) → b ≡ true → (a || b) ≡ true
    or_back true b h = refl
    or_back false b h = h

    above_other : (cut : ℤ) (m : Member) (ms : List Member) → list_any (λ other. int_le m.value other.value) ms ≡ true → is_above cut m ≡ true → list_any (is_above cut) ms ≡ true
    above_other cut m [] t a = absurd (cc)
    above_other cut m (x ∷ xs) t a =
        elim (cases_Bool (int_le m.value x.value)) [
          | inl le ↦
              let p = le_true m.value x.value le in
              let q = le_false m.value cut (not_true (int_le m.value cut) a) in
              ap (λ b. not b || list_any (is_above cut) xs) (lt_test x.value cut (omega (arith, ints)))
          | inr gt ↦ or_back (is_above cut x) _ (above_other cut m xs (sym (ap (λ b. b || list_any (λ other. int_le m.value other.value) xs) gt) ∙ t) a)
        ]

    above_first : (cut : ℤ) (m : Member) (ms : List Member) → list_any (λ other. int_le m.value other.value) ms ≡ false → list_any (is_above cut) (m ∷ ms) ≡ true → not (int_le m.value cut) ≡ true
    above_first cut m [] f h = or_first (not (int_le m.value cut)) false refl h
    above_first cut m (x ∷ xs) f h =
        let e = no_either (int_le m.value x.value) _ f in
        elim (cases_Bool (int_le x.value cut)) [
          | inl le ↦ above_first cut m xs e.1 (ap (λ b. not (int_le m.value cut) || (not b || list_any (is_above cut) xs)) (sym le) ∙ h)
          | inr gt ↦
              let p = le_false m.value x.value e.0 in
              let q = le_false x.value cut gt in
              not_false (int_le m.value cut) (lt_test m.value cut (omega (arith, ints)))
        ]

pub above_none : (cut : ℤ) (ms : List Member) → list_any (is_above cut) ms ≡ false → within cut ms ≡ ms
above_none cut [] h = refl
above_none cut (m ∷ ms) h = let e = no_either _ _ h in filter_yes (λ (x : Member). int_le x.value cut) m ms (not_no (int_le m.value cut) e.0) ∙ ap (λ xs. m ∷ xs) (above_none cut ms e.1)
  where
    not_no : (a : Bool) → not a ≡ false → a ≡ true
    not_no true h = refl
    not_no false h = absurd (cc)

pub worst_shorter : (ms : List Member) → 0 < length ms → length (without_worst ms) + 1 ≡ length ms
worst_shorter [] lt = absurd (omega arith)
worst_shorter (m ∷ ms) lt =
    elim (cases_Bool (list_any (λ other. int_le m.value other.value) ms)) [
      | inl t ↦
          let e : length (without_worst (m ∷ ms)) ≡ suc (length (without_worst ms)) = ap length (cond-true (list_any (λ other. int_le m.value other.value) ms) (m ∷ without_worst ms) ms t) in
          let i = worst_shorter ms (some_there ms _ t) in
          omega arith
      | inr f ↦
          let e : length (without_worst (m ∷ ms)) ≡ length ms = ap length (cond-false (list_any (λ other. int_le m.value other.value) ms) (m ∷ without_worst ms) ms f) in
          omega arith
    ]
  where
    some_there : (ms : List Member) (f : Member → Bool) → list_any f ms ≡ true → 0 < length ms
    some_there [] f h = absurd (cc)
    some_there (x ∷ xs) f h = omega arith

pub above_shorter : (cut : ℤ) (ms : List Member) → list_any (is_above cut) ms ≡ true → length (without_worst ms) < length ms
above_shorter cut [] h = absurd (cc)
above_shorter cut (m ∷ ms) h = let e = worst_shorter (m ∷ ms) (omega arith) in omega arith

pub no_items : (xs : List ℕ) → length xs ≡ 0 → xs ≡ []
no_items [] e = refl
no_items (x ∷ xs) e = absurd (omega arith)

pub ranked_lesser : (row : Row) (ranks shown : List ℕ) (v : ℤ) → IsRanked row ranks → shown ≡ ranks → IsParted (at_keys (is_lesser v) row.items) shown
ranked_lesser row ranks shown v h e = subst (IsParted (at_keys (is_lesser v) row.items)) (sym (e ∙ h.ranked)) (parted_lesser v row.items h.apart)

pub ranked_up_to : (row : Row) (ranks shown : List ℕ) (v : ℤ) → IsRanked row ranks → shown ≡ ranks → IsParted (at_keys (is_up_to v) row.items) shown
ranked_up_to row ranks shown v h e = subst (IsParted (at_keys (is_up_to v) row.items)) (sym (e ∙ h.ranked)) (parted_up_to v row.items h.apart)

pub emptied : (old new : List ℕ) (n : ℕ) → old ≡ new ++ [] → new ≡ take (n - 1) old → n ≡ 0 → old ≡ []
emptied old new n e t z = let none : new ≡ [] = t ∙ ap (λ k. take (k - 1) old) z in e ∙ ap (λ xs. xs ++ []) none
