-- What every pool keeps.
use Rattle.std.proofs.Common.{◌≡◌, ℕ, zero, suc, ◌+◌, ◌-◌, FitsSigned, ◌<◌, ◌≤◌, min, Bool, true, false, ◌&&◌, cond, ltb, eqb, List, [], ◌∷◌, ◌++◌, length, drop, get_or, filter, Option, Some, None, ℤ, int_le, refl, sym, ap, ◌∙◌, subst, inl, inr, arith, length-append, length-drop}
use Rattle.std.proofs.lemmas.Bool.{cases_Bool, cond-true, cond-false}
use Rattle.std.proofs.lemmas.Bool.Decides.{nat_tests}
use Rattle.std.proofs.lemmas.Int.{ints, clamps, to_z-of_z}
use Rattle.std.proofs.lemmas.List.{drop_more, drop_all}
use Rattle.std.proofs.lemmas.List.Sorted.{list_any-IsPermutation}
use Rattle.std.specs.List.Sorted.{IsPermutation}
use Rattle.std.specs.Option.{ForSome}
use Rattle.sp_model.specs.declared.gaps.Gaps.{Gaps}
use Rattle.sp_model.specs.Cuts.{IsGap, cut_of}
use Rattle.sp_pool.specs.declared.members.Member.{Member}
use Rattle.sp_pool.specs.declared.members.Offered.{Offered}
use Rattle.sp_pool.specs.declared.members.Rule.{Rule}
use Rattle.sp_pool.specs.declared.members.Rule.TheVariants.{Fifo, Worst}
use Rattle.sp_pool.specs.Pools.{PoolState, best_with, within, within_best, without_one, makes_way, admitted, without, taken, offered_at, cut_at, member_of, IsNear, after_offer, after_capacity, after_gaps, is_listed, after_fresh, after_refresh, after_retain, after, after_all, holds, Event, Offering, Sizing, Ruling, Gapping, Retaining, Refreshing}
use Rattle.sp_pool.specs.InnerPools.{IsKept}
use Rattle.sp_pool.proofs.RankLemmas.{worst_shorter}
use mir.Val.{to_z, of_z}
use mir.Syntax.{w128}

pub filter_shorter : (t : Member → Bool) (ms : List Member) → length (filter t ms) ≤ length ms
filter_shorter t [] = omega arith
filter_shorter t (m ∷ ms) =
    let later = filter_shorter t ms in
    elim (cases_Bool (t m)) [
      | inl y ↦ let e : length (filter t (m ∷ ms)) ≡ suc (length (filter t ms)) = ap length (cond-true (t m) (m ∷ filter t ms) (filter t ms) y) in omega arith
      | inr n ↦ let e : length (filter t (m ∷ ms)) ≡ length (filter t ms) = ap length (cond-false (t m) (m ∷ filter t ms) (filter t ms) n) in omega arith
    ]

pub one_shorter : (rule : Rule) (ms : List Member) → 0 < length ms → length (without_one rule ms) + 1 ≡ length ms
one_shorter Fifo ms h = omega (arith, length-drop 1 ms)
one_shorter Worst ms h = worst_shorter ms h

-- an admitted member, by what the tests say
pub admitted_room : (rule : Rule) (n : ℕ) (ms : List Member) (m : Member) → length ms < n → admitted rule n ms m ≡ ms ++ m ∷ []
admitted_room rule zero ms m h = absurd (omega arith)
admitted_room rule (suc n) ms m h = let t : ltb (length ms) (suc n) ≡ true = grind (arith, nat_tests) in cond-true (ltb (length ms) (suc n)) _ _ t

pub admitted_full : (rule : Rule) (n : ℕ) (ms : List Member) (m : Member) → 0 < n → n ≤ length ms → admitted rule n ms m ≡ cond (makes_way rule ms m.value) (without_one rule ms ++ m ∷ []) ms
admitted_full rule zero ms m p h = absurd (omega arith)
admitted_full rule (suc n) ms m p h = let t : ltb (length ms) (suc n) ≡ false = grind (arith, nat_tests) in cond-false (ltb (length ms) (suc n)) _ _ t

pub admitted_few : (rule : Rule) (n : ℕ) (ms : List Member) (m : Member) → length ms ≤ n → (length (admitted rule n ms m) ≤ n) × (length (admitted rule n ms m) ≤ length ms + 1)
admitted_few rule zero ms m h = (h, omega arith)
admitted_few rule (suc n) ms m h =
    elim (cases_Bool (ltb (length ms) (suc n))) [
      | inl t ↦
          let lt : length ms < suc n = grind (arith, nat_tests) in
          let e : length (admitted rule (suc n) ms m) ≡ length (ms ++ m ∷ []) = ap length (admitted_room rule (suc n) ms m lt) in
          let l = length-append ms (m ∷ []) in
          (omega arith, omega arith)
      | inr f ↦
          let ge : suc n ≤ length ms = grind (arith, nat_tests) in
          let full : admitted rule (suc n) ms m ≡ cond (makes_way rule ms m.value) (without_one rule ms ++ m ∷ []) ms = admitted_full rule (suc n) ms m (omega arith) ge in
          elim (cases_Bool (makes_way rule ms m.value)) [
            | inl w ↦
                let e : length (admitted rule (suc n) ms m) ≡ length (without_one rule ms ++ m ∷ []) = ap length (full ∙ cond-true (makes_way rule ms m.value) _ _ w) in
                let l = length-append (without_one rule ms) (m ∷ []) in
                let o = one_shorter rule ms (omega arith) in
                (omega arith, omega arith)
            | inr w ↦
                let e : length (admitted rule (suc n) ms m) ≡ length ms = ap length (full ∙ cond-false (makes_way rule ms m.value) _ _ w) in
                (omega arith, omega arith)
          ]
    ]

pub taken_few : (rule : Rule) (n : ℕ) (cut : ℤ) (ms : List Member) (o : Offered) → length ms ≤ n → (length (taken rule n cut ms o) ≤ n) × (length (taken rule n cut ms o) ≤ length ms + 1)
taken_few rule n cut ms o h =
    elim (cases_Bool (o.passes && int_le o.value cut)) [
      | inl t ↦
          let few = admitted_few rule n ms (member_of o) h in
          let e : length (taken rule n cut ms o) ≡ length (admitted rule n ms (member_of o)) = ap length (cond-true (o.passes && int_le o.value cut) _ _ t) in
          (let a = few.0 in omega arith, let b = few.1 in omega arith)
      | inr f ↦ let e : length (taken rule n cut ms o) ≡ length ms = ap length (cond-false (o.passes && int_le o.value cut) _ _ f) in (omega arith, omega arith)
    ]

pub within_shorter : (cut : ℤ) (ms : List Member) → length (within cut ms) ≤ length ms
within_shorter cut ms = filter_shorter (λ m. int_le m.value cut) ms

pub best_near : (best : Option ℤ) (value : ℤ) → ForSome best IsNear → IsNear value → IsNear (best_with best value)
best_near None value h k = k
best_near (Some b) value h k = let near = h b refl in omega (arith, ints, clamps)

some_is : (a b : ℤ) → Some a ≡ Some b → a ≡ b
some_is a b e = cc

pub kept_offered : (s : PoolState) (best : ℤ) (o : Offered) → IsKept s → IsNear best → IsKept (offered_at s best o)
kept_offered s best o h near =
    let few = taken_few s.rule s.capacity (cut_at s best) (within (cut_at s best) s.members) o (let a = within_shorter (cut_at s best) s.members in let b = h.few in omega arith) in
    record {
      few = few.0;
      near = λ b e. subst IsNear (some_is best b e) near;
      abs = h.abs;
      rel = h.rel;
      scaled = h.scaled;
    }

pub offered_grown : (s : PoolState) (best : ℤ) (o : Offered) → IsKept s → length (offered_at s best o).members ≤ length s.members + 1
offered_grown s best o h =
    let shorter = within_shorter (cut_at s best) s.members in
    let few = taken_few s.rule s.capacity (cut_at s best) (within (cut_at s best) s.members) o (let b = h.few in omega arith) in
    let grown = few.1 in
    omega arith

-- ---- a smaller capacity

pub without_step : (rule : Rule) (ms : List Member) (most : ℕ) → most < length ms → without rule (length (without_one rule ms) - most) (without_one rule ms) ≡ without rule (length ms - most) ms
without_step rule ms most h =
    let one = one_shorter rule ms (omega arith) in
    let e : length ms - most ≡ suc (length (without_one rule ms) - most) = omega arith in
    sym (ap (λ n. without rule n ms) e)

pub without_few : (rule : Rule) (n : ℕ) (ms : List Member) → n ≤ length ms → length (without rule n ms) + n ≡ length ms
without_few rule zero ms h = omega arith
without_few rule (suc n) ms h =
    let one = one_shorter rule ms (omega arith) in
    let later = without_few rule n (without_one rule ms) (omega arith) in
    omega arith

pub kept_capacity : (s : PoolState) (n : ℕ) → IsKept s → IsKept (record s { members = without s.rule (length s.members - n) s.members; capacity = n })
kept_capacity s n h =
    record {
      few = let e = without_few s.rule (length s.members - n) s.members (omega arith) in omega arith;
      near = h.near;
      abs = h.abs;
      rel = h.rel;
      scaled = h.scaled;
    }

-- ---- other gaps

within_best_few : (best : Option ℤ) (gaps : Gaps) (scale : ℕ) (ms : List Member) → length (within_best best gaps scale ms) ≤ length ms
within_best_few None gaps scale ms = omega arith
within_best_few (Some b) gaps scale ms = within_shorter (cut_of b gaps scale) ms

pub kept_gaps : (s : PoolState) (gaps : Gaps) → IsKept s → IsGap gaps.abs → IsGap gaps.rel → IsKept (record s { members = within_best s.best gaps s.scale s.members; gaps = gaps })
kept_gaps s gaps h a r =
    record {
      few = let e = within_best_few s.best gaps s.scale s.members in let f = h.few in omega arith;
      near = h.near;
      abs = a;
      rel = r;
      scaled = h.scaled;
    }

-- ---- states from their parts

pub offered_is : (s : PoolState) (ms : List Member) (b : Option ℤ) (best cut : ℤ) (mid : List Member) (o : Offered) → cut ≡ cut_at s best → mid ≡ within cut s.members → ms ≡ taken s.rule s.capacity cut mid o → b ≡ Some best → record s { members = ms; best = b } ≡ offered_at s best o
offered_is s ms b best cut mid o c w m e =
    let all : ms ≡ taken s.rule s.capacity (cut_at s best) (within (cut_at s best) s.members) o = m ∙ ap (λ xs. taken s.rule s.capacity cut xs o) w ∙ ap (λ k. taken s.rule s.capacity k (within k s.members) o) c in
    ap (λ xs. record s { members = xs; best = b }) all ∙ ap (λ x. record s { members = taken s.rule s.capacity (cut_at s best) (within (cut_at s best) s.members) o; best = x }) e

pub room_kept : (s : PoolState) (best : ℤ) (o : Offered) (storage more : ℕ) → IsKept s → min (length s.members + (more + 1)) s.capacity ≤ storage → min (length (offered_at s best o).members + more) s.capacity ≤ storage
room_kept s best o storage more h room = let grown = offered_grown s best o h in omega arith

-- ---- numbers as the code holds them

pub same_number : (z : ℤ) → FitsSigned w128 z → to_z w128 (of_z w128 z) ≡ z
same_number z h = to_z-of_z w128 z h

-- ---- listed serials

filter_alike : (f g : Member → Bool) (ms : List Member) → ((m : Member) → f m ≡ g m) → filter f ms ≡ filter g ms
filter_alike f g [] h = refl
filter_alike f g (m ∷ ms) h = ap (λ b. cond b (m ∷ filter f ms) (filter f ms)) (h m) ∙ ap (λ xs. cond (g m) (m ∷ xs) xs) (filter_alike f g ms h)

pub listed_alike : (serials sorted shown : List ℕ) (ms : List Member) → IsPermutation serials sorted → shown ≡ sorted → filter (is_listed shown) ms ≡ filter (is_listed serials) ms
listed_alike serials sorted shown ms h e = filter_alike (is_listed shown) (is_listed serials) ms (λ m. ap (λ xs. is_listed xs m) e ∙ sym (list_any-IsPermutation (λ serial. eqb serial m.serial) serials sorted h))

pub kept_fewer : (s : PoolState) (ms : List Member) → IsKept s → length ms ≤ length s.members → IsKept (record s { members = ms })
kept_fewer s ms h le = record { few = let f = h.few in omega arith; near = h.near; abs = h.abs; rel = h.rel; scaled = h.scaled }

-- ---- a refresh, an offer at a time

pub refresh_more : (s : PoolState) (offers : List Offered) (i : ℕ) (o : Offered) → i < length offers → o ≡ get_or offers i o → after_refresh (after_fresh s o) (drop (i + 1) offers) ≡ after_refresh s (drop i offers)
unfolding after_refresh
refresh_more s offers i o lt is = ap (λ x. after_refresh (after_fresh s x) (drop (i + 1) offers)) is ∙ sym (ap (after_refresh s) (drop_more offers i o lt))

pub refresh_done : (s : PoolState) (offers : List Offered) (i : ℕ) → length offers ≤ i → after_refresh s (drop i offers) ≡ s
unfolding after_refresh
refresh_done s offers i le = ap (after_refresh s) (drop_all i offers le)

-- ---- never more than the capacity

-- there are no more members than the capacity
abbrev pub IsFew : PoolState → Type 0
IsFew s = length s.members ≤ s.capacity

few_offer : (s : PoolState) (o : Offered) → IsFew s → IsFew (after_offer s o)
unfolding after_offer
few_offer s o h =
    let best = best_with s.best o.value in
    (taken_few s.rule s.capacity (cut_at s best) (within (cut_at s best) s.members) o (let a = within_shorter (cut_at s best) s.members in omega arith)).0

few_refresh : (s : PoolState) (os : List Offered) → IsFew s → IsFew (after_refresh s os)
unfolding after_refresh
few_refresh s [] h = h
few_refresh s (o ∷ os) h = few_refresh (after_fresh s o) os (fresh (holds s.members o.serial))
  where
    fresh : (b : Bool) → IsFew (cond b s (after_offer s o))
    fresh true = h
    fresh false = few_offer s o h

few_after : (s : PoolState) (e : Event) → IsFew s → IsFew (after s e)
unfolding after_capacity after_gaps after_retain
few_after s (Offering o) h = few_offer s o h
few_after s (Sizing n) h = let e = without_few s.rule (length s.members - n) s.members (omega arith) in omega arith
few_after s (Ruling rule) h = h
few_after s (Gapping gaps) h = let e = within_best_few s.best gaps s.scale s.members in omega arith
few_after s (Retaining serials) h = let e = filter_shorter (is_listed serials) s.members in omega arith
few_after s (Refreshing offers) h = few_refresh s offers h

pub few_after_all : (s : PoolState) (es : List Event) → IsFew s → IsFew (after_all s es)
few_after_all s [] h = h
few_after_all s (e ∷ es) h = few_after_all (after s e) es (few_after s e h)
