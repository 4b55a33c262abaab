-- Serials beside their points, sorted.
use Rattle.std.proofs.Common.{◌≡◌, ℕ, zero, suc, ◌+◌, ◌-◌, ◌<◌, Bool, true, false, cond, List, [], ◌∷◌, ◌++◌, map, filter, take, length, get_or, All, is_lt, IsPermutation, IsSorted, ℤ, refl, sym, ap, ◌∙◌, subst, arith}
use Rattle.std.specs.Borrow.{Bor}
use Rattle.std.specs.List.Sorted.{IsSortedBy}
use Rattle.std.proofs.lemmas.List.{append-nil, get_or-map, length-map, map-append, take_more}
use Rattle.std.proofs.lemmas.List.Elements.{All-append, All-head, All-map, All-tail, filter-append}
use Rattle.std.proofs.lemmas.List.Filters.{length-filter_more}
use Rattle.std.proofs.lemmas.List.Sorted.{All-permutation, IsPermutation-map}
use Rattle.sp_list.specs.declared.found.Found.{Found}
use Rattle.sp_list.specs.Lists.{found_cmp}
use Rattle.sp_filter.specs.Held.{FilterList}
use Rattle.sp_cover.specs.Cover.{found_of, no_found}
use Rattle.sp_populate.specs.Listings.{IsSerial}
use Rattle.sp_populate.proofs.ListLemmas.{get_or-default}
use Rattle.sp_populate.specs.InnerLists.{IsNamed, IsRanking, IsSorting}

abbrev pub Ranked : Type 0
Ranked = ℕ × Bor Found

no_rank : Ranked
no_rank = (0, record { ref_ptr = (0, 0); now = no_found })

found-named : (found : List Found) (rs : List Ranked) → All (IsNamed found) rs → map (found_of found) (map (λ r. r.0) rs) ≡ map (λ r. r.1.now) rs
found-named found [] all = refl
found-named found (r ∷ rs) all =
    ap (λ f. f ∷ map (found_of found) (map (λ r. r.0) rs)) (All-head (IsNamed found) r rs all).is
    ∙ ap (λ fs. r.1.now ∷ fs) (found-named found rs (All-tail (IsNamed found) r rs all))

sorted-found : (rs : List Ranked) → IsSortedBy (λ p q. is_lt (found_cmp p.1.now q.1.now)) rs → IsSorted found_cmp (map (λ r. r.1.now) rs)
sorted-found rs sorted k d low long =
    let after : k + 1 < length rs = rw length-map at long in
    let here : k < length rs = omega (arith, after) in
    rw (get_or-map (λ (r : Ranked). r.1.now) rs (k + 1) no_rank d after, get_or-map (λ (r : Ranked). r.1.now) rs k no_rank d here) (sorted k no_rank low after)

pub sorting : (found : List Found) (cut : ℤ) (fs : FilterList) (rs ss : List Ranked) (serials : List ℕ) → IsRanking found cut fs rs → IsPermutation rs ss
    → IsSortedBy (λ p q. is_lt (found_cmp p.1.now q.1.now)) ss → serials ≡ map (λ r. r.0) ss → IsSorting found cut fs serials
sorting found cut fs rs ss serials h moved sorted is =
    let named : All (IsNamed found) ss = All-permutation (IsNamed found) rs ss moved h.named in
    let names = found-named found ss named in
    let all : IsPermutation (map (λ r. r.1.now) rs) (map (λ r. r.1.now) ss) = IsPermutation-map (λ (r : Ranked). r.1.now) rs ss moved in
    record {
      known = rw is (All-map (IsSerial (length found)) (λ (r : Ranked). r.0) ss (λ k d i. let n = named k d i in record { first = n.first; last = n.last }));
      same = rw (is, names) (subst (λ fs. IsPermutation fs (map (λ r. r.1.now) ss)) h.chosen all);
      sorted = rw (is, names) (sorted-found ss sorted);
    }

-- ---- one more found point

one-named : (found : List Found) (r : Ranked) → IsNamed found r → All (IsNamed found) (r ∷ [])
one-named found r is zero d h = is
one-named found r is (suc k) d h = absurd (omega (arith, h))

pub named-more : (found : List Found) (rs : List Ranked) (r : Ranked) → All (IsNamed found) rs → IsNamed found r → All (IsNamed found) (rs ++ (r ∷ []))
named-more found rs r all is = All-append (IsNamed found) rs (r ∷ []) all (one-named found r is)

last-kept : (p : Found → Bool) (f : Found) (b : Bool) → b ≡ true → cond b (f ∷ []) [] ≡ f ∷ []
last-kept p f true e = refl
last-kept p f false e = cc

last-left : (p : Found → Bool) (f : Found) (b : Bool) → b ≡ false → cond {A = List Found} b (f ∷ []) [] ≡ []
last-left p f true e = cc
last-left p f false e = refl

pub chosen-more : (found : List Found) (p : Found → Bool) (rs : List Ranked) (r : Ranked) (place : ℕ) → place < length found → map (λ r. r.1.now) rs ≡ filter p (take place found)
    → r.1.now ≡ get_or found place no_found → p (get_or found place no_found) ≡ true → map (λ r. r.1.now) (rs ++ (r ∷ [])) ≡ filter p (take (place + 1) found)
chosen-more found p rs r place h done is passes =
    rw (take_more found place no_found h) (map-append (λ (r : Ranked). r.1.now) rs (r ∷ []) ∙ ap (λ fs. fs ++ (r.1.now ∷ [])) done
    ∙ sym (filter-append p (take place found) (get_or found place no_found ∷ [])
    ∙ ap (λ fs. filter p (take place found) ++ fs) (last-kept p (get_or found place no_found) (p (get_or found place no_found)) passes ∙ ap (λ f. f ∷ []) (sym is))))

pub chosen-same : (found : List Found) (p : Found → Bool) (rs : List Ranked) (place : ℕ) → place < length found → map (λ r. r.1.now) rs ≡ filter p (take place found)
    → p (get_or found place no_found) ≡ false → map (λ r. r.1.now) rs ≡ filter p (take (place + 1) found)
chosen-same found p rs place h done fails =
    rw (take_more found place no_found h) (done ∙ sym (filter-append p (take place found) (get_or found place no_found ∷ [])
    ∙ ap (λ fs. filter p (take place found) ++ fs) (last-left p (get_or found place no_found) (p (get_or found place no_found)) fails) ∙ append-nil (filter p (take place found))))

-- the found point of this place, beside its serial
pub named-at : (found : List Found) (place : ℕ) (r : Ranked) (f : Found) → place < length found → r.0 ≡ place + 1 → r.1.now ≡ f → f ≡ get_or found place f → IsNamed found r
named-at found place r f h serial point is =
    let before : r.0 - 1 ≡ place = omega (arith, serial) in
    record {
      first = omega (arith, serial);
      last = omega (arith, serial, h);
      is = ap (λ k. get_or found k no_found) before ∙ get_or-default found place no_found f h ∙ sym is ∙ sym point;
    }

pub point-at : (found : List Found) (place : ℕ) (f : Found) → place < length found → f ≡ get_or found place f → f ≡ get_or found place no_found
point-at found place f h is = is ∙ get_or-default found place f no_found h

-- ---- how many are kept

one-kept : (b : Bool) → b ≡ true → cond {A = ℕ} b 1 0 ≡ 1
one-kept true e = refl
one-kept false e = cc

none-kept : (b : Bool) → b ≡ false → cond {A = ℕ} b 1 0 ≡ 0
none-kept true e = cc
none-kept false e = refl

pub counted-more : (found : List Found) (p : Found → Bool) (place count : ℕ) → place < length found → count ≡ length (filter p (take place found))
    → p (get_or found place no_found) ≡ true → count + 1 ≡ length (filter p (take (place + 1) found))
counted-more found p place count h is passes =
    let more = length-filter_more p found place no_found h in
    let one = one-kept (p (get_or found place no_found)) passes in
    omega (arith, is, more, one)

pub counted-same : (found : List Found) (p : Found → Bool) (place count : ℕ) → place < length found → count ≡ length (filter p (take place found))
    → p (get_or found place no_found) ≡ false → count ≡ length (filter p (take (place + 1) found))
counted-same found p place count h is fails =
    let more = length-filter_more p found place no_found h in
    let none = none-kept (p (get_or found place no_found)) fails in
    omega (arith, is, more, none)
