-- A list up to a lower cut holds the first points of the whole one.
use Rattle.std.proofs.Common.{◌≡◌, ℕ, ◌≤◌, ◌⊎◌, inl, inr, Bool, true, false, cond, List, [], ◌∷◌, ◌++◌, filter, take, length, All, Ordering, Less, Equal, Greater, ℤ, ◌≤ℤ◌, int_le, int_cmp, refl, ap, ◌∙◌, arith, length-append}
use Rattle.std.specs.Cmp.{int_ranks}
use Rattle.std.specs.List.Sorted.{IsStrictlySortedBy}
use Rattle.std.specs.Ordering.{ordering_then}
use Rattle.std.proofs.lemmas.Int.{ints}
use Rattle.std.proofs.lemmas.List.{take-take}
use Rattle.std.proofs.lemmas.List.Elements.{All-head, All-tail, All-from_recursion, filter-append}
use Rattle.std.proofs.lemmas.List.Kept.{IsStrictlySortedBy-filter}
use Rattle.std.proofs.lemmas.Map.Keys.{sorted_head, sorted_tail}
use Rattle.sp_model.specs.declared.parts.ModelParts.{ModelParts}
use Rattle.sp_model.specs.Models.{objective}
use Rattle.sp_model.specs.Boxes.{lex_cmp}
use Rattle.sp_list.specs.declared.found.Found.{Found}
use Rattle.sp_list.specs.Lists.{point_cmp}
use Rattle.sp_filter.specs.Held.{FilterList}
use Rattle.sp_populate.specs.Listings.{IsPassedList}
use Rattle.sp_populate.proofs.FilteredLemmas.{one_list}
use Rattle.sp_populate.proofs.MemberLemmas.{before_filter, contains_filter, passes_filter}
use Rattle.sp_populate.proofs.TestLemmas.{le-test, test-le}

-- ---- those up to a cut stand first

value-case : (a b : ℤ) (o r : Ordering) → int_cmp a b ≡ o → ordering_then o r ≡ Less → a ≤ℤ b
value-case a b Less r is e = let h = rw is at (int_ranks a b) in omega (arith, ints, h)
value-case a b Equal r is e = let h = rw is at (int_ranks a b) in omega (arith, ints, h)
value-case a b Greater r is e = cc

less-value : (m : ModelParts) (x y : List ℤ) → point_cmp m x y ≡ Less → objective m x ≤ℤ objective m y
less-value m x y e = value-case (objective m x) (objective m y) (int_cmp (objective m x) (objective m y)) (lex_cmp x y) refl e

abbrev pub near : ModelParts → ℤ → List ℤ → Bool
near m cut x = int_le (objective m x) cut

filter-none : {X : Type 0} (p : X → Bool) (xs : List X) → All (λ x. p x ≡ false) xs → filter p xs ≡ []
filter-none p [] all = refl
filter-none p (x ∷ xs) all = rw (All-head (λ x. p x ≡ false) x xs all) (filter-none p xs (All-tail (λ x. p x ≡ false) x xs all))

far-after : (m : ModelParts) (cut : ℤ) (w x : List ℤ) → near m cut w ≡ false → point_cmp m w x ≡ Less → near m cut x ≡ false
far-after m cut w x far less = let up = less-value m w x less in grind (arith, ints)

front-step : (m : ModelParts) (cut : ℤ) (w : List ℤ) (ws : List (List ℤ)) (b : Bool) → near m cut w ≡ b → IsStrictlySortedBy (point_cmp m) (w ∷ ws)
    → filter (near m cut) ws ≡ take (length (filter (near m cut) ws)) ws
    → cond b (w ∷ filter (near m cut) ws) (filter (near m cut) ws) ≡ take (length (cond b (w ∷ filter (near m cut) ws) (filter (near m cut) ws))) (w ∷ ws)
front-step m cut w ws true e s rest = ap (λ xs. w ∷ xs) rest
front-step m cut w ws false e s rest =
    let all : All (λ x. near m cut x ≡ false) ws =
    (λ k d h. far-after m cut w _ e (All-from_recursion (λ y. point_cmp m w y ≡ Less) ws (sorted_head (point_cmp m) w ws s) k d h)) in
    rw (filter-none (near m cut) ws all) refl

front-is : (m : ModelParts) (cut : ℤ) (ws : List (List ℤ)) → IsStrictlySortedBy (point_cmp m) ws → filter (near m cut) ws ≡ take (length (filter (near m cut) ws)) ws
front-is m cut [] s = refl
front-is m cut (w ∷ ws) s = front-step m cut w ws (near m cut w) refl s (front-is m cut ws (sorted_tail (point_cmp m) w ws s))

-- the list up to a lower cut
lower-list : (m : ModelParts) (most cut : ℤ) (fs : FilterList) (whole : List (List ℤ)) → cut ≤ℤ most → IsPassedList m most fs whole → IsPassedList m cut fs (filter (near m cut) whole)
lower-list m most cut fs whole lower h = record {
  ascending = IsStrictlySortedBy-filter (point_cmp m) (near m cut) whole h.ascending;
  exact = λ x. (
    λ k.
        let was = (h.exact x).0 (before_filter (near m cut) whole x k) in
        record { feasible = was.feasible; passes = was.passes; near = test-le (objective m x) cut (passes_filter (near m cut) whole x k) },
    λ k.
        let up : objective m x ≤ℤ most = (let n = k.near in omega (arith, ints, n, lower)) in
        contains_filter (near m cut) whole x (le-test (objective m x) cut k.near) ((h.exact x).1 (record { feasible = k.feasible; passes = k.passes; near = up })),
  );
}

-- the first k of it are the first k of the whole list, where there are k or the cuts are the same
pub first-same : (m : ModelParts) (most cut : ℤ) (fs : FilterList) (k : ℕ) (some whole : List (List ℤ)) → cut ≤ℤ most → (cut ≡ most) ⊎ (k ≤ length some)
    → IsPassedList m cut fs some → IsPassedList m most fs whole → take k some ≡ take k whole
first-same m most cut fs k some whole lower (inl same) h t = ap (take k) (one_list m most fs some whole (rw same at h) t)
first-same m most cut fs k some whole lower (inr many) h t =
    let is : some ≡ filter (near m cut) whole = one_list m cut fs some (filter (near m cut) whole) h (lower-list m most cut fs whole lower t) in
    let n : ℕ = length (filter (near m cut) whole) in
    let front : some ≡ take n whole = is ∙ front-is m cut whole t.ascending in
    let long : length some ≡ n = ap length is in
    ap (take k) front ∙ take-take k n whole (omega (arith, many, long))

-- ---- counts

pub count-more : (p : Found → Bool) (xs ys : List Found) (k : ℕ) → k ≤ length (filter p xs) → k ≤ length (filter p (xs ++ ys))
count-more p xs ys k h =
    let is = ap length (filter-append p xs ys) in
    let long = length-append (filter p xs) (filter p ys) in
    omega (arith, h, is, long)
