-- A loop that adds up what its items give, stated by what is left of them.
use Rattle.std.proofs.Common.{◌≡◌, ℕ, suc, ◌+◌, ◌^◌, ◌<◌, ◌≤◌, List, [], ◌∷◌, length, get_or, drop, ℤ, pos, ◌+ℤ◌, sym, ap, ◌∙◌, add-one, drop-cons, arith}
use Rattle.std.proofs.lemmas.List.{drop_all}
use Rattle.std.proofs.lemmas.Int.{ints}
use Rattle.std.specs.Int.RustNames.{FitsSigned, unsigned_abs}
use mir.Syntax.{w128}
use mir.Val.{to_z, of_z}
use Rattle.sp_filter.specs.Filters.{total, count_total}
use Rattle.sp_filter.proofs.TermLemmas.{fits_from_small, itself}

-- the next of the items that are left
pub drop_item : {X : Type 0} (xs : List X) (i : ℕ) (x : X) → i < length xs → x ≡ get_or xs i x → drop i xs ≡ x ∷ drop (i + 1) xs
drop_item xs i x h e = rw add-one (drop-cons xs i x h ∙ ap (λ v. v ∷ drop (suc i) xs) (sym e))

-- the sum before a loop
pub nothing_yet : (n : ℕ) → n ≤ 10 ^ 36 → unsigned_abs (pos 0) + n ≤ 10 ^ 36
nothing_yet n h = omega (arith, ints)

-- the sum after a turn of the loop
pub record Turn {X : Type 0} (f : X → ℤ) (g : X → ℕ) (rest : List X) (s u whole : ℤ) : Type 0 where
  pub fits : FitsSigned w128 (s +ℤ to_z w128 (of_z w128 u))
  pub same : to_z w128 (of_z w128 (s +ℤ to_z w128 (of_z w128 u))) +ℤ total f rest ≡ whole
  pub small : unsigned_abs (to_z w128 (of_z w128 (s +ℤ to_z w128 (of_z w128 u)))) + count_total g rest ≤ 10 ^ 36

near-add : (s v : ℤ) (n m : ℕ) → unsigned_abs v ≤ n → unsigned_abs s + (n + m) ≤ 10 ^ 36 → unsigned_abs (s +ℤ v) + m ≤ 10 ^ 36
near-add s v n m h k = omega (arith, ints)

step : {X : Type 0} (f : X → ℤ) (g : X → ℕ) (rest : List X) (s v whole : ℤ) (n : ℕ) → unsigned_abs v ≤ n → s +ℤ (v +ℤ total f rest) ≡ whole → unsigned_abs s + (n + count_total g rest) ≤ 10 ^ 36 → Turn f g rest s v whole
step f g rest s v whole n h e k =
    let near : unsigned_abs (s +ℤ v) + count_total g rest ≤ 10 ^ 36 = near-add s v n (count_total g rest) h k in
    let q : to_z w128 (of_z w128 v) ≡ v = itself v (omega arith) in
    let r : to_z w128 (of_z w128 (s +ℤ v)) ≡ s +ℤ v = itself (s +ℤ v) (omega arith) in
    record {
      fits = rw q (fits_from_small (s +ℤ v) (omega arith));
      same = rw (q, r) (omega (arith, ints));
      small = rw (q, r) near;
    }

-- a turn of the loop, where each item gives no more than its width
pub turn : {X : Type 0} (f : X → ℤ) (g : X → ℕ) (ts : List X) (i : ℕ) (t : X) (s u whole : ℤ) → unsigned_abs (f t) ≤ g t → i < length ts → t ≡ get_or ts i t → u ≡ f t → s +ℤ total f (drop i ts) ≡ whole → unsigned_abs s + count_total g (drop i ts) ≤ 10 ^ 36 → Turn f g (drop (i + 1) ts) s u whole
turn f g ts i t s u whole b h e q p k =
    let d : drop i ts ≡ t ∷ drop (i + 1) ts = drop_item ts i t h e in
    rw q (step f g (drop (i + 1) ts) s (f t) whole (g t) b (rw d at p) (rw d at k))

-- an item that is left is no wider than all of them
pub item_small : {X : Type 0} (g : X → ℕ) (ts : List X) (i : ℕ) (t : X) (s : ℤ) → i < length ts → t ≡ get_or ts i t → unsigned_abs s + count_total g (drop i ts) ≤ 10 ^ 36 → g t ≤ 10 ^ 36
item_small g ts i t s h e k =
    let m : unsigned_abs s + (g t + count_total g (drop (i + 1) ts)) ≤ 10 ^ 36 = rw (drop_item ts i t h e) at k in
    omega arith

-- the end of the loop
pub finished : {X : Type 0} (f : X → ℤ) (ts : List X) (i : ℕ) (s : ℤ) → length ts ≤ i → s +ℤ total f (drop i ts) ≡ total f ts → s ≡ total f ts
finished f ts i s h e =
    let w : s +ℤ pos 0 ≡ total f ts = rw (drop_all i ts h) at e in
    omega (arith, ints)
