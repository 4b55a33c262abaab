-- What the sums over a box say of its points, and what a column says of the rows.
use Rattle.std.proofs.Common.{◌≡◌, ◌≢◌, ◌↔◌, ◌⊎◌, ℕ, zero, suc, ◌<◌, ◌≤◌, Bool, true, false, not, ◌&&◌, cond, nat_eq, inl, inr, Option, None, Some, List, [], ◌∷◌, ◌++◌, length, map, get_or, set, ℤ, pos, negsuc, ◌*ℤ◌, ◌≤ℤ◌, int_le, All, AllPairs, Contains, refl, sym, ap, ap₂, ◌∙◌, subst, arith, get_or-set_same, get_or-set_other}
use Rattle.std.proofs.lemmas.Bool.{cases_lt}
use Rattle.std.proofs.lemmas.List.{get_or_past, length-set, length-map, get_or-map}
use Rattle.std.proofs.lemmas.List.Elements.{All-cons, All-append}
use Rattle.std.proofs.lemmas.Int.{ints}
use lib.IntN.{suc_ℤ-*ℤ, pred_ℤ-*ℤ, zero-*ℤ}
use Rattle.sp_model.specs.declared.parts.Row.{Row}
use Rattle.sp_model.specs.Boxes.{Bounds, range_at, coordinate, IsBetween, IsWithin}
use Rattle.sp_model.specs.Models.{row_holds}
use Rattle.sp_model.specs.Stated.{is_at_least, is_at_most}
use Rattle.sp_model.specs.Sums.{Term, sum_at}
use Rattle.sp_sums.proofs.MemberLemmas.{Contains-cons_cases, Contains-here, Contains-later, Contains-none}
use Rattle.sp_sums.specs.Columns.{Entry, entries_of, column_from, column_of, IsColumn}
use Rattle.sp_sums.specs.Extremes.{IsSpanned, IsReached, IsBelowSide, IsAboveSide, term_least, term_most, sum_over, least_over, most_over, span_of, is_low, is_high, is_broken_over}
use Rattle.sp_sums.specs.Ranges.{IsFilled}
use Rattle.sp_sums.specs.Rows.{AreRowsFit, IsRowFit, bare_row, row_at}
use Rattle.sp_sums.proofs.ColumnLemmas.{coefficients-column, same_number, other_number}
use Rattle.sp_sums.proofs.SpanLemmas.{coefficients}

-- ---- products and order

pub mul-le : (n : ℕ) (u v : ℤ) → u ≤ℤ v → (pos n *ℤ u) ≤ℤ (pos n *ℤ v)
mul-le zero u v h = rw (zero-*ℤ u, zero-*ℤ v) (omega (arith, ints))
mul-le (suc n) u v h = omega (arith, ints, mul-le n u v h, suc_ℤ-*ℤ (pos n) u, suc_ℤ-*ℤ (pos n) v)

pub mul-ge : (n : ℕ) (u v : ℤ) → u ≤ℤ v → (negsuc n *ℤ v) ≤ℤ (negsuc n *ℤ u)
mul-ge zero u v h = omega (arith, ints, zero-*ℤ u, zero-*ℤ v, pred_ℤ-*ℤ (pos 0) u, pred_ℤ-*ℤ (pos 0) v)
mul-ge (suc n) u v h = omega (arith, ints, mul-ge n u v h, pred_ℤ-*ℤ (negsuc n) u, pred_ℤ-*ℤ (negsuc n) v)

-- ---- a term over a range

at_least_zero : (n : ℕ) → int_le (pos 0) (pos n) ≡ true
at_least_zero n = grind (arith, ints)

pub least-le-term : (a v : ℤ) (r : ℤ × ℤ) → IsBetween r v → term_least a r ≤ℤ (a *ℤ v)
least-le-term (pos n) v r h = rw (at_least_zero n) (mul-le n r.0 v h.least)
least-le-term (negsuc n) v r h = mul-ge n v r.1 h.greatest

pub term-le-most : (a v : ℤ) (r : ℤ × ℤ) → IsBetween r v → (a *ℤ v) ≤ℤ term_most a r
term-le-most (pos n) v r h = rw (at_least_zero n) (mul-le n v r.1 h.greatest)
term-le-most (negsuc n) v r h = mul-ge n r.0 v h.least

-- ---- sums at the points of a box

-- also past the last variable, where the range is 0 to 0
pub between_at : (b : Bounds) (x : List ℤ) (j : ℕ) → IsWithin b x → IsBetween (range_at b j) (coordinate x j)
between_at b x j h = elim (cases_lt j (length b)) [
  | inl l ↦ h.each j l
  | inr g ↦ (
      let long : length x ≤ j = omega (arith, h.long) in
      rw (get_or_past b j (pos 0, pos 0) g, get_or_past x j (pos 0) long) record { least = omega (arith, ints); greatest = omega (arith, ints) }
      )
]

least-le-sum : (b : Bounds) (ts : List Term) (x : List ℤ) → IsWithin b x → least_over b ts ≤ℤ sum_at ts x
least-le-sum b [] x h = omega (arith, ints)
least-le-sum b (t ∷ ts) x h = omega (arith, ints, least-le-sum b ts x h, least-le-term t.1 (coordinate x t.0) (range_at b t.0) (between_at b x t.0 h))

sum-le-most : (b : Bounds) (ts : List Term) (x : List ℤ) → IsWithin b x → sum_at ts x ≤ℤ most_over b ts
sum-le-most b [] x h = omega (arith, ints)
sum-le-most b (t ∷ ts) x h = omega (arith, ints, sum-le-most b ts x h, term-le-most t.1 (coordinate x t.0) (range_at b t.0) (between_at b x t.0 h))

pub spanned : (b : Bounds) (ts : List Term) → IsSpanned b ts
spanned b ts = record { least = least-le-sum b ts; most = sum-le-most b ts }

-- ---- a point where a sum is the least or the greatest

abbrev low_end : ℤ → ℤ × ℤ → ℤ
low_end a r = cond (int_le (pos 0) a) r.0 r.1

abbrev high_end : ℤ → ℤ × ℤ → ℤ
high_end a r = cond (int_le (pos 0) a) r.1 r.0

-- each term's variable at the end that is picked, all others at their least
abbrev corner : (ℤ → ℤ × ℤ → ℤ) → Bounds → List Term → List ℤ
corner g b [] = map (λ (r : ℤ × ℤ). r.0) b
corner g b (t ∷ ts) = set (corner g b ts) t.0 (g t.1 (range_at b t.0))

-- it picks a value of the range
abbrev IsPick : (ℤ → ℤ × ℤ → ℤ) → Type 0
IsPick g = (a : ℤ) (r : ℤ × ℤ) → r.0 ≤ℤ r.1 → IsBetween r (g a r)

chosen_between : (c : Bool) (r : ℤ × ℤ) → r.0 ≤ℤ r.1 → IsBetween r (cond c r.0 r.1) × IsBetween r (cond c r.1 r.0)
chosen_between true r h = (record { least = omega (arith, ints); greatest = h }, record { least = h; greatest = omega (arith, ints) })
chosen_between false r h = (record { least = h; greatest = omega (arith, ints) }, record { least = omega (arith, ints); greatest = h })

low_pick : IsPick low_end
low_pick a r h = (chosen_between (int_le (pos 0) a) r h).0

high_pick : IsPick high_end
high_pick a r h = (chosen_between (int_le (pos 0) a) r h).1

corner_step : (g : ℤ → ℤ × ℤ → ℤ) → IsPick g → (b : Bounds) → IsFilled b → (x : List ℤ) → IsWithin b x → (t : Term) (j : ℕ) (c : Bool) → nat_eq t.0 j ≡ c → j < length b → IsBetween (range_at b j) (coordinate (set x t.0 (g t.1 (range_at b t.0))) j)
corner_step g p b f x w t j true e h =
    let same : t.0 ≡ j = same_number t.0 j e in
    let inside : j < length x = omega (arith, w.long) in
    rw (same, get_or-set_same x j (g t.1 (range_at b j)) (pos 0) inside) (p t.1 (range_at b j) (f.each j h))
corner_step g p b f x w t j false e h =
    let other : j ≢ t.0 = λ q. other_number t.0 j e (sym q) in
    rw (get_or-set_other x t.0 j (g t.1 (range_at b t.0)) (pos 0) other) (w.each j h)

corner_within : (g : ℤ → ℤ × ℤ → ℤ) → IsPick g → (b : Bounds) → IsFilled b → (ts : List Term) → IsWithin b (corner g b ts)
corner_within g p b f [] = record {
  long = length-map b (λ (r : ℤ × ℤ). r.0);
  each = λ j h. rw (get_or-map (λ (r : ℤ × ℤ). r.0) b j (pos 0, pos 0) (pos 0) h) record { least = omega (arith, ints); greatest = f.each j h };
}
corner_within g p b f (t ∷ ts) =
    let w : IsWithin b (corner g b ts) = corner_within g p b f ts in
    record {
      long = length-set (corner g b ts) t.0 (g t.1 (range_at b t.0)) ∙ w.long;
      each = λ j h. corner_step g p b f (corner g b ts) w t j (nat_eq t.0 j) refl h;
    }

-- a variable that no term has makes no difference
sum-elsewhere : (ts : List Term) (x : List ℤ) (j : ℕ) (v : ℤ) → All (λ (u : Term). j < u.0) ts → sum_at ts (set x j v) ≡ sum_at ts x
sum-elsewhere [] x j v h = refl
sum-elsewhere (t ∷ ts) x j v h =
    let above : j < t.0 = h 0 t (omega arith) in
    let other : t.0 ≢ j = λ e. omega arith in
    let rest : sum_at ts (set x j v) ≡ sum_at ts x = sum-elsewhere ts x j v (λ k d l. h (suc k) d (omega arith)) in
    rw (get_or-set_other x j t.0 v (pos 0) other, rest) refl

-- terms of rising variables, all of them below the limit
record AreRising (n : ℕ) (ts : List Term) : Type 0 where
  known : All (λ (t : Term). t.0 < n) ts
  rising : AllPairs (λ (t : Term) (u : Term). t.0 < u.0) ts

rising_above : (n : ℕ) (t : Term) (ts : List Term) → AreRising n (t ∷ ts) → All (λ (u : Term). t.0 < u.0) ts
rising_above n t ts r = λ k d h. r.rising 0 (suc k) d (omega arith) (omega arith)

rising_rest : (n : ℕ) (t : Term) (ts : List Term) → AreRising n (t ∷ ts) → AreRising n ts
rising_rest n t ts r = record { known = λ k d h. r.known (suc k) d (omega arith); rising = λ i j d h l. r.rising (suc i) (suc j) d (omega arith) (omega arith) }

corner-sum : (g : ℤ → ℤ × ℤ → ℤ) → IsPick g → (f : ℤ → ℤ × ℤ → ℤ) → ((a : ℤ) (r : ℤ × ℤ) → a *ℤ g a r ≡ f a r) → (b : Bounds) → IsFilled b → (ts : List Term) → AreRising (length b) ts → sum_at ts (corner g b ts) ≡ sum_over f b ts
corner-sum g p f same b l [] r = refl
corner-sum g p f same b l (t ∷ ts) r =
    let w : IsWithin b (corner g b ts) = corner_within g p b l ts in
    let known : t.0 < length b = r.known 0 t (omega arith) in
    let inside : t.0 < length (corner g b ts) = omega (arith, w.long) in
    rw (
      get_or-set_same (corner g b ts) t.0 (g t.1 (range_at b t.0)) (pos 0) inside,
      sum-elsewhere ts (corner g b ts) t.0 (g t.1 (range_at b t.0)) (rising_above (length b) t ts r),
      corner-sum g p f same b l ts (rising_rest (length b) t ts r),
      same t.1 (range_at b t.0),
    ) refl

chosen_product : (c : Bool) (a u v : ℤ) → a *ℤ cond c u v ≡ cond c (a *ℤ u) (a *ℤ v)
chosen_product true a u v = refl
chosen_product false a u v = refl

pub reached : (b : Bounds) (row : Row) → IsFilled b → IsRowFit b row → IsReached b row.terms
reached b row f l =
    let ts : List Term = row.terms in
    let r : AreRising (length b) ts = record { known = l.narrow.known; rising = l.rising } in
    record {
      least = (corner low_end b ts, corner_within low_end low_pick b f ts, corner-sum low_end low_pick term_least (λ a q. chosen_product (int_le (pos 0) a) a q.0 q.1) b f ts r);
      most = (corner high_end b ts, corner_within high_end high_pick b f ts, corner-sum high_end high_pick term_most (λ a q. chosen_product (int_le (pos 0) a) a q.1 q.0) b f ts r);
    }

-- ---- broken rows

at_least_up : (side : Option ℤ) (v w : ℤ) → v ≤ℤ w → is_at_least side v ≡ true → is_at_least side w ≡ true
at_least_up None v w h e = refl
at_least_up (Some s) v w h e = grind (arith, ints)

at_most_down : (side : Option ℤ) (v w : ℤ) → w ≤ℤ v → is_at_most side v ≡ true → is_at_most side w ≡ true
at_most_down None v w h e = refl
at_most_down (Some s) v w h e = grind (arith, ints)

both : (a b : Bool) → (a && b) ≡ true → (a ≡ true) × (b ≡ true)
both true b h = (refl, h)
both false b h = cc

-- a row that holds at a point of the box isn't broken over it
pub unbroken : (b : Bounds) (row : Row) (x : List ℤ) → IsWithin b x → row_holds row x ≡ true → is_broken_over b row ≡ false
unbroken b row x w h =
    let parts = both (is_at_least row.lo (sum_at row.terms x)) (is_at_most row.hi (sum_at row.terms x)) h in
    let low : is_at_least row.lo (most_over b row.terms) ≡ true = at_least_up row.lo (sum_at row.terms x) (most_over b row.terms) (sum-le-most b row.terms x w) parts.0 in
    let high : is_at_most row.hi (least_over b row.terms) ≡ true = at_most_down row.hi (sum_at row.terms x) (least_over b row.terms) (least-le-sum b row.terms x w) parts.1 in
    rw (low, high) refl

below_side : (side : Option ℤ) (v : ℤ) → not (is_at_least side v) ≡ true → IsBelowSide side v
below_side None v e = cc
below_side (Some s) v e = record { side_is = s; given = refl; below = grind (arith, ints) }

above_side : (side : Option ℤ) (v : ℤ) → not (is_at_most side v) ≡ true → IsAboveSide side v
above_side None v e = cc
above_side (Some s) v e = record { side_is = s; given = refl; above = grind (arith, ints) }

test_below : (side : Option ℤ) (v : ℤ) → IsBelowSide side v → not (is_at_least side v) ≡ true
test_below side v h = rw h.given (let l = h.below in grind (arith, ints))

test_above : (side : Option ℤ) (v : ℤ) → IsAboveSide side v → not (is_at_most side v) ≡ true
test_above side v h = rw h.given (let l = h.above in grind (arith, ints))

pub low_is : (b : Bounds) (row : Row) → (is_low row (span_of b row) ≡ true) ↔ IsBelowSide row.lo (most_over b row.terms)
low_is b row = (below_side row.lo (most_over b row.terms), test_below row.lo (most_over b row.terms))

pub high_is : (b : Bounds) (row : Row) → (is_high row (span_of b row) ≡ true) ↔ IsAboveSide row.hi (least_over b row.terms)
high_is b row = (above_side row.hi (least_over b row.terms), test_above row.hi (least_over b row.terms))

-- ---- what a column says of the rows

contains_step : (j : ℕ) (a : ℤ) (t : Term) (ts : List Term) (c : Bool) → nat_eq t.0 j ≡ c → (Contains ts (j, a) → Contains (coefficients j ts) a) → (t ≡ (j, a)) ⊎ Contains ts (j, a) → Contains (cond c (t.1 ∷ coefficients j ts) (coefficients j ts)) a
contains_step j a t ts true e f (inl here) = subst (λ (v : ℤ). Contains (t.1 ∷ coefficients j ts) v) (ap (λ (u : Term). u.1) here) (Contains-here t.1 (coefficients j ts))
contains_step j a t ts true e f (inr later) = Contains-later t.1 (coefficients j ts) a (f later)
contains_step j a t ts false e f (inl here) = absurd (other_number t.0 j e (ap (λ (u : Term). u.0) here))
contains_step j a t ts false e f (inr later) = f later

pub contains_coefficient : (j : ℕ) (a : ℤ) (ts : List Term) → Contains ts (j, a) → Contains (coefficients j ts) a
contains_coefficient j a [] h = absurd (Contains-none (j, a) h)
contains_coefficient j a (t ∷ ts) h = contains_step j a t ts (nat_eq t.0 j) refl (contains_coefficient j a ts) (Contains-cons_cases t ts (j, a) h)

term_step : (j : ℕ) (a : ℤ) (t : Term) (ts : List Term) (c : Bool) → nat_eq t.0 j ≡ c → (Contains (coefficients j ts) a → Contains ts (j, a)) → Contains (cond c (t.1 ∷ coefficients j ts) (coefficients j ts)) a → Contains (t ∷ ts) (j, a)
term_step j a t ts true e f h = elim (Contains-cons_cases t.1 (coefficients j ts) a h) [
  | inl here ↦ (
      let same : t.0 ≡ j = same_number t.0 j e in
      let whole : t ≡ (j, a) = ap₂ (λ (n : ℕ) (v : ℤ). (n, v)) same here in
      subst (λ (u : Term). Contains (t ∷ ts) u) whole (Contains-here t ts)
      )
  | inr later ↦ Contains-later t ts (j, a) (f later)
]
term_step j a t ts false e f h = Contains-later t ts (j, a) (f h)

pub contains_term : (j : ℕ) (a : ℤ) (ts : List Term) → Contains (coefficients j ts) a → Contains ts (j, a)
contains_term j a [] h = absurd (Contains-none a h)
contains_term j a (t ∷ ts) h = term_step j a t ts (nat_eq t.0 j) refl (contains_term j a ts) h

-- a row that has a term is one of the rows
row_inside : (rows : List Row) (k : ℕ) (t : Term) → Contains (row_at rows k).terms t → k < length rows
row_inside rows k t h = elim (cases_lt k (length rows)) [
  | inl l ↦ l
  | inr g ↦ (
      let none : Contains bare_row.terms t = subst (λ (r : Row). Contains r.terms t) (get_or_past rows k bare_row g) h in
      absurd (Contains-none t none)
      )
]

column_exact : (j : ℕ) (rows : List Row) (k : ℕ) (a : ℤ) → Contains (column_of j rows) (k, a) ↔ ((k < length rows) × Contains (row_at rows k).terms (j, a))
column_exact j rows k a = (
  λ h. (
      let inner : Contains (coefficients j (row_at rows k).terms) a = subst (λ (cs : List ℤ). Contains cs a) (coefficients-column j k rows) (contains_coefficient k a (column_of j rows) h) in
      let term : Contains (row_at rows k).terms (j, a) = contains_term j a (row_at rows k).terms inner in
      (row_inside rows k (j, a) term, term)
      ),
  λ h. (
      let inner : Contains (coefficients j (row_at rows k).terms) a = contains_coefficient j a (row_at rows k).terms h.1 in
      contains_term k a (column_of j rows) (subst (λ (cs : List ℤ). Contains cs a) (sym (coefficients-column j k rows)) inner)
      ),
)

-- a variable stands at most once among rising terms
none_step : (j : ℕ) (t : Term) (ts : List Term) (c : Bool) → nat_eq t.0 j ≡ c → j < t.0 → coefficients j ts ≡ [] → cond c (t.1 ∷ coefficients j ts) (coefficients j ts) ≡ []
none_step j t ts true e h k = absurd (let same : t.0 ≡ j = same_number t.0 j e in omega arith)
none_step j t ts false e h k = k

none_above : (j : ℕ) (ts : List Term) → All (λ (u : Term). j < u.0) ts → coefficients j ts ≡ []
none_above j [] h = refl
none_above j (t ∷ ts) h = none_step j t ts (nat_eq t.0 j) refl (h 0 t (omega arith)) (none_above j ts (λ k d l. h (suc k) d (omega arith)))

once_step : (j : ℕ) (t : Term) (ts : List Term) (c : Bool) → nat_eq t.0 j ≡ c → All (λ (u : Term). t.0 < u.0) ts → length (coefficients j ts) ≤ 1 → length (cond c (t.1 ∷ coefficients j ts) (coefficients j ts)) ≤ 1
once_step j t ts true e h k =
    let same : t.0 ≡ j = same_number t.0 j e in
    let above : All (λ (u : Term). j < u.0) ts = λ n d l. omega (arith, h n d l) in
    rw (none_above j ts above) (omega arith)
once_step j t ts false e h k = k

pub once : (j : ℕ) (ts : List Term) → AllPairs (λ (t : Term) (u : Term). t.0 < u.0) ts → length (coefficients j ts) ≤ 1
once j [] h = omega arith
once j (t ∷ ts) h = once_step j t ts (nat_eq t.0 j) refl (λ k d l. h 0 (suc k) d (omega arith) (omega arith)) (once j ts (λ i k d l m. h (suc i) (suc k) d (omega arith) (omega arith)))

-- ---- a column rises by rows

length_step : (j k : ℕ) (t : Term) (ts : List Term) (c : Bool) → length (entries_of j k ts) ≡ length (coefficients j ts) → length (cond c ((k, t.1) ∷ entries_of j k ts) (entries_of j k ts)) ≡ length (cond c (t.1 ∷ coefficients j ts) (coefficients j ts))
length_step j k t ts true h = ap suc h
length_step j k t ts false h = h

length-entries : (j k : ℕ) (ts : List Term) → length (entries_of j k ts) ≡ length (coefficients j ts)
length-entries j k [] = refl
length-entries j k (t ∷ ts) = length_step j k t ts (nat_eq t.0 j) (length-entries j k ts)

pairs_cons : {X : Type 0} (R : X → X → Type 0) (x : X) (xs : List X) → All (R x) xs → AllPairs R xs → AllPairs R (x ∷ xs)
pairs_cons R x xs h p zero zero d l m = absurd (omega arith)
pairs_cons R x xs h p zero (suc k) d l m = h k d (omega arith)
pairs_cons R x xs h p (suc i) zero d l m = absurd (omega arith)
pairs_cons R x xs h p (suc i) (suc k) d l m = p i k d (omega arith) (omega arith)

front_rising : (k : ℕ) (es fs : List Entry) → length es ≤ 1 → All (λ (e : Entry). e.0 ≡ k) es → All (λ (f : Entry). k < f.0) fs → AllPairs (λ (e : Entry) (f : Entry). e.0 < f.0) fs → AllPairs (λ (e : Entry) (f : Entry). e.0 < f.0) (es ++ fs)
front_rising k [] fs l h g p = p
front_rising k (e ∷ []) fs l h g p =
    let same : e.0 ≡ k = h 0 e (omega arith) in
    pairs_cons (λ (e : Entry) (f : Entry). e.0 < f.0) e fs (λ n d q. omega (arith, g n d q)) p
front_rising k (e ∷ e2 ∷ es) fs l h g p = absurd (omega arith)

row_step : (j k : ℕ) (t : Term) (ts : List Term) (c : Bool) → All (λ (e : Entry). e.0 ≡ k) (entries_of j k ts) → All (λ (e : Entry). e.0 ≡ k) (cond c ((k, t.1) ∷ entries_of j k ts) (entries_of j k ts))
row_step j k t ts true h = All-cons (λ (e : Entry). e.0 ≡ k) (k, t.1) (entries_of j k ts) refl h
row_step j k t ts false h = h

entries_row : (j k : ℕ) (ts : List Term) → All (λ (e : Entry). e.0 ≡ k) (entries_of j k ts)
entries_row j k [] = λ n d h. absurd (omega arith)
entries_row j k (t ∷ ts) = row_step j k t ts (nat_eq t.0 j) (entries_row j k ts)

from_row : (j k n : ℕ) (rows : List Row) → n < k → All (λ (e : Entry). n < e.0) (column_from j k rows)
from_row j k n [] h = λ i d l. absurd (omega arith)
from_row j k n (row ∷ rows) h =
    All-append (λ (e : Entry). n < e.0) (entries_of j k row.terms) (column_from j (suc k) rows)
    (λ i d l. omega (arith, entries_row j k row.terms i d l))
    (from_row j (suc k) n rows (omega arith))

rising_from : (j k : ℕ) (rows : List Row) → All (λ (row : Row). AllPairs (λ (t : Term) (u : Term). t.0 < u.0) row.terms) rows → AllPairs (λ (e : Entry) (f : Entry). e.0 < f.0) (column_from j k rows)
rising_from j k [] h = λ i n d l m. absurd (omega arith)
rising_from j k (row ∷ rows) h =
    let first : AllPairs (λ (t : Term) (u : Term). t.0 < u.0) row.terms = h 0 row (omega arith) in
    front_rising k (entries_of j k row.terms) (column_from j (suc k) rows)
    (omega (arith, length-entries j k row.terms, once j row.terms first))
    (entries_row j k row.terms)
    (from_row j (suc k) k rows (omega arith))
    (rising_from j (suc k) rows (λ i d l. h (suc i) d (omega arith)))

pub column_is : (root : Bounds) (rows : List Row) (j : ℕ) → AreRowsFit root rows → IsColumn j rows (column_of j rows)
column_is root rows j l = record {
  rising = rising_from j 0 rows (λ k d h. (l.each k d h).rising);
  exact = column_exact j rows;
}

-- an coordinate of a column is the only one of its row
only : (cs : List ℤ) (a : ℤ) → length cs ≤ 1 → Contains cs a → cs ≡ a ∷ []
only [] a l h = absurd (Contains-none a h)
only (c ∷ []) a l h = elim (Contains-cons_cases c [] a h) [
  | inl here ↦ ap (λ v. v ∷ []) here
  | inr later ↦ absurd (Contains-none a later)
]
only (c ∷ d ∷ cs) a l h = absurd (omega arith)

pub single_entry : (root : Bounds) (rows : List Row) (j i : ℕ) (e : Entry) → AreRowsFit root rows → i < length (column_of j rows) → e ≡ get_or (column_of j rows) i e → coefficients e.0 (column_of j rows) ≡ e.1 ∷ []
single_entry root rows j i e l h q =
    let member : Contains (column_of j rows) (e.0, e.1) = (i, h, sym q) in
    let known : e.0 < length rows = ((column_exact j rows e.0 e.1).0 member).0 in
    let row : IsRowFit root (row_at rows e.0) = l.each e.0 bare_row known in
    only (coefficients e.0 (column_of j rows)) e.1
    (rw (coefficients-column j e.0 rows) (once j (row_at rows e.0).terms row.rising))
    (contains_coefficient e.0 e.1 (column_of j rows) member)

-- a term is the only one of its variable
pub single_term : (ts : List Term) (i : ℕ) (t : Term) → AllPairs (λ (u : Term) (v : Term). u.0 < v.0) ts → i < length ts → t ≡ get_or ts i t → coefficients t.0 ts ≡ t.1 ∷ []
single_term ts i t r h e = only (coefficients t.0 ts) t.1 (once t.0 ts r) (contains_coefficient t.0 t.1 ts (i, h, sym e))
