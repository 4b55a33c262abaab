-- Without a reason all holds at the point of a box of one.
use Rattle.std.proofs.Common.{◌≡◌, ◌⊎◌, ℕ, ◌+◌, ◌<◌, ◌≤◌, Bool, true, false, not, ◌&&◌, ◌||◌, cond, nat_le, nat_eq, inl, inr, List, [], ◌∷◌, length, map, refl, sym, ap, ap₂, ◌∙◌, arith, ℤ, pos, int_le}
use Rattle.std.specs.List.{count_by, list_any, list_all}
use Rattle.std.proofs.lemmas.Bool.{cases_lt}
use Rattle.std.proofs.lemmas.Bool.Decides.{nat_tests}
use Rattle.std.proofs.lemmas.List.{get_or_past, get_or_default}
use Rattle.std.proofs.lemmas.List.Sums.{list_all-from_AllPass, sum_by-cons}
use Rattle.std.proofs.lemmas.Int.{ints}
use Rattle.std.specs.Ordering.{int_eq}
use Rattle.sp_model.specs.declared.parts.Row.{Row}
use Rattle.sp_model.specs.declared.parts.Indicator.{Indicator}
use Rattle.sp_model.specs.declared.parts.Sos.{Sos}
use Rattle.sp_model.specs.declared.parts.SosKind.{SosKind}
use Rattle.sp_model.specs.declared.parts.SosKind.TheVariants.{One, Two}
use Rattle.sp_model.specs.Boxes.{Bounds, range_at, coordinate, IsBetween, IsWithin}
use Rattle.sp_model.specs.declared.parts.ModelParts.{ModelParts}
use Rattle.sp_model.specs.Models.{constraints_hold, has_neighbours, is_nonzero, row_holds, indicator_holds, set_allows, set_holds, switch_value}
use Rattle.sp_model.specs.Stated.{Core, core_allows, core_holds, is_at_least, is_at_most}
use Rattle.sp_model.specs.Sums.{Term, sum_at}
use Rattle.sp_sums.specs.Extremes.{is_high, is_low, least_over, most_over, span_of}
use Rattle.sp_sums.specs.Ranges.{IsFilled, IsPointBox}
use Rattle.sp_activity.specs.Order.{IsOpen}
use Rattle.sp_sums.specs.Rows.{bare_row, row_at}
use Rattle.sp_activity.specs.declared.reasons.Reason.TheVariants.{RowLow, RowHigh, IndicatorLow, IndicatorHigh, Sos as SetClash, Semi}
use Rattle.sp_activity.specs.Reasons.{bare_indicator, bare_set, clash_distance, core_at, indicator_at, is_asked, is_high_over, is_low_over, is_missed, lacks_zero, set_at}
use Rattle.sp_activity.specs.Within.{IsCovered, IsUnder}
use Rattle.sp_activity.proofs.PairLemmas.{breaks_by_clash}
use Rattle.sp_activity.specs.Stages.{has_pair, is_set_broken}

-- ---- ranges of one value

-- the range is the value alone
pub record IsOne (r : ℤ × ℤ) (v : ℤ) : Type 0 where
  pub lower : r.0 ≡ v
  pub upper : r.1 ≡ v

pub one_at : (b : Bounds) (x : List ℤ) (j : ℕ) → IsPointBox b x → IsOne (range_at b j) (coordinate x j)
one_at b x j h = elim (cases_lt j (length b)) [
  | inl l ↦ (let v : IsBetween (range_at b j) (coordinate x j) = h.within.each j l in let e = h.single j l in record { lower = omega (arith, ints, v.least, v.greatest); upper = omega (arith, ints, v.least, v.greatest) })
  | inr g ↦ (
      let g2 : length x ≤ j = omega (arith, h.within.long) in
      rw (get_or_past b j (pos 0, pos 0) g, get_or_past x j (pos 0) g2) record { lower = refl; upper = refl }
      )
]

-- ---- rows

-- what sp_sums says of one point
abbrev pub SumsMeet : Type 0
SumsMeet = (b : Bounds) (ts : List Term) (x : List ℤ) → IsPointBox b x → (least_over b ts ≡ sum_at ts x) × (most_over b ts ≡ sum_at ts x)

not_false : (c : Bool) → not c ≡ false → c ≡ true
not_false true e = refl
not_false false e = cc

pub row_at_point : (b : Bounds) (row : Row) (x : List ℤ) → SumsMeet → IsPointBox b x → is_low row (span_of b row) ≡ false → is_high row (span_of b row) ≡ false → row_holds row x ≡ true
row_at_point b row x s h low high =
    let meet = s b row.terms x h in
    let least : is_at_least row.lo (sum_at row.terms x) ≡ true = ap (is_at_least row.lo) (sym meet.1) ∙ not_false (is_at_least row.lo (most_over b row.terms)) low in
    let most : is_at_most row.hi (sum_at row.terms x) ≡ true = ap (is_at_most row.hi) (sym meet.0) ∙ not_false (is_at_most row.hi (least_over b row.terms)) high in
    rw (least, most) refl

asked_at_point : (r : ℤ × ℤ) (v s : ℤ) → IsOne r v → int_eq v s ≡ true → int_eq r.0 s && int_eq r.1 s ≡ true
asked_at_point r v s o e = rw (o.lower, o.upper, e) refl

indicator_by : (c : Bool) (h : Bool) → (c ≡ true → h ≡ true) → not c || h ≡ true
indicator_by true h f = f refl
indicator_by false h f = refl

pub indicator_at_point : (b : Bounds) (i : Indicator) (x : List ℤ) → SumsMeet → IsPointBox b x → (is_asked b i ≡ true → (is_low i.row (span_of b i.row) ≡ false) × (is_high i.row (span_of b i.row) ≡ false)) → indicator_holds i x ≡ true
indicator_at_point b i x s h f =
    indicator_by (int_eq (coordinate x i.var) (switch_value i.on)) (row_holds i.row x)
    (λ e. (let two = f (asked_at_point (range_at b i.var) (coordinate x i.var) (switch_value i.on) (one_at b x i.var h) e) in row_at_point b i.row x s h two.0 two.1))

-- ---- cores

core_by : (r : ℤ × ℤ) (c : Core) (v : ℤ) → r.0 ≡ v → r.1 ≡ v → is_missed r c ≡ false → core_allows c v ≡ true
core_by r c v l u e = grind (arith, ints)

pub core_at_point : (b : Bounds) (c : Core) (x : List ℤ) → IsPointBox b x → is_missed (range_at b c.0) c ≡ false → core_allows c (coordinate x c.0) ≡ true
core_at_point b c x h e = let one : IsOne (range_at b c.0) (coordinate x c.0) = one_at b x c.0 h in core_by (range_at b c.0) c (coordinate x c.0) one.lower one.upper e

-- ---- sets

lacks_one : (v : ℤ) → lacks_zero (v, v) ≡ is_nonzero v
lacks_one v = lacks_by v (is_nonzero v) refl
  where
    lacks_by : (v : ℤ) (c : Bool) → is_nonzero v ≡ c → lacks_zero (v, v) ≡ c
    lacks_by v true e = grind (arith, ints)
    lacks_by v false e = grind (arith, ints)

lacks_at : (r : ℤ × ℤ) (v : ℤ) → IsOne r v → lacks_zero r ≡ is_nonzero v
lacks_at r v o = ap (λ (u : ℤ). not (int_le u (pos 0) && int_le (pos 0) r.1)) o.lower ∙ ap (λ (u : ℤ). not (int_le v (pos 0) && int_le (pos 0) u)) o.upper ∙ lacks_one v

truths_at : (b : Bounds) (x : List ℤ) (vs : List ℕ) → IsPointBox b x → map (λ (v : ℕ). lacks_zero (range_at b v)) vs ≡ map is_nonzero (map (coordinate x) vs)
truths_at b x [] h = refl
truths_at b x (v ∷ vs) h = ap₂ (λ (c : Bool) (cs : List Bool). c ∷ cs) (lacks_at (range_at b v) (coordinate x v) (one_at b x v h)) (truths_at b x vs h)

or_first : (a b : Bool) → a || b ≡ false → a ≡ false
or_first true b e = e
or_first false b e = refl

or_second : (a b : Bool) → a || b ≡ false → b ≡ false
or_second true b e = cc
or_second false b e = e

count-cons : (v : ℤ) (vs : List ℤ) → count_by is_nonzero (v ∷ vs) ≡ cond (is_nonzero v) 1 0 + count_by is_nonzero vs
count-cons v vs = sum_by-cons (λ (w : ℤ). cond (is_nonzero w) 1 0) v vs

none_step : (v : ℤ) (vs : List ℤ) (c : Bool) → is_nonzero v ≡ c → c ≡ false → count_by is_nonzero vs ≡ 0 → count_by is_nonzero (v ∷ vs) ≡ 0
none_step v vs c e f n = let z : is_nonzero v ≡ false = e ∙ f in let s : count_by is_nonzero (v ∷ vs) ≡ 0 + count_by is_nonzero vs = rw (count-cons v vs, z) refl in omega arith

count_none : (vs : List ℤ) → list_any (λ g. g) (map is_nonzero vs) ≡ false → count_by is_nonzero vs ≡ 0
count_none [] e = refl
count_none (v ∷ vs) e = none_step v vs (is_nonzero v) refl (or_first (is_nonzero v) (list_any (λ g. g) (map is_nonzero vs)) e) (count_none vs (or_second (is_nonzero v) (list_any (λ g. g) (map is_nonzero vs)) e))

one_step : (v : ℤ) (vs : List ℤ) (c : Bool) → is_nonzero v ≡ c → c && list_any (λ g. g) (map is_nonzero vs) ≡ false → count_by is_nonzero vs ≤ 1 → count_by is_nonzero (v ∷ vs) ≤ 1
one_step v vs true e f n = let none = count_none vs f in let s : count_by is_nonzero (v ∷ vs) ≡ 1 + count_by is_nonzero vs = rw (count-cons v vs, e) refl in omega arith
one_step v vs false e f n = let s : count_by is_nonzero (v ∷ vs) ≡ 0 + count_by is_nonzero vs = rw (count-cons v vs, e) refl in omega arith

count_one : (vs : List ℤ) → has_pair 1 (map is_nonzero vs) ≡ false → count_by is_nonzero vs ≤ 1
count_one [] e = omega arith
count_one (v ∷ vs) e =
    one_step v vs (is_nonzero v) refl (or_first (is_nonzero v && list_any (λ g. g) (map is_nonzero vs)) (has_pair 1 (map is_nonzero vs)) e)
    (count_one vs (or_second (is_nonzero v && list_any (λ g. g) (map is_nonzero vs)) (has_pair 1 (map is_nonzero vs)) e))

-- at most one isn't zero, or two that are neighbours
abbrev IsTwo : List ℤ → Type 0
IsTwo vs = (count_by is_nonzero vs ≤ 1) ⊎ ((count_by is_nonzero vs ≡ 2) × (has_neighbours vs ≡ true))

single_two : (v : ℤ) (c : Bool) → is_nonzero v ≡ c → IsTwo (v ∷ [])
single_two v true e = inl (let s : count_by is_nonzero (v ∷ []) ≡ 1 + count_by is_nonzero [] = rw (count-cons v [], e) refl in omega arith)
single_two v false e = inl (let s : count_by is_nonzero (v ∷ []) ≡ 0 + count_by is_nonzero [] = rw (count-cons v [], e) refl in omega arith)

two_step : (v w : ℤ) (vs : List ℤ) (a c : Bool) → is_nonzero v ≡ a → is_nonzero w ≡ c → a && list_any (λ g. g) (map is_nonzero vs) ≡ false → IsTwo (w ∷ vs) → IsTwo (v ∷ w ∷ vs)
two_step v w vs true true e f n r =
    let none = count_none vs n in
    let s : count_by is_nonzero (v ∷ w ∷ vs) ≡ 1 + (1 + count_by is_nonzero vs) = rw (count-cons v (w ∷ vs), count-cons w vs, e, f) refl in
    inr (omega arith, rw (e, f) refl)
two_step v w vs true false e f n r =
    let none = count_none vs n in
    let s : count_by is_nonzero (v ∷ w ∷ vs) ≡ 1 + (0 + count_by is_nonzero vs) = rw (count-cons v (w ∷ vs), count-cons w vs, e, f) refl in
    inl (omega arith)
two_step v w vs false c e f n (inl l) = inl (let s : count_by is_nonzero (v ∷ w ∷ vs) ≡ 0 + count_by is_nonzero (w ∷ vs) = rw (count-cons v (w ∷ vs), e) refl in omega arith)
two_step v w vs false c e f n (inr r) = inr (let s : count_by is_nonzero (v ∷ w ∷ vs) ≡ 0 + count_by is_nonzero (w ∷ vs) = rw (count-cons v (w ∷ vs), e) refl in omega (arith, r.0), rw e r.1)

count_two : (vs : List ℤ) → has_pair 2 (map is_nonzero vs) ≡ false → IsTwo vs
count_two [] e = inl (omega arith)
count_two (v ∷ []) e = single_two v (is_nonzero v) refl
count_two (v ∷ w ∷ vs) e =
    two_step v w vs (is_nonzero v) (is_nonzero w) refl refl (or_first (is_nonzero v && list_any (λ g. g) (map is_nonzero vs)) (has_pair 2 (map is_nonzero (w ∷ vs))) e)
    (count_two (w ∷ vs) (or_second (is_nonzero v && list_any (λ g. g) (map is_nonzero vs)) (has_pair 2 (map is_nonzero (w ∷ vs))) e))

few_tests : (n : ℕ) → n ≤ 1 → nat_le n 1 ≡ true
few_tests n h = grind (arith, nat_tests)

two_tests : (n : ℕ) → n ≡ 2 → nat_eq n 2 ≡ true
two_tests n h = grind (arith, nat_tests)

or_left : (a b : Bool) → a ≡ true → a || b ≡ true
or_left a b e = rw e refl

or_right : (a b : Bool) → b ≡ true → a || b ≡ true
or_right true b e = refl
or_right false b e = e

allows_two : (vs : List ℤ) → IsTwo vs → set_allows Two vs ≡ true
allows_two vs (inl l) = or_left (nat_le (count_by is_nonzero vs) 1) (nat_eq (count_by is_nonzero vs) 2 && has_neighbours vs) (few_tests (count_by is_nonzero vs) l)
allows_two vs (inr r) = or_right (nat_le (count_by is_nonzero vs) 1) (nat_eq (count_by is_nonzero vs) 2 && has_neighbours vs) (rw (two_tests (count_by is_nonzero vs) r.0, r.1) refl)

allows : (k : SosKind) (vs : List ℤ) → has_pair (clash_distance k) (map is_nonzero vs) ≡ false → set_allows k vs ≡ true
allows One vs e = few_tests (count_by is_nonzero vs) (count_one vs e)
allows Two vs e = allows_two vs (count_two vs e)

pub set_at_point : (b : Bounds) (set : Sos) (x : List ℤ) → IsPointBox b x → is_set_broken b set ≡ false → set_holds set x ≡ true
set_at_point b set x h e = allows set.kind (map (coordinate x) set.vars) (ap (has_pair (clash_distance set.kind)) (sym (truths_at b x set.vars h)) ∙ e)

-- ---- all of a model

false_from : (c : Bool) → (c ≡ true → ⊥) → c ≡ false
false_from true f = absurd (f refl)
false_from false f = refl

filled_point : (b : Bounds) (x : List ℤ) → IsPointBox b x → IsFilled b
filled_point b x h = record { each = λ j l. (let e = h.single j l in omega (arith, ints)) }

row_open : (m : ModelParts) (b : Bounds) (x : List ℤ) (k : ℕ) → SumsMeet → IsPointBox b x → IsFilled b → IsOpen m b → k < length m.rows → row_holds (row_at m.rows k) x ≡ true
row_open m b x k s h f o l = row_at_point b (row_at m.rows k) x s h
    (false_from (is_low_over b (row_at m.rows k)) (λ e. o.each (RowLow k) (f, (l, e))))
    (false_from (is_high_over b (row_at m.rows k)) (λ e. o.each (RowHigh k) (f, (l, e))))

gate_open : (m : ModelParts) (b : Bounds) (x : List ℤ) (k : ℕ) → SumsMeet → IsPointBox b x → IsFilled b → IsOpen m b → k < length m.indicators → indicator_holds (indicator_at m.indicators k) x ≡ true
gate_open m b x k s h f o l = indicator_at_point b (indicator_at m.indicators k) x s h (λ a. (
  false_from (is_low_over b (indicator_at m.indicators k).row) (λ e. o.each (IndicatorLow k) (f, (l, a, e))),
  false_from (is_high_over b (indicator_at m.indicators k).row) (λ e. o.each (IndicatorHigh k) (f, (l, a, e))),
))

set_open : (m : ModelParts) (b : Bounds) (x : List ℤ) (k : ℕ) → IsPointBox b x → IsFilled b → IsOpen m b → k < length m.sos → set_holds (set_at m.sos k) x ≡ true
set_open m b x k h f o l = set_at_point b (set_at m.sos k) x h (false_from (is_set_broken b (set_at m.sos k)) (λ e. (let r = breaks_by_clash b (set_at m.sos k) e in o.each (SetClash k r.0 r.1) (f, (l, r.2)))))

core_open : (m : ModelParts) (b : Bounds) (x : List ℤ) (k : ℕ) → IsPointBox b x → IsFilled b → IsOpen m b → k < length m.semi → core_holds (core_at m.semi k) x ≡ true
core_open m b x k h f o l = core_at_point b (core_at m.semi k) x h (false_from (is_missed (range_at b (core_at m.semi k).0) (core_at m.semi k)) (λ e. o.each (Semi (core_at m.semi k).0) (f, record { place = k; known = l; variable = refl; missed = e })))

pub holds_at_point : (m : ModelParts) (b : Bounds) (x : List ℤ) → SumsMeet → IsPointBox b x → IsOpen m b → constraints_hold m x ≡ true
holds_at_point m b x s h o =
    let f : IsFilled b = filled_point b x h in
    let cores : list_all (λ c. core_holds c x) m.semi ≡ true = list_all-from_AllPass (λ c. core_holds c x) m.semi (λ k d l. ap (λ (c : Core). core_holds c x) (get_or_default m.semi k d (0, pos 0, pos 0) l) ∙ core_open m b x k h f o l) in
    let rows : list_all (λ row. row_holds row x) m.rows ≡ true = list_all-from_AllPass (λ row. row_holds row x) m.rows (λ k d l. ap (λ (r : Row). row_holds r x) (get_or_default m.rows k d bare_row l) ∙ row_open m b x k s h f o l) in
    let gates : list_all (λ i. indicator_holds i x) m.indicators ≡ true = list_all-from_AllPass (λ i. indicator_holds i x) m.indicators (λ k d l. ap (λ (i : Indicator). indicator_holds i x) (get_or_default m.indicators k d bare_indicator l) ∙ gate_open m b x k s h f o l) in
    let sets : list_all (λ set. set_holds set x) m.sos ≡ true = list_all-from_AllPass (λ set. set_holds set x) m.sos (λ k d l. ap (λ (t : Sos). set_holds t x) (get_or_default m.sos k d bare_set l) ∙ set_open m b x k h f o l) in
    rw (cores, rows, gates, sets) refl

-- the point lies within the root box
pub within_root : (root b : Bounds) (x : List ℤ) → IsUnder root b → IsWithin b x → IsWithin root x
within_root root b x u w = record {
  long = w.long ∙ u.long;
  each = λ j l. (
      let c : IsCovered (range_at root j) (range_at b j) = u.each j l in
      let v : IsBetween (range_at b j) (coordinate x j) = w.each j (omega (arith, u.long)) in
      record { least = omega (arith, ints, c.lower, v.least); greatest = omega (arith, ints, c.upper, v.greatest) }
      );
}
