-- No point of a box that keeps the rows has a smaller objective than a bound.
use Rattle.std.proofs.Common.{◌≡◌, ◌↔◌, ℕ, suc, ◌<◌, Bool, true, false, ◌&&◌, cond, inl, inr, List, [], ◌∷◌, length, map, get_or, Option, None, Some, unwrap_or, ℤ, pos, ◌+ℤ◌, ◌-ℤ◌, ◌*ℤ◌, ◌≤ℤ◌, ◌<ℤ◌, int_lt, int_le, All, AllPairs, refl, sym, ap, ◌∙◌, subst, arith}
use Rattle.std.specs.List.{list_all}
use Rattle.std.proofs.lemmas.Bool.{cases_lt}
use Rattle.std.proofs.lemmas.Int.{ints}
use Rattle.std.proofs.lemmas.List.{get_or_past}
use Rattle.sp_model.specs.declared.parts.Row.{Row}
use Rattle.sp_model.specs.declared.parts.ModelParts.{ModelParts}
use Rattle.sp_model.specs.Boxes.{Bounds, IsBetween, IsWithin, range_at}
use Rattle.sp_model.specs.Models.{objective, root_of, row_holds}
use Rattle.sp_model.specs.Rounds.{ceiling_of}
use Rattle.sp_model.specs.Rules.{AreTermsLawful, IsLawful}
use Rattle.sp_model.specs.Stated.{is_at_least, is_at_most}
use Rattle.sp_model.specs.Sums.{Term, sum_at}
use Rattle.sp_sums.specs.Extremes.{IsSpanned, least_over, most_over, term_least}
use Rattle.sp_sums.specs.Ranges.{IsInside}
use Rattle.sp_sums.specs.Rows.{bare_row, row_at}
use Rattle.sp_dual.specs.Lists.{MultiplierList, IsWellFormed}
use Rattle.sp_bound.specs.Bounds.{KeepsRows, Weight, addends, bound_number, bound_of, coefficient_in, fits, least_values, left_of, named_numbers, reduced_cost, scaled_cost, share_of, side_product, total}
use Rattle.sp_bound.proofs.FactorLemmas.{mul-le, mul-turns}
use Rattle.sp_bound.proofs.HeldLemmas.{total-append}
use Rattle.sp_bound.proofs.VariableLemmas.{along, along-scale, along-sub, along-terms, none-times, over-point, times}

-- ---- the sides

-- the row's sum at a point where it holds lies above its least side, or above its least sum over the box where that is missing
above_least : (b : Bounds) (ts : List Term) (s : ℤ) (lo : Option ℤ) → is_at_least lo s ≡ true → least_over b ts ≤ℤ s → unwrap_or lo (least_over b ts) ≤ℤ s
above_least b ts s None h l = l
above_least b ts s (Some v) h l = grind (arith, ints)

below_greatest : (b : Bounds) (ts : List Term) (s : ℤ) (hi : Option ℤ) → is_at_most hi s ≡ true → s ≤ℤ most_over b ts → s ≤ℤ unwrap_or hi (most_over b ts)
below_greatest b ts s None h l = l
below_greatest b ts s (Some v) h l = grind (arith, ints)

both_hold : (p q : Bool) → (p && q) ≡ true → (p ≡ true) × (q ≡ true)
both_hold true q h = (refl, h)
both_hold false q h = absurd (cc)

-- what is known of a row at a point
pub record IsKept (b : Bounds) (x : List ℤ) (row : Row) : Type 0 where
  pub least : is_at_least row.lo (sum_at row.terms x) ≡ true
  pub greatest : is_at_most row.hi (sum_at row.terms x) ≡ true
  pub above : least_over b row.terms ≤ℤ sum_at row.terms x
  pub below : sum_at row.terms x ≤ℤ most_over b row.terms
  pub along_is : along times (coefficient_in row.terms) 0 x ≡ sum_at row.terms x

side_case : (b : Bounds) (x : List ℤ) (row : Row) (y : ℤ) (c : Bool) → int_lt (pos 0) y ≡ c → IsKept b x row → (y *ℤ cond c (unwrap_or row.lo (least_over b row.terms)) (unwrap_or row.hi (most_over b row.terms))) ≤ℤ (y *ℤ sum_at row.terms x)
side_case b x row y true e k =
    let positive : pos 0 ≤ℤ y = grind (arith, ints) in
    mul-le y (unwrap_or row.lo (least_over b row.terms)) (sum_at row.terms x) positive (above_least b row.terms (sum_at row.terms x) row.lo k.least k.above)
side_case b x row y false e k =
    let negative : y ≤ℤ pos 0 = grind (arith, ints) in
    mul-turns y (sum_at row.terms x) (unwrap_or row.hi (most_over b row.terms)) negative (below_greatest b row.terms (sum_at row.terms x) row.hi k.greatest k.below)

-- all rows keep the point
pub record AreKept (b : Bounds) (x : List ℤ) (rows : List Row) : Type 0 where
  pub each : (k : ℕ) → IsKept b x (row_at rows k)

-- what the rows take off in all
abbrev pub weighed : List Row → List ℤ → List Weight → ℤ
weighed rows x [] = pos 0
weighed rows x (w ∷ ws) = (w.1 *ℤ along times (coefficient_in (row_at rows w.0).terms) 0 x) +ℤ weighed rows x ws

sides-le : (b : Bounds) (x : List ℤ) (rows : List Row) → AreKept b x rows → (ws : List Weight) → total (map (side_product b rows) ws) ≤ℤ weighed rows x ws
sides-le b x rows k [] = omega (arith, ints)
sides-le b x rows k (w ∷ ws) =
    let here : side_product b rows w ≤ℤ (w.1 *ℤ sum_at (row_at rows w.0).terms x) = side_case b x (row_at rows w.0) w.1 (int_lt (pos 0) w.1) refl (k.each w.0) in
    let same : w.1 *ℤ along times (coefficient_in (row_at rows w.0).terms) 0 x ≡ w.1 *ℤ sum_at (row_at rows w.0).terms x = ap (λ v. w.1 *ℤ v) ((k.each w.0).along_is) in
    omega (arith, ints, here, same, sides-le b x rows k ws)

-- ---- the reduced costs

pub least-below : (c : ℤ) (r : ℤ × ℤ) (v : ℤ) (p : Bool) → int_le (pos 0) c ≡ p → IsBetween r v → cond p (c *ℤ r.0) (c *ℤ r.1) ≤ℤ (c *ℤ v)
least-below c r v true e h = let positive : pos 0 ≤ℤ c = grind (arith, ints) in mul-le c r.0 v positive h.least
least-below c r v false e h = let negative : c ≤ℤ pos 0 = grind (arith, ints) in mul-turns c v r.1 negative h.greatest

values-le : (m : ModelParts) (l : MultiplierList) (j : ℕ) (rs : Bounds) (xs : List ℤ) → length xs ≡ length rs → ((k : ℕ) → k < length rs → IsBetween (range_at rs k) (get_or xs k (pos 0))) → total (least_values m l j rs) ≤ℤ along times (reduced_cost m l) j xs
values-le m l j [] [] e h = omega (arith, ints)
values-le m l j [] (x ∷ xs) e h = absurd (omega (arith, e))
values-le m l j (r ∷ rs) [] e h = absurd (omega (arith, e))
values-le m l j (r ∷ rs) (x ∷ xs) e h =
    let here : term_least (reduced_cost m l j) r ≤ℤ (reduced_cost m l j *ℤ x) = least-below (reduced_cost m l j) r x (int_le (pos 0) (reduced_cost m l j)) refl (h 0 (omega arith)) in
    let rest : total (least_values m l (suc j) rs) ≤ℤ along times (reduced_cost m l) (suc j) xs = values-le m l (suc j) rs xs (omega (arith, e)) (λ k g. h (suc k) (omega (arith, g))) in
    omega (arith, ints, here, rest)

along-left : (rows : List Row) (x : List ℤ) (ws : List Weight) (r : ℕ → ℤ) → along times (λ j. left_of rows j (r j) ws) 0 x ≡ along times r 0 x -ℤ weighed rows x ws
along-left rows x [] r = omega (arith, ints)
along-left rows x (w ∷ ws) r =
    let rest : along times (λ j. left_of rows j (r j -ℤ share_of rows j w) ws) 0 x ≡ along times (λ j. r j -ℤ share_of rows j w) 0 x -ℤ weighed rows x ws = along-left rows x ws (λ j. r j -ℤ share_of rows j w) in
    let here : along times (λ j. r j -ℤ share_of rows j w) 0 x ≡ along times r 0 x -ℤ (w.1 *ℤ along times (coefficient_in (row_at rows w.0).terms) 0 x) = along-sub r (coefficient_in (row_at rows w.0).terms) w.1 0 x in
    omega (arith, ints, rest, here)

-- ---- the whole

-- a whole number isn't below the quotient rounded up exactly where its multiple isn't below the dividend
pub record IsCeiling : Type 0 where
  pub law : (d a v : ℤ) → pos 0 <ℤ a → (d ≤ℤ (a *ℤ v)) ↔ (ceiling_of d a ≤ℤ v)

sum-le : (m : ModelParts) (b : Bounds) (l : MultiplierList) (x : List ℤ) → IsWithin b x → AreKept b x m.rows → along times (coefficient_in m.cost) 0 x ≡ sum_at m.cost x → total (addends m b l) ≤ℤ (l.d *ℤ sum_at m.cost x)
sum-le m b l x within kept cost =
    let joined = total-append (map (side_product b m.rows) l.y) (least_values m l 0 b) in
    let sides = sides-le b x m.rows kept l.y in
    let values = values-le m l 0 b x within.long within.each in
    let left : along times (reduced_cost m l) 0 x ≡ along times (scaled_cost m l) 0 x -ℤ weighed m.rows x l.y = along-left m.rows x l.y (scaled_cost m l) in
    let scaled : along times (scaled_cost m l) 0 x ≡ l.d *ℤ along times (coefficient_in m.cost) 0 x = along-scale (coefficient_in m.cost) l.d 0 x in
    let point : l.d *ℤ along times (coefficient_in m.cost) 0 x ≡ l.d *ℤ sum_at m.cost x = ap (λ v. l.d *ℤ v) cost in
    omega (arith, ints, joined, sides, values, left, scaled, point)

pub number-le : IsCeiling → (m : ModelParts) (b : Bounds) (l : MultiplierList) (x : List ℤ) → pos 1 ≤ℤ l.d → IsWithin b x → AreKept b x m.rows → along times (coefficient_in m.cost) 0 x ≡ sum_at m.cost x → bound_number m b l ≤ℤ objective m x
number-le c m b l x positive within kept cost =
    let over : ceiling_of (total (addends m b l)) l.d ≤ℤ sum_at m.cost x = (c.law (total (addends m b l)) l.d (sum_at m.cost x) (omega (arith, ints, positive))).0 (sum-le m b l x within kept cost) in
    omega (arith, ints, over)

-- a bound is its number
held_number : (p : Bool) (z v : ℤ) → cond p (Some z) None ≡ Some v → z ≡ v
held_number true z v e = cc
held_number false z v e = absurd (cc)

pub bound-number : (m : ModelParts) (b : Bounds) (l : MultiplierList) (v : ℤ) → bound_of m b l ≡ Some v → bound_number m b l ≡ v
unfolding bound_of
bound-number m b l v e = held_number (list_all fits (named_numbers m b l)) (bound_number m b l) v e

-- ---- from a lawful model

pub record IsSpan : Type 0 where
  pub law : (b : Bounds) (ts : List Term) → IsSpanned b ts

-- rising terms of known variables
pub record AreRising (count : ℕ) (ts : List Term) : Type 0 where
  pub known : All (λ (t : Term). t.0 < count) ts
  pub rising : AllPairs (λ (t : Term) (u : Term). t.0 < u.0) ts

pub along-sum : (x : List ℤ) (ts : List Term) → AreRising (length x) ts → along times (coefficient_in ts) 0 x ≡ sum_at ts x
along-sum x ts h = along-terms times none-times (pos 0) x ts h.known h.rising ∙ over-point x ts

row_kept : IsSpan → (b : Bounds) (x : List ℤ) (row : Row) → IsWithin b x → AreRising (length x) row.terms → row_holds row x ≡ true → IsKept b x row
row_kept s b x row within rising holds =
    let both = both_hold (is_at_least row.lo (sum_at row.terms x)) (is_at_most row.hi (sum_at row.terms x)) holds in
    record {
      least = both.0;
      greatest = both.1;
      above = (s.law b row.terms).least x within;
      below = (s.law b row.terms).most x within;
      along_is = along-sum x row.terms rising;
    }

bare_rising : (n : ℕ) → AreRising n []
bare_rising n = record { known = λ k e l. absurd (omega (arith, l)); rising = λ i k e l g. absurd (omega (arith, g)) }

rows-kept : IsSpan → (b : Bounds) (x : List ℤ) (rows : List Row) → IsWithin b x → ((k : ℕ) → k < length rows → AreRising (length x) (row_at rows k).terms) → ((k : ℕ) → k < length rows → row_holds (row_at rows k) x ≡ true) → AreKept b x rows
rows-kept s b x rows within rising holds = record {
  each = λ k. elim (cases_lt k (length rows)) [
    | inl l ↦ row_kept s b x (row_at rows k) within (rising k l) (holds k l)
    | inr g ↦ (let bare : bare_row ≡ row_at rows k = sym (get_or_past rows k bare_row g) in subst (IsKept b x) bare (row_kept s b x bare_row within (bare_rising (length x)) refl))
  ];
}

lawful_rising : (count n : ℕ) (ts : List Term) → n ≡ count → AreTermsLawful count ts → AreRising n ts
lawful_rising count n ts e h = record { known = λ k d l. omega (arith, h.known k d l, e); rising = h.rising }

pub sound : IsCeiling → IsSpan → (m : ModelParts) (b : Bounds) (l : MultiplierList) (x : List ℤ) (v : ℤ) → IsLawful m → IsWellFormed l → IsInside (root_of m) b → KeepsRows m b x → bound_of m b l ≡ Some v → v ≤ℤ objective m x
sound c s m b l x v lawful formed inside keeps e =
    let long : length x ≡ length (root_of m) = omega (arith, keeps.within.long, inside.long) in
    let rising : (k : ℕ) → k < length m.rows → AreRising (length x) (row_at m.rows k).terms = λ k g. lawful_rising (length (root_of m)) (length x) (row_at m.rows k).terms long (lawful.rows.each k bare_row g).terms in
    let kept = rows-kept s b x m.rows keeps.within rising (λ k g. keeps.rows k bare_row g) in
    let cost = along-sum x m.cost (lawful_rising (length (root_of m)) (length x) m.cost long lawful.objective.terms) in
    subst (λ (z : ℤ). z ≤ℤ objective m x) (bound-number m b l v e) (number-le c m b l x formed.positive keeps.within kept cost)
