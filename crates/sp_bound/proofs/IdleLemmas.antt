-- A list of one row that lacks its side closes nothing that the empty list doesn't.
use Rattle.std.proofs.Common.{◌≡◌, ℕ, suc, ◌<◌, Bool, true, false, cond, List, [], ◌∷◌, length, Option, None, Some, unwrap_or, ℤ, pos, ◌+ℤ◌, ◌-ℤ◌, ◌*ℤ◌, ◌≤ℤ◌, ◌<ℤ◌, int_le, int_lt, refl, sym, ap, ◌∙◌, arith}
use Rattle.std.proofs.Math.IntN.{*ℤ-zero, zero-*ℤ}
use Rattle.std.proofs.lemmas.Int.{ints}
use Rattle.sp_model.specs.declared.parts.ModelParts.{ModelParts}
use Rattle.sp_model.specs.Boxes.{Bounds, IsBetween, range_at}
use Rattle.sp_model.specs.Models.{root_of}
use Rattle.sp_model.specs.Rounds.{ceiling_of}
use Rattle.sp_model.specs.Rules.{IsLawful}
use Rattle.sp_sums.specs.Extremes.{least_over, most_over, term_least, term_most}
use Rattle.sp_sums.specs.Ranges.{IsInside}
use Rattle.sp_sums.specs.Rows.{row_at}
use Rattle.sp_dual.specs.Lists.{MultiplierList, zero_list}
use Rattle.sp_bound.specs.Bounds.{Weight, addends, bound_number, bound_of, coefficient_in, least_values, reduced_cost, side_product, total}
use Rattle.sp_bound.specs.Closing.{IsIdle, closes, is_above, named_side}
use Rattle.sp_bound.specs.Inner.{IsRising}
use Rattle.sp_bound.proofs.FactorLemmas.{mul-add, mul-assoc, mul-le, mul-turns, one_times, sub-mul}
use Rattle.sp_bound.proofs.SafeLemmas.{zero_some}
use Rattle.sp_bound.proofs.SoundLemmas.{IsCeiling, bound-number, least-below}
use Rattle.sp_bound.proofs.VariableLemmas.{IsNoneAtZero, along, along-terms, over-box}

-- ---- one variable

-- the multiplier brings an end of a term below its multiple at each value between
pub record IsEnd (y : ℤ) (f : ℤ → ℤ × ℤ → ℤ) : Type 0 where
  pub none : IsNoneAtZero f
  pub below : (a : ℤ) (r : ℤ × ℤ) (v : ℤ) → IsBetween r v → (y *ℤ f a r) ≤ℤ (y *ℤ (a *ℤ v))

-- where the least value of a term is reached
pub record IsLeastAt (c : ℤ) (r : ℤ × ℤ) : Type 0 where
  pub value : ℤ
  pub between : IsBetween r value
  pub least : term_least c r ≡ c *ℤ value

least_case : (c : ℤ) (r : ℤ × ℤ) (p : Bool) → int_le (pos 0) c ≡ p → r.0 ≤ℤ r.1 → IsLeastAt c r
least_case c r true e h = record { value = r.0; between = record { least = omega (arith, ints); greatest = h }; least = ap (λ (q : Bool). cond q (c *ℤ r.0) (c *ℤ r.1)) e }
least_case c r false e h = record { value = r.1; between = record { least = h; greatest = omega (arith, ints) }; least = ap (λ (q : Bool). cond q (c *ℤ r.0) (c *ℤ r.1)) e }

below_at : (q : ℤ) (r : ℤ × ℤ) (v : ℤ) → IsBetween r v → term_least q r ≤ℤ (q *ℤ v)
below_at q r v h = least-below q r v (int_le (pos 0) q) refl h

idle-term : (y d a c : ℤ) (r : ℤ × ℤ) (f : ℤ → ℤ × ℤ → ℤ) → IsEnd y f → r.0 ≤ℤ r.1 → ((y *ℤ f a r) +ℤ term_least ((d *ℤ c) -ℤ (y *ℤ a)) r) ≤ℤ (d *ℤ term_least c r)
idle-term y d a c r f end filled =
    let at = least_case c r (int_le (pos 0) c) refl filled in
    let v = at.value in
    let first : (y *ℤ f a r) ≤ℤ (y *ℤ (a *ℤ v)) = end.below a r v at.between in
    let second : term_least ((d *ℤ c) -ℤ (y *ℤ a)) r ≤ℤ (((d *ℤ c) -ℤ (y *ℤ a)) *ℤ v) = below_at ((d *ℤ c) -ℤ (y *ℤ a)) r v at.between in
    let parted : ((d *ℤ c) -ℤ (y *ℤ a)) *ℤ v ≡ ((d *ℤ c) *ℤ v) -ℤ ((y *ℤ a) *ℤ v) = sub-mul (d *ℤ c) (y *ℤ a) v in
    let left : (d *ℤ c) *ℤ v ≡ d *ℤ (c *ℤ v) = mul-assoc d c v in
    let right : (y *ℤ a) *ℤ v ≡ y *ℤ (a *ℤ v) = mul-assoc y a v in
    let least : d *ℤ term_least c r ≡ d *ℤ (c *ℤ v) = ap (λ (z : ℤ). d *ℤ z) at.least in
    omega (arith, ints, first, second, parted, left, right, least)

-- ---- all variables

abbrev single : ℤ → Weight → MultiplierList
single d w = record { d = d; y = w ∷ [] }

idle-values : (m : ModelParts) (d : ℤ) (w : Weight) (f : ℤ → ℤ × ℤ → ℤ) → IsEnd w.1 f → (j : ℕ) (rs : Bounds) → ((k : ℕ) → k < length rs → (range_at rs k).0 ≤ℤ (range_at rs k).1) → ((w.1 *ℤ along f (coefficient_in (row_at m.rows w.0).terms) j rs) +ℤ total (least_values m (single d w) j rs)) ≤ℤ (d *ℤ along term_least (coefficient_in m.cost) j rs)
idle-values m d w f end j [] h = omega (arith, ints, *ℤ-zero w.1, *ℤ-zero d)
idle-values m d w f end j (r ∷ rs) h =
    let a = coefficient_in (row_at m.rows w.0).terms j in
    let c = coefficient_in m.cost j in
    let here : ((w.1 *ℤ f a r) +ℤ term_least ((d *ℤ c) -ℤ (w.1 *ℤ a)) r) ≤ℤ (d *ℤ term_least c r) = idle-term w.1 d a c r f end (h 0 (omega arith)) in
    let rest = idle-values m d w f end (suc j) rs (λ k l. h (suc k) (omega (arith, l))) in
    let first : w.1 *ℤ (f a r +ℤ along f (coefficient_in (row_at m.rows w.0).terms) (suc j) rs) ≡ (w.1 *ℤ f a r) +ℤ (w.1 *ℤ along f (coefficient_in (row_at m.rows w.0).terms) (suc j) rs) = mul-add w.1 (f a r) (along f (coefficient_in (row_at m.rows w.0).terms) (suc j) rs) in
    let second : d *ℤ (term_least c r +ℤ along term_least (coefficient_in m.cost) (suc j) rs) ≡ (d *ℤ term_least c r) +ℤ (d *ℤ along term_least (coefficient_in m.cost) (suc j) rs) = mul-add d (term_least c r) (along term_least (coefficient_in m.cost) (suc j) rs) in
    omega (arith, ints, here, rest, first, second)

-- ---- the two ends

pub least_none : IsNoneAtZero term_least
least_none r = zero-*ℤ r.0

most_none : IsNoneAtZero term_most
most_none r = zero-*ℤ r.1

least_end : (y : ℤ) → pos 0 ≤ℤ y → IsEnd y term_least
least_end y h = record { none = least_none; below = λ a r v b. mul-le y (term_least a r) (a *ℤ v) h (below_at a r v b) }

above_case : (a : ℤ) (r : ℤ × ℤ) (v : ℤ) (p : Bool) → int_le (pos 0) a ≡ p → IsBetween r v → (a *ℤ v) ≤ℤ cond p (a *ℤ r.1) (a *ℤ r.0)
above_case a r v true e h = let positive : pos 0 ≤ℤ a = grind (arith, ints) in mul-le a v r.1 positive h.greatest
above_case a r v false e h = let negative : a ≤ℤ pos 0 = grind (arith, ints) in mul-turns a r.0 v negative h.least

most_end : (y : ℤ) → y ≤ℤ pos 0 → IsEnd y term_most
most_end y h = record { none = most_none; below = λ a r v b. mul-turns y (a *ℤ v) (term_most a r) h (above_case a r v (int_le (pos 0) a) refl b) }

-- ---- the sums

pub least_values_along : (m : ModelParts) (l : MultiplierList) (j : ℕ) (rs : Bounds) → total (least_values m l j rs) ≡ along term_least (reduced_cost m l) j rs
least_values_along m l j [] = refl
least_values_along m l j (r ∷ rs) = ap (λ (z : ℤ). term_least (reduced_cost m l j) r +ℤ z) (least_values_along m l (suc j) rs)

zero-values : (m : ModelParts) (j : ℕ) (rs : Bounds) → total (least_values m zero_list j rs) ≡ along term_least (coefficient_in m.cost) j rs
zero-values m j [] = refl
zero-values m j (r ∷ rs) =
    let one : pos 1 *ℤ coefficient_in m.cost j ≡ coefficient_in m.cost j = one_times (coefficient_in m.cost j) in
    let here : term_least (pos 1 *ℤ coefficient_in m.cost j) r ≡ term_least (coefficient_in m.cost j) r = ap (λ (c : ℤ). term_least c r) one in
    omega (arith, ints, here, zero-values m (suc j) rs)

unwrapped : (o : Option ℤ) (v : ℤ) → o ≡ None → unwrap_or o v ≡ v
unwrapped None v e = refl
unwrapped (Some u) v e = absurd (cc)

-- what is added up of a list of one row
single-total : (m : ModelParts) (b : Bounds) (d : ℤ) (w : Weight) → total (addends m b (single d w)) ≡ side_product b m.rows w +ℤ total (least_values m (single d w) 0 b)
single-total m b d w = refl

filled_inside : (root b : Bounds) → IsInside root b → (k : ℕ) → k < length b → (range_at b k).0 ≤ℤ (range_at b k).1
filled_inside root b h k l = (h.each k (omega (arith, l, h.long))).filled

positive_case : (m : ModelParts) (b : Bounds) (d : ℤ) (w : Weight) → pos 0 <ℤ w.1 → (row_at m.rows w.0).lo ≡ None → IsRising (length b) (row_at m.rows w.0).terms → ((k : ℕ) → k < length b → (range_at b k).0 ≤ℤ (range_at b k).1) → ((w.1 *ℤ unwrap_or (row_at m.rows w.0).lo (least_over b (row_at m.rows w.0).terms)) +ℤ total (least_values m (single d w) 0 b)) ≤ℤ (d *ℤ along term_least (coefficient_in m.cost) 0 b)
positive_case m b d w h missing rising filled =
    let terms = (row_at m.rows w.0).terms in
    let side : unwrap_or (row_at m.rows w.0).lo (least_over b terms) ≡ along term_least (coefficient_in terms) 0 b = unwrapped (row_at m.rows w.0).lo (least_over b terms) missing ∙ sym (along-terms term_least least_none (pos 0, pos 0) b terms rising.known rising.rising ∙ over-box term_least b terms) in
    let product : w.1 *ℤ unwrap_or (row_at m.rows w.0).lo (least_over b terms) ≡ w.1 *ℤ along term_least (coefficient_in terms) 0 b = ap (λ (z : ℤ). w.1 *ℤ z) side in
    let whole = idle-values m d w term_least (least_end w.1 (omega (arith, ints, h))) 0 b filled in
    omega (arith, ints, product, whole)

negative_case : (m : ModelParts) (b : Bounds) (d : ℤ) (w : Weight) → w.1 ≤ℤ pos 0 → (row_at m.rows w.0).hi ≡ None → IsRising (length b) (row_at m.rows w.0).terms → ((k : ℕ) → k < length b → (range_at b k).0 ≤ℤ (range_at b k).1) → ((w.1 *ℤ unwrap_or (row_at m.rows w.0).hi (most_over b (row_at m.rows w.0).terms)) +ℤ total (least_values m (single d w) 0 b)) ≤ℤ (d *ℤ along term_least (coefficient_in m.cost) 0 b)
negative_case m b d w h missing rising filled =
    let terms = (row_at m.rows w.0).terms in
    let side : unwrap_or (row_at m.rows w.0).hi (most_over b terms) ≡ along term_most (coefficient_in terms) 0 b = unwrapped (row_at m.rows w.0).hi (most_over b terms) missing ∙ sym (along-terms term_most most_none (pos 0, pos 0) b terms rising.known rising.rising ∙ over-box term_most b terms) in
    let product : w.1 *ℤ unwrap_or (row_at m.rows w.0).hi (most_over b terms) ≡ w.1 *ℤ along term_most (coefficient_in terms) 0 b = ap (λ (z : ℤ). w.1 *ℤ z) side in
    let whole = idle-values m d w term_most (most_end w.1 h) 0 b filled in
    omega (arith, ints, product, whole)

side_case : (m : ModelParts) (b : Bounds) (d : ℤ) (w : Weight) (p : Bool) → int_lt (pos 0) w.1 ≡ p → cond p (row_at m.rows w.0).lo (row_at m.rows w.0).hi ≡ None → IsRising (length b) (row_at m.rows w.0).terms → ((k : ℕ) → k < length b → (range_at b k).0 ≤ℤ (range_at b k).1) → ((w.1 *ℤ cond p (unwrap_or (row_at m.rows w.0).lo (least_over b (row_at m.rows w.0).terms)) (unwrap_or (row_at m.rows w.0).hi (most_over b (row_at m.rows w.0).terms))) +ℤ total (least_values m (single d w) 0 b)) ≤ℤ (d *ℤ along term_least (coefficient_in m.cost) 0 b)
side_case m b d w true e missing rising filled = positive_case m b d w (let h : pos 0 <ℤ w.1 = grind (arith, ints) in h) missing rising filled
side_case m b d w false e missing rising filled = negative_case m b d w (let h : w.1 ≤ℤ pos 0 = grind (arith, ints) in h) missing rising filled

idle-total : (m : ModelParts) (b : Bounds) (d : ℤ) (w : Weight) → IsInside (root_of m) b → IsRising (length b) (row_at m.rows w.0).terms → named_side (row_at m.rows w.0) w.1 ≡ None → total (addends m b (single d w)) ≤ℤ (d *ℤ total (addends m b zero_list))
idle-total m b d w inside rising missing =
    let case = side_case m b d w (int_lt (pos 0) w.1) refl missing rising (filled_inside (root_of m) b inside) in
    let none : d *ℤ total (addends m b zero_list) ≡ d *ℤ along term_least (coefficient_in m.cost) 0 b = ap (λ (z : ℤ). d *ℤ z) (zero-values m 0 b) in
    omega (arith, ints, case, none, single-total m b d w)

-- ---- the bounds

idle-number : IsCeiling → (m : ModelParts) (b : Bounds) (d : ℤ) (w : Weight) → pos 1 ≤ℤ d → total (addends m b (single d w)) ≤ℤ (d *ℤ total (addends m b zero_list)) → bound_number m b (single d w) ≤ℤ bound_number m b zero_list
idle-number c m b d w one h =
    let zero = total (addends m b zero_list) in
    let q = ceiling_of zero (pos 1) in
    let self : zero ≤ℤ (pos 1 *ℤ q) = (c.law zero (pos 1) q (omega (arith, ints))).1 (omega (arith, ints)) in
    let below : zero ≤ℤ q = omega (arith, ints, self, one_times q) in
    let grown : (d *ℤ zero) ≤ℤ (d *ℤ q) = mul-le d zero q (omega (arith, ints, one)) below in
    let quotient : ceiling_of (total (addends m b (single d w))) d ≤ℤ q = (c.law (total (addends m b (single d w))) d q (omega (arith, ints, one))).0 (omega (arith, ints, h, grown)) in
    omega (arith, ints, quotient)

above_more : (t : Option ℤ) (o : Option ℤ) (z : ℤ) → is_above t o ≡ true → ((v : ℤ) → o ≡ Some v → v ≤ℤ z) → is_above t (Some z) ≡ true
above_more None o z h g = h
above_more (Some t) None z h g = absurd (cc)
above_more (Some t) (Some v) z h g = let l : v ≤ℤ z = g v refl in let below : t <ℤ v = lt_read t v h in lt_make t z (omega (arith, ints, l, below))
  where
    lt_read : (a e : ℤ) → int_lt a e ≡ true → a <ℤ e
    lt_read a e k = grind (arith, ints)

    lt_make : (a e : ℤ) → a <ℤ e → int_lt a e ≡ true
    lt_make a e k = grind (arith, ints)

single_closes : IsCeiling → (m : ModelParts) (b : Bounds) (t : Option ℤ) (d : ℤ) (w : Weight) → IsLawful m → IsInside (root_of m) b → pos 1 ≤ℤ d → IsRising (length b) (row_at m.rows w.0).terms → named_side (row_at m.rows w.0) w.1 ≡ None → closes m b t (single d w) ≡ true → closes m b t zero_list ≡ true
single_closes c m b t d w lawful inside one rising missing h =
    ap (is_above t) (zero_some c m b lawful inside)
    ∙ above_more t (bound_of m b (single d w)) (bound_number m b zero_list) h (λ v e. (let same = bound-number m b (single d w) v e in let below = idle-number c m b d w one (idle-total m b d w inside rising missing) in omega (arith, ints, same, below)))

abbrev list_of : ℤ → List Weight → MultiplierList
list_of d y = record { d = d; y = y }

pub idle_closes : IsCeiling → (m : ModelParts) (b : Bounds) (t : Option ℤ) (l : MultiplierList) → IsLawful m → IsInside (root_of m) b → pos 1 ≤ℤ l.d → ((k : ℕ) → IsRising (length b) (row_at m.rows k).terms) → IsIdle m l → closes m b t l ≡ true → closes m b t zero_list ≡ true
idle_closes c m b t l lawful inside one rising idle h =
    let same : l ≡ single l.d idle.weight = ap (list_of l.d) idle.alone in
    single_closes c m b t l.d idle.weight lawful inside one (rising idle.weight.0) idle.missing (ap (closes m b t) (sym same) ∙ h)
