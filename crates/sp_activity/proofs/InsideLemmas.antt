-- A reason of a box is one of each box inside it.
use Rattle.std.proofs.Common.{◌≡◌, ℕ, ◌≤◌, Bool, true, false, ◌&&◌, inl, inr, length, get_or, refl, arith, ℤ, pos, ◌≤ℤ◌}
use Rattle.std.proofs.lemmas.Bool.{cases_lt}
use Rattle.std.proofs.lemmas.List.{get_or_past}
use Rattle.std.proofs.lemmas.Int.{ints}
use Rattle.std.specs.Ordering.{int_eq}
use Rattle.sp_model.specs.declared.parts.Row.{Row}
use Rattle.sp_model.specs.declared.parts.Indicator.{Indicator}
use Rattle.sp_model.specs.declared.parts.Sos.{Sos}
use Rattle.sp_model.specs.declared.parts.ModelParts.{ModelParts}
use Rattle.sp_model.specs.Boxes.{Bounds, range_at}
use Rattle.sp_model.specs.Models.{switch_value}
use Rattle.sp_model.specs.Stated.{Core}
use Rattle.sp_sums.specs.Extremes.{is_low, is_high, span_of}
use Rattle.sp_sums.specs.Ranges.{IsFilled, IsInside, IsPart}
use Rattle.sp_sums.specs.Rows.{row_at}
use Rattle.sp_activity.specs.declared.reasons.Reason.{Reason}
use Rattle.sp_activity.specs.declared.reasons.Reason.TheVariants.{Empty, RowLow, RowHigh, IndicatorLow, IndicatorHigh, Sos as SetClash, Semi}
use Rattle.sp_activity.specs.Reasons.{Holds, IsClash, core_at, indicator_at, is_asked, is_crossed, is_missed, lacks_core, lacks_zero, member_range, set_at}

-- what sp_sums says of rows
abbrev pub LowStays : Type 0
LowStays = (b inner : Bounds) (row : Row) → IsInside b inner → is_low row (span_of b row) ≡ true → is_low row (span_of inner row) ≡ true

abbrev pub HighStays : Type 0
HighStays = (b inner : Bounds) (row : Row) → IsInside b inner → is_high row (span_of b row) ≡ true → is_high row (span_of inner row) ≡ true

-- also past the last variable, where both ranges are 0 to 0
pub part_at : (b c : Bounds) (j : ℕ) → IsInside b c → IsPart (range_at b j) (range_at c j)
part_at b c j h = elim (cases_lt j (length b)) [
  | inl l ↦ h.each j l
  | inr g ↦ (
      let g2 : length c ≤ j = omega (arith, h.long) in
      rw (get_or_past b j (pos 0, pos 0) g, get_or_past c j (pos 0, pos 0) g2) record { lower = omega (arith, ints); filled = omega (arith, ints); upper = omega (arith, ints) }
      )
]

pub filled_inside : (b c : Bounds) → IsInside b c → IsFilled c
filled_inside b c h = record { each = λ j l. (let p : IsPart (range_at b j) (range_at c j) = part_at b c j h in p.filled) }

zero_stays : (r q : ℤ × ℤ) → IsPart r q → lacks_zero r ≡ true → lacks_zero q ≡ true
zero_stays r q p e = let l = p.lower in let f = p.filled in let u = p.upper in grind (arith, ints)

core_stays : (r q : ℤ × ℤ) (c : Core) → IsPart r q → lacks_core r c ≡ true → lacks_core q c ≡ true
core_stays r q c p e = let l = p.lower in let f = p.filled in let u = p.upper in grind (arith, ints)

and_parts : (a b : Bool) → a && b ≡ true → (a ≡ true) × (b ≡ true)
and_parts true b e = (refl, e)
and_parts false b e = cc

missed_stays : (r q : ℤ × ℤ) (c : Core) → IsPart r q → is_missed r c ≡ true → is_missed q c ≡ true
missed_stays r q c p e =
    let two = and_parts (lacks_zero r) (lacks_core r c) e in
    rw (zero_stays r q p two.0, core_stays r q c p two.1) refl

asked_range : (r q : ℤ × ℤ) (v : ℤ) → IsPart r q → int_eq r.0 v && int_eq r.1 v ≡ true → int_eq q.0 v && int_eq q.1 v ≡ true
asked_range r q v p e = let l = p.lower in let f = p.filled in let u = p.upper in grind (arith, ints)

asked_stays : (b c : Bounds) (i : Indicator) → IsInside b c → is_asked b i ≡ true → is_asked c i ≡ true
asked_stays b c i h e = asked_range (range_at b i.var) (range_at c i.var) (switch_value i.on) (part_at b c i.var h) e

clash_stays : (b c : Bounds) (set : Sos) (p q : ℕ) → IsInside b c → IsClash b set p q → IsClash c set p q
clash_stays b c set p q h k = record {
  known = k.known;
  apart = k.apart;
  first = zero_stays (member_range b set p) (member_range c set p) (part_at b c (get_or set.vars p 0) h) k.first;
  second = zero_stays (member_range b set q) (member_range c set q) (part_at b c (get_or set.vars q 0) h) k.second;
}

not_crossed : (r : ℤ × ℤ) → r.0 ≤ℤ r.1 → is_crossed r ≡ true → ⊥
not_crossed r h e = grind (arith, ints)

pub stays : (m : ModelParts) (b c : Bounds) → LowStays → HighStays → IsInside b c → (r : Reason) → Holds m b r → Holds m c r
stays m b c lows highs h (Empty j) g = absurd (let p : IsPart (range_at b j) (range_at c j) = part_at b c j h in not_crossed (range_at b j) (omega (arith, ints, p.lower, p.filled, p.upper)) g.crossed)
stays m b c lows highs h (RowLow k) g = (filled_inside b c h, (g.1.0, lows b c (row_at m.rows k) h g.1.1))
stays m b c lows highs h (RowHigh k) g = (filled_inside b c h, (g.1.0, highs b c (row_at m.rows k) h g.1.1))
stays m b c lows highs h (IndicatorLow k) g = (filled_inside b c h, (g.1.0, asked_stays b c (indicator_at m.indicators k) h g.1.1, lows b c (indicator_at m.indicators k).row h g.1.2))
stays m b c lows highs h (IndicatorHigh k) g = (filled_inside b c h, (g.1.0, asked_stays b c (indicator_at m.indicators k) h g.1.1, highs b c (indicator_at m.indicators k).row h g.1.2))
stays m b c lows highs h (SetClash k p q) g = (filled_inside b c h, (g.1.0, clash_stays b c (set_at m.sos k) p q h g.1.1))
stays m b c lows highs h (Semi j) g = (filled_inside b c h, (let n = g.1 in record { place = n.place; known = n.known; variable = n.variable; missed = missed_stays (range_at b j) (range_at c j) (core_at m.semi n.place) (part_at b c j h) n.missed }))
