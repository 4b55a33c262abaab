-- A reason of a box denies what it names at each point of the box; without a reason all holds at the point of a box of one.
use Rattle.std.proofs.Common.{◌≡◌, ℕ, zero, suc, ◌+◌, ◌<◌, ◌≤◌, Bool, true, false, not, ◌&&◌, ◌||◌, cond, nat_le, nat_eq, inl, inr, List, [], ◌∷◌, length, map, get_or, refl, sym, ap, ◌∙◌, arith, ℤ, pos, not-suc-le-zero, le_of_suc-le-suc}
use Rattle.std.specs.List.{count_by}
use Rattle.std.proofs.lemmas.Bool.{cases_lt}
use Rattle.std.proofs.lemmas.Bool.Decides.{nat_tests}
use Rattle.std.proofs.lemmas.List.{get_or_past, get_or-map, length-map}
use Rattle.std.proofs.lemmas.List.Sums.{sum_by-cons}
use Rattle.std.proofs.lemmas.Int.{ints}
use Rattle.std.specs.Ordering.{int_eq}
use Rattle.sp_model.specs.declared.parts.Row.{Row}
use Rattle.sp_model.specs.declared.parts.Indicator.{Indicator}
use Rattle.sp_model.specs.declared.parts.Sos.{Sos}
use Rattle.sp_model.specs.declared.parts.SosKind.{SosKind}
use Rattle.sp_model.specs.declared.parts.SosKind.TheVariants.{One, Two}
use Rattle.sp_model.specs.declared.parts.ModelParts.{ModelParts}
use Rattle.sp_model.specs.Boxes.{Bounds, range_at, coordinate, IsBetween, IsWithin}
use Rattle.sp_model.specs.Models.{Feasible, has_neighbours, indicator_holds, is_nonzero, row_holds, set_allows, set_holds, switch_value}
use Rattle.sp_model.specs.Stated.{Core, core_allows}
use Rattle.sp_sums.specs.Extremes.{is_broken_over, is_high, is_low, span_of}
use Rattle.sp_sums.specs.Rows.{bare_row, row_at}
use Rattle.sp_activity.specs.declared.reasons.Reason.{Reason}
use Rattle.sp_activity.specs.declared.reasons.Reason.TheVariants.{Empty, RowLow, RowHigh, IndicatorLow, IndicatorHigh, Sos as SetClash, Semi}
use Rattle.sp_activity.specs.Reasons.{Holds, IsClash, bare_indicator, bare_set, clash_distance, core_at, indicator_at, is_asked, is_crossed, is_missed, lacks_core, lacks_zero, member_range, set_at}

-- ---- truths

true_false : (c : Bool) → c ≡ true → c ≡ false → ⊥
true_false c e f = let g : true ≡ false = sym e ∙ f in cc

and_parts : (a b : Bool) → a && b ≡ true → (a ≡ true) × (b ≡ true)
and_parts true b e = (refl, e)
and_parts false b e = cc

or_left : (a b : Bool) → a ≡ true → a || b ≡ true
or_left a b e = rw e refl

or_right : (a b : Bool) → b ≡ true → a || b ≡ true
or_right true b e = refl
or_right false b e = e

-- also past the last variable
pub between_at : (b : Bounds) (x : List ℤ) (j : ℕ) → IsWithin b x → IsBetween (range_at b j) (coordinate x j)
between_at b x j h = elim (cases_lt j (length b)) [
  | inl l ↦ h.each j l
  | inr g ↦ (
      let g2 : length x ≤ j = omega (arith, h.long) in
      rw (get_or_past b j (pos 0, pos 0) g, get_or_past x j (pos 0) g2) record { least = omega (arith, ints); greatest = omega (arith, ints) }
      )
]

-- ---- rows and indicators

-- what sp_sums says of rows
abbrev pub BrokenHoldsNowhere : Type 0
BrokenHoldsNowhere = (b : Bounds) (row : Row) (x : List ℤ) → IsWithin b x → row_holds row x ≡ true → is_broken_over b row ≡ false

pub low_denies : (b : Bounds) (row : Row) (x : List ℤ) → BrokenHoldsNowhere → IsWithin b x → is_low row (span_of b row) ≡ true → row_holds row x ≡ true → ⊥
low_denies b row x n w l h = true_false (is_broken_over b row) (or_left (is_low row (span_of b row)) (is_high row (span_of b row)) l) (n b row x w h)

pub high_denies : (b : Bounds) (row : Row) (x : List ℤ) → BrokenHoldsNowhere → IsWithin b x → is_high row (span_of b row) ≡ true → row_holds row x ≡ true → ⊥
high_denies b row x n w l h = true_false (is_broken_over b row) (or_right (is_low row (span_of b row)) (is_high row (span_of b row)) l) (n b row x w h)

fixed : (r : ℤ × ℤ) (v s : ℤ) → IsBetween r v → int_eq r.0 s && int_eq r.1 s ≡ true → int_eq v s ≡ true
fixed r v s h e = let l = h.least in let g = h.greatest in grind (arith, ints)

or_last : (a b : Bool) → not a || b ≡ true → a ≡ true → b ≡ true
or_last true b e f = e
or_last false b e f = cc

-- an indicator that is asked holds only where its row does
pub asked_row : (b : Bounds) (i : Indicator) (x : List ℤ) → IsWithin b x → is_asked b i ≡ true → indicator_holds i x ≡ true → row_holds i.row x ≡ true
asked_row b i x w a h =
    or_last (int_eq (coordinate x i.var) (switch_value i.on)) (row_holds i.row x) h (fixed (range_at b i.var) (coordinate x i.var) (switch_value i.on) (between_at b x i.var w) a)

-- ---- cores

pub missed_denies : (r : ℤ × ℤ) (c : Core) (v : ℤ) → IsBetween r v → is_missed r c ≡ true → core_allows c v ≡ true → ⊥
missed_denies r c v h e a =
    let two = and_parts (lacks_zero r) (lacks_core r c) e in
    let l = h.least in let g = h.greatest in let z = two.0 in let k = two.1 in grind (arith, ints)

-- ---- sets

nonzero_from : (r : ℤ × ℤ) (v : ℤ) → IsBetween r v → lacks_zero r ≡ true → is_nonzero v ≡ true
nonzero_from r v h e = let l = h.least in let g = h.greatest in grind (arith, ints)

count-cons : (v : ℤ) (vs : List ℤ) → count_by is_nonzero (v ∷ vs) ≡ cond (is_nonzero v) 1 0 + count_by is_nonzero vs
count-cons v vs = sum_by-cons (λ (w : ℤ). cond (is_nonzero w) 1 0) v vs

count_at : (vs : List ℤ) (p : ℕ) → p < length vs → is_nonzero (coordinate vs p) ≡ true → 0 < count_by is_nonzero vs
count_at [] p h e = absurd (not-suc-le-zero h)
count_at (v ∷ vs) zero h e = rw (count-cons v vs, e) (omega arith)
count_at (v ∷ vs) (suc p) h e = omega (arith, count-cons v vs, count_at vs p (le_of_suc-le-suc h) e)

count_two : (vs : List ℤ) (p q : ℕ) → p < q → q < length vs → is_nonzero (coordinate vs p) ≡ true → is_nonzero (coordinate vs q) ≡ true → 1 < count_by is_nonzero vs
count_two [] p q l h e f = absurd (not-suc-le-zero h)
count_two (v ∷ vs) p zero l h e f = absurd (not-suc-le-zero l)
count_two (v ∷ vs) zero (suc q) l h e f = rw (count-cons v vs, e) (omega (arith, count_at vs q (le_of_suc-le-suc h) f))
count_two (v ∷ vs) (suc p) (suc q) l h e f = omega (arith, count-cons v vs, count_two vs p q (le_of_suc-le-suc l) (le_of_suc-le-suc h) e f)

-- neighbours are two
neighbours_step : (v w : ℤ) (vs : List ℤ) (a c : Bool) → is_nonzero v ≡ a → is_nonzero w ≡ c → (has_neighbours (w ∷ vs) ≡ true → 1 < count_by is_nonzero (w ∷ vs)) → (a && c) || has_neighbours (w ∷ vs) ≡ true → 1 < count_by is_nonzero (v ∷ w ∷ vs)
neighbours_step v w vs true true e f r h = rw (count-cons v (w ∷ vs), count-cons w vs, e, f) (omega arith)
neighbours_step v w vs true false e f r h = omega (arith, count-cons v (w ∷ vs), r h)
neighbours_step v w vs false c e f r h = omega (arith, count-cons v (w ∷ vs), r h)

neighbours_two : (vs : List ℤ) → has_neighbours vs ≡ true → 1 < count_by is_nonzero vs
neighbours_two [] h = cc
neighbours_two (v ∷ []) h = cc
neighbours_two (v ∷ w ∷ vs) h = neighbours_step v w vs (is_nonzero v) (is_nonzero w) refl refl (neighbours_two (w ∷ vs)) h

-- two apart, and no other: no neighbours
apart_first : (w : ℤ) (vs : List ℤ) (q : ℕ) (c : Bool) → is_nonzero w ≡ c → 0 < q → q < length (w ∷ vs) → is_nonzero (coordinate (w ∷ vs) q) ≡ true → count_by is_nonzero (w ∷ vs) ≡ 1 → (true && c) || has_neighbours (w ∷ vs) ≡ true → ⊥
apart_first w vs zero c e l h f n g = not-suc-le-zero l
apart_first w vs (suc q) true e l h f n g = let k : 0 < count_by is_nonzero vs = count_at vs q (le_of_suc-le-suc h) f in let s : count_by is_nonzero (w ∷ vs) ≡ 1 + count_by is_nonzero vs = rw (count-cons w vs, e) refl in omega arith
apart_first w vs (suc q) false e l h f n g = let k = neighbours_two (w ∷ vs) g in omega arith

apart_step : (v : ℤ) (vs : List ℤ) (c : Bool) → is_nonzero v ≡ c → 1 < count_by is_nonzero vs → count_by is_nonzero (v ∷ vs) ≡ 2 → (count_by is_nonzero vs ≡ 2) × (is_nonzero v ≡ false)
apart_step v vs true e l n = let s : count_by is_nonzero (v ∷ vs) ≡ 1 + count_by is_nonzero vs = rw (count-cons v vs, e) refl in absurd (omega arith)
apart_step v vs false e l n = let s : count_by is_nonzero (v ∷ vs) ≡ 0 + count_by is_nonzero vs = rw (count-cons v vs, e) refl in (omega arith, e)

apart_none : (vs : List ℤ) (p q : ℕ) → p + 2 ≤ q → q < length vs → is_nonzero (coordinate vs p) ≡ true → is_nonzero (coordinate vs q) ≡ true → count_by is_nonzero vs ≡ 2 → has_neighbours vs ≡ true → ⊥
apart_none [] p q l h e f n g = not-suc-le-zero h
apart_none (v ∷ []) p q l h e f n g = omega arith
apart_none (v ∷ w ∷ vs) p zero l h e f n g = omega arith
apart_none (v ∷ w ∷ vs) zero (suc q) l h e f n g =
    let s : count_by is_nonzero (v ∷ w ∷ vs) ≡ 1 + count_by is_nonzero (w ∷ vs) = rw (count-cons v (w ∷ vs), e) refl in
    let one : count_by is_nonzero (w ∷ vs) ≡ 1 = omega arith in
    let near : (true && is_nonzero w) || has_neighbours (w ∷ vs) ≡ true = rw e at g in
    apart_first w vs q (is_nonzero w) refl (omega arith) (omega arith) f one near
apart_none (v ∷ w ∷ vs) (suc p) (suc q) l h e f n g =
    let two = count_two (w ∷ vs) p q (omega arith) (omega arith) e f in
    let rest = apart_step v (w ∷ vs) (is_nonzero v) refl two n in
    let near : has_neighbours (w ∷ vs) ≡ true = rw rest.1 at g in
    apart_none (w ∷ vs) p q (omega arith) (omega arith) e f rest.0 near

one_denies : (n : ℕ) → 1 < n → nat_le n 1 ≡ true → ⊥
one_denies n h e = grind (arith, nat_tests)

two_cases : (n : ℕ) (g : Bool) → 1 < n → nat_le n 1 || (nat_eq n 2 && g) ≡ true → (n ≡ 2) × (g ≡ true)
two_cases n g h e = two_step n g (nat_le n 1) refl h e
  where
    two_step : (n : ℕ) (g a : Bool) → nat_le n 1 ≡ a → 1 < n → a || (nat_eq n 2 && g) ≡ true → (n ≡ 2) × (g ≡ true)
    two_step n g true q h e = absurd (one_denies n h q)
    two_step n g false q h e = let r = and_parts (nat_eq n 2) g e in (let t = r.0 in grind (arith, nat_tests), r.1)

allows_not : (k : SosKind) (vs : List ℤ) (p q : ℕ) → p + clash_distance k ≤ q → q < length vs → is_nonzero (coordinate vs p) ≡ true → is_nonzero (coordinate vs q) ≡ true → set_allows k vs ≡ true → ⊥
allows_not One vs p q l h e f g = one_denies (count_by is_nonzero vs) (count_two vs p q (omega arith) h e f) g
allows_not Two vs p q l h e f g =
    let two = count_two vs p q (omega arith) h e f in
    let c = two_cases (count_by is_nonzero vs) (has_neighbours vs) two g in
    apart_none vs p q l h e f c.0 c.1

pub clash_denies : (b : Bounds) (set : Sos) (p q : ℕ) (x : List ℤ) → IsWithin b x → IsClash b set p q → set_holds set x ≡ true → ⊥
clash_denies b set p q x w c h =
    let f = λ (v : ℕ). coordinate x v in
    let long = length-map set.vars f in
    let p_known : p < length set.vars = p_below p (clash_distance set.kind) q (length set.vars) c.apart c.known in
    allows_not set.kind (map f set.vars) p q c.apart (omega (arith, long, c.known))
    (ap is_nonzero (get_or-map f set.vars p 0 (pos 0) p_known) ∙ nonzero_from (member_range b set p) (coordinate x (get_or set.vars p 0)) (between_at b x (get_or set.vars p 0) w) c.first)
    (ap is_nonzero (get_or-map f set.vars q 0 (pos 0) c.known) ∙ nonzero_from (member_range b set q) (coordinate x (get_or set.vars q 0)) (between_at b x (get_or set.vars q 0) w) c.second)
    h
  where
    p_below : (p d q n : ℕ) → p + d ≤ q → q < n → p < n
    p_below p d q n h l = omega arith

-- ---- all reasons

empty_holds_none : (r : ℤ × ℤ) (v : ℤ) → IsBetween r v → is_crossed r ≡ true → ⊥
empty_holds_none r v h e = let l = h.least in let g = h.greatest in grind (arith, ints)

pub denies : (m : ModelParts) (b : Bounds) (x : List ℤ) → BrokenHoldsNowhere → (r : Reason) → Holds m b r → IsWithin b x → Feasible m x → ⊥
denies m b x n (Empty j) h w f =
    let v : IsBetween (range_at b j) (coordinate x j) = w.each j h.known in
    empty_holds_none (range_at b j) (coordinate x j) v h.crossed
denies m b x n (RowLow k) h w f = low_denies b (row_at m.rows k) x n w h.1.1 (f.rows k bare_row h.1.0)
denies m b x n (RowHigh k) h w f = high_denies b (row_at m.rows k) x n w h.1.1 (f.rows k bare_row h.1.0)
denies m b x n (IndicatorLow k) h w f =
    low_denies b (indicator_at m.indicators k).row x n w h.1.2 (asked_row b (indicator_at m.indicators k) x w h.1.1 (f.indicators k bare_indicator h.1.0))
denies m b x n (IndicatorHigh k) h w f =
    high_denies b (indicator_at m.indicators k).row x n w h.1.2 (asked_row b (indicator_at m.indicators k) x w h.1.1 (f.indicators k bare_indicator h.1.0))
denies m b x n (SetClash k p q) h w f = clash_denies b (set_at m.sos k) p q x w h.1.1 (f.sets k bare_set h.1.0)
denies m b x n (Semi j) h w f =
    let g = h.1 in
    let missed : is_missed (range_at b (core_at m.semi g.place).0) (core_at m.semi g.place) ≡ true = rw g.variable g.missed in
    missed_denies (range_at b (core_at m.semi g.place).0) (core_at m.semi g.place) (coordinate x (core_at m.semi g.place).0) (between_at b x (core_at m.semi g.place).0 w) missed (f.cores g.place (0, pos 0, pos 0) g.known)
