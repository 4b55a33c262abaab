-- One row of a round: the tails of its last terms, and its variables one after another.
use Rattle.std.proofs.Common.{◌≡◌, ◌≢◌, ℕ, suc, ◌+◌, ◌-◌, ◌<◌, ◌≤◌, Bool, true, false, ◌&&◌, leb, cond, List, [], ◌∷◌, ◌++◌, All, length, get_or, set, drop, map, fold, Option, None, Some, is_none, IsSome, option_map, ℤ, pos, int_lt, refl, sym, ap, ap₂, ◌∙◌, subst, ◌⊎◌, inl, inr, add-one, arith}
use Rattle.std.specs.Int.{from_bool}
use Rattle.std.specs.Int.RustNames.{unsigned_abs}
use Rattle.std.proofs.lemmas.Int.{ints}
use Rattle.std.proofs.lemmas.Bool.{and_parts, cases_lt, cases_eq, leb-true}
use Rattle.std.proofs.lemmas.List.{drop_all, get_or_push, get_or_append_left, length_push, get_or-set_other, length-set, set-get_or, map-append, append_assoc}
use Rattle.std.proofs.lemmas.List.Elements.{All-cons, All-head, All-nil, All-tail}
use Rattle.std.proofs.lemmas.List.Sums.{fold-append}
use Rattle.sp_model.specs.declared.ends.Ends.{Ends}
use Rattle.sp_model.specs.declared.parts.Row.{Row}
use Rattle.sp_model.specs.declared.tails.Tail.{Tail}
use Rattle.sp_model.specs.declared.tails.Tails.{Tails}
use Rattle.sp_model.specs.InnerRounds.{joined, IsTail, AreTailsOf, AreTails, no_tails, missing, missing_both, lack, IsIdle, IsSideIdle, stuck, full, blocked}
use Rattle.sp_model.specs.Limits.{greatest_width}
use Rattle.sp_model.specs.Rounds.{terms_rise, coefficient_size, takes_part, least_end, greatest_end, times, plus, minus, at_ends, sum_at_ends, hi_upper, hi_lower, lo_lower, lo_upper, closed_by, after_rules, close_variable, close_along, close_row, floor_of, ceiling_of}
use Rattle.sp_model.specs.Stated.{OpenRange, OpenBounds, IsClosedRange, open_at}
use Rattle.sp_model.specs.Sums.{Term, side_width}
use Rattle.sp_model.proofs.RuleLemmas.{risen, rises_lawful}
use Rattle.sp_model.proofs.SumLemmas.{drop_item}
use Rattle.sp_model.proofs.TailLemmas.{none_stays, tail_goes_on}

-- ---- the tails of the last terms

-- those of the last n terms and of all fewer
pub record AreTailsSoFar (b : OpenBounds) (ts : List Term) (n : ℕ) (tails : List Tails) : Type 0 where
  pub long : length tails ≡ n
  pub each : (k : ℕ) → k < n → AreTailsOf b (drop (length ts - k) ts) (get_or tails k no_tails)

pub no_tails_yet : (b : OpenBounds) (ts : List Term) → AreTailsSoFar b ts 0 []
no_tails_yet b ts = record { long = refl; each = λ k h. absurd (omega arith) }

pub more_tails : (b : OpenBounds) (ts : List Term) (n : ℕ) (tails : List Tails) (next : Tails) → AreTailsSoFar b ts n tails → AreTailsOf b (drop (length ts - n) ts) next → AreTailsSoFar b ts (n + 1) (tails ++ next ∷ [])
more_tails b ts n tails next h g = record {
  long = length_push tails next ∙ ap (λ k. k + 1) h.long;
  each = λ k less. elim (cases_lt k n) [
    | inl below ↦ rw (get_or_append_left tails (next ∷ []) no_tails k (omega (arith, h.long))) (h.each k below)
    | inr above ↦
        let same : k ≡ n = omega arith in
        rw (same, get_or_push tails next no_tails n h.long) g
  ];
}

pub all_tails : (b : OpenBounds) (ts : List Term) (n : ℕ) (tails : List Tails) → n ≡ length ts → AreTailsSoFar b ts n tails → AreTails b ts tails
all_tails b ts n tails e h = record { long = h.long ∙ e; each = λ k less. h.each k (omega arith) }

-- the term in front of the last n
pub last_term : (ts : List Term) (n : ℕ) (t : Term) → n < length ts → t ≡ get_or ts (length ts - 1 - n) t → t ∷ drop (length ts - n) ts ≡ drop (length ts - (n + 1)) ts
last_term ts n t h e =
    let at : length ts - 1 - n ≡ length ts - (n + 1) = omega arith in
    let next : length ts - (n + 1) + 1 ≡ length ts - n = omega arith in
    let here : length ts - (n + 1) < length ts = omega arith in
    let d = drop_item ts (length ts - (n + 1)) t here (e ∙ ap (λ i. get_or ts i t) at) in
    sym (d ∙ ap (λ i. t ∷ drop i ts) next)

-- ---- the terms at their ends, where bounds are known to be the same

-- the terms' variables are all below a number
abbrev pub AreBelow : ℕ → List Term → Type 0
AreBelow next [] = Unit {0}
AreBelow next (t ∷ ts) = (t.0 < next) × AreBelow next ts

below_one_more : (next : ℕ) (ts : List Term) (t : Term) → AreBelow next ts → next ≤ t.0 → AreBelow (t.0 + 1) (ts ++ t ∷ [])
below_one_more next [] t h l = (omega arith, tt)
below_one_more next (u ∷ ts) t h l = (omega (arith, h.0), below_one_more next ts t h.1 l)

-- two boxes have the same bounds from a variable on
pub record IsSameFrom (next : ℕ) (b c : OpenBounds) : Type 0 where
  pub each : (j : ℕ) → next ≤ j → open_at c j ≡ open_at b j

-- and below a variable
pub record IsSameBelow (next : ℕ) (b c : OpenBounds) : Type 0 where
  pub each : (j : ℕ) → j < next → open_at c j ≡ open_at b j

ends_same_from : (end : ℤ → OpenRange → Option ℤ) (count next : ℕ) (b c : OpenBounds) (ts : List Term) → IsSameFrom next b c → terms_rise count next ts ≡ true → at_ends end c ts ≡ at_ends end b ts
ends_same_from end count next b c [] h r = refl
ends_same_from end count next b c (t ∷ ts) h r =
    let p = risen count next t ts r in
    ap₂ (λ v vs. v ∷ vs)
    (ap (λ o. times t.1 (end t.1 o)) (h.each t.0 p.least))
    (ends_same_from end count (t.0 + 1) b c ts record { each = λ j l. h.each j (omega (arith, p.least)) } p.later)

ends_same_below : (end : ℤ → OpenRange → Option ℤ) (next : ℕ) (b c : OpenBounds) (ts : List Term) → IsSameBelow next b c → AreBelow next ts → at_ends end c ts ≡ at_ends end b ts
ends_same_below end next b c [] h r = refl
ends_same_below end next b c (t ∷ ts) h r =
    ap₂ (λ v vs. v ∷ vs) (ap (λ o. times t.1 (end t.1 o)) (h.each t.0 r.0)) (ends_same_below end next b c ts h r.1)

sum_append : (end : ℤ → OpenRange → Option ℤ) (b : OpenBounds) (before after : List Term) → sum_at_ends end b (before ++ after) ≡ fold plus (sum_at_ends end b before) (at_ends end b after)
sum_append end b before after =
    ap (fold plus (Some (pos 0))) (map-append (λ (t : Term). times t.1 (end t.1 (open_at b t.0))) before after)
    ∙ fold-append plus (Some (pos 0)) (at_ends end b before) (at_ends end b after)

-- ---- a row's variables one after another

-- a write of a variable leaves the others
variable_other : (semi : ℕ → Bool) (row : Row) (b : OpenBounds) (t : Term) (others : List Term) (j : ℕ) → j ≢ t.0 → open_at (close_variable semi row b t others) j ≡ open_at b j
variable_other semi row b t others j n = write_case (semi t.0) _
  where
    write_case : (a : Bool) (r : OpenRange) → open_at (cond a b (set b t.0 r)) j ≡ open_at b j
    write_case true r = refl
    write_case false r = get_or-set_other b t.0 j r (None, None) n

pub variable_length : (semi : ℕ → Bool) (row : Row) (b : OpenBounds) (t : Term) (others : List Term) → length (close_variable semi row b t others) ≡ length b
variable_length semi row b t others = write_case (semi t.0) _
  where
    write_case : (a : Bool) (r : OpenRange) → length (cond a b (set b t.0 r)) ≡ length b
    write_case true r = refl
    write_case false r = length-set b t.0 r

-- how far a row has come: those before, and those still to come
pub record RowTurn (semi : ℕ → Bool) (row : Row) (b c : OpenBounds) (before after : List Term) (sums : Ends) : Type 0 where
  pub left : close_along semi row c before after ≡ close_along semi row b [] row.terms
  pub long : length c ≡ length b
  pub least : sums.least ≡ sum_at_ends least_end c before
  pub greatest : sums.greatest ≡ sum_at_ends greatest_end c before
  pub next : ℕ
  pub passed : AreBelow next before
  pub rising : terms_rise (length b) next after ≡ true
  pub later : IsSameFrom next b c

pub row_start : (semi : ℕ → Bool) (row : Row) (b : OpenBounds) (sums : Ends) → sums.least ≡ Some (pos 0) → sums.greatest ≡ Some (pos 0) → terms_rise (length b) 0 row.terms ≡ true → RowTurn semi row b b [] row.terms sums
row_start semi row b sums e f r = record {
  left = refl;
  long = refl;
  least = e;
  greatest = f;
  next = 0;
  passed = tt;
  rising = r;
  later = record { each = λ j l. refl };
}

-- the other terms at their ends, from the sums so far and the tails
others_at : (end : ℤ → OpenRange → Option ℤ) (count next : ℕ) (b c : OpenBounds) (before after : List Term) (sum : Option ℤ) (tail : Option Tail) → sum ≡ sum_at_ends end c before → side_width sum ≤ greatest_width → IsSameFrom next b c → terms_rise count next after ≡ true → IsTail (at_ends end b after) tail → sum_at_ends end c (before ++ after) ≡ joined sum tail
others_at end count next b c before after sum tail e small same r t =
    sum_append end c before after
    ∙ ap₂ (fold plus) (sym e) (ends_same_from end count next b c after same r)
    ∙ tail_goes_on sum (at_ends end b after) tail t small

pub row_others : (semi : ℕ → Bool) (row : Row) (b c : OpenBounds) (before after : List Term) (t : Term) (sums rest : Ends) (tails : Tails) → RowTurn semi row b c before (t ∷ after) sums → side_width sums.least ≤ greatest_width → side_width sums.greatest ≤ greatest_width → AreTailsOf b after tails → rest.least ≡ joined sums.least tails.least → rest.greatest ≡ joined sums.greatest tails.greatest → (rest.least ≡ sum_at_ends least_end c (before ++ after)) × (rest.greatest ≡ sum_at_ends greatest_end c (before ++ after))
row_others semi row b c before after t sums rest tails h low high tail e f =
    let p = risen (length b) h.next t after h.rising in
    let same : IsSameFrom (t.0 + 1) b c = record { each = λ j l. h.later.each j (omega (arith, p.least)) } in (
      e ∙ sym (others_at least_end (length b) (t.0 + 1) b c before after sums.least tails.least h.least low same p.later tail.least),
      f ∙ sym (others_at greatest_end (length b) (t.0 + 1) b c before after sums.greatest tails.greatest h.greatest high same p.later tail.greatest),
    )

-- one variable further
sum_more : (end : ℤ → OpenRange → Option ℤ) (next : ℕ) (c d : OpenBounds) (before : List Term) (t : Term) (sum sums addend : Option ℤ) → sum ≡ sum_at_ends end c before → AreBelow next before → IsSameBelow next c d → sums ≡ plus sum addend → addend ≡ times t.1 (end t.1 (open_at d t.0)) → sums ≡ sum_at_ends end d (before ++ t ∷ [])
sum_more end next c d before t sum sums addend e below same f a =
    f ∙ ap₂ plus (e ∙ ap (fold plus (Some (pos 0))) (sym (ends_same_below end next c d before same below))) a ∙ sym (sum_append end d before (t ∷ []))

pub row_turn : (semi : ℕ → Bool) (row : Row) (b c d : OpenBounds) (before after : List Term) (t : Term) (sums more ends : Ends) → RowTurn semi row b c before (t ∷ after) sums → d ≡ close_variable semi row c t (before ++ after) → ends.least ≡ times t.1 (least_end t.1 (open_at d t.0)) → ends.greatest ≡ times t.1 (greatest_end t.1 (open_at d t.0)) → more.least ≡ plus sums.least ends.least → more.greatest ≡ plus sums.greatest ends.greatest → RowTurn semi row b d (before ++ t ∷ []) after more
row_turn semi row b c d before after t sums more ends h e low high f g =
    let p = risen (length b) h.next t after h.rising in
    let other : (j : ℕ) → j ≢ t.0 → open_at d j ≡ open_at c j = λ j n. ap (λ s. open_at s j) e ∙ variable_other semi row c t (before ++ after) j n in
    let same : IsSameBelow h.next c d = record { each = λ j l. other j (λ k. absurd (omega (arith, p.least))) } in
    record {
      left = ap (λ s. close_along semi row s (before ++ t ∷ []) after) e ∙ h.left;
      long = ap length e ∙ variable_length semi row c t (before ++ after) ∙ h.long;
      least = sum_more least_end h.next c d before t sums.least more.least ends.least h.least h.passed same f low;
      greatest = sum_more greatest_end h.next c d before t sums.greatest more.greatest ends.greatest h.greatest h.passed same g high;
      next = t.0 + 1;
      passed = below_one_more h.next before t h.passed p.least;
      rising = p.later;
      later = record { each = λ j l. other j (λ k. absurd (omega arith)) ∙ h.later.each j (omega (arith, p.least)) };
    }

pub row_end : (semi : ℕ → Bool) (row : Row) (b c : OpenBounds) (before after : List Term) (sums : Ends) → after ≡ [] → RowTurn semi row b c before after sums → c ≡ close_along semi row b [] row.terms
row_end semi row b c before after sums e h = sym (ap (λ ts. close_along semi row c before ts) e) ∙ h.left

-- ---- rows that close nothing

none_from : (o : Option ℤ) → is_none o ≡ true → o ≡ None
none_from None e = refl
none_from (Some v) e = cc

-- a rule that gives no number closes nothing
closed_none : (bound : Option ℤ) → closed_by bound None ≡ bound
closed_none None = refl
closed_none (Some v) = refl

-- a bound that isn't missing stays
closed_there : (bound first second : Option ℤ) → is_none bound ≡ false → closed_by (closed_by bound first) second ≡ bound
closed_there None first second e = cc
closed_there (Some v) first second e = refl

-- a bound that is as missing as before is as before
pub closed_same : (bound first second : Option ℤ) → is_none bound ≡ is_none (closed_by (closed_by bound first) second) → closed_by (closed_by bound first) second ≡ bound
closed_same None first second e = none_from (closed_by (closed_by None first) second) (sym e)
closed_same (Some v) first second e = refl

-- a write of what is there changes nothing
pub write_same : (b : OpenBounds) (j : ℕ) (r : OpenRange) → r ≡ open_at b j → set b j r ≡ b
write_same b j r e = ap (set b j) e ∙ set-get_or b j (None, None)

pub same_range : (r s : OpenRange) → r.0 ≡ s.0 → r.1 ≡ s.1 → r ≡ s
same_range r s e f = ap₂ (λ (a : Option ℤ) (b : Option ℤ). let p : OpenRange = (a, b) in p) e f

variable_still : (semi : ℕ → Bool) (row : Row) (b : OpenBounds) (t : Term) (others : List Term) → after_rules row t.1 (open_at b t.0) (sum_at_ends least_end b others) (sum_at_ends greatest_end b others) ≡ open_at b t.0 → close_variable semi row b t others ≡ b
variable_still semi row b t others e = write_case (semi t.0)
  where
    write_case : (a : Bool) → cond a b (set b t.0 (after_rules row t.1 (open_at b t.0) (sum_at_ends least_end b others) (sum_at_ends greatest_end b others))) ≡ b
    write_case true = refl
    write_case false = write_same b t.0 _ e

-- ---- where each side lacks two things

missing_append : (end : ℤ → OpenRange → Option ℤ) (b : OpenBounds) (xs ys : List Term) → missing end b (xs ++ ys) ≡ missing end b xs + missing end b ys
missing_append end b [] ys = omega arith
missing_append end b (x ∷ xs) ys = omega (arith, missing_append end b xs ys)

plus_none : (o : Option ℤ) → plus o None ≡ None
plus_none None = refl
plus_none (Some v) = refl

missing_step : (o : Option ℤ) (a : ℤ) (vs : List (Option ℤ)) (n : ℕ) (s : Option ℤ) → 0 < cond (is_none o) 1 0 + n → ((r : Option ℤ) → 0 < n → fold plus r vs ≡ None) → fold plus (plus s (times a o)) vs ≡ None
missing_step None a vs n s h rest = rw (plus_none s) (none_stays vs)
missing_step (Some v) a vs n s h rest = rest (plus s (times a (Some v))) (omega arith)

-- a sum that needs a missing bound is none
missing_sum : (end : ℤ → OpenRange → Option ℤ) (b : OpenBounds) (ts : List Term) (s : Option ℤ) → 0 < missing end b ts → fold plus s (at_ends end b ts) ≡ None
missing_sum end b [] s h = absurd (omega arith)
missing_sum end b (t ∷ ts) s h = missing_step (end t.1 (open_at b t.0)) t.1 (at_ends end b ts) (missing end b ts) s h (λ r k. missing_sum end b ts r k)

pub at_most_one : (b : Bool) → cond b 1 0 ≤ 1
at_most_one true = omega arith
at_most_one false = omega arith

still_missing : (end : ℤ → OpenRange → Option ℤ) (b : OpenBounds) (before after : List Term) (t : Term) → 2 ≤ missing end b (before ++ t ∷ after) → 0 < missing end b (before ++ after)
still_missing end b before after t h =
    omega (arith, missing_append end b before (t ∷ after), missing_append end b before after, at_most_one (is_none (end t.1 (open_at b t.0))))

-- a side that lacks two things leaves nothing
stuck_side : (side : Option ℤ) (end : ℤ → OpenRange → Option ℤ) (b : OpenBounds) (before after : List Term) (t : Term) → 2 ≤ lack side end b (before ++ t ∷ after) → minus side (sum_at_ends end b (before ++ after)) ≡ None
stuck_side None end b before after t h = refl
stuck_side (Some v) end b before after t h =
    ap (minus (Some v)) (missing_sum end b (before ++ after) (Some (pos 0)) (still_missing end b before after t (omega arith)))

no_number : (c : Bool) (f : ℤ → ℤ) (o : Option ℤ) → o ≡ None → cond c (option_map f o) None ≡ None
no_number true f o e = rw e
no_number false f o e = refl

-- ---- a side that closes nothing

present : (c : Bool) (n : ℕ) → cond c 1 0 + n ≡ 0 → c ≡ false
present true n e = absurd (omega arith)
present false n e = refl

-- a bound that is there, or for which there is no number, stays
bound_still : (bound number : Option ℤ) → (is_none bound ≡ false) ⊎ (number ≡ None) → closed_by bound number ≡ bound
bound_still (Some v) number h = refl
bound_still None number (inl there) = cc
bound_still None number (inr none) = ap (closed_by None) none

missing_both_append : (need target : ℤ → OpenRange → Option ℤ) (b : OpenBounds) (xs ys : List Term) → missing_both need target b (xs ++ ys) ≡ missing_both need target b xs + missing_both need target b ys
missing_both_append need target b [] ys = omega arith
missing_both_append need target b (x ∷ xs) ys = omega (arith, missing_both_append need target b xs ys)

and_swap : (x y : Bool) → (x && y) ≡ (y && x)
and_swap true true = refl
and_swap true false = refl
and_swap false true = refl
and_swap false false = refl

missing_both_swap : (need target : ℤ → OpenRange → Option ℤ) (b : OpenBounds) (ts : List Term) → missing_both need target b ts ≡ missing_both target need b ts
missing_both_swap need target b [] = refl
missing_both_swap need target b (t ∷ ts) =
    ap₂ (λ c n. cond c 1 0 + n) (and_swap (is_none (need t.1 (open_at b t.0))) (is_none (target t.1 (open_at b t.0)))) (missing_both_swap need target b ts)

-- a side without bounds that it needs leaves nothing
wanting_side : (side : Option ℤ) (need : ℤ → OpenRange → Option ℤ) (b : OpenBounds) (before after : List Term) (t : Term) → 0 < lack side need b (before ++ t ∷ after) → is_none (need t.1 (open_at b t.0)) ≡ false → minus side (sum_at_ends need b (before ++ after)) ≡ None
wanting_side None need b before after t h e = refl
wanting_side (Some v) need b before after t h e =
    let here : cond (is_none (need t.1 (open_at b t.0))) 1 0 + 0 ≡ 0 = rw e in
    let left : 0 < missing need b (before ++ after) = omega (arith, here, h, missing_append need b before (t ∷ after), missing_append need b before after) in
    ap (minus (Some v)) (missing_sum need b (before ++ after) (Some (pos 0)) left)

-- for each term, the bound that the side could close is there, or the side leaves nothing for it
side_still : (side : Option ℤ) (need target : ℤ → OpenRange → Option ℤ) (b : OpenBounds) (before after : List Term) (t : Term) → IsSideIdle (lack side need b (before ++ t ∷ after)) (missing target b (before ++ t ∷ after)) (missing_both need target b (before ++ t ∷ after)) → (is_none (target t.1 (open_at b t.0)) ≡ false) ⊎ (minus side (sum_at_ends need b (before ++ after)) ≡ None)
side_still side need target b before after t (stuck h) = inr (stuck_side side need b before after t h)
side_still side need target b before after t (full h) =
    inl (present (is_none (target t.1 (open_at b t.0))) (missing target b after) (omega (arith, h, missing_append target b before (t ∷ after))))
side_still side need target b before after t (blocked h none) = ends_case (is_none (target t.1 (open_at b t.0))) (is_none (need t.1 (open_at b t.0))) refl refl
  where
    ends_case : (c d : Bool) → is_none (target t.1 (open_at b t.0)) ≡ c → is_none (need t.1 (open_at b t.0)) ≡ d → (is_none (target t.1 (open_at b t.0)) ≡ false) ⊎ (minus side (sum_at_ends need b (before ++ after)) ≡ None)
    ends_case false d e f = inl e
    ends_case true false e f = inr (wanting_side side need b before after t h f)
    ends_case true true e f =
        let both : cond (is_none (need t.1 (open_at b t.0)) && is_none (target t.1 (open_at b t.0))) 1 0 + 0 ≡ 1 = rw (e, f) in
        absurd (omega (arith, both, none, missing_both_append need target b before (t ∷ after)))

not_less : (a b : ℤ) → int_lt a b ≡ true → int_lt b a ≡ false
not_less a b h = grind (arith, ints)

-- a rule that needs a sign of the coefficient
rule_still : (sign : Bool) (bound o : Option ℤ) (f : ℤ → ℤ) → (sign ≡ true → (is_none bound ≡ false) ⊎ (o ≡ None)) → (is_none bound ≡ false) ⊎ (cond sign (option_map f o) None ≡ None)
rule_still false bound o f h = inr refl
rule_still true bound o f h = elim (h refl) [
  | inl there ↦ inl there
  | inr none ↦ inr (ap (option_map f) none)
]

idle_range : (row : Row) (a : ℤ) (r : OpenRange) (least greatest : Option ℤ) → (is_none (greatest_end a r) ≡ false) ⊎ (minus row.hi least ≡ None) → (is_none (least_end a r) ≡ false) ⊎ (minus row.lo greatest ≡ None) → after_rules row a r least greatest ≡ r
idle_range row a r least greatest hi lo =
    let above : int_lt (pos 0) a ≡ true → ((is_none r.1 ≡ false) ⊎ (minus row.hi least ≡ None)) × ((is_none r.0 ≡ false) ⊎ (minus row.lo greatest ≡ None)) = λ s. (rw s at hi, rw s at lo) in
    let under : int_lt a (pos 0) ≡ true → ((is_none r.0 ≡ false) ⊎ (minus row.hi least ≡ None)) × ((is_none r.1 ≡ false) ⊎ (minus row.lo greatest ≡ None)) = λ s. let n = not_less a (pos 0) s in (rw n at hi, rw n at lo) in
    same_range (after_rules row a r least greatest) r
    (ap (λ o. closed_by o (lo_lower row.lo a greatest)) (bound_still r.0 (hi_lower row.hi a least) (rule_still (int_lt a (pos 0)) r.0 (minus row.hi least) (λ d. ceiling_of d a) (λ s. (under s).0)))
    ∙ bound_still r.0 (lo_lower row.lo a greatest) (rule_still (int_lt (pos 0) a) r.0 (minus row.lo greatest) (λ d. ceiling_of d a) (λ s. (above s).1)))
    (ap (λ o. closed_by o (lo_upper row.lo a greatest)) (bound_still r.1 (hi_upper row.hi a least) (rule_still (int_lt (pos 0) a) r.1 (minus row.hi least) (λ d. floor_of d a) (λ s. (above s).0)))
    ∙ bound_still r.1 (lo_upper row.lo a greatest) (rule_still (int_lt a (pos 0)) r.1 (minus row.lo greatest) (λ d. floor_of d a) (λ s. (under s).1)))

-- both sides, at the terms before and those still to come
record AreSidesIdle (b : OpenBounds) (row : Row) (ts : List Term) : Type 0 where
  pub hi : IsSideIdle (lack row.hi least_end b ts) (missing greatest_end b ts) (missing_both least_end greatest_end b ts)
  pub lo : IsSideIdle (lack row.lo greatest_end b ts) (missing least_end b ts) (missing_both greatest_end least_end b ts)

idle_along : (semi : ℕ → Bool) (row : Row) (b : OpenBounds) (before after : List Term) → AreSidesIdle b row (before ++ after) → close_along semi row b before after ≡ b
idle_along semi row b before [] h = refl
idle_along semi row b before (t ∷ ts) h =
    let here = idle_range row t.1 (open_at b t.0) (sum_at_ends least_end b (before ++ ts)) (sum_at_ends greatest_end b (before ++ ts))
    (side_still row.hi least_end greatest_end b before ts t h.hi) (side_still row.lo greatest_end least_end b before ts t h.lo) in
    let e = variable_still semi row b t (before ++ ts) here in
    ap (λ c. close_along semi row c (before ++ t ∷ []) ts) e
    ∙ idle_along semi row b (before ++ t ∷ []) ts (subst (AreSidesIdle b row) (sym (append_assoc before (t ∷ []) ts)) h)

pub idle_still : (semi : ℕ → Bool) (b : OpenBounds) (row : Row) → IsIdle b row → close_along semi row b [] row.terms ≡ b
idle_still semi b row h =
    idle_along semi row b [] row.terms record {
      hi = h.hi;
      lo = subst (IsSideIdle (lack row.lo greatest_end b row.terms) (missing least_end b row.terms)) (missing_both_swap least_end greatest_end b row.terms) h.lo;
    }

-- ---- what a row that takes part gives

pub record IsPart (count : ℕ) (row : Row) : Type 0 where
  pub rises : terms_rise count 0 row.terms ≡ true
  pub small : coefficient_size row.terms ≤ greatest_width
  pub lo : side_width row.lo ≤ greatest_width
  pub hi : side_width row.hi ≤ greatest_width

pub part_of : (count : ℕ) (row : Row) → takes_part count row ≡ true → IsPart count row
part_of count row h =
    let p = and_parts (terms_rise count 0 row.terms && leb (coefficient_size row.terms) greatest_width) (leb (side_width row.lo) greatest_width && leb (side_width row.hi) greatest_width) h in
    let q = and_parts (terms_rise count 0 row.terms) (leb (coefficient_size row.terms) greatest_width) p.0 in
    let r = and_parts (leb (side_width row.lo) greatest_width) (leb (side_width row.hi) greatest_width) p.1 in
    record { rises = q.0; small = leb-true _ _ q.1; lo = leb-true _ _ r.0; hi = leb-true _ _ r.1 }

size_within : (ts : List Term) → All (λ t. unsigned_abs t.1 ≤ coefficient_size ts) ts
size_within [] = All-nil (λ (t : Term). unsigned_abs t.1 ≤ 0)
size_within (u ∷ ts) =
    let rest = size_within ts in
    All-cons (λ (t : Term). unsigned_abs t.1 ≤ coefficient_size (u ∷ ts)) u ts (omega arith) (λ k d l. omega (arith, rest k d l))

pub part_small : (count : ℕ) (row : Row) → takes_part count row ≡ true → (i : ℕ) (t : Term) → i < length row.terms → t ≡ get_or row.terms i t → unsigned_abs t.1 ≤ greatest_width
part_small count row h i t l e =
    let p = part_of count row h in
    subst (λ (u : Term). unsigned_abs u.1 ≤ greatest_width) (sym e) (omega (arith, p.small, size_within row.terms i t l))

pub parts_known : (count : ℕ) (row : Row) → takes_part count row ≡ true → All (λ t. t.0 < count) row.terms
parts_known count row h = (rises_lawful count 0 row.terms (part_of count row h).rises).known

pub part_known : (count : ℕ) (row : Row) → takes_part count row ≡ true → (i : ℕ) (t : Term) → i < length row.terms → t ≡ get_or row.terms i t → t.0 < count
part_known count row h i t l e = subst (λ (u : Term). u.0 < count) (sym e) (parts_known count row h i t l)

-- the tails of the terms after a place
pub tails_after : (b : OpenBounds) (ts : List Term) (tails : List Tails) (i : ℕ) (here : Tails) → i < length ts → AreTails b ts tails → here ≡ get_or tails (length ts - 1 - i) no_tails → AreTailsOf b (drop (i + 1) ts) here
tails_after b ts tails i here l h e =
    let place : length ts - (length ts - 1 - i) ≡ i + 1 = omega arith in
    rw e (subst (λ n. AreTailsOf b (drop n ts) (get_or tails (length ts - 1 - i) no_tails)) place (h.each (length ts - 1 - i) (omega arith)))

-- a test as a number
pub test_number : (b c : Bool) (n : ℕ) → n ≡ from_bool b → b ≡ c → n ≡ cond c 1 0
test_number true true n e f = e
test_number true false n e f = cc
test_number false true n e f = cc
test_number false false n e f = e

pub row_idle : (semi : ℕ → Bool) (b : OpenBounds) (row : Row) → IsIdle b row → b ≡ close_row semi b row
row_idle semi b row h = part_case (takes_part (length b) row)
  where
    part_case : (p : Bool) → b ≡ cond p (close_along semi row b [] row.terms) b
    part_case true = sym (idle_still semi b row h)
    part_case false = refl

pub same_idle : {a b c x y z : ℕ} → IsSideIdle a b c → a ≡ x → b ≡ y → c ≡ z → IsSideIdle x y z
same_idle (stuck h) e f g = stuck (omega arith)
same_idle (full h) e f g = full (omega arith)
same_idle (blocked h k) e f g = blocked (omega arith) (omega arith)
