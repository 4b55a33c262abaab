-- The closed box: stated bounds stay, and every feasible point lies within it.
use Rattle.std.proofs.Common.{◌≡◌, ◌≢◌, ℕ, zero, suc, ◌+◌, ◌<◌, ◌≤◌, Bool, true, false, cond, List, [], ◌∷◌, ◌++◌, length, get_or, set, map, All, Option, None, Some, IsSome, is_some, unwrap_or, ℤ, pos, ◌≤ℤ◌, int_le, refl, sym, ap, ◌∙◌, subst, inl, inr, arith}
use Rattle.std.proofs.lemmas.Bool.{cases_eq, cases_lt}
use Rattle.std.proofs.lemmas.Int.{ints}
use Rattle.std.proofs.lemmas.List.{get_or-set_other, get_or-set_same, get_or_past, get_or_default, length-set, set_past}
use Rattle.std.proofs.Math.ListN.{get_or-map}
use Rattle.sp_model.specs.declared.parts.ModelParts.{ModelParts}
use Rattle.sp_model.specs.declared.parts.Row.{Row}
use Rattle.sp_model.specs.Boxes.{range_at, coordinate, IsBetween, IsWithin}
use Rattle.sp_model.specs.Limits.{most_rounds}
use Rattle.sp_model.specs.Models.{root_of}
use Rattle.sp_model.specs.Rounds.{takes_part, least_end, greatest_end, sum_at_ends, hi_upper, hi_lower, lo_lower, lo_upper, closed_by, after_rules, close_variable, close_along, close_row, round, rounds, rounded, closed}
use Rattle.sp_model.specs.Rules.{HasClosedBox}
use Rattle.sp_model.specs.Stated.{OpenRange, OpenBounds, IsClosedRange, KeepsRange, KeepsBounds, is_at_least, is_at_most, is_semi, open_at, stated_of}
use Rattle.sp_model.specs.Sums.{Term}
use Rattle.sp_model.proofs.RoundLemmas.{length_root, root_is}
use Rattle.sp_model.proofs.StatedLemmas.{length_stated}
use Rattle.sp_model.proofs.TailLemmas.{le_test}

-- ---- a bound that is there stays

-- the second range has the bounds that the first has
pub record IsCloser (r s : OpenRange) : Type 0 where
  pub lower : (v : ℤ) → r.0 ≡ Some v → s.0 ≡ Some v
  pub upper : (v : ℤ) → r.1 ≡ Some v → s.1 ≡ Some v

pub record AreCloser (b c : OpenBounds) : Type 0 where
  pub each : (j : ℕ) → IsCloser (open_at b j) (open_at c j)

closed_stays : (bound first second : Option ℤ) (v : ℤ) → bound ≡ Some v → closed_by (closed_by bound first) second ≡ Some v
closed_stays None first second v e = cc
closed_stays (Some w) first second v e = e

rules_closer : (row : Row) (a : ℤ) (r : OpenRange) (least greatest : Option ℤ) → IsCloser r (after_rules row a r least greatest)
rules_closer row a r least greatest = record {
  lower = λ v e. closed_stays r.0 (hi_lower row.hi a least) (lo_lower row.lo a greatest) v e;
  upper = λ v e. closed_stays r.1 (hi_upper row.hi a least) (lo_upper row.lo a greatest) v e;
}

closer_itself : (r : OpenRange) → IsCloser r r
closer_itself r = record { lower = λ v e. e; upper = λ v e. e }

all_closer_itself : (b : OpenBounds) → AreCloser b b
all_closer_itself b = record { each = λ j. closer_itself (open_at b j) }

closer_through : (a b c : OpenBounds) → AreCloser a b → AreCloser b c → AreCloser a c
closer_through a b c h k = record {
  each = λ j. record {
    lower = λ v e. (k.each j).lower v ((h.each j).lower v e);
    upper = λ v e. (k.each j).upper v ((h.each j).upper v e);
  };
}

write_closer : (b : OpenBounds) (v : ℕ) (r : OpenRange) → IsCloser (open_at b v) r → AreCloser b (set b v r)
write_closer b v r h = record {
  each = λ j. elim (cases_eq j v) [
    | inl same ↦ elim (cases_lt v (length b)) [
      | inl known ↦ subst (λ i. IsCloser (open_at b i) (open_at (set b v r) i)) (sym same)
          (subst (IsCloser (open_at b v)) (sym (get_or-set_same b v r (None, None) known)) h)
      | inr past ↦ subst (λ c. IsCloser (open_at b j) (open_at c j)) (sym (set_past b v r past)) (closer_itself (open_at b j))
    ]
    | inr other ↦ subst (IsCloser (open_at b j)) (sym (get_or-set_other b v j r (None, None) other)) (closer_itself (open_at b j))
  ];
}

variable_closer : (semi : ℕ → Bool) (row : Row) (b : OpenBounds) (t : Term) (others : List Term) → AreCloser b (close_variable semi row b t others)
variable_closer semi row b t others = write_case (semi t.0)
  where
    write_case : (s : Bool) → AreCloser b (cond s b (set b t.0 (after_rules row t.1 (open_at b t.0) (sum_at_ends least_end b others) (sum_at_ends greatest_end b others))))
    write_case true = all_closer_itself b
    write_case false = write_closer b t.0 _ (rules_closer row t.1 (open_at b t.0) _ _)

along_closer : (semi : ℕ → Bool) (row : Row) (b : OpenBounds) (before after : List Term) → AreCloser b (close_along semi row b before after)
along_closer semi row b before [] = all_closer_itself b
along_closer semi row b before (t ∷ ts) =
    closer_through b (close_variable semi row b t (before ++ ts)) _ (variable_closer semi row b t (before ++ ts)) (along_closer semi row (close_variable semi row b t (before ++ ts)) (before ++ t ∷ []) ts)

row_closer : (semi : ℕ → Bool) (b : OpenBounds) (row : Row) → AreCloser b (close_row semi b row)
row_closer semi b row = part_case (takes_part (length b) row)
  where
    part_case : (p : Bool) → AreCloser b (cond p (close_along semi row b [] row.terms) b)
    part_case true = along_closer semi row b [] row.terms
    part_case false = all_closer_itself b

round_closer : (semi : ℕ → Bool) (rows : List Row) (b : OpenBounds) → AreCloser b (round semi rows b)
round_closer semi [] b = all_closer_itself b
round_closer semi (row ∷ rows) b = closer_through b (close_row semi b row) _ (row_closer semi b row) (round_closer semi rows (close_row semi b row))

rounds_closer : (semi : ℕ → Bool) (rows : List Row) (n : ℕ) (b : OpenBounds) → AreCloser b (rounds semi rows n b)
unfolding rounds
rounds_closer semi rows zero b = all_closer_itself b
rounds_closer semi rows (suc n) b = closer_through b (round semi rows b) _ (round_closer semi rows b) (rounds_closer semi rows n (round semi rows b))

-- a stated bound is never changed
pub stated_stay : (m : ModelParts) → AreCloser (stated_of m) (rounded m)
unfolding rounded
stated_stay m = rounds_closer (is_semi m.semi) m.rows most_rounds (stated_of m)

-- ---- the closed box

pub range_of_root : (m : ModelParts) (j : ℕ) → range_at (root_of m) j ≡ closed (open_at (rounded m) j)
range_of_root m j = ap (λ b. range_at b j) (root_is m) ∙ get_or-map closed (rounded m) j (None, None)

keeps_lower : (o p : Option ℤ) (v : ℤ) → ((w : ℤ) → o ≡ Some w → p ≡ Some w) → unwrap_or p (pos 0) ≤ℤ v → is_at_least o v ≡ true
keeps_lower None p v h w = refl
keeps_lower (Some l) p v h w = le_test l v (rw (h l refl) at w)

keeps_upper : (o p : Option ℤ) (v : ℤ) → ((w : ℤ) → o ≡ Some w → p ≡ Some w) → v ≤ℤ unwrap_or p (pos 0) → is_at_most o v ≡ true
keeps_upper None p v h w = refl
keeps_upper (Some u) p v h w = le_test v u (rw (h u refl) at w)

-- a value within a closed range keeps the bounds that were there before
keeps_closed : (r s : OpenRange) (v : ℤ) → IsCloser r s → IsBetween (closed s) v → KeepsRange r v
keeps_closed r s v h w = record { least = keeps_lower r.0 s.0 v h.lower w.least; greatest = keeps_upper r.1 s.1 v h.upper w.greatest }

-- a point within the closed box keeps the stated bounds
pub keeps_from_within : (m : ModelParts) (x : List ℤ) → HasClosedBox m → IsWithin (root_of m) x → KeepsBounds (stated_of m) x
keeps_from_within m x h w =
    let long : length (root_of m) ≡ length (stated_of m) = length_root m h.bounds.variables.paired ∙ sym (length_stated m h.bounds.variables.paired) in
    record {
      long = w.long ∙ long;
      each = λ j l.
          keeps_closed (open_at (stated_of m) j) (open_at (rounded m) j) (coordinate x j) ((stated_stay m).each j)
          (subst (λ r. IsBetween r (coordinate x j)) (range_of_root m j) (w.each j (omega (arith, long))));
    }
