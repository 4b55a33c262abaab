-- A bound that a rule closes has a magnitude of at most 10^15, as the stated ones have.
use Rattle.std.proofs.Common.{◌≡◌, ◌≢◌, ℕ, zero, suc, ◌<◌, ◌≤◌, Bool, true, false, cond, List, [], ◌∷◌, ◌++◌, All, length, set, Option, None, Some, ℤ, leb, refl, sym, subst, inl, inr, arith}
use Rattle.std.specs.Int.RustNames.{unsigned_abs}
use Rattle.std.proofs.lemmas.Bool.{cases_eq, cases_lt, leb-true}
use Rattle.std.proofs.lemmas.List.{get_or-set_other, get_or-set_same, get_or_past, set_past}
use Rattle.sp_model.specs.declared.parts.ModelParts.{ModelParts}
use Rattle.sp_model.specs.declared.parts.Row.{Row}
use Rattle.sp_model.specs.Limits.{greatest_bound, most_rounds}
use Rattle.sp_model.specs.Rounds.{takes_part, least_end, greatest_end, sum_at_ends, hi_upper, hi_lower, lo_lower, lo_upper, closed_by, after_rules, close_variable, close_along, close_row, round, rounds, rounded}
use Rattle.sp_model.specs.Rules.{IsRangeLawful}
use Rattle.sp_model.specs.Stated.{OpenRange, OpenBounds, is_semi, open_at, stated_of}
use Rattle.sp_model.specs.Sums.{Term, side_width}

record AreNear (b : OpenBounds) : Type 0 where
  pub each : (j : ℕ) → IsRangeLawful (open_at b j)

near_closed : (o number : Option ℤ) → side_width o ≤ greatest_bound → side_width (closed_by o number) ≤ greatest_bound
near_closed (Some v) number h = h
near_closed None None h = h
near_closed None (Some n) h = bound_case (leb (unsigned_abs n) greatest_bound) refl
  where
    bound_case : (c : Bool) → leb (unsigned_abs n) greatest_bound ≡ c → side_width (cond c (Some n) None) ≤ greatest_bound
    bound_case true e = leb-true (unsigned_abs n) greatest_bound e
    bound_case false e = h

rules_near : (row : Row) (a : ℤ) (r : OpenRange) (least greatest : Option ℤ) → IsRangeLawful r → IsRangeLawful (after_rules row a r least greatest)
rules_near row a r least greatest h = record {
  least = near_closed (closed_by r.0 (hi_lower row.hi a least)) (lo_lower row.lo a greatest) (near_closed r.0 (hi_lower row.hi a least) h.least);
  greatest = near_closed (closed_by r.1 (hi_upper row.hi a least)) (lo_upper row.lo a greatest) (near_closed r.1 (hi_upper row.hi a least) h.greatest);
}

write_near : (b : OpenBounds) (v : ℕ) (r : OpenRange) → AreNear b → IsRangeLawful r → AreNear (set b v r)
write_near b v r h k = record {
  each = λ j. elim (cases_eq j v) [
    | inl same ↦ elim (cases_lt v (length b)) [
      | inl known ↦ subst (λ i. IsRangeLawful (open_at (set b v r) i)) (sym same) (subst IsRangeLawful (sym (get_or-set_same b v r (None, None) known)) k)
      | inr past ↦ subst (λ c. IsRangeLawful (open_at c j)) (sym (set_past b v r past)) (h.each j)
    ]
    | inr other ↦ subst IsRangeLawful (sym (get_or-set_other b v j r (None, None) other)) (h.each j)
  ];
}

variable_near : (semi : ℕ → Bool) (row : Row) (b : OpenBounds) (t : Term) (others : List Term) → AreNear b → AreNear (close_variable semi row b t others)
variable_near semi row b t others h = write_case (semi t.0)
  where
    write_case : (s : Bool) → AreNear (cond s b (set b t.0 (after_rules row t.1 (open_at b t.0) (sum_at_ends least_end b others) (sum_at_ends greatest_end b others))))
    write_case true = h
    write_case false = write_near b t.0 _ h (rules_near row t.1 (open_at b t.0) _ _ (h.each t.0))

along_near : (semi : ℕ → Bool) (row : Row) (b : OpenBounds) (before after : List Term) → AreNear b → AreNear (close_along semi row b before after)
along_near semi row b before [] h = h
along_near semi row b before (t ∷ ts) h =
    along_near semi row (close_variable semi row b t (before ++ ts)) (before ++ t ∷ []) ts (variable_near semi row b t (before ++ ts) h)

row_near : (semi : ℕ → Bool) (b : OpenBounds) (row : Row) → AreNear b → AreNear (close_row semi b row)
row_near semi b row h = part_case (takes_part (length b) row)
  where
    part_case : (p : Bool) → AreNear (cond p (close_along semi row b [] row.terms) b)
    part_case true = along_near semi row b [] row.terms h
    part_case false = h

round_near : (semi : ℕ → Bool) (rows : List Row) (b : OpenBounds) → AreNear b → AreNear (round semi rows b)
round_near semi [] b h = h
round_near semi (row ∷ rows) b h = round_near semi rows (close_row semi b row) (row_near semi b row h)

rounds_near : (semi : ℕ → Bool) (rows : List Row) (n : ℕ) (b : OpenBounds) → AreNear b → AreNear (rounds semi rows n b)
unfolding rounds
rounds_near semi rows zero b h = h
rounds_near semi rows (suc n) b h = rounds_near semi rows n (round semi rows b) (round_near semi rows b h)

stated_near : (b : OpenBounds) → All IsRangeLawful b → AreNear b
stated_near b h = record {
  each = λ j. elim (cases_lt j (length b)) [
    | inl known ↦ h j (None, None) known
    | inr past ↦ subst IsRangeLawful (sym (get_or_past b j (None, None) past)) record { least = omega arith; greatest = omega arith }
  ];
}

pub rounded_near : (m : ModelParts) → All IsRangeLawful (stated_of m) → (j : ℕ) → IsRangeLawful (open_at (rounded m) j)
unfolding rounded
rounded_near m h j = (rounds_near (is_semi m.semi) m.rows most_rounds (stated_of m) (stated_near (stated_of m) h)).each j
