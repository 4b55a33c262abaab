-- The rounds: how rows close bounds that are missing. Nothing here passes 10^36 in magnitude.
use Rattle.std.specs.Prelude.{ℕ, zero, suc, ◌+◌, Bool, true, ◌&&◌, not, cond, nat_le, nat_lt, List, [], ◌∷◌, ◌++◌, length, map, fold, slice_set, Option, None, Some, option_map, unwrap_or, ℤ, pos, neg_ℤ, ◌+ℤ◌, ◌-ℤ◌, ◌*ℤ◌, int_lt, unsigned_abs}
use Rattle.std.specs.Int.{int_div_euclid}
use Rattle.std.specs.Ordering.{int_eq}
use Rattle.sp_model.specs.declared.parts.Row.{Row}
use Rattle.sp_model.specs.declared.parts.ModelParts.{ModelParts}
use Rattle.sp_model.specs.Limits.{greatest_bound, greatest_width, most_rounds}
use Rattle.sp_model.specs.Stated.{OpenRange, OpenBounds, open_at, stated_of, is_semi}
use Rattle.sp_model.specs.Sums.{Term, side_width}

-- ---- which rows take part

-- the variables rise strictly from the least one on and are known, and no coefficient is 0
abbrev pub terms_rise : ℕ → ℕ → List Term → Bool
terms_rise count least [] = true
terms_rise count least (t ∷ ts) = ((nat_le least t.0 && nat_lt t.0 count) && not (int_eq t.1 (pos 0))) && terms_rise count (t.0 + 1) ts

-- the magnitudes of the coefficients, added up
abbrev pub coefficient_size : List Term → ℕ
coefficient_size [] = 0
coefficient_size (t ∷ ts) = unsigned_abs t.1 + coefficient_size ts

-- the row's terms are lawful; its coefficients add up to at most 10^36 in magnitude, and no side is greater
abbrev pub takes_part : ℕ → Row → Bool
takes_part count row =
    (terms_rise count 0 row.terms && nat_le (coefficient_size row.terms) greatest_width)
    && (nat_le (side_width row.lo) greatest_width && nat_le (side_width row.hi) greatest_width)

-- ---- the sum of a row's other terms, at their least and at their greatest

-- the bound at which a term is least
abbrev pub least_end : ℤ → OpenRange → Option ℤ
least_end a r = cond (int_lt (pos 0) a) r.0 r.1

-- the bound at which a term is greatest
abbrev pub greatest_end : ℤ → OpenRange → Option ℤ
greatest_end a r = cond (int_lt (pos 0) a) r.1 r.0

-- a number whose magnitude is at most 10^36, else none
abbrev pub if_small : ℤ → Option ℤ
if_small z = cond (nat_le (unsigned_abs z) greatest_width) (Some z) None

-- a coefficient times a bound
abbrev pub times : ℤ → Option ℤ → Option ℤ
times a None = None
times a (Some bound) = if_small (a *ℤ bound)

-- a sum so far and the next addend
abbrev pub plus : Option ℤ → Option ℤ → Option ℤ
plus None v = None
plus (Some s) None = None
plus (Some s) (Some v) = if_small (s +ℤ v)

-- a side without a sum
abbrev pub minus : Option ℤ → Option ℤ → Option ℤ
minus None s = None
minus (Some side) None = None
minus (Some side) (Some s) = if_small (side -ℤ s)

-- each term at one of its ends
abbrev pub at_ends : (ℤ → OpenRange → Option ℤ) → OpenBounds → List Term → List (Option ℤ)
at_ends end b ts = map (λ t. times t.1 (end t.1 (open_at b t.0))) ts

-- their sum in rising order: none where a bound is missing, or a product or a sum on the way isn't small
abbrev pub sum_at_ends : (ℤ → OpenRange → Option ℤ) → OpenBounds → List Term → Option ℤ
sum_at_ends end b ts = fold plus (Some (pos 0)) (at_ends end b ts)

-- ---- the four rules

-- the greatest whole number not above d / a
abbrev pub floor_of : ℤ → ℤ → ℤ
floor_of d a = cond (int_lt (pos 0) a) (int_div_euclid d a) (int_div_euclid (neg_ℤ d) (neg_ℤ a))

-- the least whole number not below d / a
abbrev pub ceiling_of : ℤ → ℤ → ℤ
ceiling_of d a = neg_ℤ (floor_of (neg_ℤ d) a)

-- each of the rules has a side of the row, the term's coefficient, and the sum of the other terms

-- the upper side and a coefficient above 0 give an upper bound
abbrev pub hi_upper : Option ℤ → ℤ → Option ℤ → Option ℤ
hi_upper hi a least = cond (int_lt (pos 0) a) (option_map (λ d. floor_of d a) (minus hi least)) None

-- the upper side and a coefficient below 0 give a lower bound
abbrev pub hi_lower : Option ℤ → ℤ → Option ℤ → Option ℤ
hi_lower hi a least = cond (int_lt a (pos 0)) (option_map (λ d. ceiling_of d a) (minus hi least)) None

-- the lower side and a coefficient above 0 give a lower bound
abbrev pub lo_lower : Option ℤ → ℤ → Option ℤ → Option ℤ
lo_lower lo a greatest = cond (int_lt (pos 0) a) (option_map (λ d. ceiling_of d a) (minus lo greatest)) None

-- the lower side and a coefficient below 0 give an upper bound
abbrev pub lo_upper : Option ℤ → ℤ → Option ℤ → Option ℤ
lo_upper lo a greatest = cond (int_lt a (pos 0)) (option_map (λ d. floor_of d a) (minus lo greatest)) None

-- a bound and the number that a rule gives: a bound that is there stays, and a missing one becomes the number where its
-- magnitude is at most 10^15
abbrev pub closed_by : Option ℤ → Option ℤ → Option ℤ
closed_by (Some bound) number = Some bound
closed_by None None = None
closed_by None (Some number) = cond (nat_le (unsigned_abs number) greatest_bound) (Some number) None

-- the bounds of a term's variable after the four rules in their order, where the other terms are at least and at most so great
abbrev pub after_rules : Row → ℤ → OpenRange → Option ℤ → Option ℤ → OpenRange
after_rules row a r least greatest = (
  closed_by (closed_by r.0 (hi_lower row.hi a least)) (lo_lower row.lo a greatest),
  closed_by (closed_by r.1 (hi_upper row.hi a least)) (lo_upper row.lo a greatest),
)

-- ---- rows and rounds

-- one variable of a row beside the other terms; none is closed that is semi-integer
abbrev pub close_variable : (ℕ → Bool) → Row → OpenBounds → Term → List Term → OpenBounds
close_variable semi row b t others =
    cond (semi t.0) b
    (slice_set b t.0 (after_rules row t.1 (open_at b t.0) (sum_at_ends least_end b others) (sum_at_ends greatest_end b others)))

-- the row's variables one after another, each at the bounds of that moment: those before, and those still to come
abbrev pub close_along : (ℕ → Bool) → Row → OpenBounds → List Term → List Term → OpenBounds
close_along semi row b before [] = b
close_along semi row b before (t ∷ ts) = close_along semi row (close_variable semi row b t (before ++ ts)) (before ++ t ∷ []) ts

abbrev pub close_row : (ℕ → Bool) → OpenBounds → Row → OpenBounds
close_row semi b row = cond (takes_part (length b) row) (close_along semi row b [] row.terms) b

-- all rows in their order
abbrev pub round : (ℕ → Bool) → List Row → OpenBounds → OpenBounds
round semi rows b = fold (close_row semi) b rows

unfoldable pub rounds : (ℕ → Bool) → List Row → ℕ → OpenBounds → OpenBounds
rounds semi rows zero b = b
rounds semi rows (suc n) b = rounds semi rows n (round semi rows b)

-- the stated bounds and those that the rounds closed
unfoldable pub rounded : ModelParts → OpenBounds
rounded m = rounds (is_semi m.semi) m.rows most_rounds (stated_of m)

-- the range of two bounds that are there; a missing one would stand as 0
abbrev pub closed : OpenRange → ℤ × ℤ
closed r = (unwrap_or r.0 (pos 0), unwrap_or r.1 (pos 0))
