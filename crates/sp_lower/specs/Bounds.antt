-- The bounds of a variable: which of them are missing, and which whole numbers the others are.
use Rattle.std.specs.Prelude.{ℕ, ◌^◌, Bool, true, false, not, ◌&&◌, nat_le, if◌then◌else◌, Option, None, Some, ℤ, pos, neg_ℤ, ◌*ℤ◌, int_le, unsigned_abs}
use Rattle.std.specs.Int.{int_max, int_min}
use Rattle.sp_decimal.specs.DecimalFraction.{huge_from}
use Rattle.sp_decimal.specs.Numerals.{signed}
use Rattle.sp_decimal.specs.Rounding.{floor_of, ceil_of}
use Rattle.sp_decimal.specs.declared.numerals.Numeral.{Numeral}
use Rattle.sp_decimal.specs.declared.numerals.Numeral.TheVariants.{Exact, Huge}
use Rattle.sp_draft.specs.declared.drafts.DraftVar.{DraftVar}
use Rattle.sp_draft.specs.declared.drafts.VarKind.{VarKind}
use Rattle.sp_draft.specs.declared.drafts.VarKind.TheVariants.{Continuous, Integer, Binary}

-- a bound of this magnitude or more, in its own direction, bounds nothing
abbrev pub endless_from : ℕ
endless_from = 10 ^ 20

-- a whole bound has at most this magnitude
abbrev pub farthest_bound : ℕ
farthest_bound = 10 ^ 15

-- the number is at least the whole number; a huge one lies beyond all that are asked for
abbrev pub reaches_up : Numeral → ℤ → Bool
reaches_up (Exact d) z = int_le (z *ℤ pos (10 ^ d.s)) d.p
reaches_up (Huge negative) z = not negative

-- the number is at most the whole number
abbrev pub reaches_down : Numeral → ℤ → Bool
reaches_down (Exact d) z = int_le d.p (z *ℤ pos (10 ^ d.s))
reaches_down (Huge negative) z = negative

-- the lower bound is -10^20 or less
abbrev pub is_endless_below : Numeral → Bool
is_endless_below n = reaches_down n (neg_ℤ (pos endless_from))

-- the upper bound is 10^20 or more
abbrev pub is_endless_above : Numeral → Bool
is_endless_above n = reaches_up n (pos endless_from)

-- the least whole number that isn't below the number; a huge one counts as one of magnitude 10^30
abbrev pub rounded_up : Numeral → ℤ
rounded_up (Exact d) = ceil_of d
rounded_up (Huge negative) = signed negative huge_from

-- the greatest whole number that isn't above it
abbrev pub rounded_down : Numeral → ℤ
rounded_down (Exact d) = floor_of d
rounded_down (Huge negative) = signed negative huge_from

-- the lower bound that a file states, as a whole number, if one is left: 0 where it states none
abbrev pub whole_lower : Option Numeral → Option ℤ
whole_lower None = Some (pos 0)
whole_lower (Some n) = if is_endless_below n then None else Some (rounded_up n)

-- the upper bound that a file states, as a whole number, if one is left
abbrev pub whole_upper : Option Numeral → Option ℤ
whole_upper None = None
whole_upper (Some n) = if is_endless_above n then None else Some (rounded_down n)

-- the bounds that the kind leaves: a binary variable is 0 or 1, within its stated bounds
abbrev pub kept_lower : VarKind → Option ℤ → Option ℤ
kept_lower Binary None = Some (pos 0)
kept_lower Binary (Some l) = Some (int_max (pos 0) l)
kept_lower Integer l = l
kept_lower Continuous l = l

abbrev pub kept_upper : VarKind → Option ℤ → Option ℤ
kept_upper Binary None = Some (pos 1)
kept_upper Binary (Some u) = Some (int_min (pos 1) u)
kept_upper Integer u = u
kept_upper Continuous u = u

-- the least and the greatest value of a variable, as whole numbers, if there is one
abbrev pub least_of : DraftVar → Option ℤ
least_of v = kept_lower v.kind (whole_lower v.lower)

abbrev pub greatest_of : DraftVar → Option ℤ
greatest_of v = kept_upper v.kind (whole_upper v.upper)

-- the variable isn't whole
abbrev pub is_continuous : VarKind → Bool
is_continuous Continuous = true
is_continuous Integer = false
is_continuous Binary = false

-- the number is below 0
abbrev pub is_below_zero : Numeral → Bool
is_below_zero n = not (reaches_up n (pos 0))

-- the upper bound is below 0 and no lower bound is stated
abbrev pub lacks_lower : Option Numeral → Option Numeral → Bool
lacks_lower None (Some n) = is_below_zero n
lacks_lower None None = false
lacks_lower (Some l) u = false

-- the bound, if there is one, has a magnitude of at most 10^15
abbrev pub is_near : Option ℤ → Bool
is_near None = true
is_near (Some z) = nat_le (unsigned_abs z) farthest_bound

-- a whole bound has a greater magnitude
abbrev pub has_far_bound : DraftVar → Bool
has_far_bound v = not (is_near (whole_lower v.lower) && is_near (whole_upper v.upper))
