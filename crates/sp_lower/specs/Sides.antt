-- The sides of a row, in whole units of a power of ten.
use Rattle.std.specs.Prelude.{ℕ, ◌+◌, max, Bool, true, false, if◌then◌else◌, Option, None, Some, option_map, ℤ, pos, ◌+ℤ◌, ◌-ℤ◌, unsigned_abs}
use Rattle.std.specs.Int.{is_negative}
use Rattle.sp_decimal.specs.DecimalFraction.{DecimalFraction}
use Rattle.sp_decimal.specs.Numerals.{signed}
use Rattle.sp_decimal.specs.declared.numerals.Numeral.{Numeral}
use Rattle.sp_decimal.specs.declared.numerals.Numeral.TheVariants.{Exact, Huge}
use Rattle.sp_draft.specs.declared.drafts.Sense.{Sense}
use Rattle.sp_draft.specs.declared.drafts.Sense.TheVariants.{Less, Greater, Equal}
use Rattle.sp_draft.specs.declared.drafts.Sides.{Sides}
use Rattle.sp_draft.specs.declared.drafts.Sides.TheVariants.{Le, Ge, Eq, Between, Ranged}
use Rattle.sp_scaling.specs.Scaling.{greatest_width, units}
use Rattle.sp_lower.specs.Bounds.{is_endless_below, is_endless_above}

-- a lower side of -10^20 or less and an upper side of 10^20 or more aren't kept
abbrev pub kept_below : Numeral → Option Numeral
kept_below n = if is_endless_below n then None else Some n

abbrev pub kept_above : Numeral → Option Numeral
kept_above n = if is_endless_above n then None else Some n

-- the decimal places of a number; a huge one has none
abbrev pub places_of : Numeral → ℕ
places_of (Exact d) = d.s
places_of (Huge negative) = 0

abbrev pub kept_places : Option Numeral → ℕ
kept_places None = 0
kept_places (Some n) = places_of n

-- the most decimal places among the numbers that are kept, a range among them
abbrev pub side_places : Sides → ℕ
side_places (Le v) = kept_places (kept_above v)
side_places (Ge v) = kept_places (kept_below v)
side_places (Eq v) = places_of v
side_places (Between v w) = max (kept_places (kept_below v)) (kept_places (kept_above w))
side_places (Ranged sense rhs range) = max (places_of rhs) range.s

-- the number in units of 10^-places; a huge one counts as more than any width, whatever the unit
abbrev pub side_units : ℕ → Numeral → ℤ
side_units places (Exact d) = units places d
side_units places (Huge negative) = signed negative (greatest_width + 1)

-- a range goes down from the right-hand side: in a row of type L, and in one of type E where it is negative
abbrev pub goes_down : Sense → ℤ → Bool
goes_down Less range = true
goes_down Greater range = false
goes_down Equal range = is_negative range

-- how far it reaches below the right-hand side, and how far above it
abbrev pub reach_below : ℕ → Sense → DecimalFraction → ℕ
reach_below places sense range = if goes_down sense range.p then unsigned_abs (units places range) else 0

abbrev pub reach_above : ℕ → Sense → DecimalFraction → ℕ
reach_above places sense range = if goes_down sense range.p then 0 else unsigned_abs (units places range)

-- the least value that the sides leave, if there is one
abbrev pub lower_side : ℕ → Sides → Option ℤ
lower_side places (Le v) = None
lower_side places (Ge v) = option_map (side_units places) (kept_below v)
lower_side places (Eq v) = Some (side_units places v)
lower_side places (Between v w) = option_map (side_units places) (kept_below v)
lower_side places (Ranged sense rhs range) = Some (side_units places rhs -ℤ pos (reach_below places sense range))

-- the greatest value that they leave, if there is one
abbrev pub upper_side : ℕ → Sides → Option ℤ
upper_side places (Le v) = option_map (side_units places) (kept_above v)
upper_side places (Ge v) = None
upper_side places (Eq v) = Some (side_units places v)
upper_side places (Between v w) = option_map (side_units places) (kept_above w)
upper_side places (Ranged sense rhs range) = Some (side_units places rhs +ℤ pos (reach_above places sense range))
