-- The values of options: gaps and limits.
use Rattle.std.specs.Prelude.{ℕ, ◌+◌, ◌-◌, ◌*◌, ◌^◌, Bool, not, ◌&&◌, ◌==◌, nat_le, if◌then◌else◌, List, length, fold}
use Rattle.std.specs.Prelude.{Option, Some, None, Result, Ok, Err, pos, int_le, unsigned_abs}
use Rattle.std.specs.List.{list_all}
use Rattle.sp_decimal.specs.DecimalFraction.{DecimalFraction}
use Rattle.sp_decimal.specs.Numerals.{numeral}
use Rattle.sp_decimal.specs.Rounding.{floor_of}
use Rattle.sp_decimal.specs.declared.numerals.Numeral.{Numeral}
use Rattle.sp_decimal.specs.declared.numerals.Numeral.TheVariants.{Exact, Huge}
use Rattle.sp_decimal.specs.declared.numerals.NumeralFault.{NumeralFault}
use Rattle.sp_model.specs.declared.gaps.Gap.{Gap}
use Rattle.sp_model.specs.declared.gaps.Gap.TheVariants.{Of, Unlimited}

-- ---- gaps

-- at least 10^20
abbrev pub is_endless : DecimalFraction → Bool
is_endless d = int_le (pos (10 ^ 20)) (floor_of d)

-- at most twelve digits, at most twelve of them behind the point
abbrev pub is_short : DecimalFraction → Bool
is_short d = int_le d.p (pos (10 ^ 12 - 1)) && nat_le d.s 12

-- a gap isn't negative; from 10^20 on it is unlimited, and below that it is short
abbrev pub gap_for : Numeral → Option Gap
gap_for (Exact d) = if not (int_le (pos 0) d.p) then None else (
    if is_endless d then Some Unlimited else (if is_short d then Some (Of (unsigned_abs d.p) d.s) else None))
gap_for (Huge negative) = if negative then None else Some Unlimited

abbrev pub gap_from : Result Numeral NumeralFault → Option Gap
gap_from (Ok n) = gap_for n
gap_from (Err fault) = None

-- the gap that a text writes
unfoldable pub gap_of : List ℕ → Option Gap
gap_of text = gap_from (numeral text)

-- ---- limits

abbrev pub is_digit : ℕ → Bool
is_digit b = nat_le 48 b && nat_le b 57

-- the number that digits write
abbrev pub number_of : List ℕ → ℕ
number_of text = fold (λ n b. n * 10 + (b - 48)) 0 text

-- digits alone, at least one
abbrev pub is_whole : List ℕ → Bool
is_whole text = not (length text == 0) && list_all is_digit text

-- the most nodes that a tree may have
abbrev pub most_nodes : ℕ
most_nodes = 200000

-- the limit that a text writes: a whole number from 1 on
unfoldable pub nodes_of : List ℕ → Option ℕ
nodes_of text = if is_whole text && (nat_le 1 (number_of text) && nat_le (number_of text) most_nodes)
    then Some (number_of text) else None
