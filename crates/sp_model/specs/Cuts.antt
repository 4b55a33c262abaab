-- The cut: how great the objective of a listed point may be.
use Rattle.std.specs.Prelude.{ℕ, ◌*◌, ◌/◌, ◌^◌, ◌%◌, ◌<◌, ◌≤◌, ◌≢◌, cond, ℤ, pos, ◌+ℤ◌, ◌-ℤ◌, ◌*ℤ◌, ◌≤ℤ◌, int_le, unsigned_abs}
use Rattle.sp_model.specs.declared.gaps.Gap.{Gap}
use Rattle.sp_model.specs.declared.gaps.Gap.TheVariants.{Unlimited, Of}
use Rattle.sp_model.specs.declared.gaps.Gaps.{Gaps}

-- the lesser of two numbers
abbrev pub least_of : ℤ → ℤ → ℤ
least_of a b = cond (int_le a b) a b

-- no cut is above this number
abbrev pub ceiling : ℤ
ceiling = pos (10 ^ 36)

-- the greatest whole number not above best + gap * base, for a gap of p / 10^s
abbrev pub cut_by : ℤ → Gap → ℕ → ℤ
cut_by best Unlimited base = ceiling
cut_by best (Of p s) base = best +ℤ pos (p * base / 10 ^ s)

-- the least of the cut by the absolute gap, the cut by the relative gap and the ceiling
abbrev pub cut_of : ℤ → Gaps → ℕ → ℤ
cut_of best gaps scale = least_of (least_of (cut_by best gaps.abs (10 ^ scale)) (cut_by best gaps.rel (unsigned_abs best))) ceiling

-- the last digit behind the point isn't 0, where a digit stands there
abbrev pub IsLeastScale : ℕ → ℕ → Type 0
IsLeastScale p s = 0 < s → p % 10 ≢ 0

-- a gap has at most twelve digits, at most twelve of them behind the point, and no 0 at the end there
abbrev pub IsGap : Gap → Type 0
IsGap Unlimited = Unit {0}
IsGap (Of p s) = (p < 10 ^ 12) × (s ≤ 12) × IsLeastScale p s

-- z is above best by at most the gap p / 10^s, as a multiple of base
abbrev pub IsWithinGap : ℤ → Gap → ℕ → ℤ → Type 0
IsWithinGap best Unlimited base z = Unit {0}
IsWithinGap best (Of p s) base z = ((z -ℤ best) *ℤ pos (10 ^ s)) ≤ℤ pos (p * base)

-- z is above best by at most the absolute gap, in units of the objective, and at most the relative gap, as a multiple of
-- the magnitude of best; and z isn't above the ceiling
pub record IsWithinGaps (best : ℤ) (gaps : Gaps) (scale : ℕ) (z : ℤ) : Type 0 where
  pub abs : IsWithinGap best gaps.abs (10 ^ scale) z
  pub rel : IsWithinGap best gaps.rel (unsigned_abs best) z
  pub small : z ≤ℤ ceiling
