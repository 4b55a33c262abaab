-- How the rounds are computed: for each place of a row what its later terms add, and a mark for each variable and row.
use Rattle.std.specs.Prelude.{◌≡◌, ℕ, ◌+◌, ◌-◌, ◌*◌, ◌<◌, ◌≤◌, ◌&&◌, Bool, false, cond, List, [], ◌∷◌, length, drop, fold, slice_index_or, Option, None, Some, is_none, ℤ, pos, neg_ℤ, ◌+ℤ◌, ◌-ℤ◌, ◌≤ℤ◌, int_le, unsigned_abs}
use Rattle.sp_model.specs.declared.parts.Row.{Row}
use Rattle.sp_model.specs.declared.tails.Tail.{Tail}
use Rattle.sp_model.specs.declared.tails.Tails.{Tails}
use Rattle.sp_model.specs.Limits.{greatest_width}
use Rattle.sp_model.specs.Rounds.{plus, at_ends, least_end, greatest_end}
use Rattle.sp_model.specs.Stated.{OpenRange, OpenBounds, open_at}
use Rattle.sp_model.specs.Sums.{Term}

-- a sum that goes on by a tail: none where it gets too great or too small on the way
abbrev pub joined : Option ℤ → Option Tail → Option ℤ
joined None tail = None
joined (Some s) None = None
joined (Some s) (Some t) =
    cond (int_le (s +ℤ t.high) (pos greatest_width) && int_le (neg_ℤ (pos greatest_width)) (s +ℤ t.low)) (Some (s +ℤ t.total)) None

-- a tail's sums lie from its lowest to its highest, which aren't farther apart than the sums that are allowed
pub record IsSpan (t : Tail) : Type 0 where
  pub low : t.low ≤ℤ pos 0
  pub high : pos 0 ≤ℤ t.high
  pub above : t.low ≤ℤ t.total
  pub below : t.total ≤ℤ t.high
  pub near : (t.high -ℤ t.low) ≤ℤ pos (2 * greatest_width)

abbrev pub IsSpanOrNone : Option Tail → Type 0
IsSpanOrNone None = Unit {0}
IsSpanOrNone (Some t) = IsSpan t

-- the tail says how any sum goes on by these addends
pub record IsTail (vs : List (Option ℤ)) (tail : Option Tail) : Type 0 where
  pub span : IsSpanOrNone tail
  pub goes_on : (s : ℤ) → unsigned_abs s ≤ greatest_width → fold plus (Some s) vs ≡ joined (Some s) tail

-- of some terms at their ends
pub record AreTailsOf (b : OpenBounds) (ts : List Term) (tails : Tails) : Type 0 where
  pub least : IsTail (at_ends least_end b ts) tails.least
  pub greatest : IsTail (at_ends greatest_end b ts) tails.greatest

abbrev pub no_tails : Tails
no_tails = record { least = None; greatest = None }

-- the tails at k are those of the last k terms
pub record AreTails (b : OpenBounds) (ts : List Term) (tails : List Tails) : Type 0 where
  pub long : length tails ≡ length ts
  pub each : (k : ℕ) → k < length ts → AreTailsOf b (drop (length ts - k) ts) (slice_index_or tails k no_tails)

-- the variables that are marked
abbrev pub marked : List Bool → ℕ → Bool
marked marks j = slice_index_or marks j false

-- how many terms lack a bound at their ends
abbrev pub missing : (ℤ → OpenRange → Option ℤ) → OpenBounds → List Term → ℕ
missing end b [] = 0
missing end b (t ∷ ts) = cond (is_none (end t.1 (open_at b t.0))) 1 0 + missing end b ts

-- what a side lacks: itself, which counts twice, or bounds
abbrev pub lack : Option ℤ → (ℤ → OpenRange → Option ℤ) → OpenBounds → List Term → ℕ
lack side end b ts = cond (is_none side) 2 0 + missing end b ts

-- how many terms lack the bounds at both ends
abbrev pub missing_both : (ℤ → OpenRange → Option ℤ) → (ℤ → OpenRange → Option ℤ) → OpenBounds → List Term → ℕ
missing_both need target b [] = 0
missing_both need target b (t ∷ ts) =
    cond (is_none (need t.1 (open_at b t.0)) && is_none (target t.1 (open_at b t.0))) 1 0 + missing_both need target b ts

-- a side closes nothing that lacks two things; or where no bound is missing that it could close; or where it lacks one thing
-- and no variable lacks both bounds
pub data IsSideIdle (lacks targets both : ℕ) : Type 0 where
  stuck : 2 ≤ lacks → IsSideIdle lacks targets both
  full : targets ≡ 0 → IsSideIdle lacks targets both
  blocked : 0 < lacks → both ≡ 0 → IsSideIdle lacks targets both

-- no rule can close a bound by the row
pub record IsIdle (b : OpenBounds) (row : Row) : Type 0 where
  pub hi : IsSideIdle (lack row.hi least_end b row.terms) (missing greatest_end b row.terms) (missing_both least_end greatest_end b row.terms)
  pub lo : IsSideIdle (lack row.lo greatest_end b row.terms) (missing least_end b row.terms) (missing_both least_end greatest_end b row.terms)
