-- The order in which reasons are looked for, and the first that holds.
use Rattle.std.specs.Prelude.{◌≡◌, ◌⊎◌, ℕ, ◌<◌}
use Rattle.sp_model.specs.declared.parts.ModelParts.{ModelParts}
use Rattle.sp_model.specs.Boxes.{Bounds}
use Rattle.sp_activity.specs.declared.reasons.Reason.{Reason}
use Rattle.sp_activity.specs.declared.reasons.Reason.TheVariants.{Empty, RowLow, RowHigh, IndicatorLow, IndicatorHigh, Sos as SetClash, Semi}
use Rattle.sp_activity.specs.Reasons.{Holds}

-- the kind of a reason, and its places
abbrev pub Key : Type 0
Key = ℕ × ℕ × ℕ × ℕ

-- ranges come first, then rows, indicators, sets and semi-integer variables; each by place, and low before high
abbrev pub key : Reason → Key
key (Empty j) = (0, j, 0, 0)
key (RowLow k) = (1, k, 0, 0)
key (RowHigh k) = (1, k, 1, 0)
key (IndicatorLow k) = (2, k, 0, 0)
key (IndicatorHigh k) = (2, k, 1, 0)
key (SetClash k p q) = (3, k, p, q)
key (Semi j) = (4, j, 0, 0)

-- by the first number that differs
abbrev pub IsLess : Key → Key → Type 0
IsLess a b =
    (a.0 < b.0) ⊎ ((a.0 ≡ b.0) × ((a.1 < b.1) ⊎ ((a.1 ≡ b.1) × ((a.2 < b.2) ⊎ ((a.2 ≡ b.2) × (a.3 < b.3))))))

-- the reason holds, and none before it does
pub record IsFirst (m : ModelParts) (b : Bounds) (r : Reason) : Type 0 where
  pub holds : Holds m b r
  pub before : (s : Reason) → IsLess (key s) (key r) → ¬ Holds m b s

-- no reason holds
pub record IsOpen (m : ModelParts) (b : Bounds) : Type 0 where
  pub each : (r : Reason) → ¬ Holds m b r
