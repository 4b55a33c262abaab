-- Places where a split closes one side.
use Rattle.std.specs.Prelude.{ℕ, Bool, true, false, ℤ}
use Rattle.sp_model.specs.declared.parts.ModelParts.{ModelParts}
use Rattle.sp_model.specs.Boxes.{Bounds, CanSplit, above, below}
use Rattle.sp_activity.specs.declared.reasons.Reason.{Reason}
use Rattle.sp_activity.specs.declared.sides.Side.{Side}
use Rattle.sp_activity.specs.declared.sides.Side.TheVariants.{Left, Right}
use Rattle.sp_activity.specs.Order.{IsOpen}
use Rattle.sp_activity.specs.Reasons.{Holds}

-- the box on a side of a split
abbrev pub side_of : Bounds → ℕ → ℤ → Side → Bounds
side_of b v at Left = below b v at
side_of b v at Right = above b v at

-- the box has a reason
pub record HasReason (m : ModelParts) (b : Bounds) : Type 0 where
  pub reason : Reason
  pub holds : Holds m b reason

-- the variable can be split there, and the box on that side has a reason
pub record IsTight (m : ModelParts) (b : Bounds) (v : ℕ) (at : ℤ) (side : Side) : Type 0 where
  pub split : CanSplit b v at
  pub closed : HasReason m (side_of b v at side)

-- the variable has no such place
pub record IsLooseAt (m : ModelParts) (b : Bounds) (v : ℕ) : Type 0 where
  pub none : (at : ℤ) (side : Side) → ¬ IsTight m b v at side

-- no variable has one
pub record NothingTight (m : ModelParts) (b : Bounds) : Type 0 where
  pub none : (v : ℕ) (at : ℤ) (side : Side) → ¬ IsTight m b v at side

-- the answer says whether the box has a reason
abbrev pub IsClosedPart : ModelParts → Bounds → Bool → Type 0
IsClosedPart m b true = HasReason m b
IsClosedPart m b false = IsOpen m b
