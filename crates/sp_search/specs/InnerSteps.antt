-- What private functions of a step say.
use Rattle.std.specs.Prelude.{◌≡◌, ◌⊎◌, ℕ, ◌<◌, ◌≤◌, true, Option, Some, List, Result, Ok, Err, length, ℤ}
use Rattle.sp_model.specs.declared.no_memory.NoMemory.{NoMemory}
use Rattle.sp_model.specs.declared.parts.ModelParts.{ModelParts}
use Rattle.sp_model.specs.Boxes.{Bounds, range_at}
use Rattle.sp_model.specs.Models.{Feasible, objective, root_of}
use Rattle.sp_model.specs.Rules.{IsLawful}
use Rattle.sp_list.specs.declared.found.Found.{Found}
use Rattle.sp_sums.specs.Ranges.{IsPointBox}
use Rattle.sp_activity.specs.Within.{IsUnder}
use Rattle.sp_tree.specs.Laws.{Extends}
use Rattle.sp_dual.specs.Lists.{MultiplierList}
use Rattle.sp_tree.specs.declared.nodes.Bound.{Bound}
use Rattle.sp_tree.specs.Splits.{box_at}
use Rattle.sp_tree.specs.Tables.{list_at}
use Rattle.sp_cover.specs.Numbers.{number_of}
use Rattle.sp_cover.specs.Cover.{IsEnded, IsOpenAt, IsSearch, IsShut, SearchOf}
use Rattle.sp_cover.specs.Moves.{FitsAim, IsPast}
use Rattle.sp_cover.specs.declared.aims.Aim.{Aim}
use Rattle.sp_search.specs.States.{AreStated}
use Rattle.sp_search.specs.Steps.{IsFitFor, Steps, aim_of}
use Rattle.sp_search.specs.declared.goals.Goal.{Goal}
use Rattle.sp_search.specs.declared.goals.Stepped.{Stepped}

-- the box in hand is that of an open leaf of a search of the model, and the goal fits the search
pub record IsReady (m : ModelParts) (s : SearchOf) (stated : ℕ) (b : Bounds) (node : ℕ) (goal : Goal) : Type 0 where
  pub lawful : IsLawful m
  pub search : IsSearch m s
  pub lists : AreStated m s stated
  pub table : stated ≤ length s.tree.lists
  pub leaf : IsOpenAt s.tree.nodes node
  pub in_hand : b ≡ box_at s.tree.boxes node
  pub under : IsUnder (root_of m) b
  pub fits : FitsAim (aim_of goal) s
  pub filters : IsFitFor m goal

-- the list's number over the box, if it gives one, isn't past the aim
pub record IsNotPast (m : ModelParts) (list : MultiplierList) (aim : Aim) (best : Option ℤ) (b : Bounds) : Type 0 where
  pub none : (v : ℤ) → number_of m b list ≡ Some v → ¬ IsPast aim best v

-- the number there is, and that it is past the aim
abbrev pub IsPastNumber : Option ℤ → Aim → Option ℤ → ℕ → Bound → Type 0
IsPastNumber number aim best place bound = (number ≡ Some bound.least) × IsPast aim best bound.least × (bound.by ≡ place)

-- none of the first so many lists of a table closes the box
pub record IsUnlistedBefore (m : ModelParts) (lists : List MultiplierList) (count : ℕ) (aim : Aim) (best : Option ℤ) (b : Bounds) : Type 0 where
  pub each : (k : ℕ) → k < count → IsNotPast m (list_at lists k) aim best b

-- each range holds one number at most
pub record AreSingle (b : Bounds) : Type 0 where
  pub each : (j : ℕ) → j < length b → (range_at b j).0 ≡ (range_at b j).1

-- the point is the only one of the box, feasible, with its objective
pub record IsOnly (m : ModelParts) (b : Bounds) (f : Found) : Type 0 where
  pub alone : IsPointBox b f.point
  pub feasible : Feasible m f.point
  pub value : objective m f.point ≡ f.value

-- what was done is what the answer says, the search goes on, and what was there lasts
pub record IsStep (m : ModelParts) (old new : SearchOf) (goal : Goal) (node limit : ℕ) (stepped : Stepped) : Type 0 where
  pub steps : Steps m old new goal node limit stepped
  pub search : IsSearch m new
  pub extends : Extends old.tree new.tree
  pub phase : new.proved ≡ old.proved

abbrev pub IsDone : ModelParts → SearchOf → SearchOf → Goal → ℕ → ℕ → Result Stepped NoMemory → Type 0
IsDone m old new goal node limit (Ok stepped) = IsStep m old new goal node limit stepped
IsDone m old new goal node limit (Err e) = new ≡ old

-- the same after phase one has ended where no leaf is open
pub record IsWhole (m : ModelParts) (old new : SearchOf) (stated : ℕ) (goal : Goal) (node limit : ℕ) (stepped : Stepped) : Type 0 where
  pub steps : Steps m old new goal node limit stepped
  pub search : IsSearch m new
  pub ended : IsEnded new
  pub phase : new.proved ≡ true → (old.proved ≡ true) ⊎ IsShut new.tree.nodes
  pub extends : Extends old.tree new.tree
  pub lists : AreStated m new stated

abbrev pub IsWorked : ModelParts → SearchOf → SearchOf → ℕ → Goal → ℕ → ℕ → Result Stepped NoMemory → Type 0
IsWorked m old new stated goal node limit (Ok stepped) = IsWhole m old new stated goal node limit stepped
IsWorked m old new stated goal node limit (Err e) = new ≡ old
