-- What a step does with an open leaf.
use Rattle.std.specs.Prelude.{◌≡◌, ℕ, ◌+◌, ◌<◌, ◌≤◌, All, Option, Some, List, length, true, false, ℤ, ◌≤ℤ◌}
use Rattle.sp_model.specs.declared.parts.ModelParts.{ModelParts}
use Rattle.sp_model.specs.Boxes.{Bounds, CanSplit, point_count}
use Rattle.sp_list.specs.declared.found.Found.{Found}
use Rattle.sp_activity.specs.Order.{IsOpen as IsUnreasoned}
use Rattle.sp_activity.specs.Reasons.{Holds}
use Rattle.sp_dual.specs.Lists.{IsWellFormed, MultiplierList}
use Rattle.sp_bound.specs.StatedLists.{stated_lists}
use Rattle.sp_filter.specs.declared.kinds.Filter.{Filter}
use Rattle.sp_filter.specs.Held.{Closes, FilterList, Passes, filter_of}
use Rattle.sp_tree.specs.declared.nodes.Kind.{Kind}
use Rattle.sp_tree.specs.declared.nodes.Kind.TheVariants.{Split as SplitKind, Open, Dead, Bounded, Screened, Point}
use Rattle.sp_tree.specs.Splits.{box_at}
use Rattle.sp_tree.specs.Tables.{list_at}
use Rattle.sp_tree.specs.Trees.{SplitsNode}
use Rattle.sp_cover.specs.Numbers.{number_of}
use Rattle.sp_cover.specs.Cover.{IsBoundOf, SearchOf}
use Rattle.sp_cover.specs.Moves.{FitsAim, IsBetter, IsPast, MayFind, closed_as, found_as, moved_to, settled}
use Rattle.sp_cover.specs.declared.aims.Aim.{Aim}
use Rattle.sp_cover.specs.declared.aims.Aim.TheVariants.{Improve as ToImprove, Collect as ToCollect}
use Rattle.sp_search.specs.States.{AreFit, StateOf}
use Rattle.sp_search.specs.declared.goals.Goal.{Goal}
use Rattle.sp_search.specs.declared.goals.Goal.TheVariants.{Improve, Collect}
use Rattle.sp_search.specs.declared.goals.Stepped.{Stepped}
use Rattle.sp_search.specs.declared.goals.Stepped.TheVariants.{Split, Closed, Found as FoundPoint, Full}

-- ---- goals

abbrev pub aim_of : Goal → Aim
aim_of Improve = ToImprove
aim_of (Collect cut filters) = ToCollect cut

-- each filter of the goal is one for the model
abbrev pub IsFitFor : ModelParts → Goal → Type 0
IsFitFor m Improve = Unit {0}
IsFitFor m (Collect cut filters) = AreFit m filters.now

-- collecting comes after phase one, with a cut that isn't below the best and filters for the model; improving asks for nothing
pub record FitsGoal (goal : Goal) (s : StateOf) : Type 0 where
  pub phase : FitsAim (aim_of goal) s.search
  pub filters : IsFitFor s.model goal

-- the filters that the goal speaks of: any, where it speaks of none
abbrev pub AreGoalFilters : Goal → FilterList → Type 0
AreGoalFilters Improve fs = Unit {0}
AreGoalFilters (Collect cut filters) fs = fs ≡ filters.now

-- ---- what closes a box

-- the list at this place of a table closes it
pub record IsPastList (m : ModelParts) (lists : List MultiplierList) (aim : Aim) (best : Option ℤ) (b : Bounds) (by : ℕ) (least : ℤ) : Type 0 where
  pub known : by < length lists
  pub formed : IsWellFormed (list_at lists by)
  pub number : number_of m b (list_at lists by) ≡ Some least
  pub past : IsPast aim best least

-- no stated list of the model does
pub record IsUnlisted (m : ModelParts) (aim : Aim) (best : Option ℤ) (b : Bounds) : Type 0 where
  pub none : All (λ list. (v : ℤ) → number_of m b list ≡ Some v → ¬ IsPast aim best v) (stated_lists m)

-- no held filter does
pub record IsUnscreened (fs : FilterList) (b : Bounds) : Type 0 where
  pub none : All (λ h. Closes h.filter b false) fs.held

-- no held filter does, where the goal looks at filters
abbrev pub IsUnscreenedFor : Goal → Bounds → Type 0
IsUnscreenedFor Improve b = Unit {0}
IsUnscreenedFor (Collect cut filters) b = IsUnscreened filters.now b

-- nothing closes the box under the goal: no reason, no stated list, no held filter
pub record IsUnclosed (m : ModelParts) (s : SearchOf) (goal : Goal) (b : Bounds) : Type 0 where
  pub unreasoned : IsUnreasoned m b
  pub unlisted : IsUnlisted m (aim_of goal) s.best b
  pub unscreened : IsUnscreenedFor goal b

-- the held filter of this id closes the box
pub record IsScreenOf (fs : FilterList) (b : Bounds) (f : ℕ) : Type 0 where
  pub used : f < fs.next
  pub filter : Filter
  pub held : filter_of fs.held f ≡ Some filter
  pub closes : Closes filter b true

-- and the goal looks at filters
abbrev pub IsScreenFor : Goal → Bounds → ℕ → Type 0
IsScreenFor Improve b f = ⊥
IsScreenFor (Collect cut filters) b f = IsScreenOf filters.now b f

-- what may close the box under the goal: a reason that holds, a bound by a list of the table that is past, a held filter
abbrev pub ClosesAs : ModelParts → SearchOf → Goal → Bounds → Kind → Type 0
ClosesAs m s goal b (SplitKind var at left right) = ⊥
ClosesAs m s goal b Open = ⊥
ClosesAs m s goal b (Dead reason) = Holds m b reason
ClosesAs m s goal b (Bounded bound) = IsBoundOf m s.tree.lists b bound × IsPast (aim_of goal) s.best bound.least
ClosesAs m s goal b (Screened f) = IsScreenFor goal b f
ClosesAs m s goal b (Point serial) = ⊥

-- ---- what a step did

-- the point that is wanted: better than all before it, or within the cut and passed by each filter
abbrev pub IsWanted : Goal → Option ℤ → Found → Type 0
IsWanted Improve best f = IsBetter best f.value
IsWanted (Collect cut filters) best f = (f.value ≤ℤ cut) × Passes filters.now.held f.point

-- the leaf is split at a lawful place, nothing closed it, and there was room for two more nodes
pub record IsSplitStep (m : ModelParts) (old new : SearchOf) (goal : Goal) (node limit : ℕ) : Type 0 where
  pub unclosed : IsUnclosed m old goal (box_at old.tree.boxes node)
  pub room : length old.tree.nodes + 2 ≤ limit
  pub var : ℕ
  pub at : ℤ
  pub left : ℕ
  pub right : ℕ
  pub lawful : CanSplit (box_at old.tree.boxes node) var at
  pub splits : SplitsNode old.tree new.tree node var at left right
  pub rest : new ≡ settled (moved_to old new.tree) new.proved

-- the leaf is closed by what may close it
pub record IsClosedStep (m : ModelParts) (old new : SearchOf) (goal : Goal) (node : ℕ) : Type 0 where
  pub kind : Kind
  pub closes : ClosesAs m old goal (box_at old.tree.boxes node) kind
  pub closed : new ≡ settled (closed_as old node kind) new.proved

-- its one point was found, a wanted one, under the next serial
pub record IsFoundStep (m : ModelParts) (old new : SearchOf) (goal : Goal) (node serial : ℕ) : Type 0 where
  pub point : Found
  pub may : MayFind m old (box_at old.tree.boxes node) point
  pub wanted : IsWanted goal old.best point
  pub next : serial ≡ length old.found + 1
  pub found : new ≡ settled (found_as old node point) new.proved

-- the cause of a full tree
pub record IsFull (m : ModelParts) (s : SearchOf) (goal : Goal) (node limit : ℕ) : Type 0 where
  pub no_room : limit < length s.tree.nodes + 2
  pub many : 2 ≤ point_count (box_at s.tree.boxes node)
  pub unclosed : IsUnclosed m s goal (box_at s.tree.boxes node)

-- each answer with what was done
abbrev pub Steps : ModelParts → SearchOf → SearchOf → Goal → ℕ → ℕ → Stepped → Type 0
Steps m old new goal node limit Split = IsSplitStep m old new goal node limit
Steps m old new goal node limit Closed = IsClosedStep m old new goal node
Steps m old new goal node limit (FoundPoint serial) = IsFoundStep m old new goal node serial
Steps m old new goal node limit Full = IsFull m old goal node limit × (new ≡ old)
