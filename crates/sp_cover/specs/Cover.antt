-- The cover: what a search keeps of its tree and of the points that it found.
use Rattle.std.specs.Prelude.{◌≡◌, ◌≢◌, ℕ, ◌-◌, ◌<◌, ◌≤◌, Bool, true, false, ◌==◌, Option, None, Some, IfSome, List, [], length, slice_index_or, count_by, AllPairs, ℤ, pos, ◌≤ℤ◌, ◌<ℤ◌}
use Rattle.sp_model.specs.declared.parts.ModelParts.{ModelParts}
use Rattle.sp_model.specs.Boxes.{Bounds, IsWithin, point_count}
use Rattle.sp_model.specs.Models.{Feasible, IsOptimum, objective, root_of}
use Rattle.sp_list.specs.declared.found.Found.{Found}
use Rattle.sp_activity.specs.Order.{IsOpen as IsUnreasoned}
use Rattle.sp_activity.specs.Reasons.{Holds}
use Rattle.sp_dual.specs.Lists.{IsWellFormed, MultiplierList}
use Rattle.sp_filter.specs.Held.{Closes, FilterList, filter_of}
use Rattle.sp_tree.specs.declared.nodes.Bound.{Bound}
use Rattle.sp_tree.specs.declared.nodes.Node.{Node}
use Rattle.sp_tree.specs.declared.nodes.Kind.{Kind}
use Rattle.sp_tree.specs.declared.nodes.Kind.TheVariants.{Split, Open, Dead, Bounded, Screened, Point}
use Rattle.sp_tree.specs.Splits.{box_at}
use Rattle.sp_tree.specs.Tables.{list_at}
use Rattle.sp_tree.specs.Trees.{TreeOf, node_at, IsGrown}
use Rattle.sp_tree.specs.Laws.{HasMark}
use Rattle.sp_cover.specs.Numbers.{number_of}

-- what a search is: its tree, what it found in order, whether phase one has ended, and the least value that it found
pub record SearchOf : Type 0 where
  pub tree : TreeOf
  pub found : List Found
  pub proved : Bool
  pub best : Option ℤ

abbrev pub no_found : Found
no_found = record { point = []; value = pos 0 }

-- the found point of a serial, which counts from 1
abbrev pub found_of : List Found → ℕ → Found
found_of found serial = slice_index_or found (serial - 1) no_found

-- ---- what a node says of its box

-- the found point of that serial is the one point of the box, it is feasible, and its objective stands beside it
pub record IsFound (m : ModelParts) (found : List Found) (b : Bounds) (serial : ℕ) : Type 0 where
  pub from : 0 < serial
  pub known : serial ≤ length found
  pub one : point_count b ≡ 1
  pub held : IsWithin b (found_of found serial).point
  pub feasible : Feasible m (found_of found serial).point
  pub value : objective m (found_of found serial).point ≡ (found_of found serial).value

-- the bound names a list of the table that keeps the rules of lists, and is the number that this list gives over the box
pub record IsBoundOf (m : ModelParts) (lists : List MultiplierList) (b : Bounds) (bound : Bound) : Type 0 where
  pub known : bound.by < length lists
  pub formed : IsWellFormed (list_at lists bound.by)
  pub number : number_of m b (list_at lists bound.by) ≡ Some bound.least

-- what a node of each kind says, filters aside: a split box has no reason
abbrev pub Claim : ModelParts → List MultiplierList → List Found → Bounds → Kind → Type 0
Claim m lists found b (Split var at left right) = IsUnreasoned m b
Claim m lists found b Open = Unit {0}
Claim m lists found b (Dead reason) = Holds m b reason
Claim m lists found b (Bounded bound) = IsBoundOf m lists b bound
Claim m lists found b (Screened f) = Unit {0}
Claim m lists found b (Point serial) = IsFound m found b serial

-- ---- phase one

-- a value was found, and it is at most v
abbrev pub IsBestWithin : Option ℤ → ℤ → Type 0
IsBestWithin None v = ⊥
IsBestWithin (Some best) v = best ≤ℤ v

-- no leaf is screened, and where one is bounded, a value was found that isn't above its bound
abbrev pub IsEarlyKind : Option ℤ → Kind → Type 0
IsEarlyKind best (Split var at left right) = Unit {0}
IsEarlyKind best Open = Unit {0}
IsEarlyKind best (Dead reason) = Unit {0}
IsEarlyKind best (Bounded bound) = IsBestWithin best bound.least
IsEarlyKind best (Screened f) = ⊥
IsEarlyKind best (Point serial) = Unit {0}

pub record IsEarly (best : Option ℤ) (n : Node) : Type 0 where
  pub unmarked : n.mark ≡ None
  pub kind : IsEarlyKind best n.kind

-- ---- after phase one, where the best is the optimum

-- where no point is feasible, every leaf is dead
abbrev pub IsLateKind : Option ℤ → Kind → Type 0
IsLateKind best (Split var at left right) = Unit {0}
IsLateKind best Open = best ≢ None
IsLateKind best (Dead reason) = Unit {0}
IsLateKind best (Bounded bound) = IsBestWithin best bound.least
IsLateKind best (Screened f) = best ≢ None
IsLateKind best (Point serial) = best ≢ None

-- the bound of a mark isn't below the optimum
pub record IsLate (best : Option ℤ) (n : Node) : Type 0 where
  pub mark : IfSome n.mark (λ bound. IsBestWithin best bound.least)
  pub kind : IsLateKind best n.kind

-- ---- each node

-- its claim, its mark, and what it is in each phase
pub record NodeFits (m : ModelParts) (lists : List MultiplierList) (found : List Found) (proved : Bool) (best : Option ℤ) (b : Bounds) (n : Node) : Type 0 where
  pub claim : Claim m lists found b n.kind
  pub mark : IfSome n.mark (IsBoundOf m lists b)
  pub early : proved ≡ false → IsEarly best n
  pub late : proved ≡ true → IsLate best n

-- ---- the whole

abbrev pub is_point_of : ℕ → Kind → Bool
is_point_of serial (Split var at left right) = false
is_point_of serial Open = false
is_point_of serial (Dead reason) = false
is_point_of serial (Bounded bound) = false
is_point_of serial (Screened f) = false
is_point_of serial (Point s) = s == serial

-- the node is the point leaf of a serial
abbrev pub is_point : ℕ → Node → Bool
is_point serial n = is_point_of serial n.kind

abbrev pub is_any_point_of : Kind → Bool
is_any_point_of (Split var at left right) = false
is_any_point_of Open = false
is_any_point_of (Dead reason) = false
is_any_point_of (Bounded bound) = false
is_any_point_of (Screened f) = false
is_any_point_of (Point s) = true

-- the node is a point leaf
abbrev pub is_any_point : Node → Bool
is_any_point n = is_any_point_of n.kind

-- the value was found, and none below it
pub record IsLeastFound (found : List Found) (v : ℤ) : Type 0 where
  pub reached : (k : ℕ) × (k < length found) × ((slice_index_or found k no_found).value ≡ v)
  pub least : (k : ℕ) → k < length found → v ≤ℤ (slice_index_or found k no_found).value

-- the least value that was found, none where no point was
abbrev pub IsBest : List Found → Option ℤ → Type 0
IsBest found None = found ≡ []
IsBest found (Some v) = IsLeastFound found v

-- an open leaf, and a screened one, which can be opened without a bound of its own
abbrev pub needs_mark : Kind → Bool
needs_mark (Split var at left right) = false
needs_mark Open = true
needs_mark (Dead reason) = false
needs_mark (Bounded bound) = false
needs_mark (Screened f) = true
needs_mark (Point s) = false

-- an open leaf
pub record IsOpenAt (nodes : List Node) (i : ℕ) : Type 0 where
  pub known : i < length nodes
  pub open_is : (node_at nodes i).kind ≡ Open

-- no leaf is open
abbrev pub IsShut : List Node → Type 0
IsShut nodes = (i : ℕ) → ¬ IsOpenAt nodes i

-- the cover, but for what it says of filters and of the end of phase one
pub record IsSearch (m : ModelParts) (s : SearchOf) : Type 0 where
  -- the leaves' boxes divide the model's closed box, and only that can be empty
  pub grown : IsGrown s.tree
  pub root : box_at s.tree.boxes 0 ≡ root_of m
  -- each node's claim, its mark, and what it is in each phase
  pub nodes : (i : ℕ) → i < length s.tree.nodes → NodeFits m s.tree.lists s.found s.proved s.best (box_at s.tree.boxes i) (node_at s.tree.nodes i)
  -- each found point stands in one point leaf, and there are as many of these
  pub placed : (serial : ℕ) → 0 < serial → serial ≤ length s.found → count_by (is_point serial) s.tree.nodes ≡ 1
  pub matched : count_by is_any_point s.tree.nodes ≡ length s.found
  pub best : IsBest s.found s.best
  -- in phase one values fall; after it the best is the optimum, and each leaf that may be opened has a mark on its path
  pub falling : s.proved ≡ false → AllPairs (λ f g. g.value <ℤ f.value) s.found
  pub optimal : s.proved ≡ true → IsOptimum m s.best
  pub marked : s.proved ≡ true → (i : ℕ) → i < length s.tree.nodes → needs_mark (node_at s.tree.nodes i).kind ≡ true → HasMark s.tree.nodes i

-- the filter of this id closes the box where it is held, and its id was given out
pub record IsScreen (fs : FilterList) (b : Bounds) (f : ℕ) : Type 0 where
  pub used : f < fs.next
  pub closes : IfSome (filter_of fs.held f) (λ filter. Closes filter b true)

abbrev pub IfScreened : FilterList → Bounds → Kind → Type 0
IfScreened fs b (Split var at left right) = Unit {0}
IfScreened fs b Open = Unit {0}
IfScreened fs b (Dead reason) = Unit {0}
IfScreened fs b (Bounded bound) = Unit {0}
IfScreened fs b (Screened f) = IsScreen fs b f
IfScreened fs b (Point serial) = Unit {0}

-- each screened leaf is closed by its filter
pub record AreScreened (fs : FilterList) (t : TreeOf) : Type 0 where
  pub each : (i : ℕ) → i < length t.nodes → IfScreened fs (box_at t.boxes i) (node_at t.nodes i).kind

-- where no leaf is open, phase one has ended
pub record IsEnded (s : SearchOf) : Type 0 where
  pub proved : IsShut s.tree.nodes → s.proved ≡ true

-- the cover of a search of a model, with the filters that are held
pub record IsCover (m : ModelParts) (fs : FilterList) (s : SearchOf) : Type 0 where
  pub search : IsSearch m s
  pub screened : AreScreened fs s.tree
  pub ended : IsEnded s
