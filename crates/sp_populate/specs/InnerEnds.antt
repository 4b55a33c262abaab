-- What private functions of a run that collects say.
use Rattle.std.specs.Prelude.{◌≡◌, ℕ, ◌+◌, ◌<◌, ◌≤◌, ◌^◌, ◌⊎◌, Bool, IsTrue, List, ◌++◌, length, All, ℤ, ◌<ℤ◌}
use Rattle.sp_list.specs.declared.found.Found.{Found}
use Rattle.sp_filter.specs.Held.{FilterList}
use Rattle.sp_tree.specs.Laws.{Extends}
use Rattle.sp_tree.specs.declared.nodes.Node.{Node}
use Rattle.sp_tree.specs.declared.nodes.Kind.{Kind}
use Rattle.sp_tree.specs.declared.nodes.Kind.TheVariants.{Split, Open, Dead, Bounded, Screened, Point}
use Rattle.sp_cover.specs.Cover.{IsOpenAt, IsShut}
use Rattle.sp_search.specs.States.{StateOf, with_search}
use Rattle.sp_search.specs.Runs.{IsStuck}
use Rattle.sp_search.specs.declared.goals.Stepped.{Stepped}
use Rattle.sp_search.specs.declared.goals.Stepped.TheVariants.{Split as SplitStep, Closed, Found as FoundPoint, Full}
use Rattle.sp_populate.specs.Ends.{IsWithinBoth, collecting}
use Rattle.sp_populate.specs.declared.populating.PopEnd.{PopEnd}
use Rattle.sp_populate.specs.declared.populating.PopEnd.TheVariants.{Done, NodeLimit, PopulateLimit}

-- a node that is open, split or licensed
abbrev pub IsSettledKind : ℤ → (ℕ → Bool) → Kind → Type 0
IsSettledKind cut held (Split var at left right) = Unit {0}
IsSettledKind cut held Open = Unit {0}
IsSettledKind cut held (Dead reason) = Unit {0}
IsSettledKind cut held (Bounded bound) = cut <ℤ bound.least
IsSettledKind cut held (Screened f) = IsTrue (held f)
IsSettledKind cut held (Point serial) = Unit {0}

-- each leaf is open or licensed
abbrev pub AreSettled : ℤ → (ℕ → Bool) → List Node → Type 0
AreSettled cut held nodes = All (λ n. IsSettledKind cut held n.kind) nodes

-- how many points a step found
abbrev pub found_by : Stepped → ℕ
found_by SplitStep = 0
found_by Closed = 0
found_by (FoundPoint serial) = 1
found_by Full = 0

-- so many points were found, and a leaf of a tree of less than 2^32 nodes is open
pub record IsCollectFull (old new : StateOf) (limit : ℕ) : Type 0 where
  pub found : length new.search.found ≡ length old.search.found + limit
  pub node : ℕ
  pub leaf : IsOpenAt new.search.tree.nodes node
  pub small : length new.search.tree.nodes < 2 ^ 32

-- a leaf is left that nothing closes, before so many points were found
pub record IsCollectStuck (old new : StateOf) (cut : ℤ) (fs : FilterList) (node_limit found_limit : ℕ) : Type 0 where
  pub stuck : IsStuck new (collecting cut fs) node_limit
  pub fewer : length new.search.found < length old.search.found + found_limit

-- how the loop ends
abbrev pub CollectEnds : StateOf → StateOf → ℤ → FilterList → ℕ → ℕ → PopEnd → Type 0
CollectEnds old new cut fs node_limit found_limit Done = IsShut new.search.tree.nodes
CollectEnds old new cut fs node_limit found_limit NodeLimit = IsCollectStuck old new cut fs node_limit found_limit
CollectEnds old new cut fs node_limit found_limit PopulateLimit = IsCollectFull old new found_limit

-- what a run of collecting steps leaves: the model, the phase and the best stay, what was in the tree lasts, the tree grows to
-- the limit at most, and each new point is one to list
pub record IsLater (old new : StateOf) (cut : ℤ) (fs : FilterList) (limit : ℕ) : Type 0 where
  pub rest : new ≡ with_search old new.search
  pub extends : Extends old.search.tree new.search.tree
  pub size : (length new.search.tree.nodes ≤ limit) ⊎ (length new.search.tree.nodes ≤ length old.search.tree.nodes)
  pub best : new.search.best ≡ old.search.best
  pub proved : new.search.proved ≡ old.search.proved
  pub more : List Found
  pub grows : new.search.found ≡ old.search.found ++ more
  pub wanted : All (IsWithinBoth cut fs) more
