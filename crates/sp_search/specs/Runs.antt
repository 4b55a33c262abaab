-- How a run to the proved optimum ends, and what it leaves.
use Rattle.std.specs.Prelude.{◌≡◌, ℕ, ◌-◌, ◌<◌, ◌≤◌, ◌⊎◌, true, false, AllPairs, None, Some, List, ◌++◌, length, slice_index_or, ℤ, ◌≤ℤ◌, ◌<ℤ◌}
use Rattle.sp_model.specs.Models.{IsLeast, IsOptimum}
use Rattle.sp_list.specs.declared.found.Found.{Found}
use Rattle.sp_tree.specs.declared.nodes.Node.{Node}
use Rattle.sp_tree.specs.declared.nodes.Kind.TheVariants.{Open}
use Rattle.sp_tree.specs.Laws.{Extends}
use Rattle.sp_tree.specs.Trees.{node_at}
use Rattle.sp_cover.specs.Cover.{IsOpenAt, no_found}
use Rattle.sp_search.specs.States.{StateOf, with_search}
use Rattle.sp_search.specs.Steps.{IsFull}
use Rattle.sp_search.specs.declared.goals.Goal.{Goal}
use Rattle.sp_search.specs.declared.goals.Goal.TheVariants.{Improve}
use Rattle.sp_search.specs.declared.optima.OptEnd.{OptEnd}
use Rattle.sp_search.specs.declared.optima.OptEnd.TheVariants.{Optimal, Infeasible, NodeLimit}

-- the serial is that of the first found point of least value
pub record IsFirstBest (found : List Found) (serial : ℕ) : Type 0 where
  pub from : 0 < serial
  pub known : serial ≤ length found
  pub least : (k : ℕ) → k < length found → (slice_index_or found (serial - 1) no_found).value ≤ℤ (slice_index_or found k no_found).value
  pub first : (k : ℕ) → k < serial - 1 → (slice_index_or found (serial - 1) no_found).value <ℤ (slice_index_or found k no_found).value

-- an open leaf remains that nothing closes and that has more than one point, and there is no room for two more nodes
pub record IsStuck (s : StateOf) (goal : Goal) (limit : ℕ) : Type 0 where
  pub node : ℕ
  pub leaf : IsOpenAt s.search.tree.nodes node
  pub full : IsFull s.model s.search goal node limit

-- the least value found is the optimum of the model
pub record HasOptimum (s : StateOf) : Type 0 where
  pub value : ℤ
  pub best : s.search.best ≡ Some value
  pub least : IsLeast s.model value

-- each answer with what holds then
abbrev pub Ends : StateOf → ℕ → OptEnd → Type 0
Ends s limit Optimal = (s.search.proved ≡ true) × HasOptimum s
Ends s limit Infeasible = (s.search.proved ≡ true) × IsOptimum s.model None
Ends s limit NodeLimit = (s.search.proved ≡ false) × IsStuck s Improve limit

-- the found points were found before, or come after them, and in phase one values fall
pub record IsFoundLater (old new : List Found) : Type 0 where
  pub more : List Found
  pub grows : new ≡ old ++ more
  pub falls : AllPairs (λ f g. g.value <ℤ f.value) old → AllPairs (λ f g. g.value <ℤ f.value) new

-- what a run of improving steps leaves: the model stays, what was in the tree lasts, the tree grows to the limit at most, and
-- each new point is better than all before it
pub record IsRun (old new : StateOf) (limit : ℕ) : Type 0 where
  pub rest : new ≡ with_search old new.search
  pub extends : Extends old.search.tree new.search.tree
  pub size : (length new.search.tree.nodes ≤ limit) ⊎ (length new.search.tree.nodes ≤ length old.search.tree.nodes)
  pub found : IsFoundLater old.search.found new.search.found

-- a node that isn't open stays as it is, and an open one keeps its mark
abbrev pub IsTouched : Node → Node → Type 0
IsTouched old new = (new ≡ old) ⊎ ((old.kind ≡ Open) × (new.mark ≡ old.mark))

-- each node is still there, and all but the open ones are what they were
pub record KeepsShut (old new : List Node) : Type 0 where
  pub known : length old ≤ length new
  pub each : (i : ℕ) → i < length old → IsTouched (node_at old i) (node_at new i)
