-- What is promised of a run of the search: of the points that it found, of its end, and of the size of its tree.
use Rattle.std.specs.Prelude.{◌≡◌, ◌≢◌, ℕ, ◌+◌, ◌%◌, ◌<◌, ◌≤◌, ◌⊎◌, List, [], ◌++◌, All, AllPairs, Any, IsTrue, ℤ, ◌≤ℤ◌, ◌<ℤ◌}
use Rattle.sp_model.specs.declared.parts.ModelParts.{ModelParts}
use Rattle.sp_model.specs.Boxes.{point_count, room}
use Rattle.sp_model.specs.Cuts.{cut_of}
use Rattle.sp_model.specs.Models.{Feasible, IsLeast, objective, root_of}
use Rattle.sp_engine.specs.declared.journals.RunEnd.{RunEnd}
use Rattle.sp_engine.specs.declared.journals.RunEnd.TheVariants as end
use Rattle.sp_engine.specs.Views.{Filter, passes, Settings, View}

-- the number of nodes of the largest tree of a model
abbrev pub room_of : ModelParts → ℕ
room_of m = room (point_count (root_of m))

-- what a run is asked, with what was found before it
pub record Asked : Type 0 where
  pub parts : ModelParts
  pub settings : Settings
  pub filters : List Filter
  pub found : List (List ℤ)
  pub nodes : ℕ

abbrev pub asked_of : View → ModelParts → Asked
asked_of view m =
    record { parts = m; settings = view.settings; filters = view.filters; found = view.found; nodes = view.nodes }

-- The points that were found.

-- each is better than all before it, of which some were found before
pub record AreBetter (m : ModelParts) (before xs : List (List ℤ)) : Type 0 where
  pub falls : AllPairs (λ x y. objective m y <ℤ objective m x) xs
  pub below : All (λ y. All (λ x. objective m y <ℤ objective m x) before) xs

-- an optimal point is among them
abbrev pub HasOptimal : ModelParts → List (List ℤ) → Type 0
HasOptimal m xs = Any (λ x. IsLeast m (objective m x)) xs

-- the point passes the filters, and its objective isn't above the cut of the optimum
pub record IsWanted (a : Asked) (x : List ℤ) : Type 0 where
  pub passing : IsTrue (passes a.filters x)
  pub near : (best : ℤ) → IsLeast a.parts best → objective a.parts x ≤ℤ cut_of best a.settings.gaps a.parts.scale

-- in the order in which they were found: points each better than all before it; and then, where one of those or of the
-- earlier ones is optimal, points that are wanted
pub record ArePhases (a : Asked) (found : List (List ℤ)) : Type 0 where
  pub improved : List (List ℤ)
  pub collected : List (List ℤ)
  pub order : found ≡ improved ++ collected
  pub better : AreBetter a.parts a.found improved
  pub proved : (collected ≡ []) ⊎ HasOptimal a.parts (a.found ++ improved)
  pub wanted : All (IsWanted a) collected

-- The run.

-- the tree has no room for another split under the limit, and the largest tree of the model passes the limit
pub record IsTreeFull (a : Asked) (nodes : ℕ) : Type 0 where
  pub full : a.settings.node_limit < nodes + 2
  pub needed : a.settings.node_limit < room_of a.parts

pub record IsLegalRun (a : Asked) (found : List (List ℤ)) (ended : RunEnd) (nodes : ℕ) : Type 0 where
  -- the points are feasible, none was found before, and they come in two phases
  pub feasible : All (Feasible a.parts) found
  pub once : AllPairs (λ x y. x ≢ y) (a.found ++ found)
  pub phases : ArePhases a found
  -- the node limit stops a run only where the tree is full
  pub stopped : ended ≡ end.NodeLimit → IsTreeFull a nodes
  -- a tree has an odd number of nodes, no fewer than before and no more than the largest tree; it grows to the limit at most
  pub odd : nodes % 2 ≡ 1
  pub bounded : (a.nodes ≤ nodes) × (nodes ≤ room_of a.parts)
  pub limited : (nodes ≤ a.settings.node_limit) ⊎ (nodes ≤ a.nodes)
