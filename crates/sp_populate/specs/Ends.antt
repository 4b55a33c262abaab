-- How a run that collects ends, and what it leaves.
use Rattle.std.specs.Prelude.{◌≡◌, ℕ, suc, ◌+◌, ◌<◌, ◌≤◌, ◌⊎◌, Bool, true, false, if◌then◌else◌, Option, None, Some, List, [], ◌∷◌, ◌++◌, take, drop, length, All, AllPairs, ℤ, ◌≤ℤ◌, ◌<ℤ◌}
use Rattle.std.specs.Ordering.{int_eq}
use Rattle.sp_model.specs.declared.gaps.Gaps.{Gaps}
use Rattle.sp_list.specs.declared.found.Found.{Found}
use Rattle.sp_filter.specs.Held.{FilterList, Passes}
use Rattle.sp_tree.specs.declared.nodes.Bound.{Bound}
use Rattle.sp_tree.specs.declared.nodes.Node.{Node}
use Rattle.sp_tree.specs.declared.nodes.Kind.TheVariants.{Bounded}
use Rattle.sp_tree.specs.Laws.{Extends}
use Rattle.sp_tree.specs.Trees.{IsLicensed, node_at}
use Rattle.sp_cover.specs.Cover.{IsOpenAt}
use Rattle.sp_search.specs.States.{StateOf, with_search}
use Rattle.sp_search.specs.Runs.{IsStuck}
use Rattle.sp_search.specs.declared.goals.Goal.{Goal}
use Rattle.sp_search.specs.declared.goals.Goal.TheVariants.{Improve, Collect}
use Rattle.sp_populate.specs.Complete.{IsCompleteFor, cut_under}
use Rattle.sp_populate.specs.declared.populating.PopEnd.{PopEnd}
use Rattle.sp_populate.specs.declared.populating.PopEnd.TheVariants.{Done, NodeLimit, PopulateLimit}

-- ---- phase two

-- the serial of the first point of this value, one more than there are where none has it
abbrev pub first_of : ℤ → List Found → ℕ
first_of v [] = 1
first_of v (f ∷ fs) = if int_eq f.value v then 1 else suc (first_of v fs)

-- how many points a phase one found that ended with this least value: those up to the first of it
abbrev pub improved : Option ℤ → List Found → ℕ
improved None found = 0
improved (Some best) found = first_of best found

-- how many points were there when phase two of a run began: all that were there before a run of a proved state
abbrev pub found_before : StateOf → StateOf → ℕ
found_before old new = if old.search.proved then length old.search.found else improved new.search.best new.search.found

-- ---- answers

-- the goal that collects up to this cut
abbrev pub collecting : ℤ → FilterList → Goal
collecting cut fs = Collect cut (record { ref_ptr = (0, 0); now = fs })

-- what a run is at work for: improving while phase one goes on, then collecting
abbrev pub goal_of : Gaps → FilterList → StateOf → Goal
goal_of gaps fs s = if s.search.proved then collecting (cut_under gaps s) fs else Improve

-- so many points were found in phase two, and a leaf is open
pub record IsPopulateFull (old new : StateOf) (limit : ℕ) : Type 0 where
  pub proved : new.search.proved ≡ true
  pub found : length new.search.found ≡ found_before old new + limit
  pub node : ℕ
  pub leaf : IsOpenAt new.search.tree.nodes node

-- each answer with what holds then
abbrev pub PopEnds : StateOf → StateOf → Gaps → FilterList → ℕ → ℕ → PopEnd → Type 0
PopEnds old new gaps fs node_limit found_limit Done = (new.search.proved ≡ true) × IsCompleteFor gaps fs new
PopEnds old new gaps fs node_limit found_limit NodeLimit = IsStuck new (goal_of gaps fs new) node_limit
PopEnds old new gaps fs node_limit found_limit PopulateLimit = IsPopulateFull old new found_limit

-- ---- what a run leaves

-- the point passes the filters held, and isn't above the cut
pub record IsWithinBoth (cut : ℤ) (fs : FilterList) (f : Found) : Type 0 where
  pub near : f.value ≤ℤ cut
  pub passes : Passes fs.held f.point

-- the found points stay, and more come behind them; those of phase one fall strictly where the old ones do, and those of
-- phase two pass the filters and aren't above the cut
pub record IsFoundMore (old new : StateOf) (cut : ℤ) (fs : FilterList) : Type 0 where
  pub more : List Found
  pub grows : new.search.found ≡ old.search.found ++ more
  pub falls : old.search.proved ≡ false → AllPairs (λ f g. g.value <ℤ f.value) (take (found_before old new) new.search.found)
  pub wanted : new.search.proved ≡ true → All (IsWithinBoth cut fs) (drop (found_before old new) new.search.found)

-- a licensed node stays as it was, and the bound of a bounded one that isn't licensed is its mark
pub record KeepsNode (cut : ℤ) (held : ℕ → Bool) (old new : Node) : Type 0 where
  pub licensed : IsLicensed cut held old.kind → new ≡ old
  pub marked : (bound : Bound) → old.kind ≡ Bounded bound → ¬ IsLicensed cut held old.kind → new.mark ≡ Some bound

pub record KeepsLicensed (cut : ℤ) (held : ℕ → Bool) (old new : List Node) : Type 0 where
  pub each : (i : ℕ) → i < length old → KeepsNode cut held (node_at old i) (node_at new i)

-- a licensed node stays as it was
pub record SparesLicensed (cut : ℤ) (held : ℕ → Bool) (old new : List Node) : Type 0 where
  pub each : (i : ℕ) → i < length old → IsLicensed cut held (node_at old i).kind → node_at new i ≡ node_at old i

-- the model stays, what was in the tree lasts, the tree grows to the limit at most, and so do the found points
pub record IsPopulated (old new : StateOf) (gaps : Gaps) (fs : FilterList) (limit : ℕ) : Type 0 where
  pub rest : new ≡ with_search old new.search
  pub extends : Extends old.search.tree new.search.tree
  pub size : (length new.search.tree.nodes ≤ limit) ⊎ (length new.search.tree.nodes ≤ length old.search.tree.nodes)
  pub found : IsFoundMore old new (cut_under gaps new) fs
