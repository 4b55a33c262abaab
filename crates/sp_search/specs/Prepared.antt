-- What a search for hints leaves of a state.
use Rattle.std.specs.Prelude.{◌≡◌}
use Rattle.sp_filter.specs.Held.{FilterList}
use Rattle.sp_tree.specs.Laws.{Extends}
use Rattle.sp_cover.specs.Moves.{KeepsLists, moved_to}
use Rattle.sp_search.specs.States.{IsCovered, IsState, StateOf, with_search}

-- the same state, perhaps with more lists behind those of the tree's table
pub record IsPrepared (old new : StateOf) : Type 0 where
  pub rest : new ≡ with_search old (moved_to old.search new.search.tree)
  pub lists : KeepsLists old.search.tree new.search.tree
  pub extends : Extends old.search.tree new.search.tree
  pub state : IsState new
  pub covered : (fs : FilterList) → IsCovered fs old → IsCovered fs new
