-- What a state of a search is.
use Rattle.std.specs.Prelude.{◌≡◌, ℕ, false, All, Option, None, IfSome, [], ◌∷◌, length}
use Rattle.sp_model.specs.declared.parts.ModelParts.{ModelParts}
use Rattle.sp_model.specs.Models.{root_of}
use Rattle.sp_model.specs.Rules.{IsLawful}
use Rattle.sp_bound.specs.StatedLists.{stated_lists}
use Rattle.sp_filter.specs.Filters.{Fits}
use Rattle.sp_filter.specs.Held.{FilterList}
use Rattle.sp_tree.specs.Tables.{IsPrefix}
use Rattle.sp_tree.specs.Trees.{open_node}
use Rattle.sp_cover.specs.Cover.{IsCover, IsEnded, IsSearch, SearchOf}
use Rattle.sp_cursor.specs.declared.cursors.Cursor.{Cursor}
use Rattle.sp_cursor.specs.Cursors.{IsCursorOf}

-- the model, the search of it, and how many stated lists stand first in the tree's table
pub record StateOf : Type 0 where
  pub model : ModelParts
  pub search : SearchOf
  pub stated : ℕ

-- the stated lists of the model stand first in the table, in their order, and are so many
pub record AreStated (m : ModelParts) (s : SearchOf) (stated : ℕ) : Type 0 where
  pub front : IsPrefix (stated_lists m) s.tree.lists
  pub count : stated ≡ length (stated_lists m)

-- the facts of every state: all of the cover that doesn't speak of filters
pub record IsState (s : StateOf) : Type 0 where
  pub lawful : IsLawful s.model
  pub search : IsSearch s.model s.search
  pub ended : IsEnded s.search
  pub stated : AreStated s.model s.search s.stated

-- a cursor, if it is one, is a cursor of the model in the tree of the state
abbrev pub HasCursor : StateOf → Option Cursor → Type 0
HasCursor s cursor = IfSome cursor (IsCursorOf s.model s.search.tree)

-- the cover with the filters that are held
abbrev pub IsCovered : FilterList → StateOf → Type 0
IsCovered fs s = IsCover s.model fs s.search

-- the state with another search
abbrev pub with_search : StateOf → SearchOf → StateOf
with_search s search = record { model = s.model; search = search; stated = s.stated }

-- a search that has not begun: one open leaf, which is the model's closed box, the stated lists in the table, and nothing found
abbrev pub first_search : ModelParts → SearchOf
first_search m = record {
  tree = record { boxes = root_of m ∷ []; nodes = open_node ∷ []; lists = stated_lists m };
  found = [];
  proved = false;
  best = None;
}

-- each held filter is one for the model
pub record AreFit (m : ModelParts) (fs : FilterList) : Type 0 where
  pub each : All (λ h. Fits m h.filter) fs.held
