-- What a session keeps, as plain data: what the user set, and what was read and found so far.
use Rattle.std.specs.Prelude.{ℕ, ◌^◌, ◌-◌, min, Bool, List, [], ◌∷◌, slice_index_or, Option, None, ℤ}
use Rattle.std.specs.List.{list_all}
use Rattle.sp_base.specs.Shelf.{Files}
use Rattle.sp_model.specs.declared.gaps.Gaps.{Gaps}
use Rattle.sp_meaning.specs.declared.models.NamedModel.{NamedModel}
use Rattle.sp_meaning.specs.Formats.{file_limit}

-- what the user can set
pub record Settings : Type 0 where
  -- which points are listed, beside the optimal ones
  pub gaps : Gaps
  -- the most nodes that a tree may have
  pub node_limit : ℕ

abbrev pub settings_with : Gaps → ℕ → Settings
settings_with gaps limit = record { gaps = gaps; node_limit = limit }

-- a filter tells which points it lets pass
abbrev pub Filter : Type 0
Filter = List ℤ → Bool

abbrev pub passes : List Filter → List ℤ → Bool
passes filters x = list_all (λ filter. filter x) filters

pub record View : Type 0 where
  pub settings : Settings
  pub model : Option NamedModel
  pub filters : List Filter
  -- the points found since the model was read, in the order in which they were found
  pub found : List (List ℤ)
  -- the size of the tree after the last run since the model was read, and 1 before it
  pub nodes : ℕ
  -- the files of the shelf, where they are told
  pub files : Option Files
  -- how many bytes were fetched so far
  pub fetched : ℕ

-- a session that begins
abbrev pub begun : Settings → Option Files → View
begun settings files =
    record { settings = settings; model = None; filters = []; found = []; nodes = 1; files = files; fetched = 0 }

-- the point of a serial; the first point has the serial 1, and nothing has 0
abbrev pub point_of : List (List ℤ) → ℕ → List ℤ
point_of found serial = slice_index_or ([] ∷ found) serial []

-- the most bytes of all files of a session
abbrev pub session_limit : ℕ
session_limit = 2 ^ 28

-- the most bytes that the next file may have, where so many were fetched before
abbrev pub limit_after : ℕ → ℕ
limit_after fetched = min file_limit (session_limit - fetched)

abbrev pub read_limit : View → ℕ
read_limit view = limit_after view.fetched
