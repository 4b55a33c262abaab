-- What the parts of a run hand on.
use Rattle.std.specs.Prelude.{◌≡◌, ℕ, List, ◌∷◌, Bool, true, false, IsTrue, Option}
use Rattle.std.specs.List.{list_all}
use Rattle.sp_base.specs.Shelf.{Files}
use Rattle.sp_engine.specs.declared.journals.Entry.{Entry}
use Rattle.sp_engine.specs.declared.journals.Entry.TheVariants as entry
use Rattle.sp_meaning.specs.declared.models.NamedModel.{NamedModel}
use Rattle.sp_engine.specs.declared.reading.ReadEnd.TheVariants as ended
use Rattle.sp_engine.specs.ReadEnds.{ReadSays}
use Rattle.sp_engine.specs.Views.{Settings, begun}

-- a session that begins with these settings read the file of this name as this model
pub record IsRead (settings : Settings) (files : Option Files) (name bytes : List ℕ) (named : NamedModel) : Type 0 where
  pub says : ReadSays (begun settings files) name (ended.Accepted bytes named)

-- a note of the run itself, not of the outside
abbrev pub is_own : Entry → Bool
is_own (entry.Found x) = true
is_own (entry.Ended ended nodes) = true
is_own (entry.Fetched answer) = false
is_own (entry.Stored answer) = false

-- the shelf's answer, and then the run's own notes
pub record OwnNotes (first : Entry) (entries : List Entry) : Type 0 where
  pub rest : List Entry
  pub noted : entries ≡ first ∷ rest
  pub own : IsTrue (list_all is_own rest)
