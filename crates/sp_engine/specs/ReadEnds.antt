-- What the ends of reading a file say.
use Rattle.std.specs.Prelude.{◌≡◌, ℕ, List, [], ◌∷◌, length, Option, None, Some}
use Rattle.sp_model.specs.Models.{root_of}
use Rattle.sp_engine.specs.declared.journals.Entry.{Entry}
use Rattle.sp_engine.specs.declared.journals.Entry.TheVariants as entry
use Rattle.sp_engine.specs.declared.journals.FetchNote.TheVariants as note
use Rattle.sp_meaning.specs.declared.models.Meaning.TheVariants as meant
use Rattle.sp_engine.specs.declared.reading.ReadEnd.{ReadEnd}
use Rattle.sp_engine.specs.declared.reading.ReadEnd.TheVariants as ended
use Rattle.sp_engine.specs.declared.replies.Reply.TheVariants as reply
use Rattle.sp_meaning.specs.Models.{Means}
use Rattle.sp_engine.specs.Reading.{SaysRead, WantsInRead, fetched_more, with_model}
use Rattle.sp_engine.specs.Views.{View}

-- the notes of fetched bytes, where they were
abbrev pub bytes_notes : Option (List ℕ) → List Entry
bytes_notes None = []
bytes_notes (Some bytes) = entry.Fetched (note.Bytes bytes) ∷ []

-- what is noted of a read that ended so
abbrev pub read_notes : ReadEnd → List Entry
read_notes (ended.Accepted bytes named) = entry.Fetched (note.Bytes bytes) ∷ []
read_notes (ended.Refused answer why) = entry.Fetched answer ∷ []
read_notes (ended.NoMemory bytes) = bytes_notes bytes

-- the command that read the file of this name says so, or memory was wanting before its reply
abbrev pub ReadSays : View → List ℕ → ReadEnd → Type 0
ReadSays view name (ended.Accepted bytes named) =
    SaysRead view name (entry.Fetched (note.Bytes bytes) ∷ [])
    (reply.Read (length named.names) (length named.model.rows))
    (with_model (fetched_more view (length bytes)) named)
ReadSays view name (ended.Refused (note.Bytes bytes) why) =
    SaysRead view name (entry.Fetched (note.Bytes bytes) ∷ []) (reply.Refused why) (fetched_more view (length bytes))
ReadSays view name (ended.Refused note.Absent why) =
    SaysRead view name (entry.Fetched note.Absent ∷ []) (reply.Refused why) view
ReadSays view name (ended.Refused note.TooLong why) =
    SaysRead view name (entry.Fetched note.TooLong ∷ []) (reply.Refused why) view
ReadSays view name (ended.Refused note.Failed why) =
    SaysRead view name (entry.Fetched note.Failed ∷ []) (reply.Refused why) view
ReadSays view name (ended.NoMemory bytes) = WantsInRead view name (bytes_notes bytes)

-- an accepted model has a name for each variable
abbrev pub IsRunnable : ReadEnd → Type 0
IsRunnable (ended.Accepted bytes named) = length named.names ≡ length (root_of named.model)
IsRunnable (ended.Refused answer why) = Unit {0}
IsRunnable (ended.NoMemory bytes) = Unit {0}

-- the end of reading the file of this name with these bytes, which were fetched
abbrev pub IsReadOf : List ℕ → List ℕ → ReadEnd → Type 0
IsReadOf name bytes (ended.Accepted read named) =
    (read ≡ bytes) × Means name bytes (meant.Model named) × (length named.names ≡ length (root_of named.model))
IsReadOf name bytes (ended.Refused answer why) = (answer ≡ note.Bytes bytes) × Means name bytes (meant.Refused why)
IsReadOf name bytes (ended.NoMemory read) = read ≡ Some bytes
