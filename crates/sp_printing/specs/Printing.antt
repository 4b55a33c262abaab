-- Replies as they are printed: the listed points stand among the notes.
use Rattle.std.specs.Prelude.{◌≡◌, ℕ, ◌<◌, List, [], ◌++◌, length, slice_index_or, flat_map, All}
use Rattle.sp_draft.specs.SolutionLines.{solution_line}
use Rattle.sp_model.specs.declared.parts.ModelParts.{ModelParts}
use Rattle.sp_model.specs.Boxes.{IsWithin}
use Rattle.sp_model.specs.Models.{root_of}
use Rattle.sp_engine.specs.declared.journals.Entry.{Entry}
use Rattle.sp_engine.specs.declared.journals.Entry.TheVariants as entry
use Rattle.sp_engine.specs.declared.journals.RunEnd.TheVariants as end
use Rattle.sp_meaning.specs.declared.models.NamedModel.{NamedModel}
use Rattle.sp_engine.specs.declared.replies.Reply.{Reply}
use Rattle.sp_engine.specs.declared.replies.Reply.TheVariants as reply
use Rattle.sp_engine.specs.Runs.{IsSmall}
use Rattle.sp_printing.specs.Replies.{done_head, read_text, refusal_text, stopped_text}

abbrev pub named_of : List (List ℕ) → ModelParts → NamedModel
named_of names m = record { names = names; model = m }

-- the line of a noted point, and nothing for the other notes
unfoldable pub entry_line : NamedModel → Entry → List ℕ
entry_line named (entry.Found x) = solution_line named.names named.model x
entry_line named (entry.Fetched answer) = []
entry_line named (entry.Stored answer) = []
entry_line named (entry.Ended ended nodes) = []

-- a noted point has a value for each name, within the bounds
abbrev pub IsPrintable : NamedModel → Entry → Type 0
IsPrintable named (entry.Found x) = IsWithin (root_of named.model) x × (length x ≡ length named.names)
IsPrintable named (entry.Fetched answer) = Unit {0}
IsPrintable named (entry.Stored answer) = Unit {0}
IsPrintable named (entry.Ended ended nodes) = Unit {0}

-- the note of this place, and one without a line past the last
abbrev pub note_at : List Entry → ℕ → Entry
note_at notes place = slice_index_or notes place (entry.Ended end.Done 0)

-- the line of the point of this serial. The note of the read has the place 0, so that a serial is its point's place.
unfoldable pub serial_line : NamedModel → List Entry → ℕ → List ℕ
serial_line named notes serial = entry_line named (note_at notes serial)

-- the serials of a reply are places of notes
abbrev pub AreNoted : ℕ → Reply → Type 0
AreNoted count (reply.Listed optimum serials) = All (λ serial. serial < count) serials
AreNoted count (reply.Read variables rows) = Unit {0}
AreNoted count (reply.Stopped nodes) = Unit {0}
AreNoted count (reply.Refused why) = Unit {0}

-- a reply whose optimum is small, whose serials are places of notes, and notes that can be printed
pub record CanPrint (named : NamedModel) (notes : List Entry) (r : Reply) : Type 0 where
  pub small : IsSmall r
  pub noted : AreNoted (length notes) r
  pub each : All (IsPrintable named) notes

-- what is printed of a reply
unfoldable pub printed_text : NamedModel → List Entry → Reply → List ℕ
printed_text named notes (reply.Listed optimum serials) =
    done_head named.model optimum (length serials) ++ flat_map (serial_line named notes) serials
printed_text named notes (reply.Read variables rows) = read_text variables rows
printed_text named notes (reply.Stopped nodes) = stopped_text nodes
printed_text named notes (reply.Refused why) = refusal_text why
