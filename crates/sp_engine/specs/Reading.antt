-- What the command that reads a file says.
use Rattle.std.specs.Prelude.{◌≡◌, ℕ, ◌+◌, List, [], ◌∷◌, length, Some, ◌⊎◌}
use Rattle.sp_base.specs.Shelf.{Fetches}
use Rattle.sp_base.specs.declared.shelves.Fetched.TheVariants as fetched
use Rattle.sp_engine.specs.declared.journals.Entry.{Entry}
use Rattle.sp_engine.specs.declared.journals.Entry.TheVariants as entry
use Rattle.sp_engine.specs.declared.journals.FetchNote.{FetchNote}
use Rattle.sp_engine.specs.declared.journals.FetchNote.TheVariants as note
use Rattle.sp_meaning.specs.declared.models.Meaning.{Meaning}
use Rattle.sp_meaning.specs.declared.models.Meaning.TheVariants as meant
use Rattle.sp_meaning.specs.declared.models.NamedModel.{NamedModel}
use Rattle.sp_meaning.specs.declared.refusals.Refusal.{Refusal}
use Rattle.sp_meaning.specs.declared.refusals.Refusal.TheVariants as refusal
use Rattle.sp_engine.specs.declared.replies.Reply.{Reply}
use Rattle.sp_engine.specs.declared.replies.Reply.TheVariants as reply
use Rattle.sp_meaning.specs.Models.{Means}
use Rattle.sp_engine.specs.Notes.{answer_of}
use Rattle.sp_engine.specs.Views.{View, read_limit}

-- the data after so many bytes more were fetched
abbrev pub fetched_more : View → ℕ → View
fetched_more view count = record view { fetched = view.fetched + count }

-- the data after a model was read: nothing is found yet, and no filter is kept
abbrev pub with_model : View → NamedModel → View
with_model view named = record view { model = Some named; filters = []; found = []; nodes = 1 }

-- the command is refused, and the data stay
pub record Refuses (why : Refusal) (view : View) (r : Reply) (after : View) : Type 0 where
  pub reply_is : r ≡ reply.Refused why
  pub after_is : after ≡ view

-- the file was read as this model
pub record Accepts (named : NamedModel) (view : View) (r : Reply) (after : View) : Type 0 where
  pub reply_is : r ≡ reply.Read (length named.names) (length named.model.rows)
  pub after_is : after ≡ with_model view named

-- a model is accepted, and whatever a file is refused for is the reply
abbrev pub AnswersMeaning : Meaning → View → Reply → View → Type 0
AnswersMeaning (meant.Model named) view r after = Accepts named view r after
AnswersMeaning (meant.Refused why) view r after = Refuses why view r after

-- the bytes were fetched, and what they mean is answered
pub record AnswersBytes (name bytes : List ℕ) (view : View) (r : Reply) (after : View) : Type 0 where
  pub meaning : Meaning
  pub means : Means name bytes meaning
  pub answers : AnswersMeaning meaning (fetched_more view (length bytes)) r after

-- what comes after the shelf's answer
abbrev pub AfterFetch : List ℕ → FetchNote → View → Reply → View → Type 0
AfterFetch name (note.Bytes bytes) view r after = AnswersBytes name bytes view r after
AfterFetch name note.Absent view r after = Refuses refusal.FileAbsent view r after
AfterFetch name note.Failed view r after = Refuses refusal.FileFault view r after
AfterFetch name note.TooLong view r after = Refuses refusal.FileTooLong view r after

-- the shelf was asked for the file once; its answer is noted, and is true of told files; and the rest follows from it
pub record SaysRead (view : View) (name : List ℕ) (notes : List Entry) (r : Reply) (after : View) : Type 0 where
  pub answer : FetchNote
  pub noted : notes ≡ entry.Fetched answer ∷ []
  pub told : Fetches (answer_of answer) view.files name (read_limit view)
  pub rest : AfterFetch name answer view r after

-- Memory was wanting before the reply: nothing is noted, or the bytes of the file are.
pub record WantsInRead (view : View) (name : List ℕ) (notes : List Entry) : Type 0 where
  pub noted : (notes ≡ [])
      ⊎ ((bytes : List ℕ) × (notes ≡ entry.Fetched (note.Bytes bytes) ∷ [])
      × Fetches (fetched.Bytes bytes) view.files name (read_limit view))
