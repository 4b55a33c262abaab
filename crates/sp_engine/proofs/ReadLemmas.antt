-- What the command that reads a file says at each answer of the shelf.
use Rattle.std.specs.Prelude.{None, Some}
use Rattle.std.proofs.Common.{◌≡◌, ℕ, ◌≤◌, List, [], ◌∷◌, refl, sym, ap, subst, inl, inr, Option, arith}
use Rattle.sp_base.specs.Counts.{raised}
use Rattle.sp_base.specs.Shelf.{Files, Fetches}
use Rattle.sp_base.specs.declared.shelves.Fetched.TheVariants as fetched
use Rattle.sp_engine.specs.declared.journals.Entry.TheVariants as entry
use Rattle.sp_engine.specs.declared.journals.FetchNote.{FetchNote}
use Rattle.sp_engine.specs.declared.journals.FetchNote.TheVariants as note
use Rattle.sp_meaning.specs.declared.models.Meaning.{Meaning}
use Rattle.sp_meaning.specs.declared.models.Meaning.TheVariants as meant
use Rattle.sp_meaning.specs.declared.models.NamedModel.{NamedModel}
use Rattle.sp_engine.specs.declared.reading.ReadEnd.{ReadEnd}
use Rattle.sp_engine.specs.declared.reading.ReadEnd.TheVariants as ended
use Rattle.sp_meaning.specs.declared.refusals.Refusal.{Refusal}
use Rattle.sp_meaning.specs.declared.refusals.Refusal.TheVariants as refusal
use Rattle.sp_meaning.specs.Models.{IsPaired}
use Rattle.sp_meaning.specs.Models.{Means}
use Rattle.sp_engine.specs.Notes.{AreAnswers, ShelfState, answer_of}
use Rattle.sp_engine.specs.ReadEnds.{IsReadOf, IsRunnable, ReadSays, bytes_notes, read_notes}
use Rattle.sp_engine.specs.Views.{View, read_limit}

-- the note is true of the files that the session sees
seen_by : (answer : FetchNote) (files : Option Files) (name : List ℕ) (limit : ℕ) (view : View) → view.files ≡ files → read_limit view ≡ limit
    → Fetches (answer_of answer) files name limit → Fetches (answer_of answer) view.files name (read_limit view)
seen_by answer files name limit view f l h =
    subst (λ fs. Fetches (answer_of answer) fs name (read_limit view)) (sym f) (subst (λ n. Fetches (answer_of answer) files name n) (sym l) h)

-- the bytes were fetched, and are read or not
pub bytes_say : (bytes : List ℕ) (r : ReadEnd) (files : Option Files) (name : List ℕ) (limit : ℕ) → IsReadOf name bytes r → Fetches (fetched.Bytes bytes) files name limit
    → (view : View) → view.files ≡ files → read_limit view ≡ limit → ReadSays view name r
bytes_say bytes (ended.Accepted read named) files name limit is h view f l = record {
  answer = note.Bytes read;
  noted = refl;
  told = seen_by (note.Bytes read) files name limit view f l (subst (λ bs. Fetches (fetched.Bytes bs) files name limit) (sym is.0) h);
  rest = record { meaning = meant.Model named; means = subst (λ bs. Means name bs (meant.Model named)) (sym is.0) is.1; answers = record { reply_is = refl; after_is = refl } };
}
bytes_say bytes (ended.Refused (note.Bytes read) why) files name limit is h view f l =
    let same : read ≡ bytes = (let e : note.Bytes read ≡ note.Bytes bytes = is.0 in cc) in
    record {
      answer = note.Bytes read;
      noted = refl;
      told = seen_by (note.Bytes read) files name limit view f l (subst (λ bs. Fetches (fetched.Bytes bs) files name limit) (sym same) h);
      rest = record { meaning = meant.Refused why; means = subst (λ bs. Means name bs (meant.Refused why)) (sym same) is.1; answers = record { reply_is = refl; after_is = refl } };
    }
bytes_say bytes (ended.Refused note.Absent why) files name limit is h view f l = absurd (let e : note.Absent ≡ note.Bytes bytes = is.0 in cc)
bytes_say bytes (ended.Refused note.TooLong why) files name limit is h view f l = absurd (let e : note.TooLong ≡ note.Bytes bytes = is.0 in cc)
bytes_say bytes (ended.Refused note.Failed why) files name limit is h view f l = absurd (let e : note.Failed ≡ note.Bytes bytes = is.0 in cc)
bytes_say bytes (ended.NoMemory None) files name limit is h view f l = absurd (let e : None ≡ Some bytes = is in cc)
bytes_say bytes (ended.NoMemory (Some read)) files name limit is h view f l =
    let same : read ≡ bytes = (let e : Some read ≡ Some bytes = is in cc) in
    record { noted = inr (read, refl, seen_by (note.Bytes read) files name limit view f l (subst (λ bs. Fetches (fetched.Bytes bs) files name limit) (sym same) h)) }

-- the shelf gave no bytes
pub absent_says : (files : Option Files) (name : List ℕ) (limit : ℕ) → Fetches fetched.Absent files name limit
    → (view : View) → view.files ≡ files → read_limit view ≡ limit → ReadSays view name (ended.Refused note.Absent refusal.FileAbsent)
absent_says files name limit h view f l =
    record { answer = note.Absent; noted = refl; told = seen_by note.Absent files name limit view f l h; rest = record { reply_is = refl; after_is = refl } }

pub too_long_says : (files : Option Files) (name : List ℕ) (limit : ℕ) → Fetches fetched.TooLong files name limit
    → (view : View) → view.files ≡ files → read_limit view ≡ limit → ReadSays view name (ended.Refused note.TooLong refusal.FileTooLong)
too_long_says files name limit h view f l =
    record { answer = note.TooLong; noted = refl; told = seen_by note.TooLong files name limit view f l h; rest = record { reply_is = refl; after_is = refl } }

pub failed_says : (files : Option Files) (name : List ℕ) (limit : ℕ) → Fetches fetched.Failed files name limit
    → (view : View) → view.files ≡ files → read_limit view ≡ limit → ReadSays view name (ended.Refused note.Failed refusal.FileFault)
failed_says files name limit h view f l =
    record { answer = note.Failed; noted = refl; told = seen_by note.Failed files name limit view f l h; rest = record { reply_is = refl; after_is = refl } }

pub nothing_says : (name : List ℕ) (view : View) → ReadSays view name (ended.NoMemory None)
nothing_says name view = record { noted = inl refl }

-- what was read is runnable
pub bytes_run : (name bytes : List ℕ) (r : ReadEnd) → IsReadOf name bytes r → IsRunnable r
bytes_run name bytes (ended.Accepted read named) is = is.2
bytes_run name bytes (ended.Refused answer why) is = tt
bytes_run name bytes (ended.NoMemory read) is = tt

-- the bytes are noted, and nothing else
pub bytes_noted : (name bytes : List ℕ) (r : ReadEnd) → IsReadOf name bytes r → read_notes r ≡ entry.Fetched (note.Bytes bytes) ∷ []
bytes_noted name bytes (ended.Accepted read named) is = ap (λ bs. entry.Fetched (note.Bytes bs) ∷ []) is.0
bytes_noted name bytes (ended.Refused answer why) is = ap (λ a. entry.Fetched a ∷ []) is.0
bytes_noted name bytes (ended.NoMemory read) is = ap bytes_notes is

-- so the shelf's counts owe nothing for absences, overruns and faults, and one for answers
pub bytes_answered : (name bytes : List ℕ) (r : ReadEnd) (old new : ShelfState) → IsReadOf name bytes r → new.files ≡ old.files → new.answers ≡ raised old.answers
    → old.absences ≤ new.absences → old.overruns ≤ new.overruns → old.faults ≤ new.faults → AreAnswers (read_notes r) old new
bytes_answered name bytes r old new is files answers absences overruns faults = subst (λ es. AreAnswers es old new) (sym (bytes_noted name bytes r is))
    (record { files = files; answers = answers; absences = omega (arith, absences); overruns = omega (arith, overruns); faults = omega (arith, faults) })

-- what the meaning of the bytes makes of the read
pub model_read : (m : Meaning) (bytes : List ℕ) (named : NamedModel) → m ≡ meant.Model named → (name : List ℕ) → Means name bytes m → IsPaired m
    → IsReadOf name bytes (ended.Accepted bytes named)
model_read m bytes named is name means paired = (refl, subst (Means name bytes) is means, subst IsPaired is paired)

pub refused_read : (m : Meaning) (bytes : List ℕ) (why : Refusal) → m ≡ meant.Refused why → (name : List ℕ) → Means name bytes m → IsPaired m
    → IsReadOf name bytes (ended.Refused (note.Bytes bytes) why)
refused_read m bytes why is name means paired = (refl, subst (Means name bytes) is means)
