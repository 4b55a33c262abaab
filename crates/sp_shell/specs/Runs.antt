-- What a run is asked, notes, prints and answers.
use Rattle.std.specs.Prelude.{◌≡◌, ℕ, ◌⊎◌, Bool, true, false, IsTrue}
use Rattle.std.specs.Prelude.{List, [], ◌++◌, Option, None, Some}
use Rattle.sp_base.specs.Told.{append, AppendsPart}
use Rattle.sp_base.specs.Shelf.{Files}
use Rattle.sp_base.specs.declared.statuses.Status.{Status}
use Rattle.sp_base.specs.declared.statuses.Status.TheVariants as status
use Rattle.sp_args.specs.declared.requests.Request.{Request}
use Rattle.sp_args.specs.Requests.{IsReading, IsNoReading}
use Rattle.sp_engine.specs.declared.commands.Command.TheVariants as command
use Rattle.sp_meaning.specs.declared.formats.FileFormat.{FileFormat}
use Rattle.sp_engine.specs.declared.journals.Entry.{Entry}
use Rattle.sp_engine.specs.declared.replies.Reply.{Reply}
use Rattle.sp_meaning.specs.Formats.{format_of}
use Rattle.sp_engine.specs.Reading.{WantsInRead}
use Rattle.sp_engine.specs.Replies.{is_refused}
use Rattle.sp_engine.specs.Sessions.{Says}
use Rattle.sp_engine.specs.Views.{Settings, View, begun, settings_with}
use Rattle.sp_printing.specs.declared.wordings.Wording.TheVariants as wording
use Rattle.sp_printing.specs.Replies.{reply_text}
use Rattle.sp_printing.specs.Wording.{spelling}

-- The run of one file: it is read, and where it isn't refused, its solutions are listed.

-- the refused read is printed, and nothing more is noted
pub record EndsRefused (after : View) (r : Reply) (rest : List Entry) (text : List ℕ) (refused : Bool) : Type 0 where
  pub nothing_more : rest ≡ []
  pub text_is : text ≡ reply_text after r
  pub refused_is : refused ≡ true

-- the accepted read isn't printed, and the list is
pub record ListsNext (after : View) (rest : List Entry) (text : List ℕ) (refused : Bool) : Type 0 where
  pub listed : Reply
  pub last : View
  pub says : Says after command.List rest listed last
  pub text_is : text ≡ reply_text last listed
  pub refused_is : refused ≡ is_refused listed

-- what follows the read, by whether it was refused
abbrev pub AfterRead : Bool → View → Reply → List Entry → List ℕ → Bool → Type 0
AfterRead true after r rest text refused = EndsRefused after r rest text refused
AfterRead false after r rest text refused = ListsNext after rest text refused

pub record OneRun (view : View) (name : List ℕ) (entries : List Entry) (text : List ℕ) (refused : Bool) : Type 0 where
  pub notes : List Entry
  pub rest : List Entry
  pub divided : entries ≡ notes ++ rest
  pub read : Reply
  pub after : View
  pub says : Says view (command.Read name) notes read after
  pub then_is : AfterRead (is_refused read) after read rest text refused

-- The text of a run, with the journal and the status.

-- whether a command was refused decides between these
abbrev pub status_by : Bool → Status
status_by true = status.SomeRefused
status_by false = status.Clean

-- the words are no reading
pub record IsUsage (entries : List Entry) (text : List ℕ) (s : Status) : Type 0 where
  pub nothing_noted : entries ≡ []
  pub line : text ≡ spelling wording.Usage
  pub status_is : s ≡ status.Usage

-- the words name a file whose name has another ending: the shelf isn't asked for it
pub record IsOtherFile (entries : List Entry) (text : List ℕ) (s : Status) : Type 0 where
  pub nothing_noted : entries ≡ []
  pub line : text ≡ spelling wording.BadArgument
  pub status_is : s ≡ status.SomeRefused

-- the words name this file, and these are the settings
pub record IsFileRun (settings : Settings) (files : Option Files) (name : List ℕ) (entries : List Entry) (text : List ℕ)
    (s : Status) : Type 0 where
  pub refused : Bool
  pub run : OneRun (begun settings files) name entries text refused
  pub status_is : s ≡ status_by refused

-- what a run says of its notes, its text and its status; and with which notes memory can be wanting before any text
abbrev pub Saying : Type 1
Saying = List Entry → List ℕ → Status → Type 0

abbrev pub Unsaid : Type 1
Unsaid = List Entry → Type 0

-- the settings that the words ask for
abbrev pub settings_of : Request → Settings
settings_of r = settings_with r.gaps r.nodes

-- what a run says over a shelf with these files, by the format of the file that the words ask for
abbrev pub RequestText : Option Files → Request → Option FileFormat → Saying
RequestText files r None = IsOtherFile
RequestText files r (Some format) = IsFileRun (settings_of r) files r.file

-- what a run says over these words
pub data RunText (files : Option Files) (words : List (List ℕ)) (entries : List Entry) (text : List ℕ) (s : Status) : Type 0 where
  no_reading : IsNoReading words → IsUsage entries text s → RunText files words entries text s
  asks : (r : Request) → IsReading words r → RequestText files r (format_of r.file) entries text s
      → RunText files words entries text s

-- the notes with which memory can be wanting before any text goes out: none, or the bytes of the file that the words ask for
pub data RunUnsaid (files : Option Files) (words : List (List ℕ)) (entries : List Entry) : Type 0 where
  nothing : entries ≡ [] → RunUnsaid files words entries
  reading : (r : Request) (format : FileFormat) → IsReading words r → format_of r.file ≡ Some format
      → WantsInRead (begun (settings_of r) files) r.file entries → RunUnsaid files words entries

-- What went out.

-- the whole text
pub record PutsAll (says : Saying) (entries : List Entry) (s : Status) (old new : Option (List ℕ)) : Type 0 where
  pub text : List ℕ
  pub said : says entries text s
  pub held : new ≡ append old text

-- a front part of the text
pub record PutsPart (says : Saying) (entries : List Entry) (old new : Option (List ℕ)) : Type 0 where
  pub text : List ℕ
  pub meant : Status
  pub said : says entries text meant
  pub held : AppendsPart old new text

-- nothing, and no more was noted than that
pub record PutsNothing (unsaid : Unsaid) (entries : List Entry) (old new : Option (List ℕ)) : Type 0 where
  pub held : new ≡ old
  pub noted : unsaid entries

-- What went out when a run ended with this status. takes_memory: whether the sink's writes can answer that there is no
-- memory.
abbrev pub Outcome : Bool → Saying → Unsaid → List Entry → Status → Option (List ℕ) → Option (List ℕ) → Type 0
Outcome takes_memory says unsaid entries status.Clean old new = PutsAll says entries status.Clean old new
Outcome takes_memory says unsaid entries status.SomeRefused old new = PutsAll says entries status.SomeRefused old new
Outcome takes_memory says unsaid entries status.Usage old new = PutsAll says entries status.Usage old new
Outcome takes_memory says unsaid entries status.SinkFault old new = PutsPart says entries old new
Outcome takes_memory says unsaid entries status.NoMemory old new =
    (IsTrue takes_memory × PutsPart says entries old new) ⊎ PutsNothing unsaid entries old new
Outcome takes_memory says unsaid entries status.SourceFault old new = ⊥
Outcome takes_memory says unsaid entries status.StreamTooLong old new = ⊥
