-- What went out and was noted when a run ends.
use Rattle.std.specs.Prelude.{ℤ, filter, count_by, All, Bool, true, false, IsTrue, Result, Ok, Err}
use Rattle.std.specs.List.{list_all}
use Rattle.std.proofs.Common.{◌≡◌, ℕ, List, [], ◌∷◌, ◌++◌, length, Option, None, Some, refl, sym, ap, ◌∙◌, subst, ◌⊎◌, inl, inr, arith}
use Rattle.std.proofs.lemmas.List.{append-nil}
use Rattle.std.proofs.lemmas.List.Elements.{filter-append}
use Rattle.std.proofs.lemmas.List.Sums.{length-filter}
use Rattle.sp_base.specs.Told.{append}
use Rattle.sp_base.specs.Counts.{RoseBy, raised_by}
use Rattle.sp_base.specs.Shelf.{Files, Fetches}
use Rattle.sp_base.specs.declared.shelves.Fetched.TheVariants as fetched
use Rattle.sp_base.specs.declared.sinks.SinkEnd.{SinkEnd}
use Rattle.sp_base.specs.declared.sinks.SinkEnd.TheVariants as sunk
use Rattle.sp_base.specs.declared.statuses.Status.{Status}
use Rattle.sp_base.specs.declared.statuses.Status.TheVariants as status
use Rattle.sp_base.specs.Writing.{Puts, SinkState}
use Rattle.sp_model.specs.declared.parts.ModelParts.{ModelParts}
use Rattle.sp_model.specs.Boxes.{IsWithin}
use Rattle.sp_model.specs.Models.{root_of, Feasible}
use Rattle.sp_args.specs.declared.requests.Request.{Request}
use Rattle.sp_args.specs.declared.requests.WordsRefusal.{WordsRefusal}
use Rattle.sp_args.specs.declared.requests.WordsRefusal.TheVariants as refused
use Rattle.sp_args.specs.Requests.{IsReading, IsNoReading}
use Rattle.sp_meaning.specs.declared.formats.FileFormat.{FileFormat}
use Rattle.sp_engine.specs.declared.journals.Entry.{Entry}
use Rattle.sp_engine.specs.declared.journals.Entry.TheVariants as entry
use Rattle.sp_engine.specs.declared.journals.FetchNote.{FetchNote}
use Rattle.sp_engine.specs.declared.journals.FetchNote.TheVariants as note
use Rattle.sp_engine.specs.declared.journals.RunEnd.{RunEnd}
use Rattle.sp_meaning.specs.declared.models.NamedModel.{NamedModel}
use Rattle.sp_engine.specs.declared.reading.ReadEnd.TheVariants as ended
use Rattle.sp_meaning.specs.declared.refusals.Refusal.{Refusal}
use Rattle.sp_engine.specs.declared.replies.Reply.{Reply}
use Rattle.sp_engine.specs.declared.replies.Reply.TheVariants as reply
use Rattle.sp_engine.specs.declared.runs.Listing.{Listing}
use Rattle.sp_meaning.specs.Formats.{format_of}
use Rattle.sp_engine.specs.Listing.{ListsModel, RepliesAfter, after_run}
use Rattle.sp_engine.specs.Notes.{AreAnswers, ShelfState, answer_of, is_answer, is_absence, is_overrun, is_fault, run_notes}
use Rattle.sp_engine.specs.ReadEnds.{ReadSays, bytes_notes}
use Rattle.sp_engine.specs.Reading.{SaysRead, WantsInRead, fetched_more, with_model}
use Rattle.sp_engine.specs.Replies.{is_refused}
use Rattle.sp_engine.specs.Runs.{IsListing, IsSmall}
use Rattle.sp_engine.specs.Views.{Settings, View, begun, read_limit}
use Rattle.sp_printing.specs.declared.wordings.Wording.TheVariants as wording
use Rattle.sp_printing.specs.Wording.{spelling}
use Rattle.sp_printing.specs.Replies.{refusal_text, reply_text}
use Rattle.sp_shell.specs.Runs.{IsFileRun, Outcome, RequestText, RunText, RunUnsaid, Saying, Unsaid, settings_of, status_by}
use Rattle.sp_shell.specs.Runs as run
use Rattle.sp_shell.specs.InnerEndings.{status_after, Answered, Ended, IsWhole}
use Rattle.sp_printing.specs.Printing.{CanPrint, named_of, printed_text}
use Rattle.sp_shell.specs.InnerRuns.{IsRead, OwnNotes, is_own}

-- a status that comes with a whole text, and what went out
pub ended_of : {k : Bool} (says : List Entry → List ℕ → Status → Type 0) (unsaid : List Entry → Type 0) (entries : List Entry) {text : List ℕ} {s : Status} {old new : SinkState} (good : Status)
    → IsWhole good → says entries text good → Answered k good s old new text → Ended k says unsaid entries s old new
ended_of {k} says unsaid entries {text} {s} {old} {new} good whole said a = record {
  outcome = subst (λ t. Outcome k says unsaid entries t old.held new.held) (sym a.status_is) (by a.sent a.sends.put a.sends.no_memory);
  later = a.sends.later;
  fault = λ h. a.sends.fault (faulted a.sent good whole (sym a.status_is ∙ h));
}
  where
    all : (g : Status) → IsWhole g → says entries text g → new.held ≡ append old.held text → Outcome k says unsaid entries g old.held new.held
    all status.Clean w d h = record { text = text; said = d; held = h }
    all status.SomeRefused w d h = record { text = text; said = d; held = h }
    all status.Usage w d h = record { text = text; said = d; held = h }
    all status.SourceFault w d h = absurd w
    all status.SinkFault w d h = absurd w
    all status.NoMemory w d h = absurd w
    all status.StreamTooLong w d h = absurd w

    by : (r : Result (Unit {0}) SinkEnd) → Puts r old.held new.held text → (r ≡ Err sunk.NoMemory → IsTrue k) → Outcome k says unsaid entries (status_after r good) old.held new.held
    by (Ok done) h memory = all good whole said h
    by (Err sunk.Fault) h memory = record { text = text; meant = good; said = said; held = h }
    by (Err sunk.NoMemory) h memory = inl (memory refl, record { text = text; meant = good; said = said; held = h })

    whole_fault : (g : Status) → IsWhole g → g ≡ status.SinkFault → ⊥
    whole_fault g w e = subst IsWhole e w

    faulted : (r : Result (Unit {0}) SinkEnd) (g : Status) → IsWhole g → status_after r g ≡ status.SinkFault → r ≡ Err sunk.Fault
    faulted (Ok done) g w e = absurd (whole_fault g w e)
    faulted (Err sunk.Fault) g w e = refl
    faulted (Err sunk.NoMemory) g w e = absurd (let h : status.NoMemory ≡ status.SinkFault = e in cc)

whole_by : (refused : Bool) → IsWhole (status_by refused)
whole_by true = tt
whole_by false = tt

-- what can be noted where memory was wanting
abbrev unsaid_of : Settings → Option Files → List ℕ → List Entry → Type 0
unsaid_of settings files name = WantsInRead (begun settings files) name

-- The list.

-- the notes of a run are its own
own_notes : (found : List (List ℤ)) (e : RunEnd) (nodes : ℕ) → list_all is_own (run_notes found e nodes) ≡ true
own_notes [] e nodes = refl
own_notes (x ∷ xs) e nodes = own_notes xs e nodes

-- the data after the file was read
abbrev read_view : Settings → Option Files → List ℕ → NamedModel → View
read_view settings files bytes named = with_model (fetched_more (begun settings files) (length bytes)) named

-- the names and the model that a listing hands back
pub same_named : {named : NamedModel} {settings : Settings} {l : Listing} → IsListing named settings l → named_of l.names l.state.model ≡ named
same_named i = λ j. record { names = i.names j; model = i.model j }

-- what the command that lists says then
listing_says : (settings : Settings) (files : Option Files) (bytes : List ℕ) (named : NamedModel) (l : Listing) (i : IsListing named settings l)
    → ListsModel named (read_view settings files bytes named) l.notes.items l.reply (after_run (read_view settings files bytes named) i.found i.nodes)
listing_says settings files bytes named l i = i.says (read_view settings files bytes named) refl refl refl refl

-- the notes, whatever was read
pub listing_notes : {named : NamedModel} {settings : Settings} {l : Listing} (first : Entry) (entries : List Entry) → IsListing named settings l → entries ≡ first ∷ l.notes.items → OwnNotes first entries
listing_notes {named} {settings} {l} first entries i e =
    let s = listing_says settings None [] named l i in
    record { rest = l.notes.items; noted = e; own = ap (list_all is_own) s.noted ∙ own_notes s.found s.ended s.nodes }

-- what a law of models says: a feasible point lies within the closed box
abbrev pub FeasibleWithin : ModelParts → Type 0
FeasibleWithin m = (x : List ℤ) → Feasible m x → IsWithin (root_of m) x

same_answer : {one other : FetchNote} → entry.Fetched one ∷ [] ≡ entry.Fetched other ∷ [] → other ≡ one
same_answer e = cc

-- what a law of printing says: the notes of a run, behind the read's, can be printed with its reply
abbrev pub ArePrintable : Type 0
ArePrintable = (named : NamedModel) (answer : FetchNote) (found : List (List ℤ)) (e : RunEnd) (nodes : ℕ) (after : View) (r : Reply)
    → FeasibleWithin named.model → length named.names ≡ length (root_of named.model) → All (Feasible named.model) found
    → after.found ≡ found → RepliesAfter e named nodes after r → IsSmall r → CanPrint named (entry.Fetched answer ∷ run_notes found e nodes) r

-- and what is printed then is the text of the reply
abbrev pub AreTold : Type 0
AreTold = (named : NamedModel) (answer : FetchNote) (found : List (List ℤ)) (e : RunEnd) (nodes : ℕ) (after : View) (r : Reply)
    → after.model ≡ Some named → after.found ≡ found → RepliesAfter e named nodes after r
    → printed_text named (entry.Fetched answer ∷ run_notes found e nodes) r ≡ reply_text after r

pub can_print : {named : NamedModel} {settings : Settings} {l : Listing} → ArePrintable → FeasibleWithin named.model → length named.names ≡ length (root_of named.model) → (answer : FetchNote) (entries : List Entry)
    → IsListing named settings l → entries ≡ entry.Fetched answer ∷ l.notes.items → CanPrint named entries l.reply
can_print {named} {settings} {l} law within paired answer entries i e =
    subst (λ es. CanPrint named es l.reply) (sym (e ∙ ap (λ es. entry.Fetched answer ∷ es) s.noted))
    (law named answer s.found s.ended s.nodes (after_run (read_view settings None [] named) i.found i.nodes) l.reply within paired s.legal.feasible
    (ap (λ (v : View). v.found) s.after_is) s.reply_is i.small)
  where
    s : ListsModel named (read_view settings None [] named) l.notes.items l.reply (after_run (read_view settings None [] named) i.found i.nodes)
    s = listing_says settings None [] named l i

-- The run of one file.

-- the file was read as this model, and it was listed
list_said : AreTold → {settings : Settings} {files : Option Files} {name bytes : List ℕ} {named : NamedModel} {l : Listing} {entries : List Entry} (i : IsListing named settings l)
    → IsRead settings files name bytes named → entries ≡ entry.Fetched (note.Bytes bytes) ∷ l.notes.items
    → IsFileRun settings files name entries (printed_text named entries l.reply) (status_by (is_refused l.reply))
list_said law {settings} {files} {name} {bytes} {named} {l} {entries} i read e = record {
  refused = is_refused l.reply;
  run = record {
    notes = entry.Fetched (note.Bytes bytes) ∷ [];
    rest = l.notes.items;
    divided = e;
    read = reply.Read (length named.names) (length named.model.rows);
    after = read_view settings files bytes named;
    says = read.says;
    then_is = record {
      listed = l.reply;
      last = after_run (read_view settings files bytes named) i.found i.nodes;
      says = s;
      text_is = text;
      refused_is = refl;
    };
  };
  status_is = refl;
}
  where
    s : ListsModel named (read_view settings files bytes named) l.notes.items l.reply (after_run (read_view settings files bytes named) i.found i.nodes)
    s = listing_says settings files bytes named l i

    found : (after_run (read_view settings files bytes named) i.found i.nodes).found ≡ s.found
    found = ap (λ (v : View). v.found) s.after_is

    text : printed_text named entries l.reply ≡ reply_text (after_run (read_view settings files bytes named) i.found i.nodes) l.reply
    text =
        ap (λ es. printed_text named es l.reply) (e ∙ ap (λ es. entry.Fetched (note.Bytes bytes) ∷ es) s.noted)
        ∙ law named (note.Bytes bytes) s.found s.ended s.nodes (after_run (read_view settings files bytes named) i.found i.nodes) l.reply refl found s.reply_is

pub list_ended : AreTold → {k : Bool} {bytes : List ℕ} {named : NamedModel} {settings : Settings} {l : Listing} {before entries : List Entry} {s : Status} {old new : SinkState} (i : IsListing named settings l)
    → before ≡ entry.Fetched (note.Bytes bytes) ∷ l.notes.items → entries ≡ before
    → (shown : NamedModel) → shown ≡ named → Answered k (status_by (is_refused l.reply)) s old new (printed_text shown before l.reply)
    → (files : Option Files) (name : List ℕ) → IsRead settings files name bytes named → Ended k (IsFileRun settings files name) (unsaid_of settings files name) entries s old new
list_ended law {k} {bytes} {named} {settings} {l} {before} {entries} {s} {old} {new} i e same shown is a files name read =
    subst (λ es. Ended k (IsFileRun settings files name) (unsaid_of settings files name) es s old new) (sym same)
    (ended_of (IsFileRun settings files name) (unsaid_of settings files name) before (status_by (is_refused l.reply)) (whole_by (is_refused l.reply)) (list_said law i read e)
    (subst (λ n. Answered k (status_by (is_refused l.reply)) s old new (printed_text n before l.reply)) is a))

-- memory was wanting before any text went out
wanting : (k : Bool) (says : List Entry → List ℕ → Status → Type 0) (unsaid : List Entry → Type 0) {entries : List Entry} {s : Status} (sink : SinkState)
    → s ≡ status.NoMemory → unsaid entries → Ended k says unsaid entries s sink sink
wanting k says unsaid {entries} {s} sink is noted = record {
  outcome = subst (λ t. Outcome k says unsaid entries t sink.held sink.held) (sym is) (inr (record { held = refl; noted = noted }));
  later = omega arith;
  fault = λ h. absurd (let e : status.NoMemory ≡ status.SinkFault = sym is ∙ h in cc);
}

wants_list : {settings : Settings} {files : Option Files} {name bytes : List ℕ} {named : NamedModel} {entries : List Entry} → IsRead settings files name bytes named → entries ≡ entry.Fetched (note.Bytes bytes) ∷ []
    → unsaid_of settings files name entries
wants_list {settings} {files} {name} {bytes} {named} {entries} read e = record { noted = inr (bytes, e, told) }
  where
    s : SaysRead (begun settings files) name (entry.Fetched (note.Bytes bytes) ∷ []) (reply.Read (length named.names) (length named.model.rows))
        (with_model (fetched_more (begun settings files) (length bytes)) named)
    s = read.says

    same : s.answer ≡ note.Bytes bytes
    same = same_answer s.noted

    told : Fetches (fetched.Bytes bytes) (begun settings files).files name (read_limit (begun settings files))
    told = subst (λ a. Fetches (answer_of a) (begun settings files).files name (read_limit (begun settings files))) same s.told

pub wanting_list : (k : Bool) {settings : Settings} {bytes : List ℕ} {named : NamedModel} {entries : List Entry} {s : Status} (sink : SinkState) → s ≡ status.NoMemory → entries ≡ entry.Fetched (note.Bytes bytes) ∷ []
    → (files : Option Files) (name : List ℕ) → IsRead settings files name bytes named → Ended k (IsFileRun settings files name) (unsaid_of settings files name) entries s sink sink
wanting_list k {settings = settings} sink is e files name read = wanting k (IsFileRun settings files name) (unsaid_of settings files name) sink is (wants_list read e)

-- a refused read
refused_said : {settings : Settings} {files : Option Files} {name : List ℕ} {notes entries : List Entry} (why : Refusal) {after : View} → SaysRead (begun settings files) name notes (reply.Refused why) after → entries ≡ notes
    → IsFileRun settings files name entries (refusal_text why) status.SomeRefused
refused_said {settings} {files} {name} {notes} {entries} why {after} says e = record {
  refused = true;
  run = record {
    notes = notes;
    rest = [];
    divided = e ∙ sym (append-nil notes);
    read = reply.Refused why;
    after = after;
    says = says;
    then_is = record { nothing_more = refl; text_is = refl; refused_is = refl };
  };
  status_is = refl;
}

read_refused : (settings : Settings) (files : Option Files) (name : List ℕ) (entries : List Entry) (answer : FetchNote) (why : Refusal) → ReadSays (begun settings files) name (ended.Refused answer why)
    → entries ≡ entry.Fetched answer ∷ [] → IsFileRun settings files name entries (refusal_text why) status.SomeRefused
read_refused settings files name entries (note.Bytes bytes) why says e = refused_said why says e
read_refused settings files name entries note.Absent why says e = refused_said why says e
read_refused settings files name entries note.TooLong why says e = refused_said why says e
read_refused settings files name entries note.Failed why says e = refused_said why says e

pub refusal_ended : {k : Bool} {entries : List Entry} {s : Status} {old new : SinkState} (settings : Settings) (files : Option Files) (name : List ℕ) (answer : FetchNote) (why : Refusal)
    → ReadSays (begun settings files) name (ended.Refused answer why) → entries ≡ entry.Fetched answer ∷ [] → Answered k status.SomeRefused s old new (refusal_text why)
    → Ended k (IsFileRun settings files name) (unsaid_of settings files name) entries s old new
refusal_ended {entries = entries} settings files name answer why says e a =
    ended_of (IsFileRun settings files name) (unsaid_of settings files name) entries status.SomeRefused tt (read_refused settings files name entries answer why says e) a

pub unread_ended : (k : Bool) {entries : List Entry} {s : Status} (sink : SinkState) (settings : Settings) (files : Option Files) (name : List ℕ) (bytes : Option (List ℕ))
    → ReadSays (begun settings files) name (ended.NoMemory bytes) → entries ≡ bytes_notes bytes → s ≡ status.NoMemory → Ended k (IsFileRun settings files name) (unsaid_of settings files name) entries s sink sink
unread_ended k sink settings files name bytes says e is = wanting k (IsFileRun settings files name) (unsaid_of settings files name) sink is (subst (unsaid_of settings files name) (sym e) says)

-- The counts.

own_none : (test : Entry → Bool) → ((x : List ℤ) → test (entry.Found x) ≡ false) → ((e : RunEnd) (nodes : ℕ) → test (entry.Ended e nodes) ≡ false)
    → (rest : List Entry) → list_all is_own rest ≡ true → filter test rest ≡ []
own_none test f e [] own = refl
own_none test f e (entry.Found x ∷ rest) own = rw (f x) (own_none test f e rest own)
own_none test f e (entry.Ended ended nodes ∷ rest) own = rw (e ended nodes) (own_none test f e rest own)
own_none test f e (entry.Fetched answer ∷ rest) own = absurd (let h : false ≡ true = own in cc)
own_none test f e (entry.Stored answer ∷ rest) own = absurd (let h : false ≡ true = own in cc)

-- the run's own notes don't count
own_counted : (test : Entry → Bool) → ((x : List ℤ) → test (entry.Found x) ≡ false) → ((e : RunEnd) (nodes : ℕ) → test (entry.Ended e nodes) ≡ false)
    → (first : Entry) (rest : List Entry) → list_all is_own rest ≡ true → count_by test (first ∷ []) ≡ count_by test (first ∷ rest)
own_counted test f e first rest own =
    sym (length-filter test (first ∷ [])) ∙ ap length (sym (append-nil (filter test (first ∷ []))))
    ∙ ap (λ es. length (filter test (first ∷ []) ++ es)) (sym (own_none test f e rest own))
    ∙ ap length (sym (filter-append test (first ∷ []) rest)) ∙ length-filter test (first ∷ rest)

pub own_answers : {first : Entry} {entries : List Entry} {old new : ShelfState} → OwnNotes first entries → AreAnswers (first ∷ []) old new → AreAnswers entries old new
own_answers {first} {entries} {old} {new} n a = subst (λ es. AreAnswers es old new) (sym n.noted) (record {
  files = a.files;
  answers = subst (λ k. new.answers ≡ raised_by k old.answers) (own_counted is_answer (λ x. refl) (λ e nodes. refl) first n.rest n.own) a.answers;
  absences = subst (λ k. RoseBy k old.absences new.absences) (own_counted is_absence (λ x. refl) (λ e nodes. refl) first n.rest n.own) a.absences;
  overruns = subst (λ k. RoseBy k old.overruns new.overruns) (own_counted is_overrun (λ x. refl) (λ e nodes. refl) first n.rest n.own) a.overruns;
  faults = subst (λ k. RoseBy k old.faults new.faults) (own_counted is_fault (λ x. refl) (λ e nodes. refl) first n.rest n.own) a.faults;
})

-- The notes and the words.

pub first_noted : {empty mid whole : List Entry} (rest : List Entry) (first : Entry) → whole ≡ mid ++ rest → mid ≡ empty ++ first ∷ [] → empty ≡ [] → whole ≡ first ∷ rest
first_noted rest first e f none = e ∙ ap (λ es. es ++ rest) (f ∙ ap (λ es. es ++ first ∷ []) none)

-- what a run says and leaves unsaid, in other words
outcome_as : (k : Bool) (says other : Saying) (unsaid without : Unsaid) (entries : List Entry) (old new : Option (List ℕ)) (s : Status)
    → ((text : List ℕ) (g : Status) → says entries text g → other entries text g) → (unsaid entries → without entries)
    → Outcome k says unsaid entries s old new → Outcome k other without entries s old new
outcome_as k says other unsaid without entries old new status.Clean f g h = record { text = h.text; said = f h.text status.Clean h.said; held = h.held }
outcome_as k says other unsaid without entries old new status.SomeRefused f g h = record { text = h.text; said = f h.text status.SomeRefused h.said; held = h.held }
outcome_as k says other unsaid without entries old new status.Usage f g h = record { text = h.text; said = f h.text status.Usage h.said; held = h.held }
outcome_as k says other unsaid without entries old new status.SinkFault f g h = record { text = h.text; meant = h.meant; said = f h.text h.meant h.said; held = h.held }
outcome_as k says other unsaid without entries old new status.NoMemory f g (inl (takes, part)) = inl (takes, record { text = part.text; meant = part.meant; said = f part.text part.meant part.said; held = part.held })
outcome_as k says other unsaid without entries old new status.NoMemory f g (inr none) = inr (record { held = none.held; noted = g none.noted })
outcome_as k says other unsaid without entries old new status.SourceFault f g h = absurd h
outcome_as k says other unsaid without entries old new status.StreamTooLong f g h = absurd h

-- the file was read and listed, or refused
pub file_ended : {k : Bool} {files : Option Files} {words : List (List ℕ)} {r : Request} {format : FileFormat} {entries : List Entry} {s : Status} {old new : SinkState}
    → IsReading words r → format_of r.file ≡ Some format → Ended k (IsFileRun (settings_of r) files r.file) (WantsInRead (begun (settings_of r) files) r.file) entries s old new
    → Ended k (RunText files words) (RunUnsaid files words) entries s old new
file_ended {k} {files} {words} {r} {format} {entries} {s} {old} {new} reading is ended = record {
  outcome = outcome_as k (IsFileRun (settings_of r) files r.file) (RunText files words) (WantsInRead (begun (settings_of r) files) r.file) (RunUnsaid files words) entries old.held new.held s
      (λ text g d. run.asks r reading (subst (λ f. RequestText files r f entries text g) (sym is) d)) (λ w. run.reading r format reading is w) ended.outcome;
  later = ended.later;
  fault = ended.fault;
}

-- the file's name has another ending
pub other_ended : {k : Bool} {files : Option Files} {words : List (List ℕ)} {r : Request} {entries : List Entry} {s : Status} {old new : SinkState}
    → IsReading words r → format_of r.file ≡ None → entries ≡ [] → Answered k status.SomeRefused s old new (spelling wording.BadArgument)
    → Ended k (RunText files words) (RunUnsaid files words) entries s old new
other_ended {k} {files} {words} {r} {entries} {s} {old} {new} reading is e a =
    ended_of (RunText files words) (RunUnsaid files words) entries status.SomeRefused tt
    (run.asks r reading (subst (λ f. RequestText files r f entries (spelling wording.BadArgument) status.SomeRefused) (sym is) (record { nothing_noted = e; line = refl; status_is = refl }))) a

pub usage_ended : {k : Bool} (files : Option Files) (words : List (List ℕ)) {entries : List Entry} {s : Status} {old new : SinkState} → IsNoReading words → entries ≡ []
    → Answered k status.Usage s old new (spelling wording.Usage) → Ended k (RunText files words) (RunUnsaid files words) entries s old new
usage_ended files words {entries} none e a =
    ended_of (RunText files words) (RunUnsaid files words) entries status.Usage tt (run.no_reading none (record { nothing_noted = e; line = refl; status_is = refl })) a

-- there was no memory for the words or for the shelf's answer
pub no_room_ended : (k : Bool) (sink : SinkState) (files : Option Files) (words : List (List ℕ)) {entries : List Entry} {s : Status} → entries ≡ [] → s ≡ status.NoMemory
    → Ended k (RunText files words) (RunUnsaid files words) entries s sink sink
no_room_ended k sink files words e is = wanting k (RunText files words) (RunUnsaid files words) sink is (run.nothing e)

-- words that ask for nothing, where there was memory
pub no_reading_of : {words : List (List ℕ)} (why : WordsRefusal) → why ≡ refused.Usage → (why ≡ refused.NoMemory) ⊎ IsNoReading words → IsNoReading words
no_reading_of why is (inl m) = absurd (let bad : refused.Usage ≡ refused.NoMemory = sym is ∙ m in cc)
no_reading_of why is (inr none) = none
