-- What a model file means: a model with the names of its variables, or the first reason why it has none.
use Rattle.std.specs.Prelude.{◌≡◌, ℕ, List, [], length, slice_index_or, Option, None, Some, Result, Ok, Err}
use Rattle.std.specs.Option.{option_map}
use Rattle.sp_draft.specs.declared.drafts.Draft.{Draft}
use Rattle.sp_draft.specs.declared.read_refusals.ReadRefusal.{ReadRefusal}
use Rattle.sp_draft.specs.declared.read_refusals.ReadRefusal.TheVariants as unread
use Rattle.sp_lower.specs.declared.refusals.LowerRefusal.{LowerRefusal}
use Rattle.sp_lower.specs.declared.refusals.LowerRefusal.TheVariants as unmade
use Rattle.sp_lower.specs.Lowering.{model_of, refusal_of}
use Rattle.sp_lp.specs.Refusals.{IsRefused as IsLpRefused}
use Rattle.sp_lp_grammar.specs.Reads.{LpOf}
use Rattle.sp_mps.specs.Verdicts.{IsDraft as IsMpsDraft, IsRefused as IsMpsRefused}
use Rattle.sp_mps_words.specs.Lines.{lines_of}
use Rattle.sp_model.specs.Models.{root_of}
use Rattle.sp_meaning.specs.declared.formats.FileFormat.{FileFormat}
use Rattle.sp_meaning.specs.declared.formats.FileFormat.TheVariants.{Lp, Mps}
use Rattle.sp_meaning.specs.declared.models.Meaning.{Meaning}
use Rattle.sp_meaning.specs.declared.models.Meaning.TheVariants as meant
use Rattle.sp_meaning.specs.declared.refusals.Refusal.{Refusal}
use Rattle.sp_meaning.specs.declared.refusals.Refusal.TheVariants as refusal
use Rattle.sp_meaning.specs.Formats.{format_of}

-- Reading: the bytes of a file of this format say this draft, or are refused for this.
abbrev pub ReadsAs : FileFormat → List ℕ → Result Draft ReadRefusal → Type 0
ReadsAs Lp bytes (Ok draft) = LpOf bytes draft
ReadsAs Lp bytes (Err why) = IsLpRefused bytes why
ReadsAs Mps bytes (Ok draft) = IsMpsDraft (lines_of bytes) draft
ReadsAs Mps bytes (Err why) = IsMpsRefused (lines_of bytes) why

-- what a file that can't be read is refused for; want of memory refuses no file
abbrev pub reading_refusal : ReadRefusal → Option Refusal
reading_refusal (unread.Syntax line) = Some (refusal.Syntax line)
reading_refusal (unread.WideNumeral line) = Some (refusal.WideNumeral line)
reading_refusal (unread.DuplicateName line) = Some (refusal.DuplicateName line)
reading_refusal (unread.UnknownName line) = Some (refusal.UnknownName line)
reading_refusal (unread.Unsupported line) = Some (refusal.Unsupported line)
reading_refusal unread.NoMemory = None

-- the name of a variable
abbrev pub name_of : List (List ℕ) → ℕ → List ℕ
name_of names var = slice_index_or names var []

-- what a draft that makes no model is refused for: of a variable the name is told, of all else the place
abbrev pub lowering_refusal : List (List ℕ) → LowerRefusal → Option Refusal
lowering_refusal names (unmade.TooMany what) = Some (refusal.TooMany what)
lowering_refusal names (unmade.Continuous var) = Some (refusal.Continuous (name_of names var))
lowering_refusal names (unmade.NegativeUpper var) = Some (refusal.NegativeUpper (name_of names var))
lowering_refusal names (unmade.WideBound var) = Some (refusal.WideBound (name_of names var))
lowering_refusal names (unmade.OpenVariable var) = Some (refusal.OpenVariable (name_of names var))
lowering_refusal names unmade.WideObjective = Some refusal.WideObjective
lowering_refusal names (unmade.WideRow row) = Some (refusal.WideRow row)
lowering_refusal names (unmade.BadIndicator place) = Some (refusal.BadIndicator place)
lowering_refusal names (unmade.BadSos place) = Some (refusal.BadSos place)
lowering_refusal names unmade.NoMemory = None

-- Lowering: the model of a draft with its names, where nothing in it is refused; else the first thing that is.
abbrev pub meaning_by : Draft → Option LowerRefusal → Option Meaning
meaning_by draft None = Some (meant.Model (record { names = draft.names; model = model_of draft }))
meaning_by draft (Some why) = option_map meant.Refused (lowering_refusal draft.names why)

unfoldable pub meaning_of_draft : Draft → Option Meaning
meaning_of_draft draft = meaning_by draft (refusal_of draft)

-- what was read means this
abbrev pub meaning_of : Result Draft ReadRefusal → Option Meaning
meaning_of (Ok draft) = meaning_of_draft draft
meaning_of (Err why) = option_map meant.Refused (reading_refusal why)

-- the file of this name with these bytes means this: it is read by its format and lowered
pub record Means (name bytes : List ℕ) (m : Meaning) : Type 0 where
  pub format : FileFormat
  pub format_is : format_of name ≡ Some format
  pub read : Result Draft ReadRefusal
  pub reads : ReadsAs format bytes read
  pub meaning_is : meaning_of read ≡ Some m

-- a model has a name for each variable
abbrev pub IsPaired : Meaning → Type 0
IsPaired (meant.Model named) = length named.names ≡ length (root_of named.model)
IsPaired (meant.Refused why) = Unit {0}
