-- Which files have a draft, and at which line the others are refused.
use Rattle.std.specs.Prelude.{◌≡◌, ℕ, ◌+◌, ◌<◌, Bool, true, false, if◌then◌else◌, List, [], length, take, Option, Some, None, slice_index_or, max, ◌⊎◌}
use Rattle.sp_draft.specs.declared.drafts.Draft.{Draft}
use Rattle.sp_draft.specs.declared.read_refusals.ReadRefusal.{ReadRefusal}
use Rattle.sp_draft.specs.declared.read_refusals.ReadRefusal.TheVariants as refusal
use Rattle.sp_mps_words.specs.declared.faults.FaultKind.{FaultKind}
use Rattle.sp_mps_words.specs.declared.faults.FaultKind.TheVariants.{Syntax, WideNumeral, DuplicateName, UnknownName, Unsupported}
use Rattle.sp_mps_words.specs.declared.heads.Head.{Head}
use Rattle.sp_mps_words.specs.declared.heads.Head.TheVariants.{Endata}
use Rattle.sp_mps_words.specs.declared.line_kinds.LineKind.{LineKind}
use Rattle.sp_mps_words.specs.declared.line_kinds.LineKind.TheVariants.{Ignored, Section}
use Rattle.sp_mps_words.specs.Heads.{head_of}
use Rattle.sp_mps_words.specs.Lines.{Line}
use Rattle.sp_mps_words.specs.Words.{Word, word_at}
use Rattle.sp_mps.specs.Checks.{check}
use Rattle.sp_mps.specs.Drafts.{draft_of}
use Rattle.sp_mps.specs.Facts.{facts}

abbrev pub is_endata : Option Head → Bool
is_endata (Some Endata) = true
is_endata head = false

abbrev pub is_end : LineKind → List Word → Bool
is_end Section words = is_endata (head_of (word_at words 0))
is_end kind words = false

-- the line is ENDATA
unfoldable pub ends : Line → Bool
ends l = is_end l.kind l.words

-- what becomes of a line: the file goes on behind it, it ends there, or the line is refused
pub data Verdict : Type 0 where
  Goes : Verdict
  Ends : Verdict
  Fails : FaultKind → Verdict

abbrev pub verdict_from : Option FaultKind → Bool → Verdict
verdict_from (Some kind) b = Fails kind
verdict_from None b = if b then Ends else Goes

abbrev pub no_line : Line
no_line = record { kind = Ignored; words = [] }

-- the verdict on the line at the place, by the lines before it
unfoldable pub verdict : List Line → ℕ → Verdict
verdict lines n =
    verdict_from (check (take n lines) (slice_index_or lines n no_line)) (ends (slice_index_or lines n no_line))

-- the place is the first one where the file doesn't go on
pub record IsFirst (lines : List Line) (n : ℕ) (v : Verdict) : Type 0 where
  pub within : n < length lines
  pub before : (i : ℕ) → i < n → verdict lines i ≡ Goes
  pub here : verdict lines n ≡ v

-- the lines through ENDATA pass, and say this
pub record IsDraft (lines : List Line) (d : Draft) : Type 0 where
  pub place : ℕ
  pub first : IsFirst lines place Ends
  pub means : d ≡ draft_of (facts (take (place + 1) lines))

-- the first line that doesn't pass, counted from 1
pub record IsFaulty (lines : List Line) (kind : FaultKind) (line : ℕ) : Type 0 where
  pub place : ℕ
  pub first : IsFirst lines place (Fails kind)
  pub line_is : line ≡ place + 1

-- no line is refused, and none ends the file: the fault is at the last line, or at line 1
pub record IsOpen (lines : List Line) (kind : FaultKind) (line : ℕ) : Type 0 where
  pub all : (i : ℕ) → i < length lines → verdict lines i ≡ Goes
  pub kind_is : kind ≡ Syntax
  pub line_is : line ≡ max 1 (length lines)

abbrev pub IsFault : List Line → FaultKind → ℕ → Type 0
IsFault lines kind line = IsFaulty lines kind line ⊎ IsOpen lines kind line

-- a fault and its line as the reader answers it
abbrev pub refusal_of : FaultKind → ℕ → ReadRefusal
refusal_of Syntax line = refusal.Syntax line
refusal_of WideNumeral line = refusal.WideNumeral line
refusal_of DuplicateName line = refusal.DuplicateName line
refusal_of UnknownName line = refusal.UnknownName line
refusal_of Unsupported line = refusal.Unsupported line

-- the file is refused for this
pub record IsRefused (lines : List Line) (r : ReadRefusal) : Type 0 where
  pub kind : FaultKind
  pub line : ℕ
  pub fault : IsFault lines kind line
  pub is : r ≡ refusal_of kind line
