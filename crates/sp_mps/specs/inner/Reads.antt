-- What the reader's answer says of the lines.
use Rattle.std.specs.Prelude.{◌≡◌, ℕ, ◌+◌, ◌<◌, ◌⊎◌, List, length, take, Result, Ok, Err, IfSome, All}
use Rattle.sp_draft.specs.declared.read_refusals.ReadRefusal.{ReadRefusal}
use Rattle.sp_draft.specs.declared.read_refusals.ReadRefusal.TheVariants as refusal
use Rattle.sp_mps_words.specs.Lines.{Line}
use Rattle.sp_mps.specs.Facts.{facts}
use Rattle.sp_mps.specs.Verdicts.{IsFirst, Ends, IsRefused, refusal_of}
use Rattle.sp_mps_sections.specs.declared.columns.Term.{Term}
use Rattle.sp_mps_sections.specs.declared.indicators.IndicatorRow.{IndicatorRow}
use Rattle.sp_mps_sections.specs.declared.line_faults.LineFault.{LineFault}
use Rattle.sp_mps_sections.specs.declared.line_faults.LineFault.TheVariants.{Refused, NoMemory}
use Rattle.sp_mps.specs.declared.reader.Reader.{Reader}

pub record IsKnownRow (rows columns : ℕ) (i : IndicatorRow) : Type 0 where
  pub row : i.row < rows
  pub column : i.column < columns

-- the places of rows and columns that the reader holds are those of rows and columns
pub record IsKnown (s : Reader) : Type 0 where
  pub objective : IfSome s.rows.objective (λ r. r < length s.rows.names)
  pub terms : All (λ (t : Term). t.column < length s.columns.names) s.columns.terms
  pub indicators : All (IsKnownRow (length s.rows.names) (length s.columns.names)) s.indicators.rows

-- every line through the place was read, where the file ends, and the reader holds what they say
pub record IsRead (lines : List Line) (s : Reader) : Type 0 where
  pub place : ℕ
  pub first : IsFirst lines place Ends
  pub state : s ≡ facts (take (place + 1) lines)
  pub known : IsKnown s

-- what an answer of the reader says of the lines
abbrev pub Says : List Line → Result Reader ReadRefusal → Type 0
Says lines (Ok s) = IsRead lines s
Says lines (Err r) = (r ≡ refusal.NoMemory) ⊎ IsRefused lines r

-- the refusal of a line that isn't taken
abbrev pub refusal_at : LineFault → ℕ → ReadRefusal
refusal_at (Refused kind) line = refusal_of kind line
refusal_at NoMemory line = refusal.NoMemory
