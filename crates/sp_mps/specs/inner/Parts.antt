-- The parts of a draft.
use Rattle.std.specs.Prelude.{◌≡◌, ℕ, false, List, [], length, map, filter, Option, unwrap_or}
use Rattle.std.specs.List.{range_with_len}
use Rattle.sp_decimal.specs.DecimalFraction.{DecimalFraction}
use Rattle.sp_decimal.specs.declared.numerals.Numeral.{Numeral}
use Rattle.sp_draft.specs.Drafts.{WrittenTerm}
use Rattle.sp_draft.specs.declared.drafts.Draft.{Draft}
use Rattle.sp_draft.specs.declared.drafts.DraftVar.{DraftVar}
use Rattle.sp_mps.specs.Drafts.{is_plain, cost_of, constants_of, draft_rows, draft_indicator}
use Rattle.sp_mps.specs.declared.drafting.RowParts.{RowParts}
use Rattle.sp_mps.specs.declared.reader.Reader.{Reader}
use Rattle.sp_mps.specs.inner.Tables.{row_of, indicator_of, cost_at, constants_at}

-- the parts, as they are made of what is gathered by row
pub record IsMadeOf (f : Reader) (terms : List (List WrittenTerm)) (sides : List (Option Numeral)) (ranges : List
    (Option DecimalFraction)) (p : RowParts) : Type 0 where
  pub cost : p.cost ≡ cost_at terms f.rows.objective
  pub constants : p.constants ≡ constants_at sides f.rows.objective
  pub rows : p.rows ≡ map (row_of f.rows.kinds terms sides ranges) (filter (is_plain f) (range_with_len 0 (length
      f.rows.names)))
  pub indicators : p.indicators ≡ map (indicator_of f.rows.kinds terms sides ranges) f.indicators.rows

-- the parts of the draft that speak of rows
pub record AreRowParts (f : Reader) (p : RowParts) : Type 0 where
  pub cost : p.cost ≡ cost_of f f.rows.objective
  pub constants : p.constants ≡ constants_of f f.rows.objective
  pub rows : p.rows ≡ draft_rows f
  pub indicators : p.indicators ≡ map (draft_indicator f) f.indicators.rows

-- the draft has these parts
pub record IsJoined (f : Reader) (vars : List DraftVar) (p : RowParts) (d : Draft) : Type 0 where
  pub maximize : d.maximize ≡ unwrap_or f.direction false
  pub names : d.names ≡ f.columns.names
  pub vars_are : d.vars ≡ vars
  pub cost : d.cost ≡ p.cost
  pub constants : d.constants ≡ p.constants
  pub rows : d.rows ≡ p.rows
  pub indicators : d.indicators ≡ p.indicators
  pub sos : d.sos ≡ []
