-- The syntax trees of LP files.
use Rattle.std.specs.Prelude.{Bool, List, Option}
use Rattle.sp_decimal.specs.DecimalFraction.{DecimalFraction}
use Rattle.sp_decimal.specs.declared.numerals.Numeral.{Numeral}
use Rattle.sp_draft.specs.declared.drafts.Sense.{Sense}
use Rattle.sp_draft.specs.Names.{Name}
use Rattle.sp_model.specs.declared.parts.SosKind.{SosKind}
use Rattle.sp_lp_words.specs.declared.sections.Section.{Section}

-- an item of a sum: a variable with its signs and its number, or a constant with its signs. A sign is true for a minus
pub data Item : Type 0 where
  Variable : List Bool → Option DecimalFraction → Name → Item
  Constant : List Bool → DecimalFraction → Item

-- a row behind its name: a sum and a value; a value and a sum; a sum between two values; or a row that has to hold where a
-- variable is 1 (true) or 0
pub data Body : Type 0 where
  Compared : List Item → Sense → Numeral → Body
  Mirrored : Numeral → Sense → List Item → Body
  Between : Numeral → Sense → List Item → Numeral → Body
  Conditional : Name → Bool → List Item → Sense → Numeral → Body

-- a line of bounds, in as many forms
pub data BoundLine : Type 0 where
  Stated : Name → Sense → Numeral → BoundLine
  Turned : Numeral → Sense → Name → BoundLine
  Enclosed : Numeral → Sense → Name → Numeral → BoundLine
  Unbounded : Name → BoundLine

-- what stands in a file behind its objective, one after another: the word of a section; a row with its name, if it has one; a
-- line of bounds; a name in a section's list; a set's name, if it has one, and kind; a member of a set with its weight
pub data Entry : Type 0 where
  Turn : Section → Entry
  Row : Option Name → Body → Entry
  Bound : BoundLine → Entry
  Listed : Section → Name → Entry
  Opening : Option Name → SosKind → Entry
  Member : Name → DecimalFraction → Entry

-- a file: the word of its objective, the objective's name and items, and the entries behind it
pub record File : Type 0 where
  pub direction : Section
  pub label : Option Name
  pub cost : List Item
  pub entries : List Entry
