-- Drafts: what a model file says, before it is scaled.
use Rattle.std.specs.Prelude.{◌≡◌, ℕ, ◌<◌, List, length, All}
use Rattle.sp_decimal.specs.DecimalFraction.{DecimalFraction}
use Rattle.sp_draft.specs.declared.drafts.DraftIndicator.{DraftIndicator}
use Rattle.sp_draft.specs.declared.drafts.Draft.{Draft}

-- a variable with its coefficient or its weight, as written
abbrev pub WrittenTerm : Type 0
WrittenTerm = ℕ × DecimalFraction

-- each term's variable is one of so many
abbrev pub AreKnown : ℕ → List WrittenTerm → Type 0
AreKnown count ts = All (λ t. t.0 < count) ts

-- the indicator's variable and those of its row are some of so many
pub record IsKnownIndicator (count : ℕ) (i : DraftIndicator) : Type 0 where
  pub var : i.var < count
  pub terms : AreKnown count i.row.terms

-- there are as many variables as names, and all parts speak of these alone
pub record IsWellFormed (d : Draft) : Type 0 where
  pub paired : length d.vars ≡ length d.names
  pub cost : AreKnown (length d.names) d.cost
  pub rows : All (λ row. AreKnown (length d.names) row.terms) d.rows
  pub indicators : All (IsKnownIndicator (length d.names)) d.indicators
  pub sos : All (λ set. AreKnown (length d.names) set.members) d.sos
