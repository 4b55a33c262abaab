-- What the syntax tree of an LP file means, entry by entry in the order of the file.
use Rattle.std.specs.Prelude.{◌≡◌, Bool, true, false, not, if◌then◌else◌, List, [], ◌∷◌, ◌++◌, fold, Option, Some, None, pos, slice_index_or, slice_set}
use Rattle.sp_decimal.specs.DecimalFraction.{DecimalFraction}
use Rattle.sp_decimal.specs.declared.numerals.Numeral.{Numeral}
use Rattle.sp_decimal.specs.declared.numerals.Numeral.TheVariants.{Huge}
use Rattle.sp_draft.specs.declared.drafts.Draft.{Draft}
use Rattle.sp_draft.specs.declared.drafts.DraftVar.{DraftVar}
use Rattle.sp_draft.specs.declared.drafts.DraftRow.{DraftRow}
use Rattle.sp_draft.specs.declared.drafts.DraftIndicator.{DraftIndicator}
use Rattle.sp_draft.specs.declared.drafts.DraftSos.{DraftSos}
use Rattle.sp_draft.specs.declared.drafts.Sense.{Sense}
use Rattle.sp_draft.specs.declared.drafts.Sense.TheVariants.{Less, Greater, Equal}
use Rattle.sp_draft.specs.declared.drafts.Sides.{Sides}
use Rattle.sp_draft.specs.declared.drafts.Sides.TheVariants as sides
use Rattle.sp_draft.specs.declared.drafts.VarKind.{VarKind}
use Rattle.sp_draft.specs.declared.drafts.VarKind.TheVariants as kinds
use Rattle.sp_draft.specs.Drafts.{WrittenTerm}
use Rattle.sp_draft.specs.Names.{Name, is_among, place_of, with_name}
use Rattle.sp_model.specs.declared.parts.SosKind.{SosKind}
use Rattle.sp_lp_words.specs.declared.sections.Section.{Section}
use Rattle.sp_lp_words.specs.declared.sections.Section.TheVariants as sections
use Rattle.sp_lp_grammar.specs.Trees.{Item, Variable, Constant, Body, Compared, Mirrored, Between, Conditional, BoundLine, Stated, Turned, Enclosed, Unbounded, Entry, Turn, Row, Bound, Listed, Opening, Member, File}
use Rattle.sp_lp_grammar.specs.Grammar.{product, signed}

-- what was said so far: the parts of the draft; the terms of the sum or the set that is being read, and the set's kind, if one
-- is; the names of rows and indicators, and those of sets
pub record Said : Type 0 where
  pub maximize : Bool
  pub names : List Name
  pub vars : List DraftVar
  pub terms : List WrittenTerm
  pub cost : List WrittenTerm
  pub constants : List DecimalFraction
  pub rows : List DraftRow
  pub indicators : List DraftIndicator
  pub set_kind : Option SosKind
  pub sets : List DraftSos
  pub row_names : List Name
  pub set_names : List Name

-- before the objective's items
abbrev pub nothing : Bool → Said
nothing maximize = record { maximize = maximize; names = []; vars = []; terms = []; cost = []; constants = []; rows = []; indicators = []; set_kind = None; sets = []; row_names = []; set_names = [] }

-- a variable of which nothing is stated
abbrev pub plain_var : DraftVar
plain_var = record { kind = kinds.Continuous; lower = None; upper = None; semi = false }

-- a variable is declared where its name first appears
abbrev pub declared : Name → Said → Said
declared name said = record said {
  names = with_name said.names name;
  vars = if is_among said.names name then said.vars else said.vars ++ plain_var ∷ [];
}

-- a further term of the sum, or a further member of the set
abbrev pub with_term : Name → DecimalFraction → Said → Said
with_term name d said = record (declared name said) { terms = said.terms ++ (place_of said.names name, d) ∷ [] }

abbrev pub with_constant : DecimalFraction → Said → Said
with_constant d said = record said { constants = said.constants ++ d ∷ [] }

abbrev pub one : DecimalFraction
one = record { p = pos 1; s = 0 }

-- a coefficient that isn't written is 1
abbrev pub number_or_one : Option DecimalFraction → DecimalFraction
number_or_one None = one
number_or_one (Some d) = d

abbrev pub with_item : Said → Item → Said
with_item said (Variable signs number name) = with_term name (signed (product false signs) (number_or_one number)) said
with_item said (Constant signs d) = with_constant (signed (product false signs) d) said

abbrev pub with_items : Said → List Item → Said
with_items said items = fold with_item said items

-- the objective is complete
abbrev pub with_cost : Said → Said
with_cost said = record said { cost = said.terms; terms = [] }

-- the relation as it reads from the other side
abbrev pub mirrored : Sense → Sense
mirrored Less = Greater
mirrored Greater = Less
mirrored Equal = Equal

-- what a sum that has this relation to a value is held to
abbrev pub sides_of : Sense → Numeral → Sides
sides_of Less value = sides.Le value
sides_of Greater value = sides.Ge value
sides_of Equal value = sides.Eq value

-- what a sum between two values is held to
abbrev pub sides_between : Numeral → Sense → Numeral → Sides
sides_between left Greater right = sides.Between right left
sides_between left sense right = sides.Between left right

-- the sum is a row's
abbrev pub with_row : Sides → Said → Said
with_row sides said = record said { rows = said.rows ++ record { terms = said.terms; sides = sides } ∷ []; terms = [] }

-- the sum is that of a row which has to hold where the variable has the value
abbrev pub with_indicator : Name → Bool → Sides → Said → Said
with_indicator name on sides said = record said {
  indicators = said.indicators ++ record { var = place_of said.names name; on = on; row = record { terms = said.terms; sides = sides } } ∷ [];
  terms = [];
}

abbrev pub with_body : Said → Body → Said
with_body said (Compared items sense value) = with_row (sides_of sense value) (with_items said items)
with_body said (Mirrored value sense items) = with_row (sides_of (mirrored sense) value) (with_items said items)
with_body said (Between left sense items right) = with_row (sides_between left sense right) (with_items said items)
with_body said (Conditional name on items sense value) = with_indicator name on (sides_of sense value) (with_items (declared name said) items)

abbrev pub with_row_name : Option Name → Said → Said
with_row_name None said = said
with_row_name (Some name) said = record said { row_names = with_name said.row_names name }

-- the variable with what a bound states of it: the sides that it names
abbrev pub bounded : Sense → Numeral → DraftVar → DraftVar
bounded Less value var = record var { upper = Some value }
bounded Greater value var = record var { lower = Some value }
bounded Equal value var = record var { lower = Some value; upper = Some value }

abbrev pub unbounded : DraftVar → DraftVar
unbounded var = record var { lower = Some (Huge true); upper = Some (Huge false) }

-- the variable with what a list of names says of it: a binary one stays binary
abbrev pub integer_kind : VarKind → VarKind
integer_kind kinds.Binary = kinds.Binary
integer_kind kind = kinds.Integer

abbrev pub listed : Section → DraftVar → DraftVar
listed sections.General var = record var { kind = integer_kind var.kind }
listed sections.Binary var = record var { kind = kinds.Binary }
listed sections.Semi var = record var { semi = true }
listed section var = var

-- the variable of the name, declared if it isn't yet, is changed so
abbrev pub with_var : (DraftVar → DraftVar) → Name → Said → Said
with_var change name said = record (declared name said) {
  vars = slice_set (declared name said).vars (place_of said.names name) (change (slice_index_or (declared name said).vars (place_of said.names name) plain_var));
}

abbrev pub with_bound : Said → BoundLine → Said
with_bound said (Stated name sense value) = with_var (bounded sense value) name said
with_bound said (Turned value sense name) = with_var (bounded (mirrored sense) value) name said
with_bound said (Enclosed left sense name right) = with_var (bounded sense right) name (with_var (bounded (mirrored sense) left) name said)
with_bound said (Unbounded name) = with_var unbounded name said

-- the set that is being read is complete, if there is one
abbrev pub set_closed : Option SosKind → Said → Said
set_closed None said = said
set_closed (Some kind) said = record said { sets = said.sets ++ record { kind = kind; members = said.terms } ∷ []; terms = []; set_kind = None }

abbrev pub closed : Said → Said
closed said = set_closed said.set_kind said

abbrev pub with_set_name : Option Name → Said → Said
with_set_name None said = said
with_set_name (Some name) said = record said { set_names = with_name said.set_names name }

abbrev pub with_set : SosKind → Said → Said
with_set kind said = record (closed said) { set_kind = Some kind }

abbrev pub with_entry : Said → Entry → Said
with_entry said (Turn section) = closed said
with_entry said (Row label body) = with_body (with_row_name label said) body
with_entry said (Bound line) = with_bound said line
with_entry said (Listed section name) = with_var (listed section) name said
with_entry said (Opening label kind) = with_set kind (with_set_name label said)
with_entry said (Member name weight) = with_term name weight said

-- the names of rows and indicators are distinct, and so are those of sets: no entry brings one that was there before
abbrev pub is_new : Said → Entry → Bool
is_new said (Row (Some name) body) = not (is_among said.row_names name)
is_new said (Opening (Some name) kind) = not (is_among said.set_names name)
is_new said entry = true

abbrev pub AreNew : Said → List Entry → Type 0
AreNew said [] = Unit {0}
AreNew said (entry ∷ entries) = (is_new said entry ≡ true) × AreNew (with_entry said entry) entries

abbrev pub is_maximal : Section → Bool
is_maximal sections.Maximize = true
is_maximal section = false

-- what was said behind the objective
abbrev pub objective_said : File → Said
objective_said file = with_cost (with_items (nothing (is_maximal file.direction)) file.cost)

-- the draft at the end of the file
abbrev pub draft_of : Said → Draft
draft_of said = record {
  maximize = said.maximize;
  names = said.names;
  vars = said.vars;
  cost = said.cost;
  constants = said.constants;
  rows = said.rows;
  indicators = said.indicators;
  sos = (closed said).sets;
}

abbrev pub meaning : File → Draft
meaning file = draft_of (fold with_entry (objective_said file) file.entries)
