-- How a file is read from its front to its end, lexeme by lexeme.
use Rattle.std.specs.Prelude.{ℕ, ◌==◌, Bool, true, false, not, ◌||◌, ◌&&◌, if◌then◌else◌, [], ◌∷◌, Option, Some, None, option_and_then, pos, is_some}
use Rattle.std.specs.Ordering.{int_eq}
use Rattle.sp_decimal.specs.DecimalFraction.{DecimalFraction}
use Rattle.sp_decimal.specs.declared.numerals.Numeral.{Numeral}
use Rattle.sp_decimal.specs.declared.numerals.Numeral.TheVariants.{Exact, Huge}
use Rattle.sp_draft.specs.declared.drafts.Draft.{Draft}
use Rattle.sp_draft.specs.declared.drafts.Sense.{Sense}
use Rattle.sp_draft.specs.declared.drafts.Sense.TheVariants as senses
use Rattle.sp_draft.specs.Names.{Name, is_among}
use Rattle.sp_model.specs.declared.parts.SosKind.{SosKind}
use Rattle.sp_model.specs.declared.parts.SosKind.TheVariants as kinds
use Rattle.sp_lp_words.specs.declared.sections.Section.{Section}
use Rattle.sp_lp_words.specs.declared.sections.Section.TheVariants as sections
use Rattle.sp_lp_words.specs.Sections.{is_free, set_kind_of}
use Rattle.sp_lp_grammar.specs.declared.places.Place.{Place}
use Rattle.sp_lp_grammar.specs.declared.places.Place.TheVariants.{Start, Objective, ObjectiveName, CostOpen, Signed, Numbered, After, Rows, RowName, Labelled, LeadName, EqualSide, Bit, Value, Bounds, BoundName, BoundSigned, BoundNumber, BoundRight, BoundMiddle, Names, Sets, SetName, SetLabelled, SetWord, Members, MemberName, MemberColon, MemberSigned, Done}
use Rattle.sp_lp_grammar.specs.declared.places.Sum.{Sum}
use Rattle.sp_lp_grammar.specs.declared.places.Sum.TheVariants as sums
use Rattle.sp_lp_grammar.specs.declared.places.Side.{Side}
use Rattle.sp_lp_grammar.specs.declared.places.Side.TheVariants as ends
use Rattle.sp_lp_grammar.specs.Lexemes.{Kind, Heading, Named, Number, Sign, Relation, Colon, DoubleColon, Arrow, Other, Lexeme}
use Rattle.sp_lp_grammar.specs.Grammar.{Toks, signed, signed_numeral, turned}
use Rattle.sp_lp_grammar.specs.Meaning.{Said, nothing, declared, with_term, with_constant, one, with_cost, mirrored, sides_of, sides_between, with_row, with_indicator, with_row_name, bounded, unbounded, listed, with_var, closed, with_set_name, with_set, draft_of}

-- where the reader stands; what it keeps of the sign, the number, the relation, the value and the name before, of an indicator's
-- number and of a set's kind; and what was said
pub record State : Type 0 where
  pub place : Place
  pub negative : Bool
  pub number : Numeral
  pub sense : Sense
  pub value : Numeral
  pub name : Name
  pub on : Bool
  pub kind : SosKind
  pub said : Said

abbrev pub zero_value : Numeral
zero_value = Exact (record { p = pos 0; s = 0 })

abbrev pub start : State
start = record { place = Start; negative = false; number = zero_value; sense = senses.Less; value = zero_value; name = []; on = false; kind = kinds.One; said = nothing false }

abbrev pub at : Place → State → State
at place s = record s { place = place }

abbrev pub saying : Said → State → State
saying said s = record s { said = said }

abbrev pub named : Name → State → State
named name s = record s { name = name }

-- a row or a bound may begin
abbrev pub begun : Bool → Bool → State → Option State
begun fresh first s = if fresh || first then Some s else None

-- the items behind the first one of a row
abbrev pub later : Sum → Sum
later sums.Lead = sums.Row
later sum = sum

abbrev pub termed : Sum → Bool → DecimalFraction → Name → State → Option State
termed sum negative d name s = Some (record s { place = After (later sum); said = with_term name (signed negative d) s.said })

-- the name behind a number
abbrev pub coefficient : Sum → Numeral → Name → State → Option State
coefficient sum (Exact d) name s = termed sum s.negative d name s
coefficient sum (Huge negative) name s = None

-- the row between a value and the next row
abbrev pub right_row : State → State
right_row s = saying (with_row (sides_of (mirrored s.sense) s.value) s.said) s

-- the name that a row began with is a variable
abbrev pub lead_term : State → State
lead_term s = saying (with_term s.name one s.said) s

-- the row that says that a variable is 0 or 1
abbrev pub bit_row : State → State
bit_row s = saying (with_row (sides_of senses.Equal s.number) (with_term s.name one s.said)) s

-- the number is a constant
abbrev pub constant : Numeral → State → Option State
constant (Exact d) s = Some (saying (with_constant (signed s.negative d) s.said) s)
constant (Huge negative) s = None

-- the name of a set's kind
abbrev pub kinded : Option SosKind → Said → State → Option State
kinded None said s = None
kinded (Some kind) said s = Some (record s { place = SetWord; kind = kind; said = said })

abbrev pub set_word : Option SosKind → Said → State → Option State
set_word None said s = None
set_word (Some kind) said s = Some (record s { place = Members; said = with_set kind said })

-- a name that isn't that of a set before
abbrev pub new_set : Name → State → Bool
new_set name s = not (is_among s.said.set_names name)

abbrev pub if_so : Bool → Option State → Option State
if_so true s = s
if_so false s = None

abbrev pub name_step : Place → Bool → Name → State → Option State
name_step Objective first name s = Some (at ObjectiveName (named name s))
name_step CostOpen first name s = termed sums.Cost false one name s
name_step (Signed sum) first name s = termed sum s.negative one name s
name_step (Numbered sum) first name s = coefficient sum s.number name s
name_step (After sums.Right) first name s = begun false first (at RowName (named name (right_row s)))
name_step (Rows fresh) first name s = begun fresh first (at RowName (named name s))
name_step Labelled first name s = Some (at LeadName (named name s))
name_step Bit first name s = begun false first (at RowName (named name (bit_row s)))
name_step (Bounds fresh) first name s = begun fresh first (at BoundName (named name s))
name_step BoundName first name s = if_so (is_free name) (Some (at (Bounds false) (saying (with_var unbounded s.name s.said) s)))
name_step BoundRight first name s = Some (at BoundMiddle (named name (saying (with_var (bounded (mirrored s.sense) s.value) name s.said) s)))
name_step BoundMiddle first name s = begun false first (at BoundName (named name s))
name_step (Names section) first name s = Some (at (Names section) (saying (with_var (listed section) name s.said) s))
name_step Sets first name s = if_so (is_some (set_kind_of name) || new_set name s) (Some (at SetName (named name s)))
name_step SetLabelled first name s = kinded (set_kind_of name) s.said s
name_step Members first name s = Some (at MemberName (named name s))
name_step MemberColon first name s = if_so (new_set s.name s) (kinded (set_kind_of name) (with_set_name (Some s.name) s.said) s)
name_step place first name s = None

-- the first or a later item has this number; only where a value may stand may it be huge
abbrev pub numbered : Sum → Bool → Numeral → State → Option State
numbered sum negative (Exact d) s = Some (record s { place = Numbered sum; negative = negative; number = Exact d })
numbered sums.Lead negative (Huge minus) s = Some (record s { place = Numbered sums.Lead; negative = negative; number = Huge minus })
numbered sum negative (Huge minus) s = None

abbrev pub lead_number : Bool → Bool → Numeral → State → Option State
lead_number fresh first n s = begun fresh first (record s { place = Numbered sums.Lead; negative = false; number = n })

-- the number of a bound's first value
abbrev pub bound_number : Numeral → State → State
bound_number n s = record s { place = BoundNumber; value = n }

abbrev pub valued : Side → Numeral → State → State
valued ends.Row n s = at (Rows false) (saying (with_row (sides_of s.sense n) s.said) s)
valued ends.Then n s = at (Rows false) (saying (with_indicator s.name s.on (sides_of s.sense n) s.said) s)
valued ends.Range n s = at (Rows false) (saying (with_row (sides_between s.value s.sense n) s.said) s)
valued ends.Bound n s = at (Bounds false) (saying (with_var (bounded s.sense n) s.name s.said) s)

-- the decimal is the whole number
abbrev pub is_whole : ℕ → DecimalFraction → Bool
is_whole n d = int_eq d.p (pos n) && (d.s == 0)

-- 0 and 1 may be an indicator's number
abbrev pub bit_of : Numeral → Option Bool
bit_of (Exact d) = if is_whole 0 d then Some false else (if is_whole 1 d then Some true else None)
bit_of (Huge negative) = None

abbrev pub equal_number : Option Bool → Numeral → State → State
equal_number None n s = at (Rows false) (saying (with_row (sides_of senses.Equal n) (with_term s.name one s.said)) s)
equal_number (Some on) n s = record s { place = Bit; number = n; on = on }

-- a member of a set with its weight
abbrev pub weighed : Bool → Numeral → State → Option State
weighed negative (Exact d) s = Some (at Members (saying (with_term s.name (signed negative d) s.said) s))
weighed negative (Huge minus) s = None

abbrev pub number_step : Place → Bool → Numeral → State → Option State
number_step Objective first n s = numbered sums.Cost false n s
number_step CostOpen first n s = numbered sums.Cost false n s
number_step (Signed sum) first n s = numbered sum s.negative n s
number_step (After sums.Right) first n s = lead_number false first n (right_row s)
number_step (Rows fresh) first n s = lead_number fresh first n s
number_step Labelled first n s = lead_number true first n s
number_step EqualSide first n s = Some (equal_number (bit_of n) n s)
number_step Bit first n s = lead_number false first n (bit_row s)
number_step (Value side) first n s = Some (valued side (signed_numeral s.negative n) s)
number_step (Bounds fresh) first n s = begun fresh first (bound_number n s)
number_step BoundSigned first n s = Some (bound_number (signed_numeral s.negative n) s)
number_step BoundMiddle first n s = begun false first (bound_number n s)
number_step MemberColon first n s = weighed false n s
number_step MemberSigned first n s = weighed s.negative n s
number_step place first n s = None

abbrev pub minus_at : Place → Bool → State → State
minus_at place negative s = record s { place = place; negative = negative }

abbrev pub sign_behind : Bool → Option State → Option State
sign_behind minus None = None
sign_behind minus (Some s) = Some (minus_at (Signed sums.Cost) minus s)

abbrev pub sign_step : Place → Bool → Bool → State → Option State
sign_step Objective first minus s = Some (minus_at (Signed sums.Cost) minus s)
sign_step ObjectiveName first minus s = Some (minus_at (Signed sums.Cost) minus (lead_term s))
sign_step CostOpen first minus s = Some (minus_at (Signed sums.Cost) minus s)
sign_step (Signed sum) first minus s = Some (minus_at (Signed sum) (turned s.negative minus) s)
sign_step (Numbered sums.Cost) first minus s = sign_behind minus (constant s.number s)
sign_step (After sum) first minus s = Some (minus_at (Signed (later sum)) minus s)
sign_step (Rows fresh) first minus s = begun fresh first (minus_at (Signed sums.Lead) minus s)
sign_step RowName first minus s = Some (minus_at (Signed sums.Row) minus (lead_term s))
sign_step Labelled first minus s = Some (minus_at (Signed sums.Lead) minus s)
sign_step LeadName first minus s = Some (minus_at (Signed sums.Row) minus (lead_term s))
sign_step EqualSide first minus s = Some (record (lead_term s) { place = Value ends.Row; negative = minus; sense = senses.Equal })
sign_step Bit first minus s = begun false first (minus_at (Signed sums.Lead) minus (bit_row s))
sign_step (Value side) first minus s = Some (minus_at (Value side) (turned s.negative minus) s)
sign_step (Bounds fresh) first minus s = begun fresh first (minus_at BoundSigned minus s)
sign_step BoundSigned first minus s = Some (minus_at BoundSigned (turned s.negative minus) s)
sign_step BoundMiddle first minus s = begun false first (minus_at BoundSigned minus s)
sign_step MemberColon first minus s = Some (minus_at MemberSigned minus s)
sign_step MemberSigned first minus s = Some (minus_at MemberSigned (turned s.negative minus) s)
sign_step place first minus s = None

-- a value comes next
abbrev pub sided : Side → Sense → State → State
sided side sense s = record s { place = Value side; sense = sense; negative = false }

-- behind the name that a row began with
abbrev pub lead_relation : Sense → State → State
lead_relation senses.Equal s = at EqualSide s
lead_relation sense s = sided ends.Row sense (lead_term s)

-- a second relation, which has to be the first one and no equality
abbrev pub ordered : Sense → Sense → Bool
ordered senses.Less senses.Less = true
ordered senses.Greater senses.Greater = true
ordered sense other = false

abbrev pub relation_step : Place → Sense → State → Option State
relation_step (Numbered sums.Lead) sense s = Some (record s { place = Signed sums.Right; value = signed_numeral s.negative s.number; sense = sense; negative = false })
relation_step (After sums.Row) sense s = Some (sided ends.Row sense s)
relation_step (After sums.Then) sense s = Some (sided ends.Then sense s)
relation_step (After sums.Right) sense s = if_so (ordered s.sense sense) (Some (sided ends.Range sense s))
relation_step RowName sense s = Some (lead_relation sense s)
relation_step LeadName sense s = Some (lead_relation sense s)
relation_step BoundName sense s = Some (sided ends.Bound sense s)
relation_step BoundNumber sense s = Some (record s { place = BoundRight; sense = sense })
relation_step BoundMiddle sense s = if_so (ordered s.sense sense) (Some (sided ends.Bound sense s))
relation_step place sense s = None

abbrev pub colon_step : Place → State → Option State
colon_step ObjectiveName s = Some (at CostOpen s)
colon_step RowName s = if_so (not (is_among s.said.row_names s.name)) (Some (at Labelled (saying (with_row_name (Some s.name) s.said) s)))
colon_step SetName s = if_so (new_set s.name s) (Some (at SetLabelled (saying (with_set_name (Some s.name) s.said) s)))
colon_step MemberName s = Some (at MemberColon s)
colon_step place s = None

abbrev pub double_colon_step : Place → State → Option State
double_colon_step SetName s = set_word (set_kind_of s.name) s.said s
double_colon_step MemberName s = set_word (set_kind_of s.name) s.said s
double_colon_step SetWord s = set_word (Some s.kind) s.said s
double_colon_step place s = None

-- the row behind it has to hold where the variable has the value
abbrev pub arrow_step : Place → State → Option State
arrow_step Bit s = Some (record s { place = Signed sums.Then; negative = false; said = declared s.name s.said })
arrow_step place s = None

-- the objective is complete
abbrev pub cost_ended : Option State → Option State
cost_ended None = None
cost_ended (Some s) = Some (saying (with_cost s.said) s)

-- what was said where a section may end
abbrev pub ended : Place → State → Option State
ended Objective s = Some (saying (with_cost s.said) s)
ended ObjectiveName s = Some (saying (with_cost (lead_term s).said) s)
ended CostOpen s = Some (saying (with_cost s.said) s)
ended (Numbered sums.Cost) s = cost_ended (constant s.number s)
ended (After sums.Cost) s = Some (saying (with_cost s.said) s)
ended (After sums.Right) s = Some (right_row s)
ended (Rows fresh) s = Some s
ended Bit s = Some (bit_row s)
ended (Bounds fresh) s = Some s
ended BoundMiddle s = Some s
ended (Names section) s = Some s
ended Sets s = Some s
ended Members s = Some s
ended place s = None

-- where the entries of a section stand
abbrev pub place_behind : Section → Option Place
place_behind sections.Rows = Some (Rows true)
place_behind sections.Bounds = Some (Bounds true)
place_behind sections.General = Some (Names sections.General)
place_behind sections.Binary = Some (Names sections.Binary)
place_behind sections.Semi = Some (Names sections.Semi)
place_behind sections.Sets = Some Sets
place_behind sections.End = Some Done
place_behind section = None

abbrev pub moved : Option Place → State → Option State
moved None s = None
moved (Some place) s = Some (at place s)

abbrev pub turned_to : Section → Option State → Option State
turned_to section None = None
turned_to section (Some s) = moved (place_behind section) (saying (closed s.said) s)

abbrev pub directed : Section → State → Option State
directed sections.Minimize s = Some (at Objective (saying (nothing false) s))
directed sections.Maximize s = Some (at Objective (saying (nothing true) s))
directed section s = None

abbrev pub heading_step : Place → Section → State → Option State
heading_step Start section s = directed section s
heading_step place section s = turned_to section (ended place s)

-- the word of a section is the first of its line
abbrev pub kind_step : Kind → Bool → State → Option State
kind_step (Heading section) true s = heading_step s.place section s
kind_step (Heading section) false s = None
kind_step (Named name) first s = name_step s.place first name s
kind_step (Number n) first s = number_step s.place first n s
kind_step (Sign minus) first s = sign_step s.place first minus s
kind_step (Relation sense) first s = relation_step s.place sense s
kind_step Colon first s = colon_step s.place s
kind_step DoubleColon first s = double_colon_step s.place s
kind_step Arrow first s = arrow_step s.place s
kind_step Other first s = None

unfoldable pub step : State → Lexeme → Option State
step s t = kind_step t.1 t.0 s

abbrev pub finished : Place → Said → Option Draft
finished Done said = Some (draft_of said)
finished place said = None

unfoldable pub run : State → Toks → Option Draft
run s [] = finished s.place s.said
run s (t ∷ ts) = option_and_then (λ next. run next ts) (step s t)
