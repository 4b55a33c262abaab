-- The grammar of LP files. A rule says which lexemes stand between two places of a list, and what they are.
use Rattle.std.specs.Prelude.{◌≡◌, Bool, true, false, not, ◌||◌, List, [], ◌∷◌, Option, Some, None, pos}
use Rattle.sp_decimal.specs.DecimalFraction.{DecimalFraction, opposite}
use Rattle.sp_decimal.specs.declared.numerals.Numeral.{Numeral}
use Rattle.sp_decimal.specs.declared.numerals.Numeral.TheVariants.{Exact}
use Rattle.sp_decimal.specs.Numerals.{opposite_numeral}
use Rattle.sp_draft.specs.declared.drafts.Sense.{Sense}
use Rattle.sp_draft.specs.declared.drafts.Sense.TheVariants as senses
use Rattle.sp_draft.specs.Names.{Name}
use Rattle.sp_lp_words.specs.declared.sections.Section.{Section}
use Rattle.sp_lp_words.specs.declared.sections.Section.TheVariants as sections
use Rattle.sp_lp_words.specs.Sections.{is_free, set_kind_of}
use Rattle.sp_lp_grammar.specs.Lexemes.{Kind, Heading, Named, Number, Sign, Relation, Colon, DoubleColon, Arrow, Lexeme}
use Rattle.sp_lp_grammar.specs.Trees.{Item, Variable, Constant, Body, Compared, Mirrored, Between, Conditional, BoundLine, Stated, Turned, Enclosed, Unbounded, Entry, Turn, Row, Bound, Listed, Opening, Member, File}

abbrev pub Toks : Type 0
Toks = List Lexeme

-- one lexeme of this kind, first on its line or not
abbrev pub Is : Kind → Toks → Toks → Type 0
Is kind ts after = (first : Bool) × (ts ≡ (first, kind) ∷ after)

-- the first lexeme is the first of its line
abbrev pub starts_line : Toks → Bool
starts_line [] = false
starts_line (t ∷ ts) = t.0

abbrev pub is_sign : Kind → Bool
is_sign (Sign minus) = true
is_sign kind = false

abbrev pub is_name : Kind → Bool
is_name (Named name) = true
is_name kind = false

-- a sign stands first
abbrev pub sign_first : Toks → Bool
sign_first [] = false
sign_first (t ∷ ts) = is_sign t.1

-- a name stands first
abbrev pub name_first : Toks → Bool
name_first [] = false
name_first (t ∷ ts) = is_name t.1

-- signs, of which each minus (true) turns the sign
abbrev pub Signs : Toks → List Bool → Toks → Type 0
Signs ts [] after = ts ≡ after
Signs ts (minus ∷ signs) after = (mid : Toks) × Is (Sign minus) ts mid × Signs mid signs after

-- a sign that may be turned once more
abbrev pub turned : Bool → Bool → Bool
turned negative true = not negative
turned negative false = negative

-- the product of a sign and further ones
abbrev pub product : Bool → List Bool → Bool
product negative [] = negative
product negative (minus ∷ signs) = product (turned negative minus) signs

abbrev pub signed : Bool → DecimalFraction → DecimalFraction
signed true d = opposite d
signed false d = d

abbrev pub signed_numeral : Bool → Numeral → Numeral
signed_numeral true n = opposite_numeral n
signed_numeral false n = n

-- a value: signs or none, and a number or a word for infinity
pub record IsValue (ts : Toks) (value : Numeral) (after : Toks) : Type 0 where
  pub signs : List Bool
  pub unsigned : Toks
  pub number : Numeral
  pub signs_are : Signs ts signs unsigned
  pub number_is : Is (Number number) unsigned after
  pub value_is : value ≡ signed_numeral (product false signs) number

-- an exact number, or none
abbrev pub Coefficient : Toks → Option DecimalFraction → Toks → Type 0
Coefficient ts None after = ts ≡ after
Coefficient ts (Some d) after = Is (Number (Exact d)) ts after

-- a variable with its signs and its number; or, where constants are allowed, an exact number that no name follows
abbrev pub IsItem : Bool → Toks → Item → Toks → Type 0
IsItem constants ts (Variable signs number name) after =
    (unsigned : Toks) × (variable : Toks) × Signs ts signs unsigned × Coefficient unsigned number variable × Is (Named name) variable after
IsItem constants ts (Constant signs d) after =
    (unsigned : Toks) × (constants ≡ true) × Signs ts signs unsigned × Is (Number (Exact d)) unsigned after × (name_first after ≡ false)

-- items that have a sign each. A sign behind a sum always continues it
abbrev pub Later : Bool → Toks → List Item → Toks → Type 0
Later constants ts [] after = (sign_first ts ≡ false) × (ts ≡ after)
Later constants ts (item ∷ items) after = (mid : Toks) × (sign_first ts ≡ true) × IsItem constants ts item mid × Later constants mid items after

-- a sum: at least one item, of which the first one may have signs
abbrev pub IsSum : Bool → Toks → List Item → Toks → Type 0
IsSum constants ts [] after = ⊥
IsSum constants ts (item ∷ items) after = (mid : Toks) × IsItem constants ts item mid × Later constants mid items after

-- a name and a colon, or nothing
abbrev pub IsLabel : Toks → Option Name → Toks → Type 0
IsLabel ts None after = ts ≡ after
IsLabel ts (Some name) after = (colon : Toks) × Is (Named name) ts colon × Is Colon colon after

-- both relations of a sum between two values are at most, or both at least
abbrev pub IsOrder : Sense → Type 0
IsOrder senses.Equal = ⊥
IsOrder sense = Unit {0}

-- the number of a binary variable
abbrev pub bit : Bool → Numeral
bit true = Exact (record { p = pos 1; s = 0 })
bit false = Exact (record { p = pos 0; s = 0 })

abbrev pub IsBody : Toks → Body → Toks → Type 0
IsBody ts (Compared items sense value) after = (a : Toks) × (b : Toks) × IsSum false ts items a × Is (Relation sense) a b × IsValue b value after
IsBody ts (Mirrored value sense items) after = (a : Toks) × (b : Toks) × IsValue ts value a × Is (Relation sense) a b × IsSum false b items after
IsBody ts (Between left sense items right) after = (a : Toks) × (b : Toks) × (c : Toks) × (d : Toks) × IsOrder sense
    × IsValue ts left a × Is (Relation sense) a b × IsSum false b items c × Is (Relation sense) c d × IsValue d right after
IsBody ts (Conditional name on items sense value) after = (a : Toks) × (b : Toks) × (c : Toks) × (d : Toks) × (e : Toks) × (f : Toks)
    × Is (Named name) ts a × Is (Relation senses.Equal) a b × Is (Number (bit on)) b c × Is Arrow c d
    × IsSum false d items e × Is (Relation sense) e f × IsValue f value after

abbrev pub IsBound : Toks → BoundLine → Toks → Type 0
IsBound ts (Stated name sense value) after = (a : Toks) × (b : Toks) × Is (Named name) ts a × Is (Relation sense) a b × IsValue b value after
IsBound ts (Turned value sense name) after = (a : Toks) × (b : Toks) × IsValue ts value a × Is (Relation sense) a b × Is (Named name) b after
IsBound ts (Enclosed left sense name right) after = (a : Toks) × (b : Toks) × (c : Toks) × (d : Toks) × IsOrder sense
    × IsValue ts left a × Is (Relation sense) a b × Is (Named name) b c × Is (Relation sense) c d × IsValue d right after
IsBound ts (Unbounded name) after = (word : Name) × (a : Toks) × (is_free word ≡ true) × Is (Named name) ts a × Is (Named word) a after

-- where an entry may stand: behind the objective; in a section of rows or of bounds, directly behind its word or not; in a list
-- of names; in a section of sets, in a set or not
pub data Scope : Type 0 where
  Beginning : Scope
  Rows : Bool → Scope
  Bounds : Bool → Scope
  Names : Section → Scope
  Sets : Bool → Scope

-- where the entries of a section stand
abbrev pub scope_of : Section → Option Scope
scope_of sections.Rows = Some (Rows true)
scope_of sections.Bounds = Some (Bounds true)
scope_of sections.General = Some (Names sections.General)
scope_of sections.Binary = Some (Names sections.Binary)
scope_of sections.Semi = Some (Names sections.Semi)
scope_of sections.Sets = Some (Sets false)
scope_of section = None

-- a row or a bound begins with the first lexeme of its line, or directly behind its section's word
abbrev pub Begins : Bool → Toks → Type 0
Begins fresh ts = fresh || starts_line ts ≡ true

-- the entry stands first, and the scope behind it
abbrev pub IsEntry : Scope → Toks → Entry → Toks → Scope → Type 0
IsEntry scope ts (Turn section) after next = (ts ≡ (true, Heading section) ∷ after) × (scope_of section ≡ Some next)
IsEntry (Rows fresh) ts (Row label body) after next =
    (mid : Toks) × Begins fresh ts × IsLabel ts label mid × IsBody mid body after × (next ≡ Rows false)
IsEntry (Bounds fresh) ts (Bound line) after next = Begins fresh ts × IsBound ts line after × (next ≡ Bounds false)
IsEntry (Names section) ts (Listed kind name) after next = Is (Named name) ts after × (kind ≡ section) × (next ≡ Names section)
IsEntry (Sets inside) ts (Opening label kind) after next = (mid : Toks) × (word : Name) × (colons : Toks)
    × IsLabel ts label mid × Is (Named word) mid colons × (set_kind_of word ≡ Some kind) × Is DoubleColon colons after × (next ≡ Sets true)
IsEntry (Sets true) ts (Member name weight) after next = (colon : Toks) × (value : Toks) × (signs : List Bool) × (unsigned : Toks) × (d : DecimalFraction)
    × Is (Named name) ts colon × Is Colon colon value × Signs value signs unsigned × Is (Number (Exact d)) unsigned after
    × (weight ≡ signed (product false signs) d) × (next ≡ Sets true)
IsEntry scope ts entry after next = ⊥

-- the entries up to `end`, with which the file ends
abbrev pub Entries : Scope → Toks → List Entry → Type 0
Entries scope ts [] = ts ≡ (true, Heading sections.End) ∷ []
Entries scope ts (entry ∷ entries) = (mid : Toks) × (next : Scope) × IsEntry scope ts entry mid next × Entries next mid entries

-- the objective's items, or none
abbrev pub IsCost : Toks → List Item → Toks → Type 0
IsCost ts [] after = ts ≡ after
IsCost ts (item ∷ items) after = IsSum true ts (item ∷ items) after

abbrev pub IsDirection : Section → Type 0
IsDirection sections.Minimize = Unit {0}
IsDirection sections.Maximize = Unit {0}
IsDirection section = ⊥

pub record IsFile (ts : Toks) (file : File) : Type 0 where
  pub label : Toks
  pub cost : Toks
  pub entries : Toks
  pub direction_is : IsDirection file.direction
  pub word_is : ts ≡ (true, Heading file.direction) ∷ label
  pub label_is : IsLabel label file.label cost
  pub cost_is : IsCost cost file.cost entries
  pub entries_are : Entries Beginning entries file.entries
