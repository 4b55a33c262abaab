-- What is left of a file behind each place of the reader, by the rules of the grammar.
use Rattle.std.proofs.Common.{◌≡◌, Bool, true, false, List, [], ◌∷◌, Option, Some, ◌⊎◌, fold}
use Rattle.sp_decimal.specs.DecimalFraction.{DecimalFraction}
use Rattle.sp_decimal.specs.declared.numerals.Numeral.{Numeral}
use Rattle.sp_decimal.specs.declared.numerals.Numeral.TheVariants.{Exact}
use Rattle.sp_draft.specs.declared.drafts.Draft.{Draft}
use Rattle.sp_draft.specs.declared.drafts.Sense.{Sense}
use Rattle.sp_draft.specs.declared.drafts.Sense.TheVariants as senses
use Rattle.sp_draft.specs.Names.{Name, is_among}
use Rattle.sp_model.specs.declared.parts.SosKind.{SosKind}
use Rattle.sp_lp_words.specs.Sections.{set_kind_of}
use Rattle.sp_lp_grammar.specs.declared.places.Place.{Place}
use Rattle.sp_lp_grammar.specs.declared.places.Place.TheVariants as places
use Rattle.sp_lp_grammar.specs.declared.places.Sum.{Sum}
use Rattle.sp_lp_grammar.specs.declared.places.Sum.TheVariants as sums
use Rattle.sp_lp_grammar.specs.declared.places.Side.{Side}
use Rattle.sp_lp_grammar.specs.declared.places.Side.TheVariants as ends
use Rattle.sp_lp_grammar.specs.Lexemes.{Named, Number, Relation, Colon, DoubleColon}
use Rattle.sp_lp_grammar.specs.Trees.{Item, Body, BoundLine, Entry}
use Rattle.sp_lp_grammar.specs.Grammar.{Toks, Is, name_first, Signs, product, signed, signed_numeral, IsValue, Later, IsSum, IsLabel, IsCost, IsOrder, IsBody, IsBound, bit, Scope, Beginning, Rows, Bounds, Names, Sets, Entries}
use Rattle.sp_lp_grammar.specs.Meaning.{Said, with_term, with_constant, with_items, one, with_cost, mirrored, sides_of, sides_between, with_row, with_indicator, with_row_name, with_body, with_bound, bounded, with_var, with_set, with_set_name, with_entry, AreNew, draft_of}
use Rattle.sp_lp_grammar.specs.Reads.{Says}
use Rattle.sp_lp_grammar.specs.InnerMachine.{State}

-- entries from a scope on, up to the end of the file
pub record Goes (p : Draft) (scope : Scope) (m : Said) (ts : Toks) : Type 0 where
  pub entries : List Entry
  pub spelled : Entries scope ts entries
  pub new : AreNew m entries
  pub means : draft_of (fold with_entry m entries) ≡ p

-- what stands behind a sum, given what was said with it
abbrev pub Behind : Type 1
Behind = Said → Toks → Type 0

abbrev pub LaterGoes : Bool → Behind → Said → Toks → Type 0
LaterGoes c K m ts = (items : List Item) × (mid : Toks) × Later c ts items mid × K (with_items m items) mid

abbrev pub SumGoes : Bool → Behind → Said → Toks → Type 0
SumGoes c K m ts = (items : List Item) × (mid : Toks) × IsSum c ts items mid × K (with_items m items) mid

-- behind the number of an item
abbrev pub BehindNumber : Bool → Behind → Bool → DecimalFraction → Said → Toks → Type 0
BehindNumber c K negative d m ts =
    ((name : Name) × (mid : Toks) × Is (Named name) ts mid × LaterGoes c K (with_term name (signed negative d) m) mid)
    ⊎ ((c ≡ true) × (name_first ts ≡ false) × LaterGoes c K (with_constant (signed negative d) m) ts)

-- behind the signs of an item
abbrev pub Unsigned : Bool → Behind → Bool → Said → Toks → Type 0
Unsigned c K negative m ts =
    ((name : Name) × (mid : Toks) × Is (Named name) ts mid × LaterGoes c K (with_term name (signed negative one) m) mid)
    ⊎ ((d : DecimalFraction) × (mid : Toks) × Is (Number (Exact d)) ts mid × BehindNumber c K negative d m mid)

-- among the signs of an item
abbrev pub ItemGoes : Bool → Behind → Bool → Said → Toks → Type 0
ItemGoes c K negative m ts = (signs : List Bool) × (unsigned : Toks) × Signs ts signs unsigned × Unsigned c K (product negative signs) m unsigned

-- among the signs of a value
abbrev pub ValueGoes : Bool → (Numeral → Toks → Type 0) → Toks → Type 0
ValueGoes negative F ts = (signs : List Bool) × (unsigned : Toks) × (number : Numeral) × (after : Toks)
    × Signs ts signs unsigned × Is (Number number) unsigned after × F (signed_numeral (product negative signs) number) after

abbrev pub SideGoes : (Numeral → Toks → Type 0) → Toks → Type 0
SideGoes F ts = (value : Numeral) × (after : Toks) × IsValue ts value after × F value after

abbrev pub KCost : Draft → Behind
KCost p m ts = Goes p Beginning (with_cost m) ts

abbrev pub RowDone : Draft → Sense → Said → Numeral → Toks → Type 0
RowDone p sense m value after = Goes p (Rows false) (with_row (sides_of sense value) m) after

abbrev pub ThenDone : Draft → Name → Bool → Sense → Said → Numeral → Toks → Type 0
ThenDone p name on sense m value after = Goes p (Rows false) (with_indicator name on (sides_of sense value) m) after

abbrev pub RangeDone : Draft → Numeral → Sense → Said → Numeral → Toks → Type 0
RangeDone p left sense m value after = Goes p (Rows false) (with_row (sides_between left sense value) m) after

abbrev pub BoundDone : Draft → Name → Sense → Said → Numeral → Toks → Type 0
BoundDone p name sense m value after = Goes p (Bounds false) (with_var (bounded sense value) name m) after

abbrev pub KRow : Draft → Behind
KRow p m ts = (sense : Sense) × (b : Toks) × Is (Relation sense) ts b × SideGoes (RowDone p sense m) b

abbrev pub KThen : Draft → Name → Bool → Behind
KThen p name on m ts = (sense : Sense) × (b : Toks) × Is (Relation sense) ts b × SideGoes (ThenDone p name on sense m) b

abbrev pub KRight : Draft → Numeral → Sense → Behind
KRight p value sense m ts =
    Goes p (Rows false) (with_row (sides_of (mirrored sense) value) m) ts
    ⊎ ((b : Toks) × IsOrder sense × Is (Relation sense) ts b × SideGoes (RangeDone p value sense m) b)

-- behind the number that a row began with
abbrev pub LeadNumber : Draft → Bool → Numeral → Said → Toks → Type 0
LeadNumber p negative n m ts =
    ((d : DecimalFraction) × (n ≡ Exact d) × (name : Name) × (mid : Toks) × Is (Named name) ts mid × LaterGoes false (KRow p) (with_term name (signed negative d) m) mid)
    ⊎ ((sense : Sense) × (mid : Toks) × Is (Relation sense) ts mid × ItemGoes false (KRight p (signed_numeral negative n) sense) false m mid)

-- among the signs that a row began with
abbrev pub LeadGoes : Draft → Bool → Said → Toks → Type 0
LeadGoes p negative m ts = (signs : List Bool) × (unsigned : Toks) × Signs ts signs unsigned
    × (((name : Name) × (mid : Toks) × Is (Named name) unsigned mid × LaterGoes false (KRow p) (with_term name (signed (product negative signs) one) m) mid)
    ⊎ ((n : Numeral) × (mid : Toks) × Is (Number n) unsigned mid × LeadNumber p (product negative signs) n m mid))

abbrev pub BodyGoes : Draft → Said → Toks → Type 0
BodyGoes p m ts = (body : Body) × (mid : Toks) × IsBody ts body mid × Goes p (Rows false) (with_body m body) mid

-- behind a name that a row's body began with
abbrev pub LeadName : Draft → Name → Said → Toks → Type 0
LeadName p name m ts = (first : Bool) → BodyGoes p m ((first, Named name) ∷ ts)

abbrev pub RowName : Draft → Name → Said → Toks → Type 0
RowName p name m ts =
    ((mid : Toks) × Is Colon ts mid × (is_among m.row_names name ≡ false) × BodyGoes p (with_row_name (Some name) m) mid)
    ⊎ LeadName p name m ts

abbrev pub CostGoes : Draft → Said → Toks → Type 0
CostGoes p m ts = (items : List Item) × (mid : Toks) × IsCost ts items mid × KCost p (with_items m items) mid

abbrev pub ObjectiveGoes : Draft → Said → Toks → Type 0
ObjectiveGoes p m ts = (label : Option Name) × (mid : Toks) × IsLabel ts label mid × CostGoes p m mid

abbrev pub BoundGoes : Draft → Said → Toks → Type 0
BoundGoes p m ts = (line : BoundLine) × (mid : Toks) × IsBound ts line mid × Goes p (Bounds false) (with_bound m line) mid

abbrev pub BoundMiddle : Draft → Sense → Name → Said → Toks → Type 0
BoundMiddle p sense name m ts =
    Goes p (Bounds false) m ts
    ⊎ ((b : Toks) × IsOrder sense × Is (Relation sense) ts b × SideGoes (BoundDone p name sense m) b)

abbrev pub BoundRight : Draft → Numeral → Sense → Said → Toks → Type 0
BoundRight p value sense m ts = (name : Name) × (mid : Toks) × Is (Named name) ts mid × BoundMiddle p sense name (with_var (bounded (mirrored sense) value) name m) mid

abbrev pub BoundNumber : Draft → Said → Numeral → Toks → Type 0
BoundNumber p m value ts = (sense : Sense) × (mid : Toks) × Is (Relation sense) ts mid × BoundRight p value sense m mid

-- behind the word of a set's kind
abbrev pub SetWord : Draft → SosKind → Said → Toks → Type 0
SetWord p kind m ts = (mid : Toks) × Is DoubleColon ts mid × Goes p (Sets true) (with_set kind m) mid

abbrev pub KindWord : Draft → Name → Said → Toks → Type 0
KindWord p word m ts = (kind : SosKind) × (set_kind_of word ≡ Some kind) × SetWord p kind m ts

abbrev pub OpeningGoes : Draft → Said → Toks → Type 0
OpeningGoes p m ts = (word : Name) × (mid : Toks) × Is (Named word) ts mid × KindWord p word m mid

abbrev pub SetName : Draft → Name → Said → Toks → Type 0
SetName p name m ts =
    ((mid : Toks) × Is Colon ts mid × (is_among m.set_names name ≡ false) × OpeningGoes p (with_set_name (Some name) m) mid)
    ⊎ KindWord p name m ts

abbrev pub WeightGoes : Draft → Bool → Name → Said → Toks → Type 0
WeightGoes p negative name m ts = (signs : List Bool) × (unsigned : Toks) × (d : DecimalFraction) × (mid : Toks)
    × Signs ts signs unsigned × Is (Number (Exact d)) unsigned mid × Goes p (Sets true) (with_term name (signed (product negative signs) d) m) mid

abbrev pub MemberColon : Draft → Name → Said → Toks → Type 0
MemberColon p name m ts =
    WeightGoes p false name m ts
    ⊎ ((is_among m.set_names name ≡ false) × OpeningGoes p (with_set_name (Some name) m) ts)

abbrev pub MemberName : Draft → Name → Said → Toks → Type 0
MemberName p name m ts =
    ((mid : Toks) × Is Colon ts mid × MemberColon p name m mid)
    ⊎ KindWord p name m ts

-- what stands behind each sum's items
abbrev pub KSum : Draft → Sum → State → Behind
KSum p sums.Cost s = KCost p
KSum p sums.Lead s = KRow p
KSum p sums.Row s = KRow p
KSum p sums.Then s = KThen p s.name s.on
KSum p sums.Right s = KRight p s.value s.sense

abbrev pub constants : Sum → Bool
constants sums.Cost = true
constants sum = false

abbrev pub SideDone : Draft → Side → State → Numeral → Toks → Type 0
SideDone p ends.Row s = RowDone p s.sense s.said
SideDone p ends.Then s = ThenDone p s.name s.on s.sense s.said
SideDone p ends.Range s = RangeDone p s.value s.sense s.said
SideDone p ends.Bound s = BoundDone p s.name s.sense s.said

abbrev pub SignedRest : Draft → Sum → Bool → State → Toks → Type 0
SignedRest p sums.Lead negative s ts = LeadGoes p negative s.said ts
SignedRest p sum negative s ts = ItemGoes (constants sum) (KSum p sum s) negative s.said ts

abbrev pub NumberedRest : Draft → Sum → State → Toks → Type 0
NumberedRest p sums.Lead s ts = LeadNumber p s.negative s.number s.said ts
NumberedRest p sum s ts = (d : DecimalFraction) × (s.number ≡ Exact d) × BehindNumber (constants sum) (KSum p sum s) s.negative d s.said ts

-- what is left of a file that means the draft, from the place on
abbrev pub Rest : Draft → Place → State → Toks → Type 0
Rest p places.Start s ts = Says ts p
Rest p places.Objective s ts = ObjectiveGoes p s.said ts
Rest p places.ObjectiveName s ts = (first : Bool) → ObjectiveGoes p s.said ((first, Named s.name) ∷ ts)
Rest p places.CostOpen s ts = CostGoes p s.said ts
Rest p (places.Signed sum) s ts = SignedRest p sum s.negative s ts
Rest p (places.Numbered sum) s ts = NumberedRest p sum s ts
Rest p (places.After sum) s ts = LaterGoes (constants sum) (KSum p sum s) s.said ts
Rest p (places.Rows fresh) s ts = Goes p (Rows fresh) s.said ts
Rest p places.RowName s ts = RowName p s.name s.said ts
Rest p places.Labelled s ts = BodyGoes p s.said ts
Rest p places.LeadName s ts = LeadName p s.name s.said ts
Rest p places.EqualSide s ts = (first second : Bool) → BodyGoes p s.said ((first, Named s.name) ∷ (second, Relation senses.Equal) ∷ ts)
Rest p places.Bit s ts = s.number ≡ bit s.on → (first second third : Bool) → BodyGoes p s.said ((first, Named s.name) ∷ (second, Relation senses.Equal) ∷ (third, Number s.number) ∷ ts)
Rest p (places.Value side) s ts = ValueGoes s.negative (SideDone p side s) ts
Rest p (places.Bounds fresh) s ts = Goes p (Bounds fresh) s.said ts
Rest p places.BoundName s ts = (first : Bool) → BoundGoes p s.said ((first, Named s.name) ∷ ts)
Rest p places.BoundSigned s ts = ValueGoes s.negative (BoundNumber p s.said) ts
Rest p places.BoundNumber s ts = BoundNumber p s.said s.value ts
Rest p places.BoundRight s ts = BoundRight p s.value s.sense s.said ts
Rest p places.BoundMiddle s ts = BoundMiddle p s.sense s.name s.said ts
Rest p (places.Names section) s ts = Goes p (Names section) s.said ts
Rest p places.Sets s ts = Goes p (Sets false) s.said ts
Rest p places.SetName s ts = SetName p s.name s.said ts
Rest p places.SetLabelled s ts = OpeningGoes p s.said ts
Rest p places.SetWord s ts = SetWord p s.kind s.said ts
Rest p places.Members s ts = Goes p (Sets true) s.said ts
Rest p places.MemberName s ts = MemberName p s.name s.said ts
Rest p places.MemberColon s ts = MemberColon p s.name s.said ts
Rest p places.MemberSigned s ts = WeightGoes p s.negative s.name s.said ts
Rest p places.Done s ts = (ts ≡ []) × (draft_of s.said ≡ p)
