-- What completes a file behind each place of the reader.
use Rattle.std.proofs.Common.{◌≡◌, ℕ, suc, Bool, true, false, not, ◌||◌, ◌&&◌, List, [], ◌∷◌, Option, Some, None, refl, ap, sym, ◌∙◌, subst, codes, pos}
use Rattle.std.specs.Prelude.{if◌then◌else◌, option_and_then, is_some, nat_lt}
use Rattle.std.proofs.Common.{arith}
use Rattle.std.proofs.lemmas.Bool.Decides.{nat_tests}
use Rattle.sp_decimal.specs.DecimalFraction.{DecimalFraction}
use Rattle.sp_decimal.specs.declared.numerals.Numeral.{Numeral}
use Rattle.sp_decimal.specs.declared.numerals.Numeral.TheVariants.{Exact, Huge}
use Rattle.sp_draft.specs.declared.drafts.Draft.{Draft}
use Rattle.sp_draft.specs.declared.drafts.Sense.{Sense}
use Rattle.sp_draft.specs.declared.drafts.Sense.TheVariants as senses
use Rattle.sp_draft.specs.Names.{Name, is_among}
use Rattle.sp_model.specs.declared.parts.SosKind.{SosKind}
use Rattle.sp_lp_tokens.specs.declared.token_types.TokenKind.{TokenKind}
use Rattle.sp_lp_tokens.specs.declared.token_types.TokenKind.TheVariants as token_kinds
use Rattle.sp_lp_tokens.specs.declared.symbols.Symbol.TheVariants as symbols
use Rattle.sp_lp_tokens.specs.SeenTokens.{SeenToken}
use Rattle.sp_lp_words.specs.declared.sections.Section.{Section}
use Rattle.sp_lp_words.specs.declared.sections.Section.TheVariants as sections
use Rattle.sp_lp_words.specs.declared.sections.Pair.{Pair}
use Rattle.sp_lp_words.specs.declared.sections.Pair.TheVariants.{SubjectTo, SuchThat, LazyConstraints, UserCuts}
use Rattle.sp_lp_words.specs.declared.sections.Part.TheVariants as parts
use Rattle.sp_lp_words.specs.declared.classes.Class.{Class}
use Rattle.sp_lp_words.specs.declared.classes.Class.TheVariants as classes
use Rattle.sp_lp_words.specs.Sections.{pair_section, is_free, set_kind_of}
use Rattle.sp_lp_words.specs.Tables.{part_of, direction_of, is_infinity}
use Rattle.sp_lp_words.specs.Classes.{class_of, kind_class}
use Rattle.sp_lp_grammar.specs.declared.places.Place.{Place}
use Rattle.sp_lp_grammar.specs.declared.places.Place.TheVariants as places
use Rattle.sp_lp_grammar.specs.declared.places.Sum.{Sum}
use Rattle.sp_lp_grammar.specs.declared.places.Sum.TheVariants as sums
use Rattle.sp_lp_grammar.specs.declared.places.Side.{Side}
use Rattle.sp_lp_grammar.specs.declared.places.Side.TheVariants as ends
use Rattle.sp_lp_grammar.specs.declared.places.Pending.{Pending}
use Rattle.sp_lp_grammar.specs.declared.places.Pending.TheVariants as waits
use Rattle.sp_lp_grammar.specs.Lexemes.{Mark, mark_of, marks, kind_of, is_colon, is_second, is_minus, is_continuous}
use Rattle.sp_lp_grammar.specs.Meaning.{Said}
use Rattle.sp_lp_grammar.specs.Reads.{Begins}
use Rattle.sp_lp_grammar.specs.InnerMachine.{State, start, at, if_so, termed, coefficient, kinded, set_word, new_set, numbered, valued, weighed, equal_number, bit_of, constant, sign_behind, lead_relation, ordered, ended, turned_to, directed, name_step, number_step, sign_step, relation_step, colon_step, double_colon_step, arrow_step, heading_step, kind_step, finished}
use Rattle.sp_lp_grammar.specs.InnerCursor.{Cursor, origin, can_head, can_name, colon_behind, double_colon_behind, can_label, waiting, settled, alone, line_begun, arrived, arrived_at, behind_heading, behind_name, alone_at, whole_taken, taken, take_mark, walk, draft_at, line_behind}
use Rattle.sp_lp_grammar.proofs.LexLemmas.{cur, reads}
use Rattle.sp_lp_grammar.proofs.FrontLemmas.{front_completed, draft_read, read_is}

-- the words of completions
data TailWord : Type 0 where
  TEnd : TailWord
  TName : TailWord
  TAtLeast : TailWord
  TOne : TailWord
  TColon : TailWord
  TDouble : TailWord
  TSet : TailWord
  TSecond : Pair → TailWord
  TContinuous : TailWord

abbrev unit_number : Numeral
unit_number = Exact (record { p = pos 1; s = 0 })

abbrev second_text : Pair → Name
second_text SubjectTo = codes "to"
second_text SuchThat = codes "that"
second_text LazyConstraints = codes "constraints"
second_text UserCuts = codes "cuts"

abbrev word_text : TailWord → Name
word_text TEnd = codes "end"
word_text TName = codes "x"
word_text TAtLeast = codes ">="
word_text TOne = codes "1"
word_text TColon = codes ":"
word_text TDouble = codes "::"
word_text TSet = codes "S1"
word_text (TSecond pair) = second_text pair
word_text TContinuous = codes "continuous"

abbrev word_kind : TailWord → TokenKind
word_kind TAtLeast = token_kinds.Symbol symbols.GreaterEqual
word_kind TOne = token_kinds.Number unit_number
word_kind TColon = token_kinds.Symbol symbols.Colon
word_kind TDouble = token_kinds.Symbol symbols.DoubleColon
word_kind word = token_kinds.Name

abbrev word_class : TailWord → Class
word_class TEnd = classes.Name (Some (parts.Whole sections.End))
word_class TName = classes.Name None
word_class TAtLeast = classes.Relation senses.Greater
word_class TOne = classes.Number unit_number
word_class TColon = classes.Colon
word_class TDouble = classes.DoubleColon
word_class TSet = classes.Name None
word_class (TSecond pair) = classes.Name (Some (parts.Closes pair))
word_class TContinuous = classes.Name (Some parts.Continuous)

class_is : (w : TailWord) → kind_class false (word_text w) (word_kind w) ≡ word_class w
unfolding part_of is_infinity
class_is TEnd = refl
class_is TName = refl
class_is TAtLeast = refl
class_is TOne = refl
class_is TColon = refl
class_is TDouble = refl
class_is TSet = refl
class_is (TSecond SubjectTo) = refl
class_is (TSecond SuchThat) = refl
class_is (TSecond LazyConstraints) = refl
class_is (TSecond UserCuts) = refl
class_is TContinuous = refl

-- a completion: words, each on the line of the one before or on the next
abbrev Tail : Type 0
Tail = List (Bool × TailWord)

abbrev line_of : Bool → ℕ → ℕ
line_of true line = suc line
line_of false line = line

abbrev tail_tokens : ℕ → Tail → List SeenToken
tail_tokens line [] = []
tail_tokens line ((new, w) ∷ rest) = record { kind = word_kind w; line = line_of new line; text = word_text w } ∷ tail_tokens (line_of new line) rest

abbrev mark_for : Bool → TailWord → Mark
mark_for new w = record { first = new; class = word_class w; text = word_text w }

abbrev tail_marks : Tail → List Mark
tail_marks [] = []
tail_marks ((new, w) ∷ rest) = mark_for new w ∷ tail_marks rest

first_is : (new : Bool) (line : ℕ) → nat_lt line (line_of new line) ≡ new
first_is true line = grind (arith, nat_tests)
first_is false line = grind (arith, nat_tests)

same_mark : (f g : Bool) (c d : Class) (text : Name) → f ≡ g → c ≡ d → ◌≡◌ {A = Mark} (record { first = f; class = c; text = text }) (record { first = g; class = d; text = text })
same_mark f g c d text e h = rw (e, h) refl

marks_are : (tail : Tail) (line : ℕ) → marks false line (tail_tokens line tail) ≡ tail_marks tail
unfolding class_of
marks_are [] line = refl
marks_are ((new, w) ∷ rest) line =
    let a : ◌≡◌ {A = Mark} (mark_of false line (record { kind = word_kind w; line = line_of new line; text = word_text w })) (mark_for new w) = same_mark (nat_lt line (line_of new line)) new (kind_class false (word_text w) (word_kind w)) (word_class w) (word_text w) (first_is new line) (class_is w) in
    rw (a, marks_are rest (line_of new line)) refl

-- the cursor's file is completed by a tail whose first word is no part of a section word but `end`
abbrev is_plain : Tail → Bool
is_plain [] = false
is_plain ((new, TSecond pair) ∷ rest) = false
is_plain ((new, TContinuous) ∷ rest) = false
is_plain tail = true

abbrev Completes : Cursor → Type 0
Completes c = (tail : Tail) × (is_some (reads c (tail_marks tail)) ≡ true)

abbrev PlainlyCompletes : Cursor → Type 0
PlainlyCompletes c = (tail : Tail) × (is_plain tail ≡ true) × (is_some (reads c (tail_marks tail)) ≡ true)

-- what is known behind each place
abbrev SaneAt : Place → State → Type 0
SaneAt places.Start s = ⊥
SaneAt (places.Numbered sums.Lead) s = Unit {0}
SaneAt (places.Numbered sum) s = (d : DecimalFraction) × (s.number ≡ Exact d)
SaneAt (places.After sums.Lead) s = ⊥
SaneAt places.SetName s = (is_some (set_kind_of s.name) || new_set s.name s) ≡ true
SaneAt places.Done s = ⊥
SaneAt place s = Unit {0}

abbrev Sane : State → Type 0
Sane s = SaneAt s.place s

abbrev fin : Tail
fin = (true, TEnd) ∷ []

abbrev side : Tail
side = (true, TAtLeast) ∷ (false, TOne) ∷ (true, TEnd) ∷ []

number_known : (place : Place) (word : Name) (s : State) (d : DecimalFraction) (tail : Tail) → s.number ≡ Exact d → is_some (reads (cur waits.Nothing word (record s { place = place; number = Exact d })) (tail_marks tail)) ≡ true
    → is_some (reads (cur waits.Nothing word (at place s)) (tail_marks tail)) ≡ true
number_known place word s d tail e h = subst (λ n. is_some (reads (cur waits.Nothing word (record s { place = place; number = n })) (tail_marks tail)) ≡ true) (sym e) h

label_completes : (word : Name) (s : State) → new_set s.name s ≡ true → is_some (reads (cur waits.Nothing word (at places.SetName s)) (tail_marks ((false, TColon) ∷ (false, TSet) ∷ (false, TDouble) ∷ (true, TEnd) ∷ []))) ≡ true
unfolding reads take_mark
label_completes word s e = rw e refl

or_none : (b : Bool) → (b || false) ≡ true → b ≡ true
or_none true e = refl
or_none false e = e

kind_completes : (word : Name) (s : State) (o : Option SosKind) → set_kind_of s.name ≡ o → is_some o ≡ true → PlainlyCompletes (cur waits.Nothing word (at places.SetName s))
unfolding reads take_mark
kind_completes word s None e h = cc
kind_completes word s (Some kind) e h = ((false, TDouble) ∷ fin, refl, rw e refl)

-- a set's name, which may be new or a kind
set_completes : (word : Name) (s : State) (new : Bool) → new_set s.name s ≡ new → (is_some (set_kind_of s.name) || new) ≡ true → PlainlyCompletes (cur waits.Nothing word (at places.SetName s))
set_completes word s true e h = ((false, TColon) ∷ (false, TSet) ∷ (false, TDouble) ∷ (true, TEnd) ∷ [], refl, label_completes word s e)
set_completes word s false e h = kind_completes word s (set_kind_of s.name) refl (or_none (is_some (set_kind_of s.name)) h)

place_completes : (place : Place) (word : Name) (s : State) → SaneAt place s → PlainlyCompletes (cur waits.Nothing word (at place s))
unfolding reads take_mark
place_completes places.Start word s h = absurd h
place_completes places.Objective word s h = (fin, refl, refl)
place_completes places.ObjectiveName word s h = (fin, refl, refl)
place_completes places.CostOpen word s h = (fin, refl, refl)
place_completes (places.Signed sums.Cost) word s h = ((true, TName) ∷ fin, refl, refl)
place_completes (places.Signed sums.Lead) word s h = ((true, TName) ∷ side, refl, refl)
place_completes (places.Signed sums.Row) word s h = ((true, TName) ∷ side, refl, refl)
place_completes (places.Signed sums.Then) word s h = ((true, TName) ∷ side, refl, refl)
place_completes (places.Signed sums.Right) word s h = ((true, TName) ∷ fin, refl, refl)
place_completes (places.Numbered sums.Cost) word s (d, e) = ((true, TName) ∷ fin, refl, number_known (places.Numbered sums.Cost) word s d ((true, TName) ∷ fin) e refl)
place_completes (places.Numbered sums.Lead) word s h = ((true, TAtLeast) ∷ (true, TName) ∷ fin, refl, refl)
place_completes (places.Numbered sums.Row) word s (d, e) = ((true, TName) ∷ side, refl, number_known (places.Numbered sums.Row) word s d ((true, TName) ∷ side) e refl)
place_completes (places.Numbered sums.Then) word s (d, e) = ((true, TName) ∷ side, refl, number_known (places.Numbered sums.Then) word s d ((true, TName) ∷ side) e refl)
place_completes (places.Numbered sums.Right) word s (d, e) = ((true, TName) ∷ fin, refl, number_known (places.Numbered sums.Right) word s d ((true, TName) ∷ fin) e refl)
place_completes (places.After sums.Cost) word s h = (fin, refl, refl)
place_completes (places.After sums.Lead) word s h = absurd h
place_completes (places.After sums.Row) word s h = (side, refl, refl)
place_completes (places.After sums.Then) word s h = (side, refl, refl)
place_completes (places.After sums.Right) word s h = (fin, refl, refl)
place_completes (places.Rows fresh) word s h = (fin, refl, refl)
place_completes places.RowName word s h = (side, refl, refl)
place_completes places.Labelled word s h = ((true, TName) ∷ side, refl, refl)
place_completes places.LeadName word s h = (side, refl, refl)
place_completes places.EqualSide word s h = ((true, TOne) ∷ fin, refl, refl)
place_completes places.Bit word s h = (fin, refl, refl)
place_completes (places.Value ends.Row) word s h = ((true, TOne) ∷ fin, refl, refl)
place_completes (places.Value ends.Then) word s h = ((true, TOne) ∷ fin, refl, refl)
place_completes (places.Value ends.Range) word s h = ((true, TOne) ∷ fin, refl, refl)
place_completes (places.Value ends.Bound) word s h = ((true, TOne) ∷ fin, refl, refl)
place_completes (places.Bounds fresh) word s h = (fin, refl, refl)
place_completes places.BoundName word s h = (side, refl, refl)
place_completes places.BoundSigned word s h = ((true, TOne) ∷ (false, TAtLeast) ∷ (false, TName) ∷ fin, refl, refl)
place_completes places.BoundNumber word s h = ((true, TAtLeast) ∷ (false, TName) ∷ fin, refl, refl)
place_completes places.BoundRight word s h = ((true, TName) ∷ fin, refl, refl)
place_completes places.BoundMiddle word s h = (fin, refl, refl)
place_completes (places.Names section) word s h = (fin, refl, refl)
place_completes places.Sets word s h = (fin, refl, refl)
place_completes places.SetName word s h = set_completes word s (new_set s.name s) refl h
place_completes places.SetLabelled word s h = ((true, TSet) ∷ (false, TDouble) ∷ fin, refl, refl)
place_completes places.SetWord word s h = ((true, TDouble) ∷ fin, refl, refl)
place_completes places.Members word s h = (fin, refl, refl)
place_completes places.MemberName word s h = ((true, TColon) ∷ (false, TOne) ∷ fin, refl, refl)
place_completes places.MemberColon word s h = ((true, TOne) ∷ fin, refl, refl)
place_completes places.MemberSigned word s h = ((true, TOne) ∷ fin, refl, refl)
place_completes places.Done word s h = absurd h

-- behind each step something is known
abbrev Then : Option State → Type 0
Then None = Unit {0}
Then (Some s) = Sane s

begun_then : (b : Bool) (s : State) → Sane s → Then (if b then Some s else None)
begun_then true s h = h
begun_then false s h = tt

so_then : (b : Bool) (o : Option State) → Then o → Then (if_so b o)
so_then true o h = h
so_then false o h = tt

termed_then : (sum : Sum) (negative : Bool) (d : DecimalFraction) (name : Name) (s : State) → Then (termed sum negative d name s)
termed_then sums.Cost negative d name s = tt
termed_then sums.Lead negative d name s = tt
termed_then sums.Row negative d name s = tt
termed_then sums.Then negative d name s = tt
termed_then sums.Right negative d name s = tt

coefficient_then : (sum : Sum) (n : Numeral) (name : Name) (s : State) → Then (coefficient sum n name s)
coefficient_then sum (Exact d) name s = termed_then sum s.negative d name s
coefficient_then sum (Huge negative) name s = tt

kinded_then : (o : Option SosKind) (m : Said) (s : State) → Then (kinded o m s)
kinded_then None m s = tt
kinded_then (Some kind) m s = tt

so_known : (b : Bool) (s : State) → (b ≡ true → Sane s) → Then (if_so b (Some s))
so_known true s h = h refl
so_known false s h = tt

name_then : (place : Place) (first : Bool) (name : Name) (s : State) → Then (name_step place first name s)
name_then places.Objective first name s = tt
name_then places.CostOpen first name s = tt
name_then (places.Signed sum) first name s = termed_then sum s.negative _ name s
name_then (places.Numbered sum) first name s = coefficient_then sum s.number name s
name_then (places.After sums.Right) first name s = begun_then (false || first) _ tt
name_then (places.Rows fresh) first name s = begun_then (fresh || first) _ tt
name_then places.Labelled first name s = tt
name_then places.Bit first name s = begun_then (false || first) _ tt
name_then (places.Bounds fresh) first name s = begun_then (fresh || first) _ tt
name_then places.BoundName first name s = so_then (is_free name) _ tt
name_then places.BoundRight first name s = tt
name_then places.BoundMiddle first name s = begun_then (false || first) _ tt
name_then (places.Names section) first name s = tt
name_then places.Sets first name s = so_known (is_some (set_kind_of name) || new_set name s) _ (λ e. e)
name_then places.SetLabelled first name s = kinded_then (set_kind_of name) s.said s
name_then places.Members first name s = tt
name_then places.MemberColon first name s = so_then (new_set s.name s) _ (kinded_then (set_kind_of name) _ s)
name_then place first name s = tt

numbered_then : (sum : Sum) (negative : Bool) (n : Numeral) (s : State) → Then (numbered sum negative n s)
numbered_then sums.Lead negative (Exact d) s = tt
numbered_then sums.Lead negative (Huge minus) s = tt
numbered_then sums.Cost negative (Exact d) s = (d, refl)
numbered_then sums.Row negative (Exact d) s = (d, refl)
numbered_then sums.Then negative (Exact d) s = (d, refl)
numbered_then sums.Right negative (Exact d) s = (d, refl)
numbered_then sums.Cost negative (Huge minus) s = tt
numbered_then sums.Row negative (Huge minus) s = tt
numbered_then sums.Then negative (Huge minus) s = tt
numbered_then sums.Right negative (Huge minus) s = tt

weighed_then : (negative : Bool) (n : Numeral) (s : State) → Then (weighed negative n s)
weighed_then negative (Exact d) s = tt
weighed_then negative (Huge minus) s = tt

valued_then : (end : Side) (n : Numeral) (s : State) → Sane (valued end n s)
valued_then ends.Row n s = tt
valued_then ends.Then n s = tt
valued_then ends.Range n s = tt
valued_then ends.Bound n s = tt

equal_then : (o : Option Bool) (n : Numeral) (s : State) → Sane (equal_number o n s)
equal_then None n s = tt
equal_then (Some on) n s = tt

number_then : (place : Place) (first : Bool) (n : Numeral) (s : State) → Then (number_step place first n s)
number_then places.Objective first n s = numbered_then sums.Cost false n s
number_then places.CostOpen first n s = numbered_then sums.Cost false n s
number_then (places.Signed sum) first n s = numbered_then sum s.negative n s
number_then (places.After sums.Right) first n s = begun_then (false || first) _ tt
number_then (places.Rows fresh) first n s = begun_then (fresh || first) _ tt
number_then places.Labelled first n s = tt
number_then places.EqualSide first n s = equal_then (bit_of n) n s
number_then places.Bit first n s = begun_then (false || first) _ tt
number_then (places.Value end) first n s = valued_then end _ s
number_then (places.Bounds fresh) first n s = begun_then (fresh || first) _ tt
number_then places.BoundSigned first n s = tt
number_then places.BoundMiddle first n s = begun_then (false || first) _ tt
number_then places.MemberColon first n s = weighed_then false n s
number_then places.MemberSigned first n s = weighed_then s.negative n s
number_then place first n s = tt

sign_behind_then : (minus : Bool) (o : Option State) → Then (sign_behind minus o)
sign_behind_then minus None = tt
sign_behind_then minus (Some s) = tt

sign_then : (place : Place) (first minus : Bool) (s : State) → Then (sign_step place first minus s)
sign_then places.Objective first minus s = tt
sign_then places.ObjectiveName first minus s = tt
sign_then places.CostOpen first minus s = tt
sign_then (places.Signed sum) first minus s = tt
sign_then (places.Numbered sums.Cost) first minus s = sign_behind_then minus (constant s.number s)
sign_then (places.After sum) first minus s = tt
sign_then (places.Rows fresh) first minus s = begun_then (fresh || first) _ tt
sign_then places.RowName first minus s = tt
sign_then places.Labelled first minus s = tt
sign_then places.LeadName first minus s = tt
sign_then places.EqualSide first minus s = tt
sign_then places.Bit first minus s = begun_then (false || first) _ tt
sign_then (places.Value end) first minus s = tt
sign_then (places.Bounds fresh) first minus s = begun_then (fresh || first) _ tt
sign_then places.BoundSigned first minus s = tt
sign_then places.BoundMiddle first minus s = begun_then (false || first) _ tt
sign_then places.MemberColon first minus s = tt
sign_then places.MemberSigned first minus s = tt
sign_then place first minus s = tt

lead_then : (sense : Sense) (s : State) → Sane (lead_relation sense s)
lead_then senses.Equal s = tt
lead_then senses.Less s = tt
lead_then senses.Greater s = tt

relation_then : (place : Place) (sense : Sense) (s : State) → Then (relation_step place sense s)
relation_then (places.Numbered sums.Lead) sense s = tt
relation_then (places.After sums.Row) sense s = tt
relation_then (places.After sums.Then) sense s = tt
relation_then (places.After sums.Right) sense s = so_then (ordered s.sense sense) _ tt
relation_then places.RowName sense s = lead_then sense s
relation_then places.LeadName sense s = lead_then sense s
relation_then places.BoundName sense s = tt
relation_then places.BoundNumber sense s = tt
relation_then places.BoundMiddle sense s = so_then (ordered s.sense sense) _ tt
relation_then place sense s = tt

colon_then : (place : Place) (s : State) → Then (colon_step place s)
colon_then places.ObjectiveName s = tt
colon_then places.RowName s = so_then (not (is_among s.said.row_names s.name)) _ tt
colon_then places.SetName s = so_then (new_set s.name s) _ tt
colon_then places.MemberName s = tt
colon_then place s = tt

set_word_then : (o : Option SosKind) (m : Said) (s : State) → Then (set_word o m s)
set_word_then None m s = tt
set_word_then (Some kind) m s = tt

double_then : (place : Place) (s : State) → Then (double_colon_step place s)
double_then places.SetName s = set_word_then (set_kind_of s.name) s.said s
double_then places.MemberName s = set_word_then (set_kind_of s.name) s.said s
double_then places.SetWord s = tt
double_then place s = tt

arrow_then : (place : Place) (s : State) → Then (arrow_step place s)
arrow_then places.Bit s = tt
arrow_then place s = tt

-- where a section's word leads; `end` ends the file
abbrev landing : Section → Place
landing sections.Minimize = places.Objective
landing sections.Maximize = places.Objective
landing sections.Rows = places.Rows true
landing sections.Bounds = places.Bounds true
landing sections.General = places.Names sections.General
landing sections.Binary = places.Names sections.Binary
landing sections.Semi = places.Names sections.Semi
landing sections.Sets = places.Sets
landing sections.End = places.Done
landing sections.Cuts = places.Start

abbrev Lands : Section → Option State → Type 0
Lands section None = Unit {0}
Lands section (Some s) = s.place ≡ landing section

turned_lands : (section : Section) (o : Option State) → Lands section (turned_to section o)
turned_lands section None = tt
turned_lands sections.Rows (Some s) = refl
turned_lands sections.Bounds (Some s) = refl
turned_lands sections.General (Some s) = refl
turned_lands sections.Binary (Some s) = refl
turned_lands sections.Semi (Some s) = refl
turned_lands sections.Sets (Some s) = refl
turned_lands sections.End (Some s) = refl
turned_lands sections.Minimize (Some s) = tt
turned_lands sections.Maximize (Some s) = tt
turned_lands sections.Cuts (Some s) = tt

directed_lands : (section : Section) (s : State) → Lands section (directed section s)
directed_lands sections.Minimize s = refl
directed_lands sections.Maximize s = refl
directed_lands sections.Rows s = tt
directed_lands sections.Bounds s = tt
directed_lands sections.General s = tt
directed_lands sections.Binary s = tt
directed_lands sections.Semi s = tt
directed_lands sections.Sets s = tt
directed_lands sections.End s = tt
directed_lands sections.Cuts s = tt

heading_lands : (place : Place) (section : Section) (s : State) → Lands section (heading_step place section s)
heading_lands places.Start section s = directed_lands section s
heading_lands places.Objective section s = turned_lands section (ended places.Objective s)
heading_lands places.ObjectiveName section s = turned_lands section (ended places.ObjectiveName s)
heading_lands places.CostOpen section s = turned_lands section (ended places.CostOpen s)
heading_lands places.RowName section s = turned_lands section (ended places.RowName s)
heading_lands places.Labelled section s = turned_lands section (ended places.Labelled s)
heading_lands places.LeadName section s = turned_lands section (ended places.LeadName s)
heading_lands places.EqualSide section s = turned_lands section (ended places.EqualSide s)
heading_lands places.Bit section s = turned_lands section (ended places.Bit s)
heading_lands places.BoundName section s = turned_lands section (ended places.BoundName s)
heading_lands places.BoundSigned section s = turned_lands section (ended places.BoundSigned s)
heading_lands places.BoundNumber section s = turned_lands section (ended places.BoundNumber s)
heading_lands places.BoundRight section s = turned_lands section (ended places.BoundRight s)
heading_lands places.BoundMiddle section s = turned_lands section (ended places.BoundMiddle s)
heading_lands places.Sets section s = turned_lands section (ended places.Sets s)
heading_lands places.SetName section s = turned_lands section (ended places.SetName s)
heading_lands places.SetLabelled section s = turned_lands section (ended places.SetLabelled s)
heading_lands places.SetWord section s = turned_lands section (ended places.SetWord s)
heading_lands places.Members section s = turned_lands section (ended places.Members s)
heading_lands places.MemberName section s = turned_lands section (ended places.MemberName s)
heading_lands places.MemberColon section s = turned_lands section (ended places.MemberColon s)
heading_lands places.MemberSigned section s = turned_lands section (ended places.MemberSigned s)
heading_lands places.Done section s = turned_lands section (ended places.Done s)
heading_lands (places.Signed x) section s = turned_lands section (ended (places.Signed x) s)
heading_lands (places.Numbered x) section s = turned_lands section (ended (places.Numbered x) s)
heading_lands (places.After x) section s = turned_lands section (ended (places.After x) s)
heading_lands (places.Rows x) section s = turned_lands section (ended (places.Rows x) s)
heading_lands (places.Value x) section s = turned_lands section (ended (places.Value x) s)
heading_lands (places.Bounds x) section s = turned_lands section (ended (places.Bounds x) s)
heading_lands (places.Names x) section s = turned_lands section (ended (places.Names x) s)

-- what is known of a cursor behind a token
abbrev Fit : Pending → Name → State → Type 0
Fit waits.Nothing word s = Sane s
Fit (waits.Whole section) word s = (can_head section s || can_label word s) ≡ true
Fit waits.Semi word s = (can_head sections.Semi s || can_label word s) ≡ true
Fit (waits.Opened pair) word s = (can_head (pair_section pair) s || can_name word s) ≡ true
Fit waits.SemiMinus word s = can_head sections.Semi s ≡ true
Fit (waits.Complete section) word s = can_head section s ≡ true

abbrev FitThen : Option Cursor → Type 0
FitThen None = Unit {0}
FitThen (Some c) = Fit c.pending c.word c.state

waiting_fit : (b : Bool) (pending : Pending) (word : Name) (s : State) → (b ≡ true → Fit pending word s) → FitThen (waiting b pending word s)
waiting_fit true pending word s h = h refl
waiting_fit false pending word s h = tt

settled_fit : (word : Name) (o : Option State) → Then o → FitThen (settled word o)
settled_fit word None h = tt
settled_fit word (Some s) h = h

token_then : (c : Class) (text : Name) (first : Bool) (s : State) → Then (kind_step (kind_of c text) first s)
token_then (classes.Name part) text first s = name_then s.place first text s
token_then (classes.Number n) text first s = number_then s.place first n s
token_then (classes.Sign minus) text first s = sign_then s.place first minus s
token_then (classes.Relation sense) text first s = relation_then s.place sense s
token_then classes.Colon text first s = colon_then s.place s
token_then classes.DoubleColon text first s = double_then s.place s
token_then classes.Arrow text first s = arrow_then s.place s
token_then classes.Other text first s = tt

alone_fit : (m : Mark) (word : Name) (s : State) → FitThen (alone m word s)
alone_fit m word s = settled_fit word (kind_step (kind_of m.class m.text) m.first s) (token_then m.class m.text m.first s)

alone_at_fit : (m : Mark) (word : Name) (o : Option State) → FitThen (alone_at m word o)
alone_at_fit m word None = tt
alone_at_fit m word (Some s) = alone_fit m word s

line_fit : (c : Class) (m : Mark) (word : Name) (s : State) → FitThen (line_begun c m word s)
line_fit (classes.Name (Some (parts.Whole section))) m word s = waiting_fit (can_head section s || can_label m.text s) (waits.Whole section) m.text s (λ e. e)
line_fit (classes.Name (Some parts.Semi)) m word s = waiting_fit (can_head sections.Semi s || can_label m.text s) waits.Semi m.text s (λ e. e)
line_fit (classes.Name (Some (parts.Opens pair))) m word s = waiting_fit (can_head (pair_section pair) s || can_name m.text s) (waits.Opened pair) m.text s (λ e. e)
line_fit (classes.Name (Some (parts.Closes pair))) m word s = alone_fit m word s
line_fit (classes.Name (Some parts.Continuous)) m word s = alone_fit m word s
line_fit (classes.Name None) m word s = alone_fit m word s
line_fit (classes.Number n) m word s = alone_fit m word s
line_fit (classes.Sign minus) m word s = alone_fit m word s
line_fit (classes.Relation sense) m word s = alone_fit m word s
line_fit classes.Colon m word s = alone_fit m word s
line_fit classes.DoubleColon m word s = alone_fit m word s
line_fit classes.Arrow m word s = alone_fit m word s
line_fit classes.Other m word s = alone_fit m word s

if_fit : (b : Bool) (x y : Option Cursor) → FitThen x → FitThen y → FitThen (if b then x else y)
if_fit true x y h k = h
if_fit false x y h k = k

arrived_fit : (m : Mark) (word : Name) (s : State) → FitThen (arrived m word s)
arrived_fit m word s = if_fit m.first (line_begun m.class m word s) (alone m word s) (line_fit m.class m word s) (alone_fit m word s)

arrived_at_fit : (m : Mark) (word : Name) (o : Option State) → FitThen (arrived_at m word o)
arrived_at_fit m word None = tt
arrived_at_fit m word (Some s) = arrived_fit m word s

whole_fit : (section : Section) (m : Mark) (word : Name) (s : State) → FitThen (whole_taken section m word s)
whole_fit section m word s = if_fit (is_colon m.class) (alone_at m word (name_step s.place true word s)) (behind_heading section m word s) (alone_at_fit m word (name_step s.place true word s)) (arrived_at_fit m word (heading_step s.place section s))

taken_fit : (pending : Pending) (m : Mark) (word : Name) (s : State) → Fit pending word s → FitThen (taken pending m word s)
taken_fit waits.Nothing m word s h = arrived_fit m word s
taken_fit (waits.Whole section) m word s h = whole_fit section m word s
taken_fit waits.Semi m word s h =
    if_fit (not m.first && is_minus m.class) (waiting (can_head sections.Semi s) waits.SemiMinus word s) (whole_taken sections.Semi m word s)
    (waiting_fit (can_head sections.Semi s) waits.SemiMinus word s (λ e. e)) (whole_fit sections.Semi m word s)
taken_fit (waits.Opened pair) m word s h =
    if_fit (not m.first && is_second pair m.class) (waiting (can_head (pair_section pair) s) (waits.Complete (pair_section pair)) word s) (behind_name m word s)
    (waiting_fit (can_head (pair_section pair) s) (waits.Complete (pair_section pair)) word s (λ e. e)) (arrived_at_fit m word (name_step s.place true word s))
taken_fit waits.SemiMinus m word s h = waiting_fit (not m.first && is_continuous m.class) (waits.Complete sections.Semi) word s (λ e. h)
taken_fit (waits.Complete section) m word s h = if_fit (is_colon m.class) None (behind_heading section m word s) tt (arrived_at_fit m word (heading_step s.place section s))

-- there is what is there
some_there : (o : Option State) → is_some o ≡ true → (x : State) × (o ≡ Some x)
some_there None e = cc
some_there (Some x) e = (x, refl)

moved_to : (place : Place) (x : State) → x.place ≡ place → x ≡ at place x
moved_to place x e = ap (λ v. record x { place = v }) e

-- the file may end where a section begins
abbrev FinAt : Place → Type 0
FinAt place = (word : Name) (x : State) → is_some (reads (cur waits.Nothing word (at place x)) (tail_marks fin)) ≡ true

fin_from : (place : Place) (word : Name) (x : State) → FinAt place → x.place ≡ place → is_some (reads (cur waits.Nothing word x) (tail_marks fin)) ≡ true
fin_from place word x h e = subst (λ y. is_some (reads (cur waits.Nothing word y) (tail_marks fin)) ≡ true) (sym (moved_to place x e)) (h word x)

-- behind a section's word the file may end, or has ended
abbrev Ends : Section → Name → State → Type 0
Ends sections.End word x = is_some (finished x.place x.said) ≡ true
Ends sections.Cuts word x = Unit {0}
Ends section word x = is_some (reads (cur waits.Nothing word x) (tail_marks fin)) ≡ true

landing_ends : (section : Section) (word : Name) (x : State) → x.place ≡ landing section → Ends section word x
unfolding reads take_mark
landing_ends sections.Minimize word x e = fin_from places.Objective word x (λ w y. refl) e
landing_ends sections.Maximize word x e = fin_from places.Objective word x (λ w y. refl) e
landing_ends sections.Rows word x e = fin_from (places.Rows true) word x (λ w y. refl) e
landing_ends sections.Bounds word x e = fin_from (places.Bounds true) word x (λ w y. refl) e
landing_ends sections.General word x e = fin_from (places.Names sections.General) word x (λ w y. refl) e
landing_ends sections.Binary word x e = fin_from (places.Names sections.Binary) word x (λ w y. refl) e
landing_ends sections.Semi word x e = fin_from (places.Names sections.Semi) word x (λ w y. refl) e
landing_ends sections.Sets word x e = fin_from places.Sets word x (λ w y. refl) e
landing_ends sections.End word x e = ap (λ q. is_some (finished q x.said)) e
landing_ends sections.Cuts word x e = tt

-- a section's word that may stand here
head_there : (section : Section) (s : State) → can_head section s ≡ true → (x : State) × (heading_step s.place section s ≡ Some x) × (x.place ≡ landing section)
head_there section s e =
    let t = some_there (heading_step s.place section s) e in
    (t.0, t.1, subst (Lands section) t.1 (heading_lands s.place section s))

turned_nowhere : (o : Option State) (x : State) → turned_to sections.Cuts o ≡ Some x → ⊥
turned_nowhere None x e = cc
turned_nowhere (Some s) x e = cc

cuts_nowhere : (place : Place) (s x : State) → heading_step place sections.Cuts s ≡ Some x → ⊥
cuts_nowhere places.Start s x e = cc
cuts_nowhere places.Objective s x e = turned_nowhere (ended places.Objective s) x e
cuts_nowhere places.ObjectiveName s x e = turned_nowhere (ended places.ObjectiveName s) x e
cuts_nowhere places.CostOpen s x e = turned_nowhere (ended places.CostOpen s) x e
cuts_nowhere places.RowName s x e = turned_nowhere (ended places.RowName s) x e
cuts_nowhere places.Labelled s x e = turned_nowhere (ended places.Labelled s) x e
cuts_nowhere places.LeadName s x e = turned_nowhere (ended places.LeadName s) x e
cuts_nowhere places.EqualSide s x e = turned_nowhere (ended places.EqualSide s) x e
cuts_nowhere places.Bit s x e = turned_nowhere (ended places.Bit s) x e
cuts_nowhere places.BoundName s x e = turned_nowhere (ended places.BoundName s) x e
cuts_nowhere places.BoundSigned s x e = turned_nowhere (ended places.BoundSigned s) x e
cuts_nowhere places.BoundNumber s x e = turned_nowhere (ended places.BoundNumber s) x e
cuts_nowhere places.BoundRight s x e = turned_nowhere (ended places.BoundRight s) x e
cuts_nowhere places.BoundMiddle s x e = turned_nowhere (ended places.BoundMiddle s) x e
cuts_nowhere places.Sets s x e = turned_nowhere (ended places.Sets s) x e
cuts_nowhere places.SetName s x e = turned_nowhere (ended places.SetName s) x e
cuts_nowhere places.SetLabelled s x e = turned_nowhere (ended places.SetLabelled s) x e
cuts_nowhere places.SetWord s x e = turned_nowhere (ended places.SetWord s) x e
cuts_nowhere places.Members s x e = turned_nowhere (ended places.Members s) x e
cuts_nowhere places.MemberName s x e = turned_nowhere (ended places.MemberName s) x e
cuts_nowhere places.MemberColon s x e = turned_nowhere (ended places.MemberColon s) x e
cuts_nowhere places.MemberSigned s x e = turned_nowhere (ended places.MemberSigned s) x e
cuts_nowhere places.Done s x e = turned_nowhere (ended places.Done s) x e
cuts_nowhere (places.Signed y) s x e = turned_nowhere (ended (places.Signed y) s) x e
cuts_nowhere (places.Numbered y) s x e = turned_nowhere (ended (places.Numbered y) s) x e
cuts_nowhere (places.After y) s x e = turned_nowhere (ended (places.After y) s) x e
cuts_nowhere (places.Rows y) s x e = turned_nowhere (ended (places.Rows y) s) x e
cuts_nowhere (places.Value y) s x e = turned_nowhere (ended (places.Value y) s) x e
cuts_nowhere (places.Bounds y) s x e = turned_nowhere (ended (places.Bounds y) s) x e
cuts_nowhere (places.Names y) s x e = turned_nowhere (ended (places.Names y) s) x e

no_cuts : (place : Place) (s : State) → is_some (heading_step place sections.Cuts s) ≡ true → ⊥
no_cuts place s e = let t = some_there (heading_step place sections.Cuts s) e in cuts_nowhere place s t.0 t.1

-- what reads on behind a section's word
behind_there : (word : Name) (o : Option State) (x : State) → o ≡ Some x → is_some (reads (cur waits.Nothing word x) (tail_marks fin)) ≡ true → is_some (option_and_then (λ n. reads n []) (arrived_at (mark_for true TEnd) word o)) ≡ true
unfolding reads take_mark
behind_there word o x e h = rw e h

draft_there : (o : Option State) (x : State) → o ≡ Some x → is_some (finished x.place x.said) ≡ true → is_some (draft_at o) ≡ true
draft_there o x e h = rw e h

-- a word of a section completes the file
whole_head : (section : Section) (word : Name) (s : State) → can_head section s ≡ true → Completes (cur (waits.Whole section) word s)
unfolding reads take_mark
whole_head sections.End word s e = let t = head_there sections.End s e in ([], draft_there (heading_step s.place sections.End s) t.0 t.1 (landing_ends sections.End word t.0 t.2))
whole_head sections.Minimize word s e = let t = head_there sections.Minimize s e in (fin, behind_there word (heading_step s.place sections.Minimize s) t.0 t.1 (landing_ends sections.Minimize word t.0 t.2))
whole_head sections.Maximize word s e = let t = head_there sections.Maximize s e in (fin, behind_there word (heading_step s.place sections.Maximize s) t.0 t.1 (landing_ends sections.Maximize word t.0 t.2))
whole_head sections.Rows word s e = let t = head_there sections.Rows s e in (fin, behind_there word (heading_step s.place sections.Rows s) t.0 t.1 (landing_ends sections.Rows word t.0 t.2))
whole_head sections.Bounds word s e = let t = head_there sections.Bounds s e in (fin, behind_there word (heading_step s.place sections.Bounds s) t.0 t.1 (landing_ends sections.Bounds word t.0 t.2))
whole_head sections.General word s e = let t = head_there sections.General s e in (fin, behind_there word (heading_step s.place sections.General s) t.0 t.1 (landing_ends sections.General word t.0 t.2))
whole_head sections.Binary word s e = let t = head_there sections.Binary s e in (fin, behind_there word (heading_step s.place sections.Binary s) t.0 t.1 (landing_ends sections.Binary word t.0 t.2))
whole_head sections.Semi word s e = let t = head_there sections.Semi s e in (fin, behind_there word (heading_step s.place sections.Semi s) t.0 t.1 (landing_ends sections.Semi word t.0 t.2))
whole_head sections.Sets word s e = let t = head_there sections.Sets s e in (fin, behind_there word (heading_step s.place sections.Sets s) t.0 t.1 (landing_ends sections.Sets word t.0 t.2))
whole_head sections.Cuts word s e = absurd (no_cuts s.place s e)

-- all parts of a word of a section complete it too
complete_head : (section : Section) (word : Name) (s : State) → can_head section s ≡ true → Completes (cur (waits.Complete section) word s)
unfolding reads take_mark
complete_head sections.End word s e = let t = head_there sections.End s e in ([], draft_there (heading_step s.place sections.End s) t.0 t.1 (landing_ends sections.End word t.0 t.2))
complete_head sections.Minimize word s e = let t = head_there sections.Minimize s e in (fin, behind_there word (heading_step s.place sections.Minimize s) t.0 t.1 (landing_ends sections.Minimize word t.0 t.2))
complete_head sections.Maximize word s e = let t = head_there sections.Maximize s e in (fin, behind_there word (heading_step s.place sections.Maximize s) t.0 t.1 (landing_ends sections.Maximize word t.0 t.2))
complete_head sections.Rows word s e = let t = head_there sections.Rows s e in (fin, behind_there word (heading_step s.place sections.Rows s) t.0 t.1 (landing_ends sections.Rows word t.0 t.2))
complete_head sections.Bounds word s e = let t = head_there sections.Bounds s e in (fin, behind_there word (heading_step s.place sections.Bounds s) t.0 t.1 (landing_ends sections.Bounds word t.0 t.2))
complete_head sections.General word s e = let t = head_there sections.General s e in (fin, behind_there word (heading_step s.place sections.General s) t.0 t.1 (landing_ends sections.General word t.0 t.2))
complete_head sections.Binary word s e = let t = head_there sections.Binary s e in (fin, behind_there word (heading_step s.place sections.Binary s) t.0 t.1 (landing_ends sections.Binary word t.0 t.2))
complete_head sections.Semi word s e = let t = head_there sections.Semi s e in (fin, behind_there word (heading_step s.place sections.Semi s) t.0 t.1 (landing_ends sections.Semi word t.0 t.2))
complete_head sections.Sets word s e = let t = head_there sections.Sets s e in (fin, behind_there word (heading_step s.place sections.Sets s) t.0 t.1 (landing_ends sections.Sets word t.0 t.2))
complete_head sections.Cuts word s e = absurd (no_cuts s.place s e)

-- a place and what completes the file behind it
sane_completes : (word : Name) (s : State) → Sane s → PlainlyCompletes (cur waits.Nothing word s)
sane_completes word s h = place_completes s.place word s h

-- a name and its colon
label_colon : (word : Name) (o : Option State) → Then o → is_some (colon_behind o) ≡ true → (tail : Tail) × (is_some (option_and_then (λ n. reads n (tail_marks tail)) (alone_at (mark_for false TColon) word o)) ≡ true)
label_colon word None h e = cc
label_colon word (Some x) h e =
    let t = some_there (colon_step x.place x) e in
    let r = sane_completes word t.0 (subst Then t.1 (colon_then x.place x)) in
    (r.0, subst (λ p. is_some (option_and_then (λ n. reads n (tail_marks r.0)) (settled word p)) ≡ true) (sym t.1) r.2)

label_double : (word : Name) (o : Option State) → Then o → is_some (double_colon_behind o) ≡ true → (tail : Tail) × (is_some (option_and_then (λ n. reads n (tail_marks tail)) (alone_at (mark_for false TDouble) word o)) ≡ true)
label_double word None h e = cc
label_double word (Some x) h e =
    let t = some_there (double_colon_step x.place x) e in
    let r = sane_completes word t.0 (subst Then t.1 (double_then x.place x)) in
    (r.0, subst (λ p. is_some (option_and_then (λ n. reads n (tail_marks r.0)) (settled word p)) ≡ true) (sym t.1) r.2)

whole_label : (section : Section) (word : Name) (s : State) (a b : Bool) → is_some (colon_behind (name_step s.place true word s)) ≡ a → is_some (double_colon_behind (name_step s.place true word s)) ≡ b → (a || b) ≡ true → Completes (cur (waits.Whole section) word s)
unfolding reads take_mark
whole_label section word s true b e f g = let r = label_colon word (name_step s.place true word s) (name_then s.place true word s) e in ((false, TColon) ∷ r.0, r.1)
whole_label section word s false b e f g = let r = label_double word (name_step s.place true word s) (name_then s.place true word s) (f ∙ g) in ((false, TDouble) ∷ r.0, r.1)

whole_completes : (section : Section) (word : Name) (s : State) (a : Bool) → can_head section s ≡ a → (a || can_label word s) ≡ true → Completes (cur (waits.Whole section) word s)
whole_completes section word s true e h = whole_head section word s e
whole_completes section word s false e h = whole_label section word s (is_some (colon_behind (name_step s.place true word s))) (is_some (double_colon_behind (name_step s.place true word s))) refl refl h

semi_label : (word : Name) (s : State) (a b : Bool) → is_some (colon_behind (name_step s.place true word s)) ≡ a → is_some (double_colon_behind (name_step s.place true word s)) ≡ b → (a || b) ≡ true → Completes (cur waits.Semi word s)
unfolding reads take_mark
semi_label word s true b e f g = let r = label_colon word (name_step s.place true word s) (name_then s.place true word s) e in ((false, TColon) ∷ r.0, r.1)
semi_label word s false b e f g = let r = label_double word (name_step s.place true word s) (name_then s.place true word s) (f ∙ g) in ((false, TDouble) ∷ r.0, r.1)

-- `semi` waits as a word of a section
semi_completes : (word : Name) (s : State) (a : Bool) → can_head sections.Semi s ≡ a → (a || can_label word s) ≡ true → Completes (cur waits.Semi word s)
unfolding reads take_mark
semi_completes word s true e h = let t = head_there sections.Semi s e in (fin, behind_there word (heading_step s.place sections.Semi s) t.0 t.1 (landing_ends sections.Semi word t.0 t.2))
semi_completes word s false e h = semi_label word s (is_some (colon_behind (name_step s.place true word s))) (is_some (double_colon_behind (name_step s.place true word s))) refl refl h

-- the second part of a word
abbrev second_tail : Pair → Tail
second_tail pair = (false, TSecond pair) ∷ fin

may_wait : (b : Bool) (ms : List Mark) (pending : Pending) (word : Name) (s : State) → b ≡ true → is_some (reads (cur pending word s) ms) ≡ true → is_some (option_and_then (λ n. reads n ms) (waiting b pending word s)) ≡ true
may_wait b ms pending word s e h = rw e h

second_there : (pair : Pair) (word : Name) (s x : State) → can_head (pair_section pair) s ≡ true → heading_step s.place (pair_section pair) s ≡ Some x → is_some (reads (cur waits.Nothing word x) (tail_marks fin)) ≡ true → is_some (reads (cur (waits.Opened pair) word s) (tail_marks (second_tail pair))) ≡ true
unfolding reads take_mark
second_there SubjectTo word s x e f h = may_wait (can_head (pair_section SubjectTo) s) (tail_marks fin) (waits.Complete (pair_section SubjectTo)) word s e (behind_there word (heading_step s.place (pair_section SubjectTo) s) x f h)
second_there SuchThat word s x e f h = may_wait (can_head (pair_section SuchThat) s) (tail_marks fin) (waits.Complete (pair_section SuchThat)) word s e (behind_there word (heading_step s.place (pair_section SuchThat) s) x f h)
second_there LazyConstraints word s x e f h = may_wait (can_head (pair_section LazyConstraints) s) (tail_marks fin) (waits.Complete (pair_section LazyConstraints)) word s e (behind_there word (heading_step s.place (pair_section LazyConstraints) s) x f h)
second_there UserCuts word s x e f h = may_wait (can_head (pair_section UserCuts) s) (tail_marks fin) (waits.Complete (pair_section UserCuts)) word s e (behind_there word (heading_step s.place (pair_section UserCuts) s) x f h)

second_completes : (pair : Pair) (word : Name) (s : State) → can_head (pair_section pair) s ≡ true → Completes (cur (waits.Opened pair) word s)
unfolding reads take_mark
second_completes SubjectTo word s e = let t = head_there sections.Rows s e in (second_tail SubjectTo, second_there SubjectTo word s t.0 e t.1 (landing_ends sections.Rows word t.0 t.2))
second_completes SuchThat word s e = let t = head_there sections.Rows s e in (second_tail SuchThat, second_there SuchThat word s t.0 e t.1 (landing_ends sections.Rows word t.0 t.2))
second_completes LazyConstraints word s e = let t = head_there sections.Rows s e in (second_tail LazyConstraints, second_there LazyConstraints word s t.0 e t.1 (landing_ends sections.Rows word t.0 t.2))
second_completes UserCuts word s e = absurd (no_cuts s.place s e)

-- a first word that is no part of a section word settles the name
abbrev is_first : TailWord → Bool
is_first (TSecond pair) = false
is_first TContinuous = false
is_first w = true

plain_first : (new : Bool) (w : TailWord) (rest : Tail) → is_plain ((new, w) ∷ rest) ≡ true → is_first w ≡ true
plain_first new TEnd rest e = refl
plain_first new TName rest e = refl
plain_first new TAtLeast rest e = refl
plain_first new TOne rest e = refl
plain_first new TColon rest e = refl
plain_first new TDouble rest e = refl
plain_first new TSet rest e = refl
plain_first new (TSecond pair) rest e = e
plain_first new TContinuous rest e = e

arrived_there : (m : Mark) (ms : List Mark) (word : Name) (o : Option State) (x : State) → o ≡ Some x → is_some (option_and_then (λ n. reads n ms) (arrived m word x)) ≡ true → is_some (option_and_then (λ n. reads n ms) (arrived_at m word o)) ≡ true
arrived_there m ms word o x e h = rw e h

not_second : (pair : Pair) (w : TailWord) → is_first w ≡ true → is_second pair (word_class w) ≡ false
not_second SubjectTo TEnd e = refl
not_second SubjectTo TName e = refl
not_second SubjectTo TAtLeast e = refl
not_second SubjectTo TOne e = refl
not_second SubjectTo TColon e = refl
not_second SubjectTo TDouble e = refl
not_second SubjectTo TSet e = refl
not_second SuchThat TEnd e = refl
not_second SuchThat TName e = refl
not_second SuchThat TAtLeast e = refl
not_second SuchThat TOne e = refl
not_second SuchThat TColon e = refl
not_second SuchThat TDouble e = refl
not_second SuchThat TSet e = refl
not_second LazyConstraints TEnd e = refl
not_second LazyConstraints TName e = refl
not_second LazyConstraints TAtLeast e = refl
not_second LazyConstraints TOne e = refl
not_second LazyConstraints TColon e = refl
not_second LazyConstraints TDouble e = refl
not_second LazyConstraints TSet e = refl
not_second UserCuts TEnd e = refl
not_second UserCuts TName e = refl
not_second UserCuts TAtLeast e = refl
not_second UserCuts TOne e = refl
not_second UserCuts TColon e = refl
not_second UserCuts TDouble e = refl
not_second UserCuts TSet e = refl
not_second pair (TSecond other) e = cc
not_second pair TContinuous e = cc

and_false : (a b : Bool) → b ≡ false → (a && b) ≡ false
and_false true b e = e
and_false false b e = refl

if_false : (b : Bool) (ms : List Mark) (x y : Option Cursor) → b ≡ false → is_some (option_and_then (λ n. reads n ms) y) ≡ true → is_some (option_and_then (λ n. reads n ms) (if b then x else y)) ≡ true
if_false b ms x y e h = rw e h

name_tail : (pair : Pair) (word : Name) (s x : State) (tail : Tail) → name_step s.place true word s ≡ Some x → is_plain tail ≡ true → is_some (reads (cur waits.Nothing word x) (tail_marks tail)) ≡ true → is_some (reads (cur (waits.Opened pair) word s) (tail_marks tail)) ≡ true
unfolding reads take_mark
name_tail pair word s x [] e f h = cc
name_tail pair word s x ((new, w) ∷ rest) e f h =
    if_false (not new && is_second pair (word_class w)) (tail_marks rest) (waiting (can_head (pair_section pair) s) (waits.Complete (pair_section pair)) word s) (behind_name (mark_for new w) word s)
    (and_false (not new) (is_second pair (word_class w)) (not_second pair w (plain_first new w rest f)))
    (arrived_there (mark_for new w) (tail_marks rest) word (name_step s.place true word s) x e h)

opened_completes : (pair : Pair) (word : Name) (s : State) (a : Bool) → can_head (pair_section pair) s ≡ a → (a || can_name word s) ≡ true → Completes (cur (waits.Opened pair) word s)
opened_completes pair word s true e h = second_completes pair word s e
opened_completes pair word s false e h =
    let t = some_there (name_step s.place true word s) h in
    let r = sane_completes word t.0 (subst Then t.1 (name_then s.place true word s)) in
    (r.0, name_tail pair word s t.0 r.0 t.1 r.1 r.2)

minus_completes : (word : Name) (s : State) → can_head sections.Semi s ≡ true → Completes (cur waits.SemiMinus word s)
unfolding reads take_mark
minus_completes word s e = let t = head_there sections.Semi s e in ((false, TContinuous) ∷ fin, behind_there word (heading_step s.place sections.Semi s) t.0 t.1 (landing_ends sections.Semi word t.0 t.2))

cursor_completes : (pending : Pending) (word : Name) (s : State) → Fit pending word s → Completes (cur pending word s)
cursor_completes waits.Nothing word s h = let r = sane_completes word s h in (r.0, r.2)
cursor_completes (waits.Whole section) word s h = whole_completes section word s (can_head section s) refl h
cursor_completes waits.Semi word s h = semi_completes word s (can_head sections.Semi s) refl h
cursor_completes (waits.Opened pair) word s h = opened_completes pair word s (can_head (pair_section pair) s) refl h
cursor_completes waits.SemiMinus word s h = minus_completes word s h
cursor_completes (waits.Complete section) word s h = complete_head section word s h

-- a cursor behind at least one token is fit
step_fit : (c : Cursor) (m : Mark) → Fit c.pending c.word c.state → FitThen (take_mark c m)
unfolding take_mark
step_fit c m h = taken_fit c.pending m c.word c.state h

same_fit : (c d : Cursor) → Some c ≡ Some d → Fit c.pending c.word c.state → Fit d.pending d.word d.state
same_fit c d e h = let f : c ≡ d = cc in subst (λ x. Fit x.pending x.word x.state) f h

fit_from : (ts : List SeenToken) (line : ℕ) (o : Option Cursor) (d : Cursor) → FitThen o → ((c : Cursor) → Fit c.pending c.word c.state → walk false line c ts ≡ Some d → Fit d.pending d.word d.state)
    → option_and_then (λ n. walk false line n ts) o ≡ Some d → Fit d.pending d.word d.state
fit_from ts line None d h k e = cc
fit_from ts line (Some c) d h k e = k c h e

fit_behind : (ts : List SeenToken) (before : ℕ) (c d : Cursor) → Fit c.pending c.word c.state → walk false before c ts ≡ Some d → Fit d.pending d.word d.state
unfolding walk
fit_behind [] before c d h e = same_fit c d e h
fit_behind (t ∷ ts) before c d h e = fit_from ts t.line (take_mark c (mark_of false before t)) d (step_fit c (mark_of false before t) h) (λ n g f. fit_behind ts t.line n d g f) e

draft_in : (o : Option Draft) → is_some o ≡ true → (d : Draft) × (o ≡ Some d)
draft_in None e = cc
draft_in (Some d) e = (d, refl)

-- the first token of a file
origin_fit : (m : Mark) → FitThen (take_mark origin m)
unfolding take_mark
origin_fit m = arrived_fit m [] start

-- what isn't refused begins an accepted list
abbrev least_file : List SeenToken
least_file = record { kind = token_kinds.Name; line = 1; text = codes "min" } ∷ record { kind = token_kinds.Name; line = 2; text = codes "end" } ∷ []

least_read : is_some (draft_read least_file) ≡ true
unfolding walk take_mark class_of direction_of is_infinity part_of
least_read = refl

front_more : (t : SeenToken) (ts : List SeenToken) (c : Cursor) → Fit c.pending c.word c.state → walk true 0 origin (t ∷ ts) ≡ Some c → Begins (t ∷ ts)
front_more t ts c h e =
    let r = cursor_completes c.pending c.word c.state h in
    let d = draft_in (reads c (tail_marks r.0)) r.1 in
    front_completed (t ∷ ts) c (tail_tokens (line_behind t.line ts) r.0) d.0 e (ap (reads c) (marks_are r.0 (line_behind t.line ts)) ∙ d.1)

front_fit : (t : SeenToken) (ts : List SeenToken) (c : Cursor) → walk true 0 origin (t ∷ ts) ≡ Some c → Fit c.pending c.word c.state
unfolding walk
front_fit t ts c e = fit_from ts t.line (take_mark origin (mark_of true 0 t)) c (origin_fit (mark_of true 0 t)) (λ n g f. fit_behind ts t.line n c g f) e

pub front_begins : (front : List SeenToken) (c : Cursor) → walk true 0 origin front ≡ Some c → Begins front
front_begins [] c e = let d = draft_in (draft_read least_file) least_read in record { more = least_file; draft = d.0; reads = read_is least_file d.0 d.1 }
front_begins (t ∷ ts) c e = front_more t ts c (front_fit t ts c e) e
