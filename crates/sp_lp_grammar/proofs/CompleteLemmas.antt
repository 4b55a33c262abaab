-- A file of the grammar is read: the objective, rows, bounds, lists of names and sets.
use Rattle.std.proofs.Common.{◌≡◌, Bool, true, false, not, ◌||◌, List, [], ◌∷◌, Option, Some, None, refl, ap, subst, sym, ◌∙◌, fold}
use Rattle.std.specs.Prelude.{is_some}
use Rattle.sp_decimal.specs.DecimalFraction.{DecimalFraction}
use Rattle.sp_decimal.specs.declared.numerals.Numeral.{Numeral}
use Rattle.sp_decimal.specs.declared.numerals.Numeral.TheVariants.{Exact, Huge}
use Rattle.sp_draft.specs.declared.drafts.Draft.{Draft}
use Rattle.sp_draft.specs.declared.drafts.Sense.{Sense}
use Rattle.sp_draft.specs.declared.drafts.Sense.TheVariants as senses
use Rattle.sp_draft.specs.Names.{Name, is_among}
use Rattle.sp_model.specs.declared.parts.SosKind.{SosKind}
use Rattle.sp_lp_words.specs.declared.sections.Section.{Section}
use Rattle.sp_lp_words.specs.declared.sections.Section.TheVariants as sections
use Rattle.sp_lp_words.specs.Sections.{is_free, set_kind_of}
use Rattle.sp_lp_grammar.specs.declared.places.Place.{Place}
use Rattle.sp_lp_grammar.specs.declared.places.Place.TheVariants as places
use Rattle.sp_lp_grammar.specs.declared.places.Sum.TheVariants as sums
use Rattle.sp_lp_grammar.specs.declared.places.Side.TheVariants as ends
use Rattle.sp_lp_grammar.specs.Lexemes.{Lexeme, Heading, Named, Number, Sign, Relation, Colon, DoubleColon, Arrow, Other}
use Rattle.sp_lp_grammar.specs.Trees.{Item, Variable, Constant, Body, Compared, Mirrored, Between, Conditional, BoundLine, Stated, Turned, Enclosed, Unbounded, Entry, Turn, Row, Bound, Listed, Opening, Member}
use Rattle.sp_lp_grammar.specs.Grammar.{Toks, Is, sign_first, Later, Entries, IsBody, IsBound, IsCost, IsOrder, starts_line, Signs, product, signed, signed_numeral, IsValue, IsItem, IsSum, IsLabel, bit, Begins, Scope, Beginning, Rows, Bounds, Names, Sets, scope_of, IsDirection}
use Rattle.sp_lp_grammar.specs.Meaning.{Said, nothing, declared, with_term, with_items, with_item, one, unbounded, is_maximal, with_cost, mirrored, sides_of, sides_between, with_indicator, with_body, with_bound, with_set, with_row, with_row_name, with_entry, bounded, listed, with_var, AreNew, is_new, closed, with_set_name, draft_of}
use Rattle.sp_lp_grammar.specs.Reads.{Says}
use Rattle.sp_lp_grammar.specs.InnerMachine.{State, sided, minus_at, lead_term, start, at, named, saying, begun, if_so, kinded, set_word, new_set, numbered, bit_of, equal_number, valued, lead_relation, ordered, turned_to, sign_step, relation_step, step, run}
use Rattle.sp_lp_grammar.proofs.BackLemmas.{closed_at}
use Rattle.sp_lp_grammar.proofs.GoLemmas.{Wins, step_go, is_go, place_of, Ready, first_signs, side_go, after_at, AfterWins, unsigned_go, constant_settles, constant_go, among_first, signed_item, later_go, sum_go, true_is_false}

some_is : (a b : Scope) → Some a ≡ Some b → a ≡ b
some_is a b e = cc

-- the word of a section
turn_ready : (p : Draft) (section : Section) (next : Scope) (x y : State) (mid : Toks) → scope_of section ≡ Some next → step x (true, Heading section) ≡ turned_to section (Some y) → Ready p next (closed y.said) mid → Wins p x ((true, Heading section) ∷ mid)
turn_ready p sections.Rows next x y mid e h r =
    let same : next ≡ Rows true = some_is next (Rows true) (sym e) in
    let here : Ready p (Rows true) (closed y.said) mid = subst (λ n. Ready p n (closed y.said) mid) same r in
    step_go p x (record y { place = places.Rows true; said = closed y.said }) (true, Heading sections.Rows) mid h (here y)
turn_ready p sections.Bounds next x y mid e h r =
    let same : next ≡ Bounds true = some_is next (Bounds true) (sym e) in
    let here : Ready p (Bounds true) (closed y.said) mid = subst (λ n. Ready p n (closed y.said) mid) same r in
    step_go p x (record y { place = places.Bounds true; said = closed y.said }) (true, Heading sections.Bounds) mid h (here y)
turn_ready p sections.General next x y mid e h r =
    let same : next ≡ Names sections.General = some_is next (Names sections.General) (sym e) in
    let here : Ready p (Names sections.General) (closed y.said) mid = subst (λ n. Ready p n (closed y.said) mid) same r in
    step_go p x (record y { place = places.Names sections.General; said = closed y.said }) (true, Heading sections.General) mid h (here y)
turn_ready p sections.Binary next x y mid e h r =
    let same : next ≡ Names sections.Binary = some_is next (Names sections.Binary) (sym e) in
    let here : Ready p (Names sections.Binary) (closed y.said) mid = subst (λ n. Ready p n (closed y.said) mid) same r in
    step_go p x (record y { place = places.Names sections.Binary; said = closed y.said }) (true, Heading sections.Binary) mid h (here y)
turn_ready p sections.Semi next x y mid e h r =
    let same : next ≡ Names sections.Semi = some_is next (Names sections.Semi) (sym e) in
    let here : Ready p (Names sections.Semi) (closed y.said) mid = subst (λ n. Ready p n (closed y.said) mid) same r in
    step_go p x (record y { place = places.Names sections.Semi; said = closed y.said }) (true, Heading sections.Semi) mid h (here y)
turn_ready p sections.Sets next x y mid e h r =
    let same : next ≡ Sets false = some_is next (Sets false) (sym e) in
    let here : Ready p (Sets false) (closed y.said) mid = subst (λ n. Ready p n (closed y.said) mid) same r in
    step_go p x (record y { place = places.Sets; said = closed y.said }) (true, Heading sections.Sets) mid h (here y)
turn_ready p sections.Minimize next x y mid e h r = cc
turn_ready p sections.Maximize next x y mid e h r = cc
turn_ready p sections.End next x y mid e h r = cc
turn_ready p sections.Cuts next x y mid e h r = cc

end_ready : (p : Draft) (x y : State) → step x (true, Heading sections.End) ≡ turned_to sections.End (Some y) → draft_of y.said ≡ p → Wins p x ((true, Heading sections.End) ∷ [])
unfolding run
end_ready p x y h e = step_go p x (record y { place = places.Done; said = closed y.said }) (true, Heading sections.End) [] h (ap Some (closed_at y.said.set_kind y.said refl ∙ e))

-- a row is complete
row_rest : (p : Draft) (m : Said) (s : State) (ts b after : Toks) (sense : Sense) (value : Numeral) → Is (Relation sense) ts b → IsValue b value after → Ready p (Rows false) (with_row (sides_of sense value) m) after → AfterWins p sums.Row m s ts
unfolding step
row_rest p m s ts b after sense value rel v r = λ negative number.
    is_go p (after_at sums.Row negative number m s) (sided ends.Row sense (after_at sums.Row negative number m s)) (Relation sense) ts b rel (λ f. refl)
    (side_go p ends.Row (record (after_at sums.Row negative number m s) { sense = sense }) b after value v (λ n. r (record (after_at sums.Row negative number m s) { sense = sense; negative = n })))

then_rest : (p : Draft) (m : Said) (s : State) (ts b after : Toks) (sense : Sense) (value : Numeral) → Is (Relation sense) ts b → IsValue b value after → Ready p (Rows false) (with_indicator s.name s.on (sides_of sense value) m) after → AfterWins p sums.Then m s ts
unfolding step
then_rest p m s ts b after sense value rel v r = λ negative number.
    is_go p (after_at sums.Then negative number m s) (sided ends.Then sense (after_at sums.Then negative number m s)) (Relation sense) ts b rel (λ f. refl)
    (side_go p ends.Then (record (after_at sums.Then negative number m s) { sense = sense }) b after value v (λ n. r (record (after_at sums.Then negative number m s) { sense = sense; negative = n })))

right_settles : (p : Draft) (x : State) (ts : Toks) → sign_first ts ≡ false → Wins p (at (places.Rows false) (saying (with_row (sides_of (mirrored x.sense) x.value) x.said) x)) ts → Wins p (at (places.After sums.Right) x) ts
unfolding run step
right_settles p x [] e w = w
right_settles p x ((true, Heading sections.Minimize) ∷ ts) e w = w
right_settles p x ((true, Heading sections.Maximize) ∷ ts) e w = w
right_settles p x ((true, Heading sections.Rows) ∷ ts) e w = w
right_settles p x ((true, Heading sections.Bounds) ∷ ts) e w = w
right_settles p x ((true, Heading sections.General) ∷ ts) e w = w
right_settles p x ((true, Heading sections.Binary) ∷ ts) e w = w
right_settles p x ((true, Heading sections.Semi) ∷ ts) e w = w
right_settles p x ((true, Heading sections.Sets) ∷ ts) e w = w
right_settles p x ((true, Heading sections.End) ∷ ts) e w = w
right_settles p x ((true, Heading sections.Cuts) ∷ ts) e w = w
right_settles p x ((false, Heading section) ∷ ts) e w = w
right_settles p x ((f, Named name') ∷ ts) e w = w
right_settles p x ((f, Number n) ∷ ts) e w = w
right_settles p x ((f, Sign minus) ∷ ts) e w = absurd (true_is_false e)
right_settles p x ((f, Relation sense) ∷ ts) e w = cc
right_settles p x ((f, Colon) ∷ ts) e w = w
right_settles p x ((f, DoubleColon) ∷ ts) e w = w
right_settles p x ((f, Arrow) ∷ ts) e w = w
right_settles p x ((f, Other) ∷ ts) e w = w

bit_settles : (p : Draft) (x : State) (ts : Toks) → Wins p (at (places.Rows false) (saying (with_row (sides_of senses.Equal x.number) (with_term x.name one x.said)) x)) ts → Wins p (at places.Bit x) ts
unfolding run step
bit_settles p x [] w = w
bit_settles p x ((true, Heading sections.Minimize) ∷ ts) w = w
bit_settles p x ((true, Heading sections.Maximize) ∷ ts) w = w
bit_settles p x ((true, Heading sections.Rows) ∷ ts) w = w
bit_settles p x ((true, Heading sections.Bounds) ∷ ts) w = w
bit_settles p x ((true, Heading sections.General) ∷ ts) w = w
bit_settles p x ((true, Heading sections.Binary) ∷ ts) w = w
bit_settles p x ((true, Heading sections.Semi) ∷ ts) w = w
bit_settles p x ((true, Heading sections.Sets) ∷ ts) w = w
bit_settles p x ((true, Heading sections.End) ∷ ts) w = w
bit_settles p x ((true, Heading sections.Cuts) ∷ ts) w = w
bit_settles p x ((false, Heading section) ∷ ts) w = w
bit_settles p x ((f, Named name') ∷ ts) w = w
bit_settles p x ((f, Number n) ∷ ts) w = w
bit_settles p x ((f, Sign minus) ∷ ts) w = w
bit_settles p x ((f, Relation sense) ∷ ts) w = w
bit_settles p x ((f, Colon) ∷ ts) w = w
bit_settles p x ((f, DoubleColon) ∷ ts) w = w
bit_settles p x ((f, Arrow) ∷ ts) w = cc
bit_settles p x ((f, Other) ∷ ts) w = w

middle_settles : (p : Draft) (x : State) (ts : Toks) → Wins p (at (places.Bounds false) x) ts → Wins p (at places.BoundMiddle x) ts
unfolding run step
middle_settles p x [] w = w
middle_settles p x ((true, Heading sections.Minimize) ∷ ts) w = w
middle_settles p x ((true, Heading sections.Maximize) ∷ ts) w = w
middle_settles p x ((true, Heading sections.Rows) ∷ ts) w = w
middle_settles p x ((true, Heading sections.Bounds) ∷ ts) w = w
middle_settles p x ((true, Heading sections.General) ∷ ts) w = w
middle_settles p x ((true, Heading sections.Binary) ∷ ts) w = w
middle_settles p x ((true, Heading sections.Semi) ∷ ts) w = w
middle_settles p x ((true, Heading sections.Sets) ∷ ts) w = w
middle_settles p x ((true, Heading sections.End) ∷ ts) w = w
middle_settles p x ((true, Heading sections.Cuts) ∷ ts) w = w
middle_settles p x ((false, Heading section) ∷ ts) w = w
middle_settles p x ((f, Named name') ∷ ts) w = w
middle_settles p x ((f, Number n) ∷ ts) w = w
middle_settles p x ((f, Sign minus) ∷ ts) w = w
middle_settles p x ((f, Relation sense) ∷ ts) w = cc
middle_settles p x ((f, Colon) ∷ ts) w = w
middle_settles p x ((f, DoubleColon) ∷ ts) w = w
middle_settles p x ((f, Arrow) ∷ ts) w = w
middle_settles p x ((f, Other) ∷ ts) w = w

objective_settles : (p : Draft) (x : State) (ts : Toks) → Wins p (at (places.After sums.Cost) (saying (with_term x.name one x.said) x)) ts → Wins p (at places.ObjectiveName x) ts
unfolding run step
objective_settles p x [] w = w
objective_settles p x ((true, Heading sections.Minimize) ∷ ts) w = w
objective_settles p x ((true, Heading sections.Maximize) ∷ ts) w = w
objective_settles p x ((true, Heading sections.Rows) ∷ ts) w = w
objective_settles p x ((true, Heading sections.Bounds) ∷ ts) w = w
objective_settles p x ((true, Heading sections.General) ∷ ts) w = w
objective_settles p x ((true, Heading sections.Binary) ∷ ts) w = w
objective_settles p x ((true, Heading sections.Semi) ∷ ts) w = w
objective_settles p x ((true, Heading sections.Sets) ∷ ts) w = w
objective_settles p x ((true, Heading sections.End) ∷ ts) w = w
objective_settles p x ((true, Heading sections.Cuts) ∷ ts) w = w
objective_settles p x ((false, Heading section) ∷ ts) w = w
objective_settles p x ((f, Named name') ∷ ts) w = w
objective_settles p x ((f, Number n) ∷ ts) w = w
objective_settles p x ((f, Sign minus) ∷ ts) w = w
objective_settles p x ((f, Relation sense) ∷ ts) w = w
objective_settles p x ((f, Colon) ∷ ts) w = cc
objective_settles p x ((f, DoubleColon) ∷ ts) w = w
objective_settles p x ((f, Arrow) ∷ ts) w = w
objective_settles p x ((f, Other) ∷ ts) w = w

order_is : (sense : Sense) → IsOrder sense → ordered sense sense ≡ true
order_is senses.Less o = refl
order_is senses.Greater o = refl
order_is senses.Equal o = absurd o

if_so_true : (b : Bool) (o : Option State) → b ≡ true → if_so b o ≡ o
if_so_true b o e = rw e refl

range_rest : (p : Draft) (m : Said) (s : State) (ts b after : Toks) (value : Numeral) → IsOrder s.sense → Is (Relation s.sense) ts b → IsValue b value after → Ready p (Rows false) (with_row (sides_between s.value s.sense value) m) after → AfterWins p sums.Right m s ts
unfolding step
range_rest p m s ts b after value o rel v r = λ negative number.
    is_go p (after_at sums.Right negative number m s) (sided ends.Range s.sense (after_at sums.Right negative number m s)) (Relation s.sense) ts b rel
    (λ f. if_so_true (ordered s.sense s.sense) (Some (sided ends.Range s.sense (after_at sums.Right negative number m s))) (order_is s.sense o))
    (side_go p ends.Range (after_at sums.Right negative number m s) b after value v (λ n. r (record (after_at sums.Right negative number m s) { negative = n })))

-- no sign stands behind a sum
later_end : (c : Bool) (items : List Item) (ts after : Toks) → Later c ts items after → sign_first after ≡ false
later_end c [] ts after (nf, e) = sym (ap sign_first e) ∙ nf
later_end c (item ∷ items) ts after (mid, sf, i, more) = later_end c items mid after more

sum_end : (c : Bool) (items : List Item) (ts after : Toks) → IsSum c ts items after → sign_first after ≡ false
sum_end c [] ts after i = absurd i
sum_end c (item ∷ items) ts after (mid, i, more) = later_end c items mid after more

-- a place before a row's body, and the place behind a name there
record OpensRow (x : State) (ts : Toks) (q : Place) : Type 0 where
  name : (f : Bool) (n : Name) (mid : Toks) → ts ≡ (f, Named n) ∷ mid → step x (f, Named n) ≡ Some (at q (named n x))
  number : (f : Bool) (n : Numeral) (mid : Toks) → ts ≡ (f, Number n) ∷ mid → step x (f, Number n) ≡ Some (record x { place = places.Numbered sums.Lead; negative = false; number = n })
  sign : (f minus : Bool) (mid : Toks) → ts ≡ (f, Sign minus) ∷ mid → step x (f, Sign minus) ≡ Some (minus_at (places.Signed sums.Lead) minus x)
  relation : (sense : Sense) (y : State) → relation_step q sense y ≡ Some (lead_relation sense y)
  behind : (f minus : Bool) (y : State) → sign_step q f minus y ≡ Some (minus_at (places.Signed sums.Row) minus (lead_term y))

-- a row's first item that is no name alone
lead_item : (p : Draft) (x : State) (q : Place) (ts mid : Toks) (minus : Bool) (signs : List Bool) (number : Option DecimalFraction) (name : Name) → OpensRow x ts q
    → IsItem false ts (Variable (minus ∷ signs) number name) mid → ((s : State) → AfterWins p sums.Row (with_item x.said (Variable (minus ∷ signs) number name)) s mid) → Wins p x ts
lead_item p x q ts mid minus signs number name o (unsigned, variable, (behind, (f, e), sg), co, is) w =
    ap (run x) e ∙ step_go p x (minus_at (places.Signed sums.Lead) minus x) (f, Sign minus) behind (o.sign f minus behind e)
    (among_first p sums.Lead minus signs x.number x.said x behind unsigned sg (unsigned_go p sums.Lead (product false (minus ∷ signs)) x.number number name x.said x unsigned variable mid co is (w x)))

lead_coefficient : (p : Draft) (x : State) (q : Place) (ts mid : Toks) (d : DecimalFraction) (name : Name) → OpensRow x ts q
    → IsItem false ts (Variable [] (Some d) name) mid → ((s : State) → AfterWins p sums.Row (with_item x.said (Variable [] (Some d) name)) s mid) → Wins p x ts
unfolding step
lead_coefficient p x q ts mid d name o (unsigned, variable, sg, (f, co), is) w =
    ap (run x) (sg ∙ co) ∙ step_go p x (record x { place = places.Numbered sums.Lead; negative = false; number = Exact d }) (f, Number (Exact d)) variable (o.number f (Exact d) variable (sg ∙ co))
    (is_go p (record x { place = places.Numbered sums.Lead; negative = false; number = Exact d }) (after_at sums.Row false (Exact d) (with_term name d x.said) x) (Named name) variable mid is (λ g. refl) (w x false (Exact d)))

-- behind a name and an equals sign
number_go : (p : Draft) (y : State) (n : Numeral) (o : Option Bool) (ts : Toks) → Ready p (Rows false) (with_row (sides_of senses.Equal n) (with_term y.name one y.said)) ts → Wins p (equal_number o n (at places.EqualSide y)) ts
number_go p y n None ts r = r y
number_go p y n (Some on) ts r = bit_settles p (record y { place = places.EqualSide; number = n; on = on }) ts (r (record y { number = n; on = on }))

equal_with : (p : Draft) (y : State) (ts unsigned after : Toks) (signs : List Bool) (n value : Numeral) → Signs ts signs unsigned → Is (Number n) unsigned after → value ≡ signed_numeral (product false signs) n
    → Ready p (Rows false) (with_row (sides_of senses.Equal value) (with_term y.name one y.said)) after → Wins p (at places.EqualSide y) ts
unfolding step
equal_with p y ts unsigned after [] n value sg is e r =
    ap (run (at places.EqualSide y)) sg ∙ is_go p (at places.EqualSide y) (equal_number (bit_of n) n (at places.EqualSide y)) (Number n) unsigned after is (λ f. refl)
    (number_go p y n (bit_of n) after (subst (λ v. Ready p (Rows false) (with_row (sides_of senses.Equal v) (with_term y.name one y.said)) after) e r))
equal_with p y ts unsigned after (minus ∷ signs) n value (mid, sign, sg) is e r =
    let z : State = record y { place = places.Value ends.Row; negative = minus; sense = senses.Equal; said = with_term y.name one y.said } in
    is_go p (at places.EqualSide y) z (Sign minus) ts mid sign (λ f. refl)
    (first_signs p (places.Value ends.Row) (λ f b s. refl) minus signs mid unsigned z sg
    (is_go p (minus_at (places.Value ends.Row) (product false (minus ∷ signs)) z) (valued ends.Row (signed_numeral (product false (minus ∷ signs)) n) (minus_at (places.Value ends.Row) (product false (minus ∷ signs)) z)) (Number n) unsigned after is (λ f. refl)
    (subst (λ v. Wins p (valued ends.Row v (minus_at (places.Value ends.Row) (product false (minus ∷ signs)) z)) after) e (r (record z { negative = product false (minus ∷ signs) })))))

-- behind the name that a row's sum begins with
lead_side : (p : Draft) (y : State) (ts b after : Toks) (sense : Sense) (value : Numeral) (h : (f : Bool) → step y (f, Relation sense) ≡ Some (lead_relation sense y)) → Is (Relation sense) ts b → IsValue b value after
    → Ready p (Rows false) (with_row (sides_of sense value) (with_term y.name one y.said)) after → Wins p y ts
lead_side p y ts b after senses.Equal value h rel v r =
    is_go p y (at places.EqualSide y) (Relation senses.Equal) ts b rel h (equal_with p y b v.unsigned after v.signs v.number value v.signs_are v.number_is v.value_is r)
lead_side p y ts b after senses.Less value h rel v r =
    is_go p y (lead_relation senses.Less y) (Relation senses.Less) ts b rel h
    (side_go p ends.Row (record (lead_term y) { sense = senses.Less }) b after value v (λ n. r (record y { sense = senses.Less; negative = n })))
lead_side p y ts b after senses.Greater value h rel v r =
    is_go p y (lead_relation senses.Greater y) (Relation senses.Greater) ts b rel h
    (side_go p ends.Row (record (lead_term y) { sense = senses.Greater }) b after value v (λ n. r (record y { sense = senses.Greater; negative = n })))

lead_name : (p : Draft) (x : State) (q : Place) (ts mid a b after : Toks) (f : Bool) (name : Name) (items : List Item) (sense : Sense) (value : Numeral) → OpensRow x ts q → ts ≡ (f, Named name) ∷ mid → Later false mid items a
    → Is (Relation sense) a b → IsValue b value after → Ready p (Rows false) (with_row (sides_of sense value) (with_items (with_term name one x.said) items)) after → Wins p x ts
unfolding step
lead_name p x q ts mid a b after f name [] sense value o e (nf, same) rel v r =
    ap (run x) e ∙ step_go p x (at q (named name x)) (f, Named name) mid (o.name f name mid e)
    (ap (run (at q (named name x))) same ∙ lead_side p (at q (named name x)) a b after sense value (λ g. o.relation sense (at q (named name x))) rel v r)
lead_name p x q ts mid a b after f name (item ∷ items) sense value o e (next, sf, i, more) rel v r =
    let y : State = at q (named name x) in
    let m : Said = with_term name one x.said in
    let s = signed_item p sums.Row item m y mid next i sf (later_go p sums.Row refl items (with_item m item) y next a more (row_rest p (with_items m (item ∷ items)) y a b after sense value rel v r)) in
    ap (run x) e ∙ step_go p x y (f, Named name) mid (o.name f name mid e)
    (is_go p y (minus_at (places.Signed sums.Row) s.0 (lead_term y)) (Sign s.0) mid s.1 s.2 (λ g. o.behind g s.0 y) (s.3 y.number))

compared_go : (p : Draft) (x : State) (q : Place) (ts a b after : Toks) (items : List Item) (sense : Sense) (value : Numeral) → OpensRow x ts q → IsSum false ts items a
    → Is (Relation sense) a b → IsValue b value after → Ready p (Rows false) (with_row (sides_of sense value) (with_items x.said items)) after → Wins p x ts
compared_go p x q ts a b after [] sense value o i rel v r = absurd i
compared_go p x q ts a b after (Variable [] None name ∷ items) sense value o (mid, (unsigned, variable, sg, co, (f, is)), more) rel v r =
    lead_name p x q ts mid a b after f name items sense value o (sg ∙ (co ∙ is)) more rel v r
compared_go p x q ts a b after (Variable [] (Some d) name ∷ items) sense value o (mid, i, more) rel v r =
    let m : Said = with_item x.said (Variable [] (Some d) name) in
    lead_coefficient p x q ts mid d name o i (λ s. later_go p sums.Row refl items m s mid a more (row_rest p (with_items m items) s a b after sense value rel v r))
compared_go p x q ts a b after (Variable (minus ∷ signs) number name ∷ items) sense value o (mid, i, more) rel v r =
    let m : Said = with_item x.said (Variable (minus ∷ signs) number name) in
    lead_item p x q ts mid minus signs number name o i (λ s. later_go p sums.Row refl items m s mid a more (row_rest p (with_items m items) s a b after sense value rel v r))
compared_go p x q ts a b after (Constant signs d ∷ items) sense value o (mid, (unsigned, allowed, sg, is, last), more) rel v r = absurd (true_is_false (sym allowed))

-- a value that a row begins with
any_numbered : (negative : Bool) (n : Numeral) (s : State) → numbered sums.Lead negative n s ≡ Some (record s { place = places.Numbered sums.Lead; negative = negative; number = n })
any_numbered negative (Exact d) s = refl
any_numbered negative (Huge minus) s = refl

lead_value : (p : Draft) (x : State) (q : Place) (ts unsigned a : Toks) (signs : List Bool) (n : Numeral) → OpensRow x ts q → Signs ts signs unsigned → Is (Number n) unsigned a
    → Wins p (record x { place = places.Numbered sums.Lead; negative = product false signs; number = n }) a → Wins p x ts
unfolding step
lead_value p x q ts unsigned a [] n o sg (f, is) w =
    ap (run x) (sg ∙ is) ∙ step_go p x (record x { place = places.Numbered sums.Lead; negative = false; number = n }) (f, Number n) a (o.number f n a (sg ∙ is)) w
lead_value p x q ts unsigned a (minus ∷ signs) n o (mid, (f, e), sg) is w =
    ap (run x) e ∙ step_go p x (minus_at (places.Signed sums.Lead) minus x) (f, Sign minus) mid (o.sign f minus mid e)
    (first_signs p (places.Signed sums.Lead) (λ g b s. refl) minus signs mid unsigned x sg
    (is_go p (minus_at (places.Signed sums.Lead) (product false (minus ∷ signs)) x) (record x { place = places.Numbered sums.Lead; negative = product false (minus ∷ signs); number = n }) (Number n) unsigned a is
    (λ g. any_numbered (product false (minus ∷ signs)) n (minus_at (places.Signed sums.Lead) (product false (minus ∷ signs)) x)) w))

right_go : (p : Draft) (x : State) (q : Place) (ts a b after : Toks) (value : Numeral) (sense : Sense) (items : List Item) → OpensRow x ts q → IsValue ts value a → Is (Relation sense) a b → IsSum false b items after
    → ((s : State) → AfterWins p sums.Right (with_items x.said items) (record s { value = value; sense = sense }) after) → Wins p x ts
unfolding step
right_go p x q ts a b after value sense items o v rel i w =
    let n : Bool = product false v.signs in
    let y : State = record x { place = places.Numbered sums.Lead; negative = n; number = v.number } in
    let z : State = record x { value = signed_numeral n v.number; sense = sense; number = v.number } in
    lead_value p x q ts v.unsigned a v.signs v.number o v.signs_are v.number_is
    (is_go p y (minus_at (places.Signed sums.Right) false z) (Relation sense) a b rel (λ f. refl)
    (sum_go p sums.Right refl items v.number x.said z b after i (subst (λ k. AfterWins p sums.Right (with_items x.said items) (record z { value = k; sense = sense }) after) v.value_is (w z))))

bit_of_bit : (on : Bool) → bit_of (bit on) ≡ Some on
bit_of_bit true = refl
bit_of_bit false = refl

body_go : (p : Draft) (x : State) (q : Place) (ts after : Toks) (body : Body) → OpensRow x ts q → IsBody ts body after → Ready p (Rows false) (with_body x.said body) after → Wins p x ts
unfolding step
body_go p x q ts after (Compared items sense value) o (a, b, i, rel, v) r = compared_go p x q ts a b after items sense value o i rel v r
body_go p x q ts after (Mirrored value sense items) o (a, b, v, rel, i) r =
    right_go p x q ts a b after value sense items o v rel i
    (λ s negative number. right_settles p (record s { value = value; sense = sense; negative = negative; number = number; said = with_items x.said items }) after (sum_end false items b after i)
    (r (record s { value = value; sense = sense; negative = negative; number = number })))
body_go p x q ts after (Between left sense items right) o (a, b, c, d, order, v, rel, i, second, w) r =
    right_go p x q ts a b c left sense items o v rel i
    (λ s. range_rest p (with_items x.said items) (record s { value = left; sense = sense }) c d after right order second w r)
body_go p x q ts after (Conditional name on items sense value) o (a, b, c, d, e, g, (f, n), equal, is, (h, arrow), i, rel, v) r =
    let y : State = at q (named name x) in
    let z : State = record y { place = places.Bit; number = bit on; on = on } in
    let s : State = record z { said = declared name x.said } in
    ap (run x) n ∙ step_go p x y (f, Named name) a (o.name f name a n)
    (is_go p y (at places.EqualSide y) (Relation senses.Equal) a b equal (λ k. o.relation senses.Equal y)
    (is_go p (at places.EqualSide y) z (Number (bit on)) b c is (λ k. ap (λ w. Some (equal_number w (bit on) (at places.EqualSide y))) (bit_of_bit on))
    (is_go p z (minus_at (places.Signed sums.Then) false s) Arrow c d (h, arrow) (λ k. refl)
    (sum_go p sums.Then refl items (bit on) (declared name x.said) s d e i (then_rest p (with_items (declared name x.said) items) s e g after sense value rel v r)))))

-- a row at the place of its section
begun_go : (fresh f : Bool) (y : State) → fresh || f ≡ true → begun fresh f y ≡ Some y
begun_go fresh f y b = rw b refl

begins_at : (fresh : Bool) (t : Lexeme) (ts mid : Toks) → Begins fresh ts → ts ≡ t ∷ mid → fresh || t.0 ≡ true
begins_at fresh t ts mid b e = sym (ap (λ v. fresh || starts_line v) e) ∙ b

rows_open : (fresh : Bool) (s : State) (ts : Toks) → Begins fresh ts → OpensRow (at (places.Rows fresh) s) ts places.RowName
unfolding step
rows_open fresh s ts b = record {
  name = λ f n mid e. begun_go fresh f (at places.RowName (named n s)) (begins_at fresh (f, Named n) ts mid b e);
  number = λ f n mid e. begun_go fresh f (record s { place = places.Numbered sums.Lead; negative = false; number = n }) (begins_at fresh (f, Number n) ts mid b e);
  sign = λ f minus mid e. begun_go fresh f (minus_at (places.Signed sums.Lead) minus s) (begins_at fresh (f, Sign minus) ts mid b e);
  relation = λ sense y. refl;
  behind = λ f minus y. refl;
}

labelled_open : (s : State) (ts : Toks) → OpensRow (at places.Labelled s) ts places.LeadName
unfolding step
labelled_open s ts = record {
  name = λ f n mid e. refl;
  number = λ f n mid e. refl;
  sign = λ f minus mid e. refl;
  relation = λ sense y. refl;
  behind = λ f minus y. refl;
}

row_go : (p : Draft) (fresh : Bool) (m : Said) (ts mid after : Toks) (label : Option Name) (body : Body) → Begins fresh ts → IsLabel ts label mid → IsBody mid body after → is_new m (Row label body) ≡ true
    → Ready p (Rows false) (with_body (with_row_name label m) body) after → Ready p (Rows fresh) m ts
unfolding step
row_go p fresh m ts mid after None body b l i new r = λ s.
    ap (run (record s { place = places.Rows fresh; said = m })) l ∙ body_go p (record s { place = places.Rows fresh; said = m }) places.RowName mid after body (rows_open fresh (record s { said = m }) mid (subst (Begins fresh) l b)) i r
row_go p fresh m ts mid after (Some name) body b (colon, (f, n), is) i new r = λ s.
    let x : State = record s { place = places.Rows fresh; said = m } in
    let y : State = at places.RowName (named name x) in
    let z : State = record y { place = places.Labelled; said = with_row_name (Some name) m } in
    ap (run x) n ∙ step_go p x y (f, Named name) colon (begun_go fresh f y (begins_at fresh (f, Named name) ts colon b n))
    (is_go p y z Colon colon mid is (λ g. if_so_true (not (is_among m.row_names name)) (Some z) new)
    (body_go p z places.LeadName mid after body (labelled_open z mid) i r))

-- bounds
bound_value_go : (p : Draft) (fresh : Bool) (x : State) (ts unsigned a : Toks) (signs : List Bool) (n : Numeral) → Begins fresh ts → Signs ts signs unsigned → Is (Number n) unsigned a
    → ((negative : Bool) → Wins p (record x { place = places.BoundNumber; negative = negative; value = signed_numeral (product false signs) n }) a) → Wins p (at (places.Bounds fresh) x) ts
unfolding step
bound_value_go p fresh x ts unsigned a [] n b sg (f, is) w =
    ap (run (at (places.Bounds fresh) x)) (sg ∙ is) ∙ step_go p (at (places.Bounds fresh) x) (record x { place = places.BoundNumber; value = n }) (f, Number n) a
    (begun_go fresh f (record x { place = places.BoundNumber; value = n }) (begins_at fresh (f, Number n) ts a b (sg ∙ is))) (w x.negative)
bound_value_go p fresh x ts unsigned a (minus ∷ signs) n b (mid, (f, e), sg) is w =
    ap (run (at (places.Bounds fresh) x)) e ∙ step_go p (at (places.Bounds fresh) x) (minus_at places.BoundSigned minus x) (f, Sign minus) mid
    (begun_go fresh f (minus_at places.BoundSigned minus x) (begins_at fresh (f, Sign minus) ts mid b e))
    (first_signs p places.BoundSigned (λ g k s. refl) minus signs mid unsigned x sg
    (is_go p (minus_at places.BoundSigned (product false (minus ∷ signs)) x) (record x { place = places.BoundNumber; negative = product false (minus ∷ signs); value = signed_numeral (product false (minus ∷ signs)) n }) (Number n) unsigned a is (λ g. refl) (w (product false (minus ∷ signs)))))

bound_right_go : (p : Draft) (fresh : Bool) (x : State) (ts a b c : Toks) (value : Numeral) (sense : Sense) (name : Name) → Begins fresh ts → IsValue ts value a → Is (Relation sense) a b → Is (Named name) b c
    → ((negative : Bool) → Wins p (record x { place = places.BoundMiddle; negative = negative; value = value; sense = sense; name = name; said = with_var (bounded (mirrored sense) value) name x.said }) c) → Wins p (at (places.Bounds fresh) x) ts
unfolding step
bound_right_go p fresh x ts a b c value sense name begins v rel is w =
    let k : Numeral = signed_numeral (product false v.signs) v.number in
    let done : (negative : Bool) → Wins p (record x { place = places.BoundMiddle; negative = negative; value = k; sense = sense; name = name; said = with_var (bounded (mirrored sense) k) name x.said }) c =
    subst (λ j. (negative : Bool) → Wins p (record x { place = places.BoundMiddle; negative = negative; value = j; sense = sense; name = name; said = with_var (bounded (mirrored sense) j) name x.said }) c) v.value_is w in
    bound_value_go p fresh x ts v.unsigned a v.signs v.number begins v.signs_are v.number_is (λ negative.
    is_go p (record x { place = places.BoundNumber; negative = negative; value = k }) (record x { place = places.BoundRight; negative = negative; value = k; sense = sense }) (Relation sense) a b rel (λ g. refl)
    (is_go p (record x { place = places.BoundRight; negative = negative; value = k; sense = sense }) (record x { place = places.BoundMiddle; negative = negative; value = k; sense = sense; name = name; said = with_var (bounded (mirrored sense) k) name x.said })
    (Named name) b c is (λ g. refl) (done negative)))

bound_go : (p : Draft) (fresh : Bool) (m : Said) (ts after : Toks) (line : BoundLine) → Begins fresh ts → IsBound ts line after → Ready p (Bounds false) (with_bound m line) after → Ready p (Bounds fresh) m ts
unfolding step
bound_go p fresh m ts after (Stated name sense value) b (a, c, (f, n), rel, v) r = λ s.
    let x : State = record s { place = places.Bounds fresh; said = m } in
    let y : State = at places.BoundName (named name x) in
    ap (run x) n ∙ step_go p x y (f, Named name) a (begun_go fresh f y (begins_at fresh (f, Named name) ts a b n))
    (is_go p y (sided ends.Bound sense y) (Relation sense) a c rel (λ g. refl) (side_go p ends.Bound (record y { sense = sense }) c after value v (λ k. r (record y { sense = sense; negative = k }))))
bound_go p fresh m ts after (Turned value sense name) b (a, c, v, rel, is) r = λ s.
    bound_right_go p fresh (record s { said = m }) ts a c after value sense name b v rel is
    (λ k. middle_settles p (record s { negative = k; value = value; sense = sense; name = name; said = with_var (bounded (mirrored sense) value) name m }) after (r (record s { negative = k; value = value; sense = sense; name = name })))
bound_go p fresh m ts after (Enclosed left sense name right) b (a, c, d, e, order, v, rel, is, second, w) r = λ s.
    bound_right_go p fresh (record s { said = m }) ts a c d left sense name b v rel is
    (λ k. let y : State = record s { place = places.BoundMiddle; negative = k; value = left; sense = sense; name = name; said = with_var (bounded (mirrored sense) left) name m } in
    is_go p y (sided ends.Bound sense y) (Relation sense) d e second (λ g. if_so_true (ordered sense sense) (Some (sided ends.Bound sense y)) (order_is sense order))
    (side_go p ends.Bound y e after right w (λ j. r (record y { negative = j }))))
bound_go p fresh m ts after (Unbounded name) b (word, a, free, (f, n), is) r = λ s.
    let x : State = record s { place = places.Bounds fresh; said = m } in
    let y : State = at places.BoundName (named name x) in
    let z : State = record y { place = places.Bounds false; said = with_var unbounded name m } in
    ap (run x) n ∙ step_go p x y (f, Named name) a (begun_go fresh f y (begins_at fresh (f, Named name) ts a b n))
    (is_go p y z (Named word) a after is (λ g. if_so_true (is_free word) (Some z) free) (r y))

-- sets
set_word_go : (p : Draft) (x : State) (kind : SosKind) (ts after : Toks) → ((f : Bool) → step x (f, DoubleColon) ≡ set_word (Some kind) x.said x) → Is DoubleColon ts after → Ready p (Sets true) (with_set kind x.said) after → Wins p x ts
set_word_go p x kind ts after h is r = is_go p x (record x { place = places.Members; said = with_set kind x.said }) DoubleColon ts after is h (r x)

-- behind a set's name
opening_go : (p : Draft) (x : State) (word : Name) (kind : SosKind) (ts colons after : Toks) → ((f : Bool) → step x (f, Named word) ≡ kinded (set_kind_of word) x.said x) → Is (Named word) ts colons → set_kind_of word ≡ Some kind → Is DoubleColon colons after → Ready p (Sets true) (with_set kind x.said) after → Wins p x ts
unfolding step
opening_go p x word kind ts colons after h is e dc r =
    let y : State = record x { place = places.SetWord; kind = kind } in
    is_go p x y (Named word) ts colons is (λ f. h f ∙ ap (λ o. kinded o x.said x) e) (set_word_go p y kind colons after (λ f. refl) dc r)

some_or : (word : Name) (kind : SosKind) (b : Bool) → set_kind_of word ≡ Some kind → is_some (set_kind_of word) || b ≡ true
some_or word kind b e = rw e refl

new_or : (b new : Bool) → new ≡ true → b || new ≡ true
new_or true new e = refl
new_or false new e = e

set_go : (p : Draft) (inside : Bool) (m : Said) (ts mid colons after : Toks) (label : Option Name) (word : Name) (kind : SosKind) → IsLabel ts label mid → Is (Named word) mid colons → set_kind_of word ≡ Some kind → Is DoubleColon colons after
    → is_new m (Opening label kind) ≡ true → Ready p (Sets true) (with_set kind (with_set_name label m)) after → Ready p (Sets inside) m ts
unfolding step
set_go p false m ts mid colons after None word kind l is e dc new r = λ s.
    let x : State = record s { place = places.Sets; said = m } in
    let y : State = at places.SetName (named word x) in
    ap (run x) l ∙ is_go p x y (Named word) mid colons is (λ f. if_so_true (is_some (set_kind_of word) || new_set word x) (Some y) (some_or word kind (new_set word x) e))
    (set_word_go p y kind colons after (λ f. ap (λ o. set_word o m y) e) dc r)
set_go p true m ts mid colons after None word kind l is e dc new r = λ s.
    let x : State = record s { place = places.Members; said = m } in
    let y : State = at places.MemberName (named word x) in
    ap (run x) l ∙ is_go p x y (Named word) mid colons is (λ f. refl) (set_word_go p y kind colons after (λ f. ap (λ o. set_word o m y) e) dc r)
set_go p false m ts mid colons after (Some name) word kind (colon, named_is, colon_is) is e dc new r = λ s.
    let x : State = record s { place = places.Sets; said = m } in
    let y : State = at places.SetName (named name x) in
    let z : State = record y { place = places.SetLabelled; said = with_set_name (Some name) m } in
    is_go p x y (Named name) ts colon named_is (λ f. if_so_true (is_some (set_kind_of name) || new_set name x) (Some y) (new_or (is_some (set_kind_of name)) (new_set name x) new))
    (is_go p y z Colon colon mid colon_is (λ f. if_so_true (new_set name y) (Some z) new) (opening_go p z word kind mid colons after (λ f. refl) is e dc r))
set_go p true m ts mid colons after (Some name) word kind (colon, named_is, colon_is) is e dc new r = λ s.
    let x : State = record s { place = places.Members; said = m } in
    let y : State = at places.MemberName (named name x) in
    let z : State = at places.MemberColon y in
    let k : State = record z { place = places.SetWord; kind = kind; said = with_set_name (Some name) m } in
    is_go p x y (Named name) ts colon named_is (λ f. refl)
    (is_go p y z Colon colon mid colon_is (λ f. refl)
    (is_go p z k (Named word) mid colons is (λ f. if_so_true (new_set name z) (kinded (set_kind_of word) (with_set_name (Some name) m) z) new ∙ ap (λ o. kinded o (with_set_name (Some name) m) z) e)
    (set_word_go p k kind colons after (λ f. refl) dc r)))

weight_go : (p : Draft) (x : State) (ts unsigned after : Toks) (signs : List Bool) (d : DecimalFraction) → Signs ts signs unsigned → Is (Number (Exact d)) unsigned after
    → Ready p (Sets true) (with_term x.name (signed (product false signs) d) x.said) after → Wins p (at places.MemberColon x) ts
unfolding step
weight_go p x ts unsigned after [] d sg is r =
    ap (run (at places.MemberColon x)) sg ∙ is_go p (at places.MemberColon x) (record x { place = places.Members; said = with_term x.name d x.said }) (Number (Exact d)) unsigned after is (λ f. refl) (r x)
weight_go p x ts unsigned after (minus ∷ signs) d (mid, sign, sg) is r =
    let n : Bool = product false (minus ∷ signs) in
    is_go p (at places.MemberColon x) (minus_at places.MemberSigned minus x) (Sign minus) ts mid sign (λ f. refl)
    (first_signs p places.MemberSigned (λ f b s. refl) minus signs mid unsigned x sg
    (is_go p (minus_at places.MemberSigned n x) (record x { place = places.Members; negative = n; said = with_term x.name (signed n d) x.said }) (Number (Exact d)) unsigned after is (λ f. refl) (r (record x { negative = n }))))

member_go : (p : Draft) (m : Said) (ts colon value unsigned after : Toks) (name : Name) (weight : DecimalFraction) (signs : List Bool) (d : DecimalFraction) → Is (Named name) ts colon → Is Colon colon value → Signs value signs unsigned → Is (Number (Exact d)) unsigned after
    → weight ≡ signed (product false signs) d → Ready p (Sets true) (with_term name weight m) after → Ready p (Sets true) m ts
unfolding step
member_go p m ts colon value unsigned after name weight signs d is col sg num e r = λ s.
    let x : State = record s { place = places.Members; said = m } in
    let y : State = named name x in
    is_go p x (at places.MemberName y) (Named name) ts colon is (λ f. refl)
    (is_go p (at places.MemberName y) (at places.MemberColon y) Colon colon value col (λ f. refl)
    (weight_go p y value unsigned after signs d sg num (subst (λ w. Ready p (Sets true) (with_term name w m) after) e r)))

-- a name of a list
listed_go : (p : Draft) (section kind : Section) (m : Said) (s : State) (ts after : Toks) (name : Name) → Is (Named name) ts after → kind ≡ section → Ready p (Names section) (with_var (listed kind) name m) after → Wins p (record s { place = places.Names section; said = m }) ts
unfolding step
listed_go p section kind m s ts after name is k r =
    is_go p (record s { place = places.Names section; said = m }) (record s { place = places.Names section; said = with_var (listed section) name m }) (Named name) ts after is (λ f. refl)
    (subst (λ v. Wins p (record s { place = places.Names section; said = with_var (listed v) name m }) after) k (r s))

-- from a scope on
next_at : (p : Draft) (a b : Scope) (m : Said) (ts : Toks) → a ≡ b → Ready p a m ts → Ready p b m ts
next_at p a b m ts e r = subst (λ v. Ready p v m ts) e r

-- not before the first section behind the objective
abbrev IsInside : Scope → Type 0
IsInside Beginning = ⊥
IsInside scope = Unit {0}

head_at : (scope : Scope) (section : Section) (m : Said) (s : State) → IsInside scope → step (record s { place = place_of scope; said = m }) (true, Heading section) ≡ turned_to section (Some (record s { place = place_of scope; said = m }))
unfolding step
head_at Beginning section m s i = absurd i
head_at (Rows fresh) section m s i = refl
head_at (Bounds fresh) section m s i = refl
head_at (Names list) section m s i = refl
head_at (Sets false) section m s i = refl
head_at (Sets true) section m s i = refl

inside_is : (a b : Scope) → Some a ≡ Some b → IsInside a → IsInside b
inside_is a b e i = subst IsInside (some_is a b e) i

turn_inside : (section : Section) (next : Scope) → scope_of section ≡ Some next → IsInside next
turn_inside sections.Rows next e = inside_is (Rows true) next e tt
turn_inside sections.Bounds next e = inside_is (Bounds true) next e tt
turn_inside sections.General next e = inside_is (Names sections.General) next e tt
turn_inside sections.Binary next e = inside_is (Names sections.Binary) next e tt
turn_inside sections.Semi next e = inside_is (Names sections.Semi) next e tt
turn_inside sections.Sets next e = inside_is (Sets false) next e tt
turn_inside sections.Minimize next e = cc
turn_inside sections.Maximize next e = cc
turn_inside sections.End next e = cc
turn_inside sections.Cuts next e = cc

entries_go : (p : Draft) (entries : List Entry) (scope : Scope) (m : Said) (ts : Toks) → IsInside scope → Entries scope ts entries → AreNew m entries → draft_of (fold with_entry m entries) ≡ p → Ready p scope m ts
entries_go p [] scope m ts i e new means = λ s.
    let x : State = record s { place = place_of scope; said = m } in
    ap (run x) e ∙ end_ready p x x (head_at scope sections.End m s i) means
entries_go p (Turn section ∷ entries) scope m ts i (mid, next, (e, sc), more) new means = λ s.
    let x : State = record s { place = place_of scope; said = m } in
    ap (run x) e ∙ turn_ready p section next x x mid sc (head_at scope section m s i) (entries_go p entries next (closed m) mid (turn_inside section next sc) more new.1 means)
entries_go p (Row label body ∷ entries) (Rows fresh) m ts i (mid, next, (a, b, l, is, e), more) new means =
    row_go p fresh m ts a mid label body b l is new.0
    (next_at p next (Rows false) (with_entry m (Row label body)) mid e (entries_go p entries next (with_entry m (Row label body)) mid (subst IsInside (sym e) tt) more new.1 means))
entries_go p (Bound line ∷ entries) (Bounds fresh) m ts i (mid, next, (b, is, e), more) new means =
    bound_go p fresh m ts mid line b is
    (next_at p next (Bounds false) (with_entry m (Bound line)) mid e (entries_go p entries next (with_entry m (Bound line)) mid (subst IsInside (sym e) tt) more new.1 means))
entries_go p (Listed kind name ∷ entries) (Names section) m ts i (mid, next, (is, k, e), more) new means = λ s.
    listed_go p section kind m s ts mid name is k (next_at p next (Names section) (with_entry m (Listed kind name)) mid e (entries_go p entries next (with_entry m (Listed kind name)) mid (subst IsInside (sym e) tt) more new.1 means))
entries_go p (Opening label kind ∷ entries) (Sets inside) m ts i (mid, next, (a, word, colons, l, is, k, dc, e), more) new means =
    set_go p inside m ts a colons mid label word kind l is k dc new.0
    (next_at p next (Sets true) (with_entry m (Opening label kind)) mid e (entries_go p entries next (with_entry m (Opening label kind)) mid (subst IsInside (sym e) tt) more new.1 means))
entries_go p (Member name weight ∷ entries) (Sets true) m ts i (mid, next, (colon, value, signs, unsigned, d, is, col, sg, num, w, e), more) new means =
    member_go p m ts colon value unsigned mid name weight signs d is col sg num w
    (next_at p next (Sets true) (with_entry m (Member name weight)) mid e (entries_go p entries next (with_entry m (Member name weight)) mid (subst IsInside (sym e) tt) more new.1 means))
entries_go p (entry ∷ entries) scope m ts i (mid, next, is, more) new means = absurd is

-- behind the objective
begin_go : (p : Draft) (x y : State) (entries : List Entry) (ts : Toks) → ((section : Section) → step x (true, Heading section) ≡ turned_to section (Some y)) → Entries Beginning ts entries → AreNew y.said entries → draft_of (fold with_entry y.said entries) ≡ p → Wins p x ts
begin_go p x y [] ts h e new means = ap (run x) e ∙ end_ready p x y (h sections.End) means
begin_go p x y (Turn section ∷ entries) ts h (mid, next, (e, sc), more) new means =
    ap (run x) e ∙ turn_ready p section next x y mid sc (h section) (entries_go p entries next (closed y.said) mid (turn_inside section next sc) more new.1 means)
begin_go p x y (entry ∷ entries) ts h (mid, next, is, more) new means = absurd is

-- behind an item of the objective, whatever the state keeps
abbrev CostWins : Draft → Said → Toks → Type 0
CostWins p m ts = (s : State) → AfterWins p sums.Cost m s ts

cost_end : (p : Draft) (m : Said) (entries : List Entry) (ts : Toks) → Entries Beginning ts entries → AreNew (with_cost m) entries → draft_of (fold with_entry (with_cost m) entries) ≡ p → CostWins p m ts
unfolding step
cost_end p m entries ts e new means = λ s negative number.
    begin_go p (after_at sums.Cost negative number m s) (saying (with_cost m) (after_at sums.Cost negative number m s)) entries ts (λ section. refl) e new means

-- a place before the objective's items
record OpensCost (p : Draft) (x : State) : Type 0 where
  name : (f : Bool) (n : Name) (mid : Toks) → CostWins p (with_term n one x.said) mid → Wins p x ((f, Named n) ∷ mid)
  number : (f : Bool) (d : DecimalFraction) → step x (f, Number (Exact d)) ≡ Some (record x { place = places.Numbered sums.Cost; negative = false; number = Exact d })
  sign : (f minus : Bool) → step x (f, Sign minus) ≡ Some (minus_at (places.Signed sums.Cost) minus x)
  heading : (section : Section) → step x (true, Heading section) ≡ turned_to section (Some (saying (with_cost x.said) x))

cost_item : (p : Draft) (x : State) (item : Item) (ts mid : Toks) → OpensCost p x → IsItem true ts item mid → CostWins p (with_item x.said item) mid → Wins p x ts
unfolding step
cost_item p x (Variable [] None name) ts mid o (unsigned, variable, sg, co, (f, is)) w = ap (run x) (sg ∙ (co ∙ is)) ∙ o.name f name mid w
cost_item p x (Variable [] (Some d) name) ts mid o (unsigned, variable, sg, co, is) w =
    let y : State = record x { place = places.Numbered sums.Cost; negative = false; number = Exact d } in
    ap (run x) sg ∙ is_go p x y (Number (Exact d)) unsigned variable co (λ f. o.number f d)
    (is_go p y (after_at sums.Cost false (Exact d) (with_term name d x.said) x) (Named name) variable mid is (λ f. refl) (w x false (Exact d)))
cost_item p x (Variable (minus ∷ signs) number name) ts mid o (unsigned, variable, (behind, sign, sg), co, is) w =
    is_go p x (minus_at (places.Signed sums.Cost) minus x) (Sign minus) ts behind sign (λ f. o.sign f minus)
    (among_first p sums.Cost minus signs x.number x.said x behind unsigned sg (unsigned_go p sums.Cost (product false (minus ∷ signs)) x.number number name x.said x unsigned variable mid co is (w x)))
cost_item p x (Constant [] d) ts mid o (unsigned, allowed, sg, is, last) w =
    ap (run x) sg ∙ is_go p x (record x { place = places.Numbered sums.Cost; negative = false; number = Exact d }) (Number (Exact d)) unsigned mid is (λ f. o.number f d)
    (constant_settles p false d x.said x mid (w x false (Exact d)))
cost_item p x (Constant (minus ∷ signs) d) ts mid o (unsigned, allowed, (behind, sign, sg), is, last) w =
    is_go p x (minus_at (places.Signed sums.Cost) minus x) (Sign minus) ts behind sign (λ f. o.sign f minus)
    (among_first p sums.Cost minus signs x.number x.said x behind unsigned sg (constant_go p (product false (minus ∷ signs)) x.number d x.said x unsigned mid is (w x)))

cost_go : (p : Draft) (x : State) (items : List Item) (entries : List Entry) (ts after : Toks) → OpensCost p x → IsCost ts items after → Entries Beginning after entries → AreNew (with_cost (with_items x.said items)) entries
    → draft_of (fold with_entry (with_cost (with_items x.said items)) entries) ≡ p → Wins p x ts
cost_go p x [] entries ts after o e more new means = ap (run x) e ∙ begin_go p x (saying (with_cost x.said) x) entries after o.heading more new means
cost_go p x (item ∷ items) entries ts after o (mid, i, rest) more new means =
    cost_item p x item ts mid o i (λ s. later_go p sums.Cost refl items (with_item x.said item) s mid after rest (cost_end p (with_items x.said (item ∷ items)) entries after more new means s))

cost_open : (p : Draft) (x : State) → OpensCost p (at places.CostOpen x)
unfolding step
cost_open p x = record {
  name = λ f n mid w. step_go p (at places.CostOpen x) (after_at sums.Cost x.negative x.number (with_term n one x.said) x) (f, Named n) mid refl (w x x.negative x.number);
  number = λ f d. refl;
  sign = λ f minus. refl;
  heading = λ section. refl;
}

objective_open : (p : Draft) (x : State) → OpensCost p (at places.Objective x)
unfolding step
objective_open p x = record {
  name = λ f n mid w. step_go p (at places.Objective x) (at places.ObjectiveName (named n x)) (f, Named n) mid refl (objective_settles p (named n x) mid (w (named n x) x.negative x.number));
  number = λ f d. refl;
  sign = λ f minus. refl;
  heading = λ section. refl;
}

objective_go : (p : Draft) (x : State) (label : Option Name) (items : List Item) (entries : List Entry) (ts mid after : Toks) → IsLabel ts label mid → IsCost mid items after → Entries Beginning after entries
    → AreNew (with_cost (with_items x.said items)) entries → draft_of (fold with_entry (with_cost (with_items x.said items)) entries) ≡ p → Wins p (at places.Objective x) ts
unfolding step
objective_go p x None items entries ts mid after l c more new means = ap (run (at places.Objective x)) l ∙ cost_go p (at places.Objective x) items entries mid after (objective_open p x) c more new means
objective_go p x (Some name) items entries ts mid after (colon, is, col) c more new means =
    is_go p (at places.Objective x) (at places.ObjectiveName (named name x)) (Named name) ts colon is (λ f. refl)
    (is_go p (at places.ObjectiveName (named name x)) (at places.CostOpen (named name x)) Colon colon mid col (λ f. refl)
    (cost_go p (at places.CostOpen (named name x)) items entries mid after (cost_open p (named name x)) c more new means))

direction_go : (p : Draft) (section : Section) (mid : Toks) → IsDirection section → Wins p (at places.Objective (saying (nothing (is_maximal section)) start)) mid → Wins p start ((true, Heading section) ∷ mid)
unfolding step
direction_go p sections.Minimize mid d w = step_go p start (at places.Objective (saying (nothing false) start)) (true, Heading sections.Minimize) mid refl w
direction_go p sections.Maximize mid d w = step_go p start (at places.Objective (saying (nothing true) start)) (true, Heading sections.Maximize) mid refl w
direction_go p sections.Rows mid d w = absurd d
direction_go p sections.Bounds mid d w = absurd d
direction_go p sections.General mid d w = absurd d
direction_go p sections.Binary mid d w = absurd d
direction_go p sections.Semi mid d w = absurd d
direction_go p sections.Sets mid d w = absurd d
direction_go p sections.End mid d w = absurd d
direction_go p sections.Cuts mid d w = absurd d

-- a file that means the draft is read as it
pub says_go : (p : Draft) (ts : Toks) → Says ts p → run start ts ≡ Some p
says_go p ts h =
    let i = h.is_file in
    ap (run start) i.word_is ∙ direction_go p h.file.direction i.label i.direction_is
    (objective_go p (saying (nothing (is_maximal h.file.direction)) start) h.file.label h.file.cost h.file.entries i.label i.cost i.entries i.label_is i.cost_is i.entries_are h.are_new h.means)
