-- A file of the grammar is read: rule by rule, from the state before it to the one behind.
use Rattle.std.proofs.Common.{◌≡◌, Bool, true, false, List, [], ◌∷◌, Option, Some, None, refl, ap, subst, sym, ◌∙◌}
use Rattle.std.specs.Prelude.{option_and_then}
use Rattle.sp_decimal.specs.DecimalFraction.{DecimalFraction}
use Rattle.sp_decimal.specs.declared.numerals.Numeral.{Numeral}
use Rattle.sp_decimal.specs.declared.numerals.Numeral.TheVariants.{Exact}
use Rattle.sp_draft.specs.declared.drafts.Draft.{Draft}
use Rattle.sp_draft.specs.Names.{Name}
use Rattle.sp_lp_words.specs.declared.sections.Section.TheVariants as sections
use Rattle.sp_lp_grammar.specs.declared.places.Place.{Place}
use Rattle.sp_lp_grammar.specs.declared.places.Place.TheVariants as places
use Rattle.sp_lp_grammar.specs.declared.places.Sum.{Sum}
use Rattle.sp_lp_grammar.specs.declared.places.Sum.TheVariants as sums
use Rattle.sp_lp_grammar.specs.declared.places.Side.{Side}
use Rattle.sp_lp_grammar.specs.Lexemes.{Lexeme, Kind, Heading, Named, Number, Sign, Relation, Colon, DoubleColon, Arrow, Other}
use Rattle.sp_lp_grammar.specs.Trees.{Item, Variable, Constant}
use Rattle.sp_lp_grammar.specs.Grammar.{Toks, Is, is_sign, sign_first, Coefficient, Later, Signs, turned, product, signed, signed_numeral, IsValue, IsItem, IsSum, Scope, Beginning, Rows, Bounds, Names, Sets}
use Rattle.sp_lp_grammar.specs.Meaning.{Said, with_term, with_items, with_item, with_constant, one, number_or_one}
use Rattle.sp_lp_grammar.specs.InnerMachine.{State, minus_at, later, numbered, valued, sign_step, step, run}
use Rattle.sp_lp_grammar.proofs.RestRules.{constants}

-- the draft is what is read from the state on
abbrev pub Wins : Draft → State → Toks → Type 0
Wins p s ts = run s ts ≡ Some p

pub step_go : (p : Draft) (s x : State) (t : Lexeme) (ts : Toks) → step s t ≡ Some x → Wins p x ts → Wins p s (t ∷ ts)
unfolding run
step_go p s x t ts e w = ap (option_and_then (λ next. run next ts)) e ∙ w

-- the same where the list begins so
pub is_go : (p : Draft) (s x : State) (k : Kind) (ts mid : Toks) → Is k ts mid → ((f : Bool) → step s (f, k) ≡ Some x) → Wins p x mid → Wins p s ts
is_go p s x k ts mid (f, e) h w = ap (run s) e ∙ step_go p s x (f, k) mid (h f) w

-- the state before the entries of a scope, whatever it keeps
abbrev pub place_of : Scope → Place
place_of Beginning = places.After sums.Cost
place_of (Rows fresh) = places.Rows fresh
place_of (Bounds fresh) = places.Bounds fresh
place_of (Names section) = places.Names section
place_of (Sets false) = places.Sets
place_of (Sets true) = places.Members

abbrev pub Ready : Draft → Scope → Said → Toks → Type 0
Ready p scope m ts = (s : State) → Wins p (record s { place = place_of scope; said = m }) ts

pub true_is_false : true ≡ false → ⊥
true_is_false e = cc

-- no sign stands first
pub no_sign : (t : Lexeme) (rest ts : Toks) → ts ≡ t ∷ rest → is_sign t.1 ≡ false → sign_first ts ≡ true → ⊥
no_sign t rest ts e f g = let h : sign_first ts ≡ is_sign t.1 = ap sign_first e in true_is_false (sym g ∙ (h ∙ f))

-- a place that takes signs
abbrev pub TakesSigns : Place → Type 0
TakesSigns q = (f minus : Bool) (s : State) → sign_step q f minus s ≡ Some (minus_at q (turned s.negative minus) s)

pub at_place : (q : Place) (negative : Bool) (s : State) (f minus : Bool) → TakesSigns q → step (minus_at q negative s) (f, Sign minus) ≡ Some (minus_at q (turned negative minus) s)
unfolding step
at_place q negative s f minus h = h f minus (minus_at q negative s)

pub signs_go : (p : Draft) (q : Place) → TakesSigns q → (signs : List Bool) (ts unsigned : Toks) (negative : Bool) (s : State) → Signs ts signs unsigned → Wins p (minus_at q (product negative signs) s) unsigned → Wins p (minus_at q negative s) ts
signs_go p q h [] ts unsigned negative s e w = ap (run (minus_at q negative s)) e ∙ w
signs_go p q h (minus ∷ signs) ts unsigned negative s (mid, is, more) w =
    is_go p (minus_at q negative s) (minus_at q (turned negative minus) s) (Sign minus) ts mid is (λ f. at_place q negative s f minus h) (signs_go p q h signs mid unsigned (turned negative minus) s more w)

pub turned_false : (minus : Bool) → turned false minus ≡ minus
turned_false true = refl
turned_false false = refl

-- signs behind a place that takes a first one
pub first_signs : (p : Draft) (q : Place) → TakesSigns q → (minus : Bool) (signs : List Bool) (mid unsigned : Toks) (s : State) → Signs mid signs unsigned → Wins p (minus_at q (product false (minus ∷ signs)) s) unsigned → Wins p (minus_at q minus s) mid
first_signs p q h minus signs mid unsigned s sg w =
    subst (λ b. Wins p (minus_at q b s) mid) (turned_false minus) (signs_go p q h signs mid unsigned (turned false minus) s sg w)

-- a value
pub side_go : (p : Draft) (side : Side) (s : State) (ts after : Toks) (value : Numeral) → IsValue ts value after → ((negative : Bool) → Wins p (valued side value (record s { place = places.Value side; negative = negative })) after) → Wins p (minus_at (places.Value side) false s) ts
unfolding step
side_go p side s ts after value v w =
    signs_go p (places.Value side) (λ f minus x. refl) v.signs ts v.unsigned false s v.signs_are
    (is_go p (minus_at (places.Value side) (product false v.signs) s) (valued side (signed_numeral (product false v.signs) v.number) (minus_at (places.Value side) (product false v.signs) s)) (Number v.number) v.unsigned after v.number_is (λ f. refl)
    (subst (λ n. Wins p (valued side n (minus_at (places.Value side) (product false v.signs) s)) after) v.value_is (w (product false v.signs))))

-- the state behind an item, whatever sign and number were kept
abbrev pub after_at : Sum → Bool → Numeral → Said → State → State
after_at sum negative number m s = record s { place = places.After sum; negative = negative; number = number; said = m }

abbrev pub AfterWins : Draft → Sum → Said → State → Toks → Type 0
AfterWins p sum m s ts = (negative : Bool) (number : Numeral) → Wins p (after_at sum negative number m s) ts

abbrev pub signed_at : Sum → Bool → Numeral → Said → State → State
signed_at sum negative number m s = record s { place = places.Signed sum; negative = negative; number = number; said = m }

-- the number may be huge nowhere but in the first item of a row
pub exact_numbered : (sum : Sum) (negative : Bool) (d : DecimalFraction) (s : State) → numbered sum negative (Exact d) s ≡ Some (record s { place = places.Numbered sum; negative = negative; number = Exact d })
exact_numbered sums.Cost negative d s = refl
exact_numbered sums.Lead negative d s = refl
exact_numbered sums.Row negative d s = refl
exact_numbered sums.Then negative d s = refl
exact_numbered sums.Right negative d s = refl

-- the number and the name of an item
pub unsigned_go : (p : Draft) (sum : Sum) (negative : Bool) (kept : Numeral) (number : Option DecimalFraction) (name : Name) (m : Said) (s : State) (ts variable after : Toks) → Coefficient ts number variable → Is (Named name) variable after
    → AfterWins p (later sum) (with_term name (signed negative (number_or_one number)) m) s after → Wins p (signed_at sum negative kept m s) ts
unfolding step
unsigned_go p sum negative kept None name m s ts variable after e is w =
    ap (run (signed_at sum negative kept m s)) e ∙ is_go p (signed_at sum negative kept m s) (after_at (later sum) negative kept (with_term name (signed negative one) m) s) (Named name) variable after is (λ f. refl) (w negative kept)
unsigned_go p sum negative kept (Some d) name m s ts variable after e is w =
    is_go p (signed_at sum negative kept m s) (record s { place = places.Numbered sum; negative = negative; number = Exact d; said = m }) (Number (Exact d)) ts variable e (λ f. exact_numbered sum negative d (signed_at sum negative kept m s))
    (is_go p (record s { place = places.Numbered sum; negative = negative; number = Exact d; said = m }) (after_at (later sum) negative (Exact d) (with_term name (signed negative d) m) s) (Named name) variable after is (λ f. refl) (w negative (Exact d)))

abbrev pub constant_at : Bool → DecimalFraction → Said → State → State
constant_at negative d m s = record s { place = places.Numbered sums.Cost; negative = negative; number = Exact d; said = m }

-- a constant is read on as any other item, where something is read behind that
pub constant_settles : (p : Draft) (negative : Bool) (d : DecimalFraction) (m : Said) (s : State) (ts : Toks) → Wins p (after_at sums.Cost negative (Exact d) (with_constant (signed negative d) m) s) ts → Wins p (constant_at negative d m s) ts
unfolding run step
constant_settles p negative d m s [] w = w
constant_settles p negative d m s ((true, Heading sections.Minimize) ∷ ts) w = w
constant_settles p negative d m s ((true, Heading sections.Maximize) ∷ ts) w = w
constant_settles p negative d m s ((true, Heading sections.Rows) ∷ ts) w = w
constant_settles p negative d m s ((true, Heading sections.Bounds) ∷ ts) w = w
constant_settles p negative d m s ((true, Heading sections.General) ∷ ts) w = w
constant_settles p negative d m s ((true, Heading sections.Binary) ∷ ts) w = w
constant_settles p negative d m s ((true, Heading sections.Semi) ∷ ts) w = w
constant_settles p negative d m s ((true, Heading sections.Sets) ∷ ts) w = w
constant_settles p negative d m s ((true, Heading sections.End) ∷ ts) w = w
constant_settles p negative d m s ((true, Heading sections.Cuts) ∷ ts) w = w
constant_settles p negative d m s ((false, Heading section) ∷ ts) w = w
constant_settles p negative d m s ((f, Named name) ∷ ts) w = cc
constant_settles p negative d m s ((f, Number n) ∷ ts) w = w
constant_settles p negative d m s ((f, Sign minus) ∷ ts) w = w
constant_settles p negative d m s ((f, Relation sense) ∷ ts) w = w
constant_settles p negative d m s ((f, Colon) ∷ ts) w = w
constant_settles p negative d m s ((f, DoubleColon) ∷ ts) w = w
constant_settles p negative d m s ((f, Arrow) ∷ ts) w = w
constant_settles p negative d m s ((f, Other) ∷ ts) w = w

pub constant_go : (p : Draft) (negative : Bool) (kept : Numeral) (d : DecimalFraction) (m : Said) (s : State) (ts after : Toks) → Is (Number (Exact d)) ts after
    → AfterWins p sums.Cost (with_constant (signed negative d) m) s after → Wins p (signed_at sums.Cost negative kept m s) ts
unfolding step
constant_go p negative kept d m s ts after is w =
    is_go p (signed_at sums.Cost negative kept m s) (constant_at negative d m s) (Number (Exact d)) ts after is (λ f. refl) (constant_settles p negative d m s after (w negative (Exact d)))

-- an item among its signs
pub among_go : (p : Draft) (sum : Sum) (signs : List Bool) (negative : Bool) (kept : Numeral) (m : Said) (s : State) (ts unsigned : Toks) → Signs ts signs unsigned → Wins p (signed_at sum (product negative signs) kept m s) unsigned → Wins p (signed_at sum negative kept m s) ts
among_go p sum signs negative kept m s ts unsigned sg w = signs_go p (places.Signed sum) (λ f minus x. refl) signs ts unsigned negative (signed_at sum negative kept m s) sg w

pub among_first : (p : Draft) (sum : Sum) (minus : Bool) (signs : List Bool) (kept : Numeral) (m : Said) (s : State) (ts unsigned : Toks) → Signs ts signs unsigned → Wins p (signed_at sum (product false (minus ∷ signs)) kept m s) unsigned → Wins p (signed_at sum minus kept m s) ts
among_first p sum minus signs kept m s ts unsigned sg w = first_signs p (places.Signed sum) (λ f n x. refl) minus signs ts unsigned (signed_at sum minus kept m s) sg w

-- a whole item behind a place before its signs
pub item_go : (p : Draft) (sum : Sum) (item : Item) (kept : Numeral) (m : Said) (s : State) (ts after : Toks) → IsItem (constants sum) ts item after → AfterWins p (later sum) (with_item m item) s after → Wins p (signed_at sum false kept m s) ts
item_go p sum (Variable signs number name) kept m s ts after (unsigned, variable, sg, co, is) w =
    among_go p sum signs false kept m s ts unsigned sg (unsigned_go p sum (product false signs) kept number name m s unsigned variable after co is w)
item_go p sums.Cost (Constant signs d) kept m s ts after (unsigned, allowed, sg, is, last) w =
    among_go p sums.Cost signs false kept m s ts unsigned sg (constant_go p (product false signs) kept d m s unsigned after is w)
item_go p sums.Lead (Constant signs d) kept m s ts after (unsigned, allowed, sg, is, last) w = cc
item_go p sums.Row (Constant signs d) kept m s ts after (unsigned, allowed, sg, is, last) w = cc
item_go p sums.Then (Constant signs d) kept m s ts after (unsigned, allowed, sg, is, last) w = cc
item_go p sums.Right (Constant signs d) kept m s ts after (unsigned, allowed, sg, is, last) w = cc

-- an item that begins with a sign, behind that sign
pub signed_item : (p : Draft) (sum : Sum) (item : Item) (m : Said) (s : State) (ts after : Toks) → IsItem (constants sum) ts item after → sign_first ts ≡ true → AfterWins p (later sum) (with_item m item) s after
    → (minus : Bool) × (mid : Toks) × Is (Sign minus) ts mid × ((kept : Numeral) → Wins p (signed_at sum minus kept m s) mid)
signed_item p sum (Variable [] None name) m s ts after (unsigned, variable, sg, co, (f, is)) e w = absurd (no_sign (f, Named name) after ts (sg ∙ (co ∙ is)) refl e)
signed_item p sum (Variable [] (Some d) name) m s ts after (unsigned, variable, sg, (f, co), is) e w = absurd (no_sign (f, Number (Exact d)) variable ts (sg ∙ co) refl e)
signed_item p sum (Variable (minus ∷ signs) number name) m s ts after (unsigned, variable, (mid, sign, sg), co, is) e w =
    (minus, mid, sign, λ kept. among_first p sum minus signs kept m s mid unsigned sg (unsigned_go p sum (product false (minus ∷ signs)) kept number name m s unsigned variable after co is w))
signed_item p sum (Constant [] d) m s ts after (unsigned, allowed, sg, (f, is), last) e w = absurd (no_sign (f, Number (Exact d)) after ts (sg ∙ is) refl e)
signed_item p sums.Cost (Constant (minus ∷ signs) d) m s ts after (unsigned, allowed, (mid, sign, sg), is, last) e w =
    (minus, mid, sign, λ kept. among_first p sums.Cost minus signs kept m s mid unsigned sg (constant_go p (product false (minus ∷ signs)) kept d m s unsigned after is w))
signed_item p sums.Lead (Constant (minus ∷ signs) d) m s ts after (unsigned, allowed, sg, is, last) e w = cc
signed_item p sums.Row (Constant (minus ∷ signs) d) m s ts after (unsigned, allowed, sg, is, last) e w = cc
signed_item p sums.Then (Constant (minus ∷ signs) d) m s ts after (unsigned, allowed, sg, is, last) e w = cc
signed_item p sums.Right (Constant (minus ∷ signs) d) m s ts after (unsigned, allowed, sg, is, last) e w = cc

-- further items
pub later_go : (p : Draft) (sum : Sum) → later sum ≡ sum → (items : List Item) (m : Said) (s : State) (ts after : Toks) → Later (constants sum) ts items after → AfterWins p sum (with_items m items) s after → AfterWins p sum m s ts
unfolding step
later_go p sum st [] m s ts after (nf, e) w = λ negative number. ap (run (after_at sum negative number m s)) e ∙ w negative number
later_go p sum st (item ∷ items) m s ts after (mid, sf, i, more) w =
    let r = signed_item p sum item m s ts mid i sf (subst (λ q. AfterWins p q (with_item m item) s mid) (sym st) (later_go p sum st items (with_item m item) s mid after more w)) in
    λ negative number. is_go p (after_at sum negative number m s) (signed_at sum r.0 number m s) (Sign r.0) ts r.1 r.2
    (λ f. ap (λ q. Some (signed_at q r.0 number m s)) st) (r.3 number)

-- a sum behind a place before its signs
pub sum_go : (p : Draft) (sum : Sum) → later sum ≡ sum → (items : List Item) (kept : Numeral) (m : Said) (s : State) (ts after : Toks) → IsSum (constants sum) ts items after → AfterWins p sum (with_items m items) s after → Wins p (signed_at sum false kept m s) ts
sum_go p sum st [] kept m s ts after i w = absurd i
sum_go p sum st (item ∷ items) kept m s ts after (mid, i, more) w =
    item_go p sum item kept m s ts mid i (subst (λ q. AfterWins p q (with_item m item) s mid) (sym st) (later_go p sum st items (with_item m item) s mid after more w))
