-- Token by token the same is read as lexeme by lexeme.
use Rattle.std.proofs.Common.{◌≡◌, ℕ, Bool, true, false, not, ◌||◌, ◌&&◌, List, [], ◌∷◌, Option, Some, None, refl, ap, sym, ◌∙◌}
use Rattle.std.specs.Prelude.{if◌then◌else◌, option_and_then, is_some}
use Rattle.sp_decimal.specs.declared.numerals.Numeral.TheVariants.{Exact, Huge}
use Rattle.sp_draft.specs.declared.drafts.Draft.{Draft}
use Rattle.sp_draft.specs.Names.{Name}
use Rattle.sp_lp_tokens.specs.SeenTokens.{SeenToken}
use Rattle.sp_lp_words.specs.declared.sections.Section.{Section}
use Rattle.sp_lp_words.specs.declared.sections.Section.TheVariants as sections
use Rattle.sp_lp_words.specs.declared.sections.Pair.{Pair}
use Rattle.sp_lp_words.specs.declared.sections.Pair.TheVariants.{SubjectTo, SuchThat, LazyConstraints, UserCuts}
use Rattle.sp_lp_words.specs.declared.sections.Part.TheVariants as parts
use Rattle.sp_lp_words.specs.declared.classes.Class.{Class}
use Rattle.sp_lp_words.specs.declared.classes.Class.TheVariants as classes
use Rattle.sp_lp_words.specs.Sections.{pair_section, is_free, set_kind_of}
use Rattle.sp_lp_grammar.specs.declared.places.Place.{Place}
use Rattle.sp_lp_grammar.specs.declared.places.Place.TheVariants as places
use Rattle.sp_lp_grammar.specs.declared.places.Sum.{Sum}
use Rattle.sp_lp_grammar.specs.declared.places.Sum.TheVariants as sums
use Rattle.sp_lp_grammar.specs.declared.places.Pending.{Pending}
use Rattle.sp_lp_grammar.specs.declared.places.Pending.TheVariants as waits
use Rattle.sp_lp_grammar.specs.Lexemes.{Mark, mark_of, marks, Heading, Named, Sign, Colon, DoubleColon, Lexeme, kind_of, is_colon, colon_first, is_second, is_minus, is_continuous, HeadingOf, counted, pair_heading, semi_third, semi_heading, heading_at, lexed, lexemes_behind, lexemes}
use Rattle.sp_lp_grammar.specs.Grammar.{Toks}
use Rattle.sp_lp_grammar.specs.Meaning.{Said}
use Rattle.sp_lp_grammar.specs.InnerMachine.{State, start, if_so, later, coefficient, kinded, new_set, ended, turned_to, name_step, colon_step, double_colon_step, heading_step, sign_step, kind_step, step, finished, run}
use Rattle.sp_lp_grammar.specs.InnerCursor.{Cursor, origin, can_head, can_name, colon_behind, double_colon_behind, can_label, waiting, settled, alone, arrived, arrived_at, behind_heading, behind_name, alone_at, whole_taken, take_mark, walk, draft_at, ended_at}

abbrev pub cur : Pending → Name → State → Cursor
cur pending word s = record { pending = pending; word = word; state = s }

-- the draft of further marks
unfoldable pub reads : Cursor → List Mark → Option Draft
reads c [] = ended_at c
reads c (m ∷ ms) = option_and_then (λ next. reads next ms) (take_mark c m)

-- the lexemes behind a name that may begin a section word
abbrev pub headed : Option HeadingOf → Name → List Mark → List Lexeme
headed None word ms = (true, Named word) ∷ lexemes_behind 0 ms
headed (Some heading) word ms = (true, Heading heading.0) ∷ lexemes_behind heading.1 ms

abbrev pub minus_mark : Name → Mark
minus_mark text = record { first = false; class = classes.Sign true; text = text }

-- whatever waits, what is read is what the machine reads of the lexemes
pub record Tells (ms : List Mark) : Type 0 where
  pub nothing : (word : Name) (s : State) → reads (cur waits.Nothing word s) ms ≡ run s (lexemes_behind 0 ms)
  pub whole : (section : Section) (word : Name) (s : State) → reads (cur (waits.Whole section) word s) ms ≡ run s (headed (counted section 0 ms) word ms)
  pub semi : (word : Name) (s : State) → reads (cur waits.Semi word s) ms ≡ run s (headed (semi_heading ms) word ms)
  pub opened : (pair : Pair) (word : Name) (s : State) → reads (cur (waits.Opened pair) word s) ms ≡ run s (headed (pair_heading pair ms) word ms)
  pub minus : (word text : Name) (s : State) → reads (cur waits.SemiMinus word s) ms ≡ run s (headed (semi_third ms (Some (sections.Semi, 0))) word (minus_mark text ∷ ms))
  pub complete : (section : Section) (word : Name) (s : State) → colon_first ms ≡ false → reads (cur (waits.Complete section) word s) ms ≡ run s ((true, Heading section) ∷ lexemes_behind 0 ms)
  pub refused : (section : Section) (word : Name) (s : State) → colon_first ms ≡ true → reads (cur (waits.Complete section) word s) ms ≡ None

-- no reading of a name that comes to an end
abbrev NeverDone : Option State → Type 0
NeverDone o = option_and_then (λ x. finished x.place x.said) o ≡ None

begun_last : (b : Bool) (s : State) → finished s.place s.said ≡ None → NeverDone (if b then Some s else None)
begun_last true s e = e
begun_last false s e = refl

so_last : (b : Bool) (o : Option State) → NeverDone o → NeverDone (if_so b o)
so_last true o e = e
so_last false o e = refl

kinded_last : (o : Option _) (m : Said) (s : State) → NeverDone (kinded o m s)
kinded_last None m s = refl
kinded_last (Some kind) m s = refl

coefficient_last : (sum : Sum) (n : _) (name : Name) (s : State) → NeverDone (coefficient sum n name s)
coefficient_last sum (Exact d) name s = refl
coefficient_last sum (Huge negative) name s = refl

name_last : (place : Place) (first : Bool) (name : Name) (s : State) → NeverDone (name_step place first name s)
name_last places.Objective first name s = refl
name_last places.CostOpen first name s = refl
name_last (places.Signed sum) first name s = refl
name_last (places.Numbered sum) first name s = coefficient_last sum s.number name s
name_last (places.After sums.Right) first name s = begun_last (false || first) _ refl
name_last (places.Rows fresh) first name s = begun_last (fresh || first) _ refl
name_last places.Labelled first name s = refl
name_last places.Bit first name s = begun_last (false || first) _ refl
name_last (places.Bounds fresh) first name s = begun_last (fresh || first) _ refl
name_last places.BoundName first name s = so_last (is_free name) _ refl
name_last places.BoundRight first name s = refl
name_last places.BoundMiddle first name s = begun_last (false || first) _ refl
name_last (places.Names section) first name s = refl
name_last places.Sets first name s = so_last (is_some (set_kind_of name) || new_set name s) _ refl
name_last places.SetLabelled first name s = kinded_last (set_kind_of name) s.said s
name_last places.Members first name s = refl
name_last places.MemberColon first name s = so_last (new_set s.name s) _ (kinded_last (set_kind_of name) _ s)
name_last place first name s = refl

-- a name, another one on its line and a colon stand nowhere
abbrev NoColon : Name → Option State → Type 0
NoColon b None = Unit {0}
NoColon b (Some s) = (colon_behind (name_step s.place false b s) ≡ None) × (double_colon_behind (name_step s.place false b s) ≡ None)

begun_no : (b : Bool) (name : Name) (s : State) → NoColon name (Some s) → NoColon name (if b then Some s else None)
begun_no true name s h = h
begun_no false name s h = tt

so_no : (b : Bool) (name : Name) (o : Option State) → NoColon name o → NoColon name (if_so b o)
so_no true name o h = h
so_no false name o h = tt

free_colon : (b : Bool) (s : State) → s.place ≡ places.Bounds false → colon_behind (if_so b (Some s)) ≡ None
free_colon true s e = ap (λ q. colon_step q s) e
free_colon false s e = refl

free_double : (b : Bool) (s : State) → s.place ≡ places.Bounds false → double_colon_behind (if_so b (Some s)) ≡ None
free_double true s e = ap (λ q. double_colon_step q s) e
free_double false s e = refl

kinded_no : (o : Option _) (name : Name) (m : Said) (s : State) → NoColon name (kinded o m s)
kinded_no None name m s = tt
kinded_no (Some kind) name m s = (refl, refl)

after_no : (sum : Sum) (name : Name) (s : State) → s.place ≡ places.After (later sum) → NoColon name (Some s)
after_no sums.Cost name s e = rw e (refl, refl)
after_no sums.Lead name s e = rw e (refl, refl)
after_no sums.Row name s e = rw e (refl, refl)
after_no sums.Then name s e = rw e (refl, refl)
after_no sums.Right name s e = rw e (refl, refl)

coefficient_no : (sum : Sum) (n : _) (a name : Name) (s : State) → NoColon name (coefficient sum n a s)
coefficient_no sum (Exact d) a name s = after_no sum name _ refl
coefficient_no sum (Huge negative) a name s = tt

name_no : (place : Place) (a b : Name) (s : State) → NoColon b (name_step place true a s)
name_no places.Objective a b s = (refl, refl)
name_no places.CostOpen a b s = (refl, refl)
name_no (places.Signed sum) a b s = after_no sum b _ refl
name_no (places.Numbered sum) a b s = coefficient_no sum s.number a b s
name_no (places.After sums.Right) a b s = (refl, refl)
name_no (places.Rows fresh) a b s = begun_no (fresh || true) b _ (refl, refl)
name_no places.Labelled a b s = (refl, refl)
name_no places.Bit a b s = (refl, refl)
name_no (places.Bounds fresh) a b s = begun_no (fresh || true) b _ (free_colon (is_free b) _ refl, free_double (is_free b) _ refl)
name_no places.BoundName a b s = so_no (is_free a) b _ (refl, refl)
name_no places.BoundRight a b s = (refl, refl)
name_no places.BoundMiddle a b s = (free_colon (is_free b) _ refl, free_double (is_free b) _ refl)
name_no (places.Names section) a b s = (refl, refl)
name_no places.Sets a b s = so_no (is_some (set_kind_of a) || new_set a s) b _ (refl, refl)
name_no places.SetLabelled a b s = kinded_no (set_kind_of a) b s.said s
name_no places.Members a b s = (refl, refl)
name_no places.MemberColon a b s = so_no (new_set s.name s) b _ (kinded_no (set_kind_of a) b _ s)
name_no place a b s = tt

-- `semi` and a sign behind it stand nowhere
abbrev NoSign : Option State → Type 0
NoSign None = Unit {0}
NoSign (Some s) = (first minus : Bool) → sign_step s.place first minus s ≡ None

semi_turned : (o : Option State) → NoSign (turned_to sections.Semi o)
semi_turned None = tt
semi_turned (Some s) = λ first minus. refl

-- reading on from an outcome
abbrev On : List Mark → Option Cursor → Option Draft
On ms o = option_and_then (λ next. reads next ms) o

abbrev behind : Option State → Toks → Option Draft
behind o ts = option_and_then (λ next. run next ts) o

-- a token by itself
settled_on : (ms : List Mark) (word : Name) (o : Option State) → Tells ms → On ms (settled word o) ≡ behind o (lexemes_behind 0 ms)
settled_on ms word None t = refl
settled_on ms word (Some s) t = t.nothing word s

alone_on : (m : Mark) (ms : List Mark) (word : Name) (s : State) → Tells ms → On ms (alone m word s) ≡ run s ((m.first, kind_of m.class m.text) ∷ lexemes_behind 0 ms)
unfolding run step
alone_on m ms word s t = settled_on ms word (kind_step (kind_of m.class m.text) m.first s) t

alone_from : (m : Mark) (ms : List Mark) (word : Name) (o : Option State) → Tells ms → On ms (alone_at m word o) ≡ behind o ((m.first, kind_of m.class m.text) ∷ lexemes_behind 0 ms)
alone_from m ms word None t = refl
alone_from m ms word (Some s) t = alone_on m ms word s t

waiting_on : (ms : List Mark) (may : Bool) (pending : Pending) (word : Name) (s : State) (want : Option Draft) → reads (cur pending word s) ms ≡ want → (may ≡ false → want ≡ None) → On ms (waiting may pending word s) ≡ want
waiting_on ms true pending word s want e none = e
waiting_on ms false pending word s want e none = sym (none refl)

-- no state, so no draft
no_state : {A : Type 0} (o : Option A) → is_some o ≡ false → o ≡ None
no_state None e = refl
no_state (Some x) e = cc

no_heading : (section : Section) (s : State) (ts : Toks) → can_head section s ≡ false → run s ((true, Heading section) ∷ ts) ≡ None
unfolding run step
no_heading section s ts e = ap (λ o. behind o ts) (no_state (heading_step s.place section s) e)

or_false : (a b : Bool) → a || b ≡ false → (a ≡ false) × (b ≡ false)
or_false true b e = cc
or_false false b e = (refl, e)

colon_none : (o : Option State) (f : Bool) (ts : Toks) → is_some (colon_behind o) ≡ false → behind o ((f, Colon) ∷ ts) ≡ None
unfolding run step
colon_none None f ts e = refl
colon_none (Some x) f ts e = ap (λ o. behind o ts) (no_state (colon_step x.place x) e)

double_none : (o : Option State) (f : Bool) (ts : Toks) → is_some (double_colon_behind o) ≡ false → behind o ((f, DoubleColon) ∷ ts) ≡ None
unfolding run step
double_none None f ts e = refl
double_none (Some x) f ts e = ap (λ o. behind o ts) (no_state (double_colon_step x.place x) e)

-- the lexemes behind a token that is no part of a section word
plain_lexemes : (m : Mark) (ms : List Mark) → heading_at m ms ≡ None → lexemes_behind 0 (m ∷ ms) ≡ (m.first, kind_of m.class m.text) ∷ lexemes_behind 0 ms
unfolding lexemes_behind
plain_lexemes m ms e = ap (λ h. lexed h m ms (λ more. lexemes_behind more ms)) e

-- a colon is no part of a section word
colon_plain : (f : Bool) (c : Class) (text : Name) (ms : List Mark) → is_colon c ≡ true → heading_at (record { first = f; class = c; text = text }) ms ≡ None
unfolding heading_at
colon_plain false c text ms e = refl
colon_plain true classes.Colon text ms e = refl
colon_plain true classes.DoubleColon text ms e = refl
colon_plain true (classes.Name part) text ms e = cc
colon_plain true (classes.Number n) text ms e = cc
colon_plain true (classes.Sign minus) text ms e = cc
colon_plain true (classes.Relation sense) text ms e = cc
colon_plain true classes.Arrow text ms e = cc
colon_plain true classes.Other text ms e = cc

-- a colon where neither of them may stand
colon_kind : (o : Option State) (f : Bool) (c : Class) (text : Name) (ts : Toks) → is_colon c ≡ true → is_some (colon_behind o) ≡ false → is_some (double_colon_behind o) ≡ false → behind o ((f, kind_of c text) ∷ ts) ≡ None
colon_kind o f classes.Colon text ts e a b = colon_none o f ts a
colon_kind o f classes.DoubleColon text ts e a b = double_none o f ts b
colon_kind o f (classes.Name part) text ts e a b = cc
colon_kind o f (classes.Number n) text ts e a b = cc
colon_kind o f (classes.Sign minus) text ts e a b = cc
colon_kind o f (classes.Relation sense) text ts e a b = cc
colon_kind o f classes.Arrow text ts e a b = cc
colon_kind o f classes.Other text ts e a b = cc

-- a name where neither it and a colon may stand
no_label : (word : Name) (s : State) (ms : List Mark) → can_label word s ≡ false → colon_first ms ≡ true → run s ((true, Named word) ∷ lexemes_behind 0 ms) ≡ None
unfolding run step
no_label word s [] e c = cc
no_label word s (m ∷ ms) e c =
    let parts = or_false (is_some (colon_behind (name_step s.place true word s))) (is_some (double_colon_behind (name_step s.place true word s))) e in
    ap (behind (name_step s.place true word s)) (plain_lexemes m ms (colon_plain m.first m.class m.text ms c)) ∙ colon_kind (name_step s.place true word s) m.first m.class m.text (lexemes_behind 0 ms) c parts.0 parts.1

no_name : (word : Name) (s : State) (ts : Toks) → can_name word s ≡ false → run s ((true, Named word) ∷ ts) ≡ None
unfolding run step
no_name word s ts e = ap (λ o. behind o ts) (no_state (name_step s.place true word s) e)

-- a word that may be one of a section, or a name before a colon
headed_none : (section : Section) (word : Name) (s : State) (ms : List Mark) (b : Bool) → colon_first ms ≡ b → (can_head section s || can_label word s) ≡ false → run s (headed (if b then None else Some (section, 0)) word ms) ≡ None
headed_none section word s ms true c e = no_label word s ms (or_false (can_head section s) (can_label word s) e).1 c
headed_none section word s ms false c e = no_heading section s (lexemes_behind 0 ms) (or_false (can_head section s) (can_label word s) e).0

-- `semi` and a sign
no_sign_behind : (o : Option State) (f minus : Bool) (ts : Toks) → NoSign o → behind o ((f, Sign minus) ∷ ts) ≡ None
unfolding run step
no_sign_behind None f minus ts h = refl
no_sign_behind (Some s) f minus ts h = ap (λ o. behind o ts) (h f minus)

semi_none : (place : Place) (s : State) → NoSign (heading_step place sections.Semi s)
semi_none places.Start s = tt
semi_none places.Objective s = semi_turned (ended places.Objective s)
semi_none places.ObjectiveName s = semi_turned (ended places.ObjectiveName s)
semi_none places.CostOpen s = semi_turned (ended places.CostOpen s)
semi_none places.RowName s = semi_turned (ended places.RowName s)
semi_none places.Labelled s = semi_turned (ended places.Labelled s)
semi_none places.LeadName s = semi_turned (ended places.LeadName s)
semi_none places.EqualSide s = semi_turned (ended places.EqualSide s)
semi_none places.Bit s = semi_turned (ended places.Bit s)
semi_none places.BoundName s = semi_turned (ended places.BoundName s)
semi_none places.BoundSigned s = semi_turned (ended places.BoundSigned s)
semi_none places.BoundNumber s = semi_turned (ended places.BoundNumber s)
semi_none places.BoundRight s = semi_turned (ended places.BoundRight s)
semi_none places.BoundMiddle s = semi_turned (ended places.BoundMiddle s)
semi_none places.Sets s = semi_turned (ended places.Sets s)
semi_none places.SetName s = semi_turned (ended places.SetName s)
semi_none places.SetLabelled s = semi_turned (ended places.SetLabelled s)
semi_none places.SetWord s = semi_turned (ended places.SetWord s)
semi_none places.Members s = semi_turned (ended places.Members s)
semi_none places.MemberName s = semi_turned (ended places.MemberName s)
semi_none places.MemberColon s = semi_turned (ended places.MemberColon s)
semi_none places.MemberSigned s = semi_turned (ended places.MemberSigned s)
semi_none places.Done s = semi_turned (ended places.Done s)
semi_none (places.Signed x) s = semi_turned (ended (places.Signed x) s)
semi_none (places.Numbered x) s = semi_turned (ended (places.Numbered x) s)
semi_none (places.After x) s = semi_turned (ended (places.After x) s)
semi_none (places.Rows x) s = semi_turned (ended (places.Rows x) s)
semi_none (places.Value x) s = semi_turned (ended (places.Value x) s)
semi_none (places.Bounds x) s = semi_turned (ended (places.Bounds x) s)
semi_none (places.Names x) s = semi_turned (ended (places.Names x) s)

semi_sign : (s : State) (f minus : Bool) (ts : Toks) → run s ((true, Heading sections.Semi) ∷ (f, Sign minus) ∷ ts) ≡ None
unfolding run step
semi_sign s f minus ts = no_sign_behind (heading_step s.place sections.Semi s) f minus ts (semi_none s.place s)

-- two names and a colon
name_colon : (o : Option State) (b : Name) (f : Bool) (c : Class) (text : Name) (ts : Toks) → is_colon c ≡ true → NoColon b o → behind o ((false, Named b) ∷ (f, kind_of c text) ∷ ts) ≡ None
unfolding run step
name_colon None b f c text ts e h = refl
name_colon (Some x) b f c text ts e h = colon_kind (name_step x.place false b x) f c text ts e (ap is_some h.0) (ap is_some h.1)

two_names : (s : State) (a b : Name) (ms : List Mark) → colon_first ms ≡ true → run s ((true, Named a) ∷ (false, Named b) ∷ lexemes_behind 0 ms) ≡ None
unfolding run step
two_names s a b [] e = cc
two_names s a b (m ∷ ms) e =
    ap (λ ts. run s ((true, Named a) ∷ (false, Named b) ∷ ts)) (plain_lexemes m ms (colon_plain m.first m.class m.text ms e))
    ∙ name_colon (name_step s.place true a s) b m.first m.class m.text (lexemes_behind 0 ms) e (name_no s.place a b s)

lexed_headed : (o : Option HeadingOf) (c : Class) (text : Name) (ms : List Mark) (s : State) → kind_of c text ≡ Named text → run s (headed o text ms) ≡ run s (lexed o (record { first = true; class = c; text = text }) ms (λ more. lexemes_behind more ms))
lexed_headed None c text ms s e = ap (λ k. run s ((true, k) ∷ lexemes_behind 0 ms)) (sym e)
lexed_headed (Some h) c text ms s e = refl

false_true : false ≡ true → ⊥
false_true e = cc

-- `semi`, a minus and whatever comes
semi_minus : (s : State) (word text : Name) (ms : List Mark) → run s (headed (Some (sections.Semi, 0)) word (minus_mark text ∷ ms)) ≡ None
unfolding lexemes_behind heading_at
semi_minus s word text ms = semi_sign s false true (lexemes_behind 0 ms)

third_second_none : (word : Name) (s : State) (rest : List Mark) (b : Bool) → can_head sections.Semi s ≡ false → run s (headed (if b then Some (sections.Semi, 2) else Some (sections.Semi, 0)) word rest) ≡ None
third_second_none word s rest true e = no_heading sections.Semi s (lexemes_behind 2 rest) e
third_second_none word s rest false e = no_heading sections.Semi s (lexemes_behind 0 rest) e

third_head_none : (word : Name) (s : State) (ms rest : List Mark) → can_head sections.Semi s ≡ false → run s (headed (semi_third ms (Some (sections.Semi, 0))) word rest) ≡ None
third_head_none word s [] rest e = no_heading sections.Semi s (lexemes_behind 0 rest) e
third_head_none word s (m ∷ ms) rest e = third_second_none word s rest ((not m.first && is_continuous m.class) && not (colon_first ms)) e

third_none : (word text : Name) (s : State) (ms : List Mark) → can_head sections.Semi s ≡ false → run s (headed (semi_third ms (Some (sections.Semi, 0))) word (minus_mark text ∷ ms)) ≡ None
third_none word text s ms e = third_head_none word s ms (minus_mark text ∷ ms) e

-- `semi` where neither it nor its name and a colon may stand
semi_second_none : (word : Name) (s : State) (ms : List Mark) (f : Bool) (c : Class) (text : Name) (b : Bool) → (not f && is_minus c) ≡ b → (can_head sections.Semi s || can_label word s) ≡ false
    → run s (headed (if b then semi_third ms (Some (sections.Semi, 0)) else counted sections.Semi 0 (record { first = f; class = c; text = text } ∷ ms)) word (record { first = f; class = c; text = text } ∷ ms)) ≡ None
semi_second_none word s ms f c text true d e = third_head_none word s ms (record { first = f; class = c; text = text } ∷ ms) (or_false (can_head sections.Semi s) (can_label word s) e).0
semi_second_none word s ms f c text false d e = headed_none sections.Semi word s (record { first = f; class = c; text = text } ∷ ms) (is_colon c) refl e

semi_headed_none : (word : Name) (s : State) (ms : List Mark) → (can_head sections.Semi s || can_label word s) ≡ false → run s (headed (semi_heading ms) word ms) ≡ None
semi_headed_none word s [] e = no_heading sections.Semi s (lexemes_behind 0 []) (or_false (can_head sections.Semi s) (can_label word s) e).0
semi_headed_none word s (m ∷ ms) e = semi_second_none word s ms m.first m.class m.text (not m.first && is_minus m.class) refl e

pair_second_none : (pair : Pair) (word : Name) (s : State) (m : Mark) (ms : List Mark) (b c : Bool) → (can_head (pair_section pair) s || can_name word s) ≡ false
    → run s (headed (if b then (if c then None else Some (pair_section pair, 1)) else None) word (m ∷ ms)) ≡ None
pair_second_none pair word s m ms true true e = no_name word s (lexemes_behind 0 (m ∷ ms)) (or_false (can_head (pair_section pair) s) (can_name word s) e).1
pair_second_none pair word s m ms true false e = no_heading (pair_section pair) s (lexemes_behind 1 (m ∷ ms)) (or_false (can_head (pair_section pair) s) (can_name word s) e).0
pair_second_none pair word s m ms false c e = no_name word s (lexemes_behind 0 (m ∷ ms)) (or_false (can_head (pair_section pair) s) (can_name word s) e).1

pair_headed_none : (pair : Pair) (word : Name) (s : State) (ms : List Mark) → (can_head (pair_section pair) s || can_name word s) ≡ false → run s (headed (pair_heading pair ms) word ms) ≡ None
pair_headed_none pair word s [] e = no_name word s (lexemes_behind 0 []) (or_false (can_head (pair_section pair) s) (can_name word s) e).1
pair_headed_none pair word s (m ∷ ms) e = pair_second_none pair word s m ms (not m.first && is_second pair m.class) (colon_first ms) e

-- the first token of a line, or another one, where nothing waits
arrive_on : (f : Bool) (c : Class) (text : Name) (ms : List Mark) (word : Name) (s : State) → Tells ms → On ms (arrived (record { first = f; class = c; text = text }) word s) ≡ run s (lexemes_behind 0 (record { first = f; class = c; text = text } ∷ ms))
unfolding lexemes_behind heading_at
arrive_on false c text ms word s t = alone_on (record { first = false; class = c; text = text }) ms word s t
arrive_on true (classes.Name (Some (parts.Whole section))) text ms word s t =
    waiting_on ms (can_head section s || can_label text s) (waits.Whole section) text s (run s (headed (counted section 0 ms) text ms)) (t.whole section text s) (headed_none section text s ms (colon_first ms) refl)
    ∙ lexed_headed (counted section 0 ms) (classes.Name (Some (parts.Whole section))) text ms s refl
arrive_on true (classes.Name (Some parts.Semi)) text ms word s t =
    waiting_on ms (can_head sections.Semi s || can_label text s) waits.Semi text s (run s (headed (semi_heading ms) text ms)) (t.semi text s) (semi_headed_none text s ms)
    ∙ lexed_headed (semi_heading ms) (classes.Name (Some parts.Semi)) text ms s refl
arrive_on true (classes.Name (Some (parts.Opens pair))) text ms word s t =
    waiting_on ms (can_head (pair_section pair) s || can_name text s) (waits.Opened pair) text s (run s (headed (pair_heading pair ms) text ms)) (t.opened pair text s) (pair_headed_none pair text s ms)
    ∙ lexed_headed (pair_heading pair ms) (classes.Name (Some (parts.Opens pair))) text ms s refl
arrive_on true (classes.Name (Some (parts.Closes pair))) text ms word s t = alone_on (record { first = true; class = classes.Name (Some (parts.Closes pair)); text = text }) ms word s t
arrive_on true (classes.Name (Some parts.Continuous)) text ms word s t = alone_on (record { first = true; class = classes.Name (Some parts.Continuous); text = text }) ms word s t
arrive_on true (classes.Name None) text ms word s t = alone_on (record { first = true; class = classes.Name None; text = text }) ms word s t
arrive_on true (classes.Number n) text ms word s t = alone_on (record { first = true; class = classes.Number n; text = text }) ms word s t
arrive_on true (classes.Sign minus) text ms word s t = alone_on (record { first = true; class = classes.Sign minus; text = text }) ms word s t
arrive_on true (classes.Relation sense) text ms word s t = alone_on (record { first = true; class = classes.Relation sense; text = text }) ms word s t
arrive_on true classes.Colon text ms word s t = alone_on (record { first = true; class = classes.Colon; text = text }) ms word s t
arrive_on true classes.DoubleColon text ms word s t = alone_on (record { first = true; class = classes.DoubleColon; text = text }) ms word s t
arrive_on true classes.Arrow text ms word s t = alone_on (record { first = true; class = classes.Arrow; text = text }) ms word s t
arrive_on true classes.Other text ms word s t = alone_on (record { first = true; class = classes.Other; text = text }) ms word s t

arrived_on : (m : Mark) (ms : List Mark) (word : Name) (o : Option State) → Tells ms → On ms (arrived_at m word o) ≡ behind o (lexemes_behind 0 (m ∷ ms))
arrived_on m ms word None t = refl
arrived_on m ms word (Some s) t = arrive_on m.first m.class m.text ms word s t

heading_on : (section : Section) (m : Mark) (ms : List Mark) (word : Name) (s : State) → Tells ms → On ms (behind_heading section m word s) ≡ run s ((true, Heading section) ∷ lexemes_behind 0 (m ∷ ms))
unfolding run step
heading_on section m ms word s t = arrived_on m ms word (heading_step s.place section s) t

name_on : (m : Mark) (ms : List Mark) (word : Name) (s : State) → Tells ms → On ms (behind_name m word s) ≡ run s ((true, Named word) ∷ lexemes_behind 0 (m ∷ ms))
unfolding run step
name_on m ms word s t = arrived_on m ms word (name_step s.place true word s) t

-- a token behind a word of a section, or a colon behind a name
whole_on : (section : Section) (m : Mark) (ms : List Mark) (word : Name) (s : State) (b : Bool) → is_colon m.class ≡ b → Tells ms
    → On ms (if b then alone_at m word (name_step s.place true word s) else behind_heading section m word s) ≡ run s (headed (if b then None else Some (section, 0)) word (m ∷ ms))
unfolding run step
whole_on section m ms word s true e t =
    alone_from m ms word (name_step s.place true word s) t ∙ ap (behind (name_step s.place true word s)) (sym (plain_lexemes m ms (colon_plain m.first m.class m.text ms e)))
whole_on section m ms word s false e t = heading_on section m ms word s t

whole_tells : (section : Section) (m : Mark) (ms : List Mark) (word : Name) (s : State) → Tells ms → On ms (whole_taken section m word s) ≡ run s (headed (counted section 0 (m ∷ ms)) word (m ∷ ms))
whole_tells section m ms word s t = whole_on section m ms word s (is_colon m.class) refl t

-- all parts are there
complete_on : (section : Section) (m : Mark) (ms : List Mark) (word : Name) (s : State) → is_colon m.class ≡ false → Tells ms → On ms (if is_colon m.class then None else behind_heading section m word s) ≡ run s ((true, Heading section) ∷ lexemes_behind 0 (m ∷ ms))
complete_on section m ms word s e t = rw e (heading_on section m ms word s t)

complete_no : (section : Section) (m : Mark) (ms : List Mark) (word : Name) (s : State) → is_colon m.class ≡ true → On ms (if is_colon m.class then None else behind_heading section m word s) ≡ None
complete_no section m ms word s e = rw e refl

-- the second part of a section word
complete_tells : (section : Section) (word text : Name) (c : Class) (s : State) (ms : List Mark) (b : Bool) → colon_first ms ≡ b → Tells ms → lexemes_behind 0 (record { first = false; class = c; text = text } ∷ ms) ≡ (false, Named text) ∷ lexemes_behind 0 ms
    → reads (cur (waits.Complete section) word s) ms ≡ run s (headed (if b then None else Some (section, 1)) word (record { first = false; class = c; text = text } ∷ ms))
unfolding lexemes_behind
complete_tells section word text c s ms true e t l = t.refused section word s e ∙ sym (ap (λ ts. run s ((true, Named word) ∷ ts)) l ∙ two_names s word text ms e)
complete_tells section word text c s ms false e t l = t.complete section word s e

-- a part that is no first one is a lexeme by itself
later_plain : (c : Class) (text : Name) (ms : List Mark) → lexemes_behind 0 (record { first = false; class = c; text = text } ∷ ms) ≡ (false, kind_of c text) ∷ lexemes_behind 0 ms
unfolding lexemes_behind heading_at
later_plain c text ms = refl

second_name : (pair : Pair) (c : Class) (text : Name) → is_second pair c ≡ true → kind_of c text ≡ Named text
second_name pair (classes.Name part) text e = refl
second_name SubjectTo (classes.Number n) text e = cc
second_name SubjectTo (classes.Sign minus) text e = cc
second_name SubjectTo (classes.Relation sense) text e = cc
second_name SubjectTo (classes.Colon) text e = cc
second_name SubjectTo (classes.DoubleColon) text e = cc
second_name SubjectTo (classes.Arrow) text e = cc
second_name SubjectTo (classes.Other) text e = cc
second_name SuchThat (classes.Number n) text e = cc
second_name SuchThat (classes.Sign minus) text e = cc
second_name SuchThat (classes.Relation sense) text e = cc
second_name SuchThat (classes.Colon) text e = cc
second_name SuchThat (classes.DoubleColon) text e = cc
second_name SuchThat (classes.Arrow) text e = cc
second_name SuchThat (classes.Other) text e = cc
second_name LazyConstraints (classes.Number n) text e = cc
second_name LazyConstraints (classes.Sign minus) text e = cc
second_name LazyConstraints (classes.Relation sense) text e = cc
second_name LazyConstraints (classes.Colon) text e = cc
second_name LazyConstraints (classes.DoubleColon) text e = cc
second_name LazyConstraints (classes.Arrow) text e = cc
second_name LazyConstraints (classes.Other) text e = cc
second_name UserCuts (classes.Number n) text e = cc
second_name UserCuts (classes.Sign minus) text e = cc
second_name UserCuts (classes.Relation sense) text e = cc
second_name UserCuts (classes.Colon) text e = cc
second_name UserCuts (classes.DoubleColon) text e = cc
second_name UserCuts (classes.Arrow) text e = cc
second_name UserCuts (classes.Other) text e = cc

pair_none : (pair : Pair) (c : Class) (text : Name) (ms : List Mark) (word : Name) (s : State) (b : Bool) → colon_first ms ≡ b → is_second pair c ≡ true → can_head (pair_section pair) s ≡ false
    → run s (headed (if b then None else Some (pair_section pair, 1)) word (record { first = false; class = c; text = text } ∷ ms)) ≡ None
pair_none pair c text ms word s true d e h =
    ap (λ ts. run s ((true, Named word) ∷ ts)) (later_plain c text ms ∙ ap (λ k. (false, k) ∷ lexemes_behind 0 ms) (second_name pair c text e)) ∙ two_names s word text ms d
pair_none pair c text ms word s false d e h = no_heading (pair_section pair) s (lexemes_behind 1 (record { first = false; class = c; text = text } ∷ ms)) h

continuous_on : (f : Bool) (c : Class) (text : Name) (ms : List Mark) (word minus_text : Name) (s : State) (b : Bool) → colon_first ms ≡ b → Tells ms
    → reads (cur (waits.Complete sections.Semi) word s) ms ≡ run s (headed (if not b then Some (sections.Semi, 2) else Some (sections.Semi, 0)) word (minus_mark minus_text ∷ record { first = f; class = c; text = text } ∷ ms))
unfolding lexemes_behind
continuous_on f c text ms word minus_text s true d t = t.refused sections.Semi word s d ∙ sym (semi_minus s word minus_text (record { first = f; class = c; text = text } ∷ ms))
continuous_on f c text ms word minus_text s false d t = t.complete sections.Semi word s d

walk_some : (ts : List SeenToken) (line : ℕ) (o : Option Cursor) → ((c : Cursor) → option_and_then ended_at (walk false line c ts) ≡ reads c (marks false line ts))
    → option_and_then ended_at (option_and_then (λ next. walk false line next ts) o) ≡ option_and_then (λ next. reads next (marks false line ts)) o
walk_some ts line None h = refl
walk_some ts line (Some c) h = h c

opened_on : (pair : Pair) (f : Bool) (c : Class) (text : Name) (ms : List Mark) (word : Name) (s : State) (b : Bool) → (not f && is_second pair c) ≡ b → Tells ms
    → On ms (if b then waiting (can_head (pair_section pair) s) (waits.Complete (pair_section pair)) word s else behind_name (record { first = f; class = c; text = text }) word s)
    ≡ run s (headed (if b then counted (pair_section pair) 1 ms else None) word (record { first = f; class = c; text = text } ∷ ms))
opened_on pair true c text ms word s true e t = cc
opened_on pair false c text ms word s true e t =
    waiting_on ms (can_head (pair_section pair) s) (waits.Complete (pair_section pair)) word s (run s (headed (counted (pair_section pair) 1 ms) word (record { first = false; class = c; text = text } ∷ ms)))
    (complete_tells (pair_section pair) word text c s ms (colon_first ms) refl t (later_plain c text ms ∙ ap (λ k. (false, k) ∷ lexemes_behind 0 ms) (second_name pair c text e)))
    (pair_none pair c text ms word s (colon_first ms) refl e)
opened_on pair f c text ms word s false e t = name_on (record { first = f; class = c; text = text }) ms word s t

-- `semi -`
minus_on : (f : Bool) (c : Class) (text : Name) (ms : List Mark) (word minus_text : Name) (s : State) (b : Bool) → (not f && is_continuous c) ≡ b → Tells ms
    → On ms (waiting b (waits.Complete sections.Semi) word s) ≡ run s (headed (if b && not (colon_first ms) then Some (sections.Semi, 2) else Some (sections.Semi, 0)) word (minus_mark minus_text ∷ record { first = f; class = c; text = text } ∷ ms))
minus_on f c text ms word minus_text s true e t = continuous_on f c text ms word minus_text s (colon_first ms) refl t
minus_on f c text ms word minus_text s false e t = sym (semi_minus s word minus_text (record { first = f; class = c; text = text } ∷ ms))

semi_on : (f : Bool) (c : Class) (text : Name) (ms : List Mark) (word : Name) (s : State) (b : Bool) → (not f && is_minus c) ≡ b → Tells ms
    → On ms (if b then waiting (can_head sections.Semi s) waits.SemiMinus word s else whole_taken sections.Semi (record { first = f; class = c; text = text }) word s)
    ≡ run s (headed (if b then semi_third ms (Some (sections.Semi, 0)) else counted sections.Semi 0 (record { first = f; class = c; text = text } ∷ ms)) word (record { first = f; class = c; text = text } ∷ ms))
semi_on true c text ms word s true e t = cc
semi_on false (classes.Sign true) text ms word s true e t =
    waiting_on ms (can_head sections.Semi s) waits.SemiMinus word s (run s (headed (semi_third ms (Some (sections.Semi, 0))) word (minus_mark text ∷ ms))) (t.minus word text s) (third_none word text s ms)
semi_on false (classes.Sign false) text ms word s true e t = cc
semi_on false (classes.Name part) text ms word s true e t = cc
semi_on false (classes.Number n) text ms word s true e t = cc
semi_on false (classes.Relation sense) text ms word s true e t = cc
semi_on false classes.Colon text ms word s true e t = cc
semi_on false classes.DoubleColon text ms word s true e t = cc
semi_on false classes.Arrow text ms word s true e t = cc
semi_on false classes.Other text ms word s true e t = cc
semi_on f c text ms word s false e t = whole_tells sections.Semi (record { first = f; class = c; text = text }) ms word s t

nothing_last : (word : Name) (s : State) → reads (cur waits.Nothing word s) [] ≡ run s (lexemes_behind 0 [])
unfolding reads run lexemes_behind
nothing_last word s = refl

heading_last : (o : Option State) → draft_at o ≡ behind o []
unfolding run
heading_last None = refl
heading_last (Some s) = refl

name_none : (o : Option State) → NeverDone o → behind o [] ≡ None
unfolding run
name_none None e = refl
name_none (Some s) e = e

tells_end : Tells []
unfolding reads run step lexemes_behind
tells_end = record {
  nothing = λ word s. refl;
  whole = λ section word s. heading_last (heading_step s.place section s);
  semi = λ word s. heading_last (heading_step s.place sections.Semi s);
  opened = λ pair word s. sym (name_none (name_step s.place true word s) (name_last s.place true word s));
  minus = λ word text s. sym (semi_minus s word text []);
  complete = λ section word s e. heading_last (heading_step s.place section s);
  refused = λ section word s e. absurd (false_true e);
}

tells_more : (m : Mark) (ms : List Mark) → Tells ms → Tells (m ∷ ms)
unfolding reads take_mark
tells_more m ms t = record {
  nothing = λ word s. arrive_on m.first m.class m.text ms word s t;
  whole = λ section word s. whole_tells section m ms word s t;
  semi = λ word s. semi_on m.first m.class m.text ms word s (not m.first && is_minus m.class) refl t;
  opened = λ pair word s. opened_on pair m.first m.class m.text ms word s (not m.first && is_second pair m.class) refl t;
  minus = λ word text s. minus_on m.first m.class m.text ms word text s (not m.first && is_continuous m.class) refl t;
  complete = λ section word s e. complete_on section m ms word s e t;
  refused = λ section word s e. complete_no section m ms word s e;
}

tells : (ms : List Mark) → Tells ms
tells [] = tells_end
tells (m ∷ ms) = tells_more m ms (tells ms)

-- over tokens and over marks the same is read
pub walk_reads : (ts : List SeenToken) (first : Bool) (before : ℕ) (c : Cursor) → option_and_then ended_at (walk first before c ts) ≡ reads c (marks first before ts)
unfolding walk reads
walk_reads [] first before c = refl
walk_reads (t ∷ ts) first before c = walk_some ts t.line (take_mark c (mark_of first before t)) (λ next. walk_reads ts false t.line next)

-- what is read of the tokens is what the machine reads of their lexemes
pub walk_runs : (ts : List SeenToken) → option_and_then ended_at (walk true 0 origin ts) ≡ run start (lexemes ts)
walk_runs ts = walk_reads ts true 0 origin ∙ (tells (marks true 0 ts)).nothing [] start
