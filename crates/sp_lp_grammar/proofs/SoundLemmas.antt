-- What is read is a file of the grammar.
use Rattle.std.proofs.Common.{◌≡◌, Bool, true, false, not, ◌||◌, List, [], ◌∷◌, Option, Some, None, ◌⊎◌, inl, inr, refl, ap, subst}
use Rattle.std.specs.Prelude.{if◌then◌else◌}
use Rattle.sp_decimal.specs.DecimalFraction.{DecimalFraction}
use Rattle.sp_decimal.specs.declared.numerals.Numeral.{Numeral}
use Rattle.sp_decimal.specs.declared.numerals.Numeral.TheVariants.{Exact}
use Rattle.sp_draft.specs.declared.drafts.Draft.{Draft}
use Rattle.sp_draft.specs.declared.drafts.Sense.{Sense}
use Rattle.sp_draft.specs.declared.drafts.Sense.TheVariants as senses
use Rattle.sp_draft.specs.Names.{Name, is_among}
use Rattle.sp_lp_grammar.specs.Lexemes.{Named, Number, Sign, Relation, Colon}
use Rattle.sp_lp_grammar.specs.Trees.{Item, Variable, Constant, Compared, Mirrored, Between, Turned, Enclosed, Entry, Row, Bound, Opening, Member}
use Rattle.sp_lp_grammar.specs.Grammar.{Toks, Is, sign_first, Signs, turned, product, signed, signed_numeral, IsValue, IsItem, IsEntry, Begins, Scope, Rows, Bounds, Sets}
use Rattle.sp_lp_grammar.specs.Meaning.{Said, with_term, with_item, one, sides_of, with_row, with_entry, is_new, with_set_name}
use Rattle.sp_lp_grammar.specs.InnerMachine.{State, if_so}
use Rattle.sp_lp_grammar.proofs.RestRules.{Goes, Behind, LaterGoes, SumGoes, BehindNumber, Unsigned, ItemGoes, ValueGoes, SideGoes, KCost, KRow, KRight, LeadNumber, LeadGoes, BodyGoes, RowName, CostGoes, BoundGoes, BoundNumber, KindWord, OpeningGoes, SetName, MemberName}

-- there is a state, and it has the property
abbrev pub Holds : Option State → (State → Type 0) → Type 0
Holds None P = ⊥
Holds (Some s) P = P s

pub test_back : (b : Bool) (s : State) (P : State → Type 0) → Holds (if b then Some s else None) P → (b ≡ true) × P s
test_back true s P h = (refl, h)
test_back false s P h = absurd h

pub so_back : (b : Bool) (o : Option State) (P : State → Type 0) → Holds (if_so b o) P → (b ≡ true) × Holds o P
so_back true o P h = (refl, h)
so_back false o P h = absurd h

pub not_true : (b : Bool) → not b ≡ true → b ≡ false
not_true true e = cc
not_true false e = refl

-- one entry before others
pub goes_entry : (p : Draft) (scope next : Scope) (m : Said) (ts mid : Toks) (e : Entry) → IsEntry scope ts e mid next → is_new m e ≡ true → Goes p next (with_entry m e) mid → Goes p scope m ts
goes_entry p scope next m ts mid e i n g = record { entries = e ∷ g.entries; spelled = (mid, next, i, g.spelled); new = (n, g.new); means = g.means }

-- an item, given its signs
pub item_goes : (c : Bool) (K : Behind) (m : Said) (whole unsigned : Toks) (signs : List Bool) → Signs whole signs unsigned → Unsigned c K (product false signs) m unsigned
    → (item : Item) × (mid : Toks) × IsItem c whole item mid × LaterGoes c K (with_item m item) mid
item_goes c K m whole unsigned signs sg (inl (name, mid, is, l)) = (Variable signs None name, mid, (unsigned, unsigned, sg, refl, is), l)
item_goes c K m whole unsigned signs sg (inr (d, mid, is, inl (name, after, named_is, l))) = (Variable signs (Some d) name, after, (unsigned, mid, sg, is, named_is), l)
item_goes c K m whole unsigned signs sg (inr (d, mid, is, inr (allowed, last, l))) = (Constant signs d, mid, (unsigned, allowed, sg, is, last), l)

pub to_sum : (c : Bool) (K : Behind) (m : Said) (ts : Toks) → ItemGoes c K false m ts → SumGoes c K m ts
to_sum c K m ts i =
    let r = item_goes c K m ts i.1 i.0 i.2 i.3 in
    (r.0 ∷ r.3.0, r.3.1, (r.1, r.2, r.3.2), r.3.3)

pub later_with : (c : Bool) (K : Behind) (m : Said) (ts unsigned : Toks) (signs : List Bool) → sign_first ts ≡ true → Signs ts signs unsigned → Unsigned c K (product false signs) m unsigned → LaterGoes c K m ts
later_with c K m ts unsigned signs e sg u =
    let r = item_goes c K m ts unsigned signs sg u in
    (r.0 ∷ r.3.0, r.3.1, (r.1, e, r.2, r.3.2), r.3.3)

-- a further item behind its first sign
pub to_later : (c : Bool) (K : Behind) (m : Said) (f : Bool) (minus : Bool) (ts : Toks) → ItemGoes c K minus m ts → LaterGoes c K m ((f, Sign minus) ∷ ts)
to_later c K m f true ts i = later_with c K m ((f, Sign true) ∷ ts) i.1 (true ∷ i.0) refl (ts, (f, refl), i.2) i.3
to_later c K m f false ts i = later_with c K m ((f, Sign false) ∷ ts) i.1 (false ∷ i.0) refl (ts, (f, refl), i.2) i.3

-- the last item
pub no_later : (c : Bool) (K : Behind) (m : Said) (ts : Toks) → sign_first ts ≡ false → K m ts → LaterGoes c K m ts
no_later c K m ts e k = ([], ts, (e, refl), k)

-- a name as the first item
pub name_sum : (c : Bool) (K : Behind) (m : Said) (f : Bool) (name : Name) (ts : Toks) → LaterGoes c K (with_term name one m) ts → SumGoes c K m ((f, Named name) ∷ ts)
name_sum c K m f name ts l = (Variable [] None name ∷ l.0, l.1, (ts, ((f, Named name) ∷ ts, (f, Named name) ∷ ts, refl, refl, (f, refl)), l.2), l.3)

pub more_signs : (c : Bool) (K : Behind) (negative : Bool) (m : Said) (f minus : Bool) (ts : Toks) → ItemGoes c K (turned negative minus) m ts → ItemGoes c K negative m ((f, Sign minus) ∷ ts)
more_signs c K negative m f minus ts i = (minus ∷ i.0, i.1, (ts, (f, refl), i.2), i.3)

pub item_name : (c : Bool) (K : Behind) (negative : Bool) (m : Said) (f : Bool) (name : Name) (ts : Toks) → LaterGoes c K (with_term name (signed negative one) m) ts → ItemGoes c K negative m ((f, Named name) ∷ ts)
item_name c K negative m f name ts l = ([], (f, Named name) ∷ ts, refl, inl (name, ts, (f, refl), l))

pub item_number : (c : Bool) (K : Behind) (negative : Bool) (m : Said) (f : Bool) (n : Numeral) (d : DecimalFraction) (ts : Toks) → n ≡ Exact d → BehindNumber c K negative d m ts → ItemGoes c K negative m ((f, Number n) ∷ ts)
item_number c K negative m f n d ts e b = ([], (f, Number n) ∷ ts, refl, inr (d, ts, (f, ap (λ v. (f, Number v) ∷ ts) e), b))

pub cost_goes : (p : Draft) (m : Said) (ts : Toks) → SumGoes true (KCost p) m ts → CostGoes p m ts
cost_goes p m ts ([], mid, i, k) = absurd i
cost_goes p m ts (item ∷ items, mid, i, k) = (item ∷ items, mid, i, k)

pub row_body : (p : Draft) (m : Said) (ts : Toks) → SumGoes false (KRow p) m ts → BodyGoes p m ts
row_body p m ts (items, mid, i, (sense, b, rel, (value, after, v, g))) = (Compared items sense value, after, (mid, b, i, rel, v), g)

-- values
pub value_with : (F : Numeral → Toks → Type 0) (ts unsigned after : Toks) (signs : List Bool) (n : Numeral) → Signs ts signs unsigned → Is (Number n) unsigned after → F (signed_numeral (product false signs) n) after → SideGoes F ts
value_with F ts unsigned after signs n sg is h =
    (signed_numeral (product false signs) n, after, record { signs = signs; unsigned = unsigned; number = n; signs_are = sg; number_is = is; value_is = refl }, h)

pub value_of : (F : Numeral → Toks → Type 0) (ts : Toks) → ValueGoes false F ts → SideGoes F ts
value_of F ts (signs, unsigned, n, after, sg, is, h) = value_with F ts unsigned after signs n sg is h

pub value_behind : (F : Numeral → Toks → Type 0) (f minus : Bool) (ts : Toks) → ValueGoes minus F ts → SideGoes F ((f, Sign minus) ∷ ts)
value_behind F f true ts (signs, unsigned, n, after, sg, is, h) = value_with F ((f, Sign true) ∷ ts) unsigned after (true ∷ signs) n (ts, (f, refl), sg) is h
value_behind F f false ts (signs, unsigned, n, after, sg, is, h) = value_with F ((f, Sign false) ∷ ts) unsigned after (false ∷ signs) n (ts, (f, refl), sg) is h

pub value_number : (F : Numeral → Toks → Type 0) (f : Bool) (n : Numeral) (ts : Toks) → F n ts → SideGoes F ((f, Number n) ∷ ts)
value_number F f n ts h = value_with F ((f, Number n) ∷ ts) ((f, Number n) ∷ ts) ts [] n refl (f, refl) h

pub values_more : (F : Numeral → Toks → Type 0) (negative f minus : Bool) (ts : Toks) → ValueGoes (turned negative minus) F ts → ValueGoes negative F ((f, Sign minus) ∷ ts)
values_more F negative f minus ts (signs, unsigned, n, after, sg, is, h) = (minus ∷ signs, unsigned, n, after, (ts, (f, refl), sg), is, h)

pub values_number : (F : Numeral → Toks → Type 0) (negative f : Bool) (n : Numeral) (ts : Toks) → F (signed_numeral negative n) ts → ValueGoes negative F ((f, Number n) ∷ ts)
values_number F negative f n ts h = ([], (f, Number n) ∷ ts, n, ts, refl, (f, refl), h)

-- a row that begins with signs, or with none
pub mirrored_body : (p : Draft) (m : Said) (ts a b : Toks) (value : Numeral) (sense : Sense) → IsValue ts value a → Is (Relation sense) a b → SumGoes false (KRight p value sense) m b → BodyGoes p m ts
mirrored_body p m ts a b value sense v rel (items, mid, i, inl g) = (Mirrored value sense items, mid, (a, b, v, rel, i), g)
mirrored_body p m ts a b value sense v rel (items, mid, i, inr (d, order, second, (right, after, w, g))) =
    (Between value sense items right, after, (a, b, mid, d, order, v, rel, i, second, w), g)

pub lead_number_body : (p : Draft) (m : Said) (whole unsigned mid : Toks) (signs : List Bool) (n : Numeral) → Signs whole signs unsigned → Is (Number n) unsigned mid → LeadNumber p (product false signs) n m mid → BodyGoes p m whole
lead_number_body p m whole unsigned mid signs n sg is (inl (d, e, name, after, named_is, l)) =
    row_body p m whole (Variable signs (Some d) name ∷ l.0, l.1, (after, (unsigned, mid, sg, subst (λ v. Is (Number v) unsigned mid) e is, named_is), l.2), l.3)
lead_number_body p m whole unsigned mid signs n sg is (inr (sense, b, rel, i)) =
    mirrored_body p m whole mid b (signed_numeral (product false signs) n) sense
    (record { signs = signs; unsigned = unsigned; number = n; signs_are = sg; number_is = is; value_is = refl }) rel
    (to_sum false (KRight p (signed_numeral (product false signs) n) sense) m b i)

pub lead_body : (p : Draft) (m : Said) (whole unsigned : Toks) (signs : List Bool) → Signs whole signs unsigned
    → ((name : Name) × (mid : Toks) × Is (Named name) unsigned mid × LaterGoes false (KRow p) (with_term name (signed (product false signs) one) m) mid)
    ⊎ ((n : Numeral) × (mid : Toks) × Is (Number n) unsigned mid × LeadNumber p (product false signs) n m mid) → BodyGoes p m whole
lead_body p m whole unsigned signs sg (inl (name, mid, is, l)) = row_body p m whole (Variable signs None name ∷ l.0, l.1, (mid, (unsigned, unsigned, sg, refl, is), l.2), l.3)
lead_body p m whole unsigned signs sg (inr (n, mid, is, l)) = lead_number_body p m whole unsigned mid signs n sg is l

pub lead_signed : (p : Draft) (m : Said) (f minus : Bool) (ts : Toks) → LeadGoes p minus m ts → BodyGoes p m ((f, Sign minus) ∷ ts)
lead_signed p m f true ts (signs, unsigned, sg, l) = lead_body p m ((f, Sign true) ∷ ts) unsigned (true ∷ signs) (ts, (f, refl), sg) l
lead_signed p m f false ts (signs, unsigned, sg, l) = lead_body p m ((f, Sign false) ∷ ts) unsigned (false ∷ signs) (ts, (f, refl), sg) l

pub lead_numbered : (p : Draft) (m : Said) (f : Bool) (n : Numeral) (ts : Toks) → LeadNumber p false n m ts → BodyGoes p m ((f, Number n) ∷ ts)
lead_numbered p m f n ts l = lead_number_body p m ((f, Number n) ∷ ts) ((f, Number n) ∷ ts) ts [] n refl (f, refl) l

-- a row without a name, and with one
pub body_goes : (p : Draft) (fresh : Bool) (m : Said) (ts : Toks) → Begins fresh ts → BodyGoes p m ts → Goes p (Rows fresh) m ts
body_goes p fresh m ts b (body, mid, i, g) = goes_entry p (Rows fresh) (Rows false) m ts mid (Row None body) (ts, b, refl, i, refl) refl g

pub new_is : (b : Bool) → b ≡ false → not b ≡ true
new_is b e = rw e refl

pub row_name_goes : (p : Draft) (fresh f : Bool) (m : Said) (name : Name) (ts : Toks) → fresh || f ≡ true → RowName p name m ts → Goes p (Rows fresh) m ((f, Named name) ∷ ts)
row_name_goes p fresh f m name ts b (inl (mid, colon, new, (body, after, i, g))) =
    goes_entry p (Rows fresh) (Rows false) m ((f, Named name) ∷ ts) after (Row (Some name) body) (mid, b, (ts, (f, refl), colon), i, refl) (new_is (is_among m.row_names name) new) g
row_name_goes p fresh f m name ts b (inr h) = body_goes p fresh m ((f, Named name) ∷ ts) b (h f)

-- a row that says that a variable is 0 or 1
pub equal_body : (p : Draft) (m : Said) (name : Name) (f g : Bool) (ts : Toks) → SideGoes (λ n after. Goes p (Rows false) (with_row (sides_of senses.Equal n) (with_term name one m)) after) ts
    → BodyGoes p m ((f, Named name) ∷ (g, Relation senses.Equal) ∷ ts)
equal_body p m name f g ts h =
    row_body p m ((f, Named name) ∷ (g, Relation senses.Equal) ∷ ts)
    (name_sum false (KRow p) m f name ((g, Relation senses.Equal) ∷ ts)
    (no_later false (KRow p) (with_term name one m) ((g, Relation senses.Equal) ∷ ts) refl (senses.Equal, ts, (g, refl), h)))

pub number_body : (p : Draft) (m : Said) (name : Name) (n : Numeral) (f g i : Bool) (ts : Toks) → Goes p (Rows false) (with_row (sides_of senses.Equal n) (with_term name one m)) ts
    → BodyGoes p m ((f, Named name) ∷ (g, Relation senses.Equal) ∷ (i, Number n) ∷ ts)
number_body p m name n f g i ts h = equal_body p m name f g ((i, Number n) ∷ ts) (value_number (λ v after. Goes p (Rows false) (with_row (sides_of senses.Equal v) (with_term name one m)) after) i n ts h)

-- bounds
pub bound_goes : (p : Draft) (fresh : Bool) (m : Said) (ts : Toks) → Begins fresh ts → BoundGoes p m ts → Goes p (Bounds fresh) m ts
bound_goes p fresh m ts b (line, mid, i, g) = goes_entry p (Bounds fresh) (Bounds false) m ts mid (Bound line) (b, i, refl) refl g

pub bound_value : (p : Draft) (m : Said) (ts a : Toks) (value : Numeral) → IsValue ts value a → BoundNumber p m value a → BoundGoes p m ts
bound_value p m ts a value v (sense, b, rel, (name, c, is, inl g)) = (Turned value sense name, c, (a, b, v, rel, is), g)
bound_value p m ts a value v (sense, b, rel, (name, c, is, inr (d, order, second, (right, after, w, g)))) =
    (Enclosed value sense name right, after, (a, b, c, d, order, v, rel, is, second, w), g)

pub bound_side : (p : Draft) (m : Said) (ts : Toks) → SideGoes (BoundNumber p m) ts → BoundGoes p m ts
bound_side p m ts (value, a, v, h) = bound_value p m ts a value v h

-- sets
pub kind_goes : (p : Draft) (inside f : Bool) (m : Said) (name : Name) (ts : Toks) → KindWord p name m ts → Goes p (Sets inside) m ((f, Named name) ∷ ts)
kind_goes p inside f m name ts (kind, e, (mid, colons, g)) =
    goes_entry p (Sets inside) (Sets true) m ((f, Named name) ∷ ts) mid (Opening None kind) ((f, Named name) ∷ ts, name, ts, refl, (f, refl), e, colons, refl) refl g

pub label_goes : (p : Draft) (inside f : Bool) (m : Said) (name : Name) (ts mid : Toks) → Is Colon ts mid → is_among m.set_names name ≡ false → OpeningGoes p (with_set_name (Some name) m) mid → Goes p (Sets inside) m ((f, Named name) ∷ ts)
label_goes p inside f m name ts mid colon new (word, after, is, (kind, e, (last, colons, g))) =
    goes_entry p (Sets inside) (Sets true) m ((f, Named name) ∷ ts) last (Opening (Some name) kind)
    (mid, word, after, (ts, (f, refl), colon), is, e, colons, refl) (new_is (is_among m.set_names name) new) g

pub set_goes : (p : Draft) (inside f : Bool) (m : Said) (name : Name) (ts : Toks) → SetName p name m ts → Goes p (Sets inside) m ((f, Named name) ∷ ts)
set_goes p inside f m name ts (inl (mid, colon, new, o)) = label_goes p inside f m name ts mid colon new o
set_goes p inside f m name ts (inr k) = kind_goes p inside f m name ts k

pub member_goes : (p : Draft) (f : Bool) (m : Said) (name : Name) (ts : Toks) → MemberName p name m ts → Goes p (Sets true) m ((f, Named name) ∷ ts)
member_goes p f m name ts (inl (mid, colon, inl (signs, unsigned, d, after, sg, is, g))) =
    goes_entry p (Sets true) (Sets true) m ((f, Named name) ∷ ts) after (Member name (signed (product false signs) d))
    (ts, mid, signs, unsigned, d, (f, refl), colon, sg, is, refl, refl) refl g
member_goes p f m name ts (inl (mid, colon, inr (new, o))) = label_goes p true f m name ts mid colon new o
member_goes p f m name ts (inr k) = kind_goes p true f m name ts k
