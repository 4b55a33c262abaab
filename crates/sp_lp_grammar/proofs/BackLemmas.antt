-- One step back: what is left before a lexeme that was read.
use Rattle.std.proofs.Common.{◌≡◌, ℕ, ℤ, Bool, true, false, not, ◌||◌, ◌==◌, [], ◌∷◌, Option, Some, None, ◌⊎◌, inl, inr, refl, ap, subst, sym, ◌∙◌, pos}
use Rattle.std.specs.Prelude.{if◌then◌else◌, option_and_then, is_some}
use Rattle.sp_decimal.specs.DecimalFraction.{DecimalFraction}
use Rattle.sp_decimal.specs.declared.numerals.Numeral.{Numeral}
use Rattle.sp_decimal.specs.declared.numerals.Numeral.TheVariants.{Exact, Huge}
use Rattle.sp_draft.specs.declared.drafts.Draft.{Draft}
use Rattle.sp_draft.specs.declared.drafts.Sense.{Sense}
use Rattle.sp_draft.specs.declared.drafts.Sense.TheVariants as senses
use Rattle.sp_draft.specs.Names.{Name, is_among}
use Rattle.sp_model.specs.declared.parts.SosKind.{SosKind}
use Rattle.sp_lp_words.specs.declared.sections.Section.{Section}
use Rattle.sp_lp_words.specs.declared.sections.Section.TheVariants as sections
use Rattle.sp_lp_words.specs.Sections.{is_free, set_kind_of}
use Rattle.sp_lp_grammar.specs.declared.places.Place.{Place}
use Rattle.sp_lp_grammar.specs.declared.places.Place.TheVariants as places
use Rattle.sp_lp_grammar.specs.declared.places.Sum.{Sum}
use Rattle.sp_lp_grammar.specs.declared.places.Sum.TheVariants as sums
use Rattle.sp_lp_grammar.specs.declared.places.Side.{Side}
use Rattle.sp_lp_grammar.specs.declared.places.Side.TheVariants as ends
use Rattle.sp_lp_grammar.specs.Lexemes.{Kind, Heading, Named, Number, Sign, Relation, Colon, DoubleColon, Arrow, Other}
use Rattle.sp_lp_grammar.specs.Trees.{Conditional, Stated, Unbounded, Turn, Listed}
use Rattle.sp_lp_grammar.specs.Grammar.{Toks, IsOrder, turned, signed, signed_numeral, bit, Scope, Beginning, Rows, Bounds, Names, Sets, IsDirection}
use Rattle.sp_lp_grammar.specs.Meaning.{Said, nothing, declared, with_term, with_constant, one, unbounded, is_maximal, with_cost, mirrored, sides_of, with_row, with_row_name, with_var, set_closed, closed, with_set_name, draft_of}
use Rattle.sp_lp_grammar.specs.Reads.{Says}
use Rattle.sp_lp_grammar.specs.InnerMachine.{State, at, named, saying, later, coefficient, kinded, set_word, new_set, numbered, bit_of, is_whole, equal_number, valued, weighed, constant, sign_behind, cost_ended, lead_relation, ordered, turned_to, directed, name_step, number_step, sign_step, relation_step, colon_step, double_colon_step, arrow_step, heading_step, kind_step, step, finished, run}
use Rattle.sp_lp_grammar.proofs.RestRules.{Goes, LaterGoes, SumGoes, ItemGoes, ValueGoes, KCost, KRow, KThen, KRight, RangeDone, ThenDone, BoundDone, BodyGoes, LeadName, CostGoes, ObjectiveGoes, BoundMiddle, BoundNumber, KindWord, OpeningGoes, WeightGoes, KSum, constants, SideDone, SignedRest, NumberedRest, Rest}
use Rattle.std.specs.Ordering.{int_eq}
use Rattle.std.proofs.lemmas.Bool.{and_parts, eqb-true}
use Rattle.std.proofs.lemmas.Bool.Decides.{Decides-int_eq}
use Rattle.sp_lp_grammar.proofs.SoundLemmas.{Holds, test_back, so_back, not_true, goes_entry, to_sum, to_later, no_later, name_sum, more_signs, item_name, item_number, cost_goes, row_body, value_of, value_behind, value_number, values_more, values_number, lead_signed, lead_numbered, body_goes, row_name_goes, equal_body, number_body, bound_goes, bound_side, set_goes, member_goes}

abbrev Next : Draft → Toks → State → Type 0
Next p ts x = Rest p x.place x ts

-- a name
coefficient_back : (p : Draft) (sum : Sum) (n : Numeral) (f : Bool) (name : Name) (s : State) (ts : Toks) → s.number ≡ n → Holds (coefficient sum n name s) (Next p ts) → NumberedRest p sum s ((f, Named name) ∷ ts)
coefficient_back p sums.Lead (Exact d) f name s ts e h = inl (d, e, name, ts, (f, refl), h)
coefficient_back p sums.Cost (Exact d) f name s ts e h = (d, e, inl (name, ts, (f, refl), h))
coefficient_back p sums.Row (Exact d) f name s ts e h = (d, e, inl (name, ts, (f, refl), h))
coefficient_back p sums.Then (Exact d) f name s ts e h = (d, e, inl (name, ts, (f, refl), h))
coefficient_back p sums.Right (Exact d) f name s ts e h = (d, e, inl (name, ts, (f, refl), h))
coefficient_back p sum (Huge negative) f name s ts e h = absurd h

signed_name_back : (p : Draft) (sum : Sum) (f : Bool) (name : Name) (s : State) (ts : Toks) → LaterGoes (constants (later sum)) (KSum p (later sum) s) (with_term name (signed s.negative one) s.said) ts → SignedRest p sum s.negative s ((f, Named name) ∷ ts)
signed_name_back p sums.Lead f name s ts h = ([], (f, Named name) ∷ ts, refl, inl (name, ts, (f, refl), h))
signed_name_back p sums.Cost f name s ts h = item_name true (KCost p) s.negative s.said f name ts h
signed_name_back p sums.Row f name s ts h = item_name false (KRow p) s.negative s.said f name ts h
signed_name_back p sums.Then f name s ts h = item_name false (KThen p s.name s.on) s.negative s.said f name ts h
signed_name_back p sums.Right f name s ts h = item_name false (KRight p s.value s.sense) s.negative s.said f name ts h

kinded_back : (p : Draft) (o : Option SosKind) (f : Bool) (name : Name) (m : Said) (s : State) (ts : Toks) → set_kind_of name ≡ o → Holds (kinded o m s) (Next p ts) → OpeningGoes p m ((f, Named name) ∷ ts)
kinded_back p None f name m s ts e h = absurd h
kinded_back p (Some kind) f name m s ts e h = (name, ts, (f, refl), (kind, e, h))

pub name_back : (p : Draft) (place : Place) (f : Bool) (name : Name) (s : State) (ts : Toks) → Holds (name_step place f name s) (Next p ts) → Rest p place s ((f, Named name) ∷ ts)
name_back p places.Objective f name s ts h = h f
name_back p places.CostOpen f name s ts h = cost_goes p s.said ((f, Named name) ∷ ts) (name_sum true (KCost p) s.said f name ts h)
name_back p (places.Signed sums.Lead) f name s ts h = signed_name_back p sums.Lead f name s ts h
name_back p (places.Signed sums.Cost) f name s ts h = signed_name_back p sums.Cost f name s ts h
name_back p (places.Signed sums.Row) f name s ts h = signed_name_back p sums.Row f name s ts h
name_back p (places.Signed sums.Then) f name s ts h = signed_name_back p sums.Then f name s ts h
name_back p (places.Signed sums.Right) f name s ts h = signed_name_back p sums.Right f name s ts h
name_back p (places.Numbered sum) f name s ts h = coefficient_back p sum s.number f name s ts refl h
name_back p (places.After sums.Right) f name s ts h =
    let b = test_back (false || f) (at places.RowName (named name (saying (with_row (sides_of (mirrored s.sense) s.value) s.said) s))) (Next p ts) h in
    no_later false (KRight p s.value s.sense) s.said ((f, Named name) ∷ ts) refl (inl (row_name_goes p false f (with_row (sides_of (mirrored s.sense) s.value) s.said) name ts b.0 b.1))
name_back p (places.Rows fresh) f name s ts h =
    let b = test_back (fresh || f) (at places.RowName (named name s)) (Next p ts) h in
    row_name_goes p fresh f s.said name ts b.0 b.1
name_back p places.Labelled f name s ts h = h f
name_back p places.Bit f name s ts h =
    let m : Said = with_row (sides_of senses.Equal s.number) (with_term s.name one s.said) in
    let b = test_back (false || f) (at places.RowName (named name (saying m s))) (Next p ts) h in
    λ e i j k. number_body p s.said s.name s.number i j k ((f, Named name) ∷ ts) (row_name_goes p false f m name ts b.0 b.1)
name_back p (places.Bounds fresh) f name s ts h =
    let b = test_back (fresh || f) (at places.BoundName (named name s)) (Next p ts) h in
    bound_goes p fresh s.said ((f, Named name) ∷ ts) b.0 (b.1 f)
name_back p places.BoundName f name s ts h =
    let b = so_back (is_free name) (Some (at (places.Bounds false) (saying (with_var unbounded s.name s.said) s))) (Next p ts) h in
    λ i. (Unbounded s.name, ts, (name, (f, Named name) ∷ ts, b.0, (i, refl), (f, refl)), b.1)
name_back p places.BoundRight f name s ts h = (name, ts, (f, refl), h)
name_back p places.BoundMiddle f name s ts h =
    let b = test_back (false || f) (at places.BoundName (named name s)) (Next p ts) h in
    inl (bound_goes p false s.said ((f, Named name) ∷ ts) b.0 (b.1 f))
name_back p (places.Names section) f name s ts h = goes_entry p (Names section) (Names section) s.said ((f, Named name) ∷ ts) ts (Listed section name) ((f, refl), refl, refl) refl h
name_back p places.Sets f name s ts h =
    let b = so_back (is_some (set_kind_of name) || new_set name s) (Some (at places.SetName (named name s))) (Next p ts) h in
    set_goes p false f s.said name ts b.1
name_back p places.SetLabelled f name s ts h = kinded_back p (set_kind_of name) f name s.said s ts refl h
name_back p places.Members f name s ts h = member_goes p f s.said name ts h
name_back p places.MemberColon f name s ts h =
    let b = so_back (new_set s.name s) (kinded (set_kind_of name) (with_set_name (Some s.name) s.said) s) (Next p ts) h in
    inr (not_true (is_among s.said.set_names s.name) b.0, kinded_back p (set_kind_of name) f name (with_set_name (Some s.name) s.said) s ts refl b.1)
name_back p place f name s ts h = absurd h

-- a number
numbered_back : (p : Draft) (sum : Sum) (negative : Bool) (n : Numeral) (f : Bool) (s : State) (ts : Toks) → Holds (numbered sum negative n s) (Next p ts) → SignedRest p sum negative s ((f, Number n) ∷ ts)
numbered_back p sums.Lead negative (Exact d) f s ts h = ([], (f, Number (Exact d)) ∷ ts, refl, inr (Exact d, ts, (f, refl), h))
numbered_back p sums.Lead negative (Huge minus) f s ts h = ([], (f, Number (Huge minus)) ∷ ts, refl, inr (Huge minus, ts, (f, refl), h))
numbered_back p sums.Cost negative (Exact d) f s ts (e, g, b) = item_number true (KCost p) negative s.said f (Exact d) e ts g b
numbered_back p sums.Row negative (Exact d) f s ts (e, g, b) = item_number false (KRow p) negative s.said f (Exact d) e ts g b
numbered_back p sums.Then negative (Exact d) f s ts (e, g, b) = item_number false (KThen p s.name s.on) negative s.said f (Exact d) e ts g b
numbered_back p sums.Right negative (Exact d) f s ts (e, g, b) = item_number false (KRight p s.value s.sense) negative s.said f (Exact d) e ts g b
numbered_back p sums.Cost negative (Huge minus) f s ts h = absurd h
numbered_back p sums.Row negative (Huge minus) f s ts h = absurd h
numbered_back p sums.Then negative (Huge minus) f s ts h = absurd h
numbered_back p sums.Right negative (Huge minus) f s ts h = absurd h

cost_number : (p : Draft) (n : Numeral) (f : Bool) (s : State) (ts : Toks) → Holds (numbered sums.Cost false n s) (Next p ts) → CostGoes p s.said ((f, Number n) ∷ ts)
cost_number p n f s ts h = cost_goes p s.said ((f, Number n) ∷ ts) (to_sum true (KCost p) s.said ((f, Number n) ∷ ts) (numbered_back p sums.Cost false n f s ts h))

valued_back : (p : Draft) (side : Side) (v : Numeral) (s : State) (ts : Toks) → Next p ts (valued side v s) → SideDone p side s v ts
valued_back p ends.Row v s ts h = h
valued_back p ends.Then v s ts h = h
valued_back p ends.Range v s ts h = h
valued_back p ends.Bound v s ts h = h

decimal_is : (k : ℕ) (p : ℤ) (s : ℕ) → p ≡ pos k → s ≡ 0 → ◌≡◌ {A = Numeral} (Exact (record { p = p; s = s })) (Exact (record { p = pos k; s = 0 }))
decimal_is k p s a b = rw (a, b) refl

-- the number that is 0 or 1
whole_is : (k : ℕ) (d : DecimalFraction) → is_whole k d ≡ true → Exact d ≡ Exact (record { p = pos k; s = 0 })
whole_is k d e =
    let a : d.p ≡ pos k = (Decides-int_eq d.p (pos k)).0 (and_parts (int_eq d.p (pos k)) (d.s == 0) e).0 in
    let b : d.s ≡ 0 = eqb-true d.s 0 (and_parts (int_eq d.p (pos k)) (d.s == 0) e).1 in
    decimal_is k d.p d.s a b

bit_cases : (zero_is one_is : Bool) (on : Bool) → (if zero_is then Some false else (if one_is then Some true else None)) ≡ Some on → ((zero_is ≡ true) × (on ≡ false)) ⊎ ((one_is ≡ true) × (on ≡ true))
bit_cases true b on e = inl (refl, cc)
bit_cases false true on e = inr (refl, cc)
bit_cases false false on e = cc

bit_from : (d : DecimalFraction) (on : Bool) → ((is_whole 0 d ≡ true) × (on ≡ false)) ⊎ ((is_whole 1 d ≡ true) × (on ≡ true)) → Exact d ≡ bit on
bit_from d on (inl (w, e)) = rw e (whole_is 0 d w)
bit_from d on (inr (w, e)) = rw e (whole_is 1 d w)

bit_is : (n : Numeral) (on : Bool) → bit_of n ≡ Some on → n ≡ bit on
bit_is (Exact d) on e = bit_from d on (bit_cases (is_whole 0 d) (is_whole 1 d) on e)
bit_is (Huge negative) on e = cc

equal_back : (p : Draft) (o : Option Bool) (n : Numeral) (f : Bool) (s : State) (ts : Toks) → bit_of n ≡ o → Next p ts (equal_number o n s) → (i j : Bool) → BodyGoes p s.said ((i, Named s.name) ∷ (j, Relation senses.Equal) ∷ (f, Number n) ∷ ts)
equal_back p None n f s ts e h = λ i j. number_body p s.said s.name n i j f ts h
equal_back p (Some on) n f s ts e h = λ i j. h (bit_is n on e) i j f

weighed_back : (p : Draft) (negative : Bool) (n : Numeral) (f : Bool) (s : State) (ts : Toks) → Holds (weighed negative n s) (Next p ts) → WeightGoes p negative s.name s.said ((f, Number n) ∷ ts)
weighed_back p negative (Exact d) f s ts h = ([], (f, Number (Exact d)) ∷ ts, d, ts, refl, (f, refl), h)
weighed_back p negative (Huge minus) f s ts h = absurd h

pub number_back : (p : Draft) (place : Place) (f : Bool) (n : Numeral) (s : State) (ts : Toks) → Holds (number_step place f n s) (Next p ts) → Rest p place s ((f, Number n) ∷ ts)
number_back p places.Objective f n s ts h = (None, (f, Number n) ∷ ts, refl, cost_number p n f s ts h)
number_back p places.CostOpen f n s ts h = cost_number p n f s ts h
number_back p (places.Signed sum) f n s ts h = numbered_back p sum s.negative n f s ts h
number_back p (places.After sums.Right) f n s ts h =
    let m : Said = with_row (sides_of (mirrored s.sense) s.value) s.said in
    let b = test_back (false || f) (record s { place = places.Numbered sums.Lead; negative = false; number = n; said = m }) (Next p ts) h in
    no_later false (KRight p s.value s.sense) s.said ((f, Number n) ∷ ts) refl (inl (body_goes p false m ((f, Number n) ∷ ts) b.0 (lead_numbered p m f n ts b.1)))
number_back p (places.Rows fresh) f n s ts h =
    let b = test_back (fresh || f) (record s { place = places.Numbered sums.Lead; negative = false; number = n }) (Next p ts) h in
    body_goes p fresh s.said ((f, Number n) ∷ ts) b.0 (lead_numbered p s.said f n ts b.1)
number_back p places.Labelled f n s ts h = lead_numbered p s.said f n ts h
number_back p places.EqualSide f n s ts h = equal_back p (bit_of n) n f s ts refl h
number_back p places.Bit f n s ts h =
    let m : Said = with_row (sides_of senses.Equal s.number) (with_term s.name one s.said) in
    let b = test_back (false || f) (record s { place = places.Numbered sums.Lead; negative = false; number = n; said = m }) (Next p ts) h in
    λ e i j k. number_body p s.said s.name s.number i j k ((f, Number n) ∷ ts) (body_goes p false m ((f, Number n) ∷ ts) b.0 (lead_numbered p m f n ts b.1))
number_back p (places.Value side) f n s ts h = values_number (SideDone p side s) s.negative f n ts (valued_back p side (signed_numeral s.negative n) s ts h)
number_back p (places.Bounds fresh) f n s ts h =
    let b = test_back (fresh || f) (record s { place = places.BoundNumber; value = n }) (Next p ts) h in
    bound_goes p fresh s.said ((f, Number n) ∷ ts) b.0 (bound_side p s.said ((f, Number n) ∷ ts) (value_number (BoundNumber p s.said) f n ts b.1))
number_back p places.BoundSigned f n s ts h = values_number (BoundNumber p s.said) s.negative f n ts h
number_back p places.BoundMiddle f n s ts h =
    let b = test_back (false || f) (record s { place = places.BoundNumber; value = n }) (Next p ts) h in
    inl (bound_goes p false s.said ((f, Number n) ∷ ts) b.0 (bound_side p s.said ((f, Number n) ∷ ts) (value_number (BoundNumber p s.said) f n ts b.1)))
number_back p places.MemberColon f n s ts h = inl (weighed_back p false n f s ts h)
number_back p places.MemberSigned f n s ts h = weighed_back p s.negative n f s ts h
number_back p place f n s ts h = absurd h

-- a sign
sign_behind_back : (p : Draft) (n : Numeral) (f minus : Bool) (s : State) (ts : Toks) → s.number ≡ n → Holds (sign_behind minus (constant n s)) (Next p ts) → NumberedRest p sums.Cost s ((f, Sign minus) ∷ ts)
sign_behind_back p (Exact d) f minus s ts e h = (d, e, inr (refl, refl, to_later true (KCost p) (with_constant (signed s.negative d) s.said) f minus ts h))
sign_behind_back p (Huge negative) f minus s ts e h = absurd h

-- a sign behind a name that begins a sum
lead_sign : (p : Draft) (m : Said) (name : Name) (f minus : Bool) (ts : Toks) → ItemGoes false (KRow p) minus (with_term name one m) ts → LeadName p name m ((f, Sign minus) ∷ ts)
lead_sign p m name f minus ts h = λ i. row_body p m ((i, Named name) ∷ (f, Sign minus) ∷ ts) (name_sum false (KRow p) m i name ((f, Sign minus) ∷ ts) (to_later false (KRow p) (with_term name one m) f minus ts h))

cost_signed : (p : Draft) (m : Said) (f minus : Bool) (ts : Toks) → ItemGoes true (KCost p) minus m ts → CostGoes p m ((f, Sign minus) ∷ ts)
cost_signed p m f true ts h = cost_goes p m ((f, Sign true) ∷ ts) (to_sum true (KCost p) m ((f, Sign true) ∷ ts) (more_signs true (KCost p) false m f true ts h))
cost_signed p m f false ts h = cost_goes p m ((f, Sign false) ∷ ts) (to_sum true (KCost p) m ((f, Sign false) ∷ ts) (more_signs true (KCost p) false m f false ts h))

after_sign : (p : Draft) (sum : Sum) (f minus : Bool) (s : State) (ts : Toks) → SignedRest p (later sum) minus s ts → LaterGoes (constants sum) (KSum p sum s) s.said ((f, Sign minus) ∷ ts)
after_sign p sums.Cost f minus s ts h = to_later true (KCost p) s.said f minus ts h
after_sign p sums.Lead f minus s ts h = to_later false (KRow p) s.said f minus ts h
after_sign p sums.Row f minus s ts h = to_later false (KRow p) s.said f minus ts h
after_sign p sums.Then f minus s ts h = to_later false (KThen p s.name s.on) s.said f minus ts h
after_sign p sums.Right f minus s ts h = to_later false (KRight p s.value s.sense) s.said f minus ts h

signed_sign : (p : Draft) (sum : Sum) (negative f minus : Bool) (s : State) (ts : Toks) → SignedRest p sum (turned negative minus) s ts → SignedRest p sum negative s ((f, Sign minus) ∷ ts)
signed_sign p sums.Cost negative f minus s ts h = more_signs true (KCost p) negative s.said f minus ts h
signed_sign p sums.Lead negative f minus s ts (signs, unsigned, sg, l) = (minus ∷ signs, unsigned, (ts, (f, refl), sg), l)
signed_sign p sums.Row negative f minus s ts h = more_signs false (KRow p) negative s.said f minus ts h
signed_sign p sums.Then negative f minus s ts h = more_signs false (KThen p s.name s.on) negative s.said f minus ts h
signed_sign p sums.Right negative f minus s ts h = more_signs false (KRight p s.value s.sense) negative s.said f minus ts h

weight_sign : (p : Draft) (negative f minus : Bool) (name : Name) (m : Said) (ts : Toks) → WeightGoes p (turned negative minus) name m ts → WeightGoes p negative name m ((f, Sign minus) ∷ ts)
weight_sign p negative f minus name m ts (signs, unsigned, d, mid, sg, is, g) = (minus ∷ signs, unsigned, d, mid, (ts, (f, refl), sg), is, g)

weight_first : (p : Draft) (f minus : Bool) (name : Name) (m : Said) (ts : Toks) → WeightGoes p minus name m ts → WeightGoes p false name m ((f, Sign minus) ∷ ts)
weight_first p f true name m ts h = weight_sign p false f true name m ts h
weight_first p f false name m ts h = weight_sign p false f false name m ts h

side_sign : (p : Draft) (side : Side) (minus : Bool) (s : State) (ts : Toks) → Next p ts (record s { place = places.Value side; negative = turned s.negative minus }) → ValueGoes (turned s.negative minus) (SideDone p side s) ts
side_sign p ends.Row minus s ts h = h
side_sign p ends.Then minus s ts h = h
side_sign p ends.Range minus s ts h = h
side_sign p ends.Bound minus s ts h = h

pub sign_back : (p : Draft) (place : Place) (f minus : Bool) (s : State) (ts : Toks) → Holds (sign_step place f minus s) (Next p ts) → Rest p place s ((f, Sign minus) ∷ ts)
sign_back p places.Objective f minus s ts h = (None, (f, Sign minus) ∷ ts, refl, cost_signed p s.said f minus ts h)
sign_back p places.ObjectiveName f minus s ts h = λ i. (
  None,
  (i, Named s.name) ∷ (f, Sign minus) ∷ ts,
  refl,
  cost_goes p s.said ((i, Named s.name) ∷ (f, Sign minus) ∷ ts) (name_sum true (KCost p) s.said i s.name ((f, Sign minus) ∷ ts) (to_later true (KCost p) (with_term s.name one s.said) f minus ts h)),
)
sign_back p places.CostOpen f minus s ts h = cost_signed p s.said f minus ts h
sign_back p (places.Signed sums.Cost) f minus s ts h = signed_sign p sums.Cost s.negative f minus s ts h
sign_back p (places.Signed sums.Lead) f minus s ts h = signed_sign p sums.Lead s.negative f minus s ts h
sign_back p (places.Signed sums.Row) f minus s ts h = signed_sign p sums.Row s.negative f minus s ts h
sign_back p (places.Signed sums.Then) f minus s ts h = signed_sign p sums.Then s.negative f minus s ts h
sign_back p (places.Signed sums.Right) f minus s ts h = signed_sign p sums.Right s.negative f minus s ts h
sign_back p (places.Numbered sums.Cost) f minus s ts h = sign_behind_back p s.number f minus s ts refl h
sign_back p (places.After sums.Cost) f minus s ts h = after_sign p sums.Cost f minus s ts h
sign_back p (places.After sums.Lead) f minus s ts h = after_sign p sums.Lead f minus s ts h
sign_back p (places.After sums.Row) f minus s ts h = after_sign p sums.Row f minus s ts h
sign_back p (places.After sums.Then) f minus s ts h = after_sign p sums.Then f minus s ts h
sign_back p (places.After sums.Right) f minus s ts h = after_sign p sums.Right f minus s ts h
sign_back p (places.Rows fresh) f minus s ts h =
    let b = test_back (fresh || f) (record s { place = places.Signed sums.Lead; negative = minus }) (Next p ts) h in
    body_goes p fresh s.said ((f, Sign minus) ∷ ts) b.0 (lead_signed p s.said f minus ts b.1)
sign_back p places.RowName f minus s ts h = inr (lead_sign p s.said s.name f minus ts h)
sign_back p places.Labelled f minus s ts h = lead_signed p s.said f minus ts h
sign_back p places.LeadName f minus s ts h = lead_sign p s.said s.name f minus ts h
sign_back p places.EqualSide f minus s ts h = λ i j. equal_body p s.said s.name i j ((f, Sign minus) ∷ ts)
    (value_behind (λ n after. Goes p (Rows false) (with_row (sides_of senses.Equal n) (with_term s.name one s.said)) after) f minus ts h)
sign_back p places.Bit f minus s ts h =
    let m : Said = with_row (sides_of senses.Equal s.number) (with_term s.name one s.said) in
    let b = test_back (false || f) (record s { place = places.Signed sums.Lead; negative = minus; said = m }) (Next p ts) h in
    λ e i j k. number_body p s.said s.name s.number i j k ((f, Sign minus) ∷ ts) (body_goes p false m ((f, Sign minus) ∷ ts) b.0 (lead_signed p m f minus ts b.1))
sign_back p (places.Value side) f minus s ts h = values_more (SideDone p side s) s.negative f minus ts (side_sign p side minus s ts h)
sign_back p (places.Bounds fresh) f minus s ts h =
    let b = test_back (fresh || f) (record s { place = places.BoundSigned; negative = minus }) (Next p ts) h in
    bound_goes p fresh s.said ((f, Sign minus) ∷ ts) b.0 (bound_side p s.said ((f, Sign minus) ∷ ts) (value_behind (BoundNumber p s.said) f minus ts b.1))
sign_back p places.BoundSigned f minus s ts h = values_more (BoundNumber p s.said) s.negative f minus ts h
sign_back p places.BoundMiddle f minus s ts h =
    let b = test_back (false || f) (record s { place = places.BoundSigned; negative = minus }) (Next p ts) h in
    inl (bound_goes p false s.said ((f, Sign minus) ∷ ts) b.0 (bound_side p s.said ((f, Sign minus) ∷ ts) (value_behind (BoundNumber p s.said) f minus ts b.1)))
sign_back p places.MemberColon f minus s ts h = inl (weight_first p f minus s.name s.said ts h)
sign_back p places.MemberSigned f minus s ts h = weight_sign p s.negative f minus s.name s.said ts h
sign_back p place f minus s ts h = absurd h

-- a relation
sum_relation : (p : Draft) (m : Said) (f : Bool) (sense : Sense) (ts : Toks) → ValueGoes false (λ n after. Goes p (Rows false) (with_row (sides_of sense n) m) after) ts → LaterGoes false (KRow p) m ((f, Relation sense) ∷ ts)
sum_relation p m f sense ts h = no_later false (KRow p) m ((f, Relation sense) ∷ ts) refl (sense, ts, (f, refl), value_of (λ n after. Goes p (Rows false) (with_row (sides_of sense n) m) after) ts h)

lead_name_relation : (p : Draft) (m : Said) (name : Name) (f : Bool) (sense : Sense) (ts : Toks) → ValueGoes false (λ n after. Goes p (Rows false) (with_row (sides_of sense n) (with_term name one m)) after) ts → LeadName p name m ((f, Relation sense) ∷ ts)
lead_name_relation p m name f sense ts h = λ i. row_body p m ((i, Named name) ∷ (f, Relation sense) ∷ ts) (name_sum false (KRow p) m i name ((f, Relation sense) ∷ ts) (sum_relation p (with_term name one m) f sense ts h))

lead_relation_back : (p : Draft) (f : Bool) (sense : Sense) (s : State) (ts : Toks) → Next p ts (lead_relation sense s) → LeadName p s.name s.said ((f, Relation sense) ∷ ts)
lead_relation_back p f senses.Equal s ts h = λ i. h i f
lead_relation_back p f senses.Less s ts h = lead_name_relation p s.said s.name f senses.Less ts h
lead_relation_back p f senses.Greater s ts h = lead_name_relation p s.said s.name f senses.Greater ts h

-- the second relation is the first one
ordered_same : (a b : Sense) → ordered a b ≡ true → (a ≡ b) × IsOrder a
ordered_same senses.Less senses.Less e = (refl, tt)
ordered_same senses.Greater senses.Greater e = (refl, tt)
ordered_same senses.Less senses.Greater e = cc
ordered_same senses.Less senses.Equal e = cc
ordered_same senses.Greater senses.Less e = cc
ordered_same senses.Greater senses.Equal e = cc
ordered_same senses.Equal b e = cc

range_back : (p : Draft) (left : Numeral) (m : Said) (f : Bool) (sense second : Sense) (ts : Toks) → (sense ≡ second) × IsOrder sense → ValueGoes false (RangeDone p left second m) ts → LaterGoes false (KRight p left sense) m ((f, Relation second) ∷ ts)
range_back p left m f sense second ts e h =
    no_later false (KRight p left sense) m ((f, Relation second) ∷ ts) refl
    (inr (ts, e.1, (f, ap (λ v. (f, Relation v) ∷ ts) (sym e.0)), value_of (RangeDone p left sense m) ts (subst (λ v. ValueGoes false (RangeDone p left v m) ts) (sym e.0) h)))

middle_back : (p : Draft) (name : Name) (m : Said) (f : Bool) (sense second : Sense) (ts : Toks) → (sense ≡ second) × IsOrder sense → ValueGoes false (BoundDone p name second m) ts → BoundMiddle p sense name m ((f, Relation second) ∷ ts)
middle_back p name m f sense second ts e h =
    inr (ts, e.1, (f, ap (λ v. (f, Relation v) ∷ ts) (sym e.0)), value_of (BoundDone p name sense m) ts (subst (λ v. ValueGoes false (BoundDone p name v m) ts) (sym e.0) h))

pub relation_back : (p : Draft) (place : Place) (f : Bool) (sense : Sense) (s : State) (ts : Toks) → Holds (relation_step place sense s) (Next p ts) → Rest p place s ((f, Relation sense) ∷ ts)
relation_back p (places.Numbered sums.Lead) f sense s ts h = inr (sense, ts, (f, refl), h)
relation_back p (places.After sums.Row) f sense s ts h = sum_relation p s.said f sense ts h
relation_back p (places.After sums.Then) f sense s ts h =
    no_later false (KThen p s.name s.on) s.said ((f, Relation sense) ∷ ts) refl (sense, ts, (f, refl), value_of (ThenDone p s.name s.on sense s.said) ts h)
relation_back p (places.After sums.Right) f sense s ts h =
    let b = so_back (ordered s.sense sense) (Some (record s { place = places.Value ends.Range; sense = sense; negative = false })) (Next p ts) h in
    range_back p s.value s.said f s.sense sense ts (ordered_same s.sense sense b.0) b.1
relation_back p places.RowName f sense s ts h = inr (lead_relation_back p f sense s ts h)
relation_back p places.LeadName f sense s ts h = lead_relation_back p f sense s ts h
relation_back p places.BoundName f sense s ts h = λ i.
    let r = value_of (BoundDone p s.name sense s.said) ts h in
    (Stated s.name sense r.0, r.1, ((f, Relation sense) ∷ ts, ts, (i, refl), (f, refl), r.2), r.3)
relation_back p places.BoundNumber f sense s ts h = (sense, ts, (f, refl), h)
relation_back p places.BoundMiddle f sense s ts h =
    let b = so_back (ordered s.sense sense) (Some (record s { place = places.Value ends.Bound; sense = sense; negative = false })) (Next p ts) h in
    middle_back p s.name s.said f s.sense sense ts (ordered_same s.sense sense b.0) b.1
relation_back p place f sense s ts h = absurd h

-- a colon
pub colon_back : (p : Draft) (place : Place) (f : Bool) (s : State) (ts : Toks) → Holds (colon_step place s) (Next p ts) → Rest p place s ((f, Colon) ∷ ts)
colon_back p places.ObjectiveName f s ts h = λ i. (Some s.name, ts, ((f, Colon) ∷ ts, (i, refl), (f, refl)), h)
colon_back p places.RowName f s ts h =
    let b = so_back (not (is_among s.said.row_names s.name)) (Some (at places.Labelled (saying (with_row_name (Some s.name) s.said) s))) (Next p ts) h in
    inl (ts, (f, refl), not_true (is_among s.said.row_names s.name) b.0, b.1)
colon_back p places.SetName f s ts h =
    let b = so_back (new_set s.name s) (Some (at places.SetLabelled (saying (with_set_name (Some s.name) s.said) s))) (Next p ts) h in
    inl (ts, (f, refl), not_true (is_among s.said.set_names s.name) b.0, b.1)
colon_back p places.MemberName f s ts h = inl (ts, (f, refl), h)
colon_back p place f s ts h = absurd h

set_word_back : (p : Draft) (o : Option SosKind) (f : Bool) (name : Name) (m : Said) (s : State) (ts : Toks) → set_kind_of name ≡ o → Holds (set_word o m s) (Next p ts) → KindWord p name m ((f, DoubleColon) ∷ ts)
set_word_back p None f name m s ts e h = absurd h
set_word_back p (Some kind) f name m s ts e h = (kind, e, (ts, (f, refl), h))

pub double_colon_back : (p : Draft) (place : Place) (f : Bool) (s : State) (ts : Toks) → Holds (double_colon_step place s) (Next p ts) → Rest p place s ((f, DoubleColon) ∷ ts)
double_colon_back p places.SetName f s ts h = inr (set_word_back p (set_kind_of s.name) f s.name s.said s ts refl h)
double_colon_back p places.MemberName f s ts h = inr (set_word_back p (set_kind_of s.name) f s.name s.said s ts refl h)
double_colon_back p places.SetWord f s ts h = (ts, (f, refl), h)
double_colon_back p place f s ts h = absurd h

-- an arrow
arrow_body : (p : Draft) (m : Said) (name : Name) (n : Numeral) (on : Bool) (ts : Toks) → n ≡ bit on → SumGoes false (KThen p name on) (declared name m) ts
    → (f i j k : Bool) → BodyGoes p m ((i, Named name) ∷ (j, Relation senses.Equal) ∷ (k, Number n) ∷ (f, Arrow) ∷ ts)
arrow_body p m name n on ts e (items, mid, is, (sense, b, rel, (value, after, v, g))) = λ f i j k. (
  Conditional name on items sense value,
  after,
  (
    (j, Relation senses.Equal) ∷ (k, Number n) ∷ (f, Arrow) ∷ ts,
    (k, Number n) ∷ (f, Arrow) ∷ ts,
    (f, Arrow) ∷ ts,
    ts,
    mid,
    b,
    (i, refl),
    (j, refl),
    (k, ap (λ v. (k, Number v) ∷ (f, Arrow) ∷ ts) e),
    (f, refl),
    is,
    rel,
    v,
  ),
  g,
)

pub arrow_back : (p : Draft) (place : Place) (f : Bool) (s : State) (ts : Toks) → Holds (arrow_step place s) (Next p ts) → Rest p place s ((f, Arrow) ∷ ts)
arrow_back p places.Bit f s ts h = λ e i j k. arrow_body p s.said s.name s.number s.on ts e (to_sum false (KThen p s.name s.on) (declared s.name s.said) ts h) f i j k
arrow_back p place f s ts h = absurd h

-- the word of a section
pub closed_at : (k : Option SosKind) (m : Said) → m.set_kind ≡ k → draft_of (set_closed k m) ≡ draft_of m
closed_at None m e = rw e refl
closed_at (Some kind) m e = rw e refl

end_goes : (p : Draft) (scope : Scope) (m : Said) (ts : Toks) → (ts ≡ []) × (draft_of (closed m) ≡ p) → Goes p scope m ((true, Heading sections.End) ∷ ts)
end_goes p scope m ts h = record { entries = []; spelled = ap (λ v. (true, Heading sections.End) ∷ v) h.0; new = tt; means = sym (closed_at m.set_kind m refl) ∙ h.1 }

turn_goes : (p : Draft) (scope : Scope) (section : Section) (s : State) (ts : Toks) → Holds (turned_to section (Some s)) (Next p ts) → Goes p scope s.said ((true, Heading section) ∷ ts)
turn_goes p scope sections.Rows s ts h = goes_entry p scope (Rows true) s.said ((true, Heading sections.Rows) ∷ ts) ts (Turn sections.Rows) (refl, refl) refl h
turn_goes p scope sections.Bounds s ts h = goes_entry p scope (Bounds true) s.said ((true, Heading sections.Bounds) ∷ ts) ts (Turn sections.Bounds) (refl, refl) refl h
turn_goes p scope sections.General s ts h = goes_entry p scope (Names sections.General) s.said ((true, Heading sections.General) ∷ ts) ts (Turn sections.General) (refl, refl) refl h
turn_goes p scope sections.Binary s ts h = goes_entry p scope (Names sections.Binary) s.said ((true, Heading sections.Binary) ∷ ts) ts (Turn sections.Binary) (refl, refl) refl h
turn_goes p scope sections.Semi s ts h = goes_entry p scope (Names sections.Semi) s.said ((true, Heading sections.Semi) ∷ ts) ts (Turn sections.Semi) (refl, refl) refl h
turn_goes p scope sections.Sets s ts h = goes_entry p scope (Sets false) s.said ((true, Heading sections.Sets) ∷ ts) ts (Turn sections.Sets) (refl, refl) refl h
turn_goes p scope sections.End s ts h = end_goes p scope s.said ts h
turn_goes p scope sections.Minimize s ts h = absurd h
turn_goes p scope sections.Maximize s ts h = absurd h
turn_goes p scope sections.Cuts s ts h = absurd h

no_turn : (p : Draft) (section : Section) (ts : Toks) → Holds (turned_to section None) (Next p ts) → ⊥
no_turn p section ts h = h

constant_turn : (p : Draft) (section : Section) (n : Numeral) (s : State) (ts : Toks) → s.number ≡ n → Holds (turned_to section (cost_ended (constant n s))) (Next p ts) → NumberedRest p sums.Cost s ((true, Heading section) ∷ ts)
constant_turn p section (Exact d) s ts e h =
    let m : Said = with_constant (signed s.negative d) s.said in
    (d, e, inr (refl, refl, no_later true (KCost p) m ((true, Heading section) ∷ ts) refl (turn_goes p Beginning section (saying (with_cost m) s) ts h)))
constant_turn p section (Huge negative) s ts e h = absurd h

-- a file, given what stands behind its first word
file_goes : (p : Draft) (section : Section) (ts : Toks) → IsDirection section → ObjectiveGoes p (nothing (is_maximal section)) ts → Says ((true, Heading section) ∷ ts) p
file_goes p section ts d (label, mid, l, (items, after, c, g)) = record {
  file = record { direction = section; label = label; cost = items; entries = g.entries };
  is_file = record { label = ts; cost = mid; entries = after; direction_is = d; word_is = refl; label_is = l; cost_is = c; entries_are = g.spelled };
  are_new = g.new;
  means = g.means;
}

direction_back : (p : Draft) (section : Section) (s : State) (ts : Toks) → Holds (directed section s) (Next p ts) → Says ((true, Heading section) ∷ ts) p
direction_back p sections.Minimize s ts h = file_goes p sections.Minimize ts tt h
direction_back p sections.Maximize s ts h = file_goes p sections.Maximize ts tt h
direction_back p sections.Rows s ts h = absurd h
direction_back p sections.Bounds s ts h = absurd h
direction_back p sections.General s ts h = absurd h
direction_back p sections.Binary s ts h = absurd h
direction_back p sections.Semi s ts h = absurd h
direction_back p sections.Sets s ts h = absurd h
direction_back p sections.End s ts h = absurd h
direction_back p sections.Cuts s ts h = absurd h

pub heading_back : (p : Draft) (place : Place) (section : Section) (s : State) (ts : Toks) → Holds (heading_step place section s) (Next p ts) → Rest p place s ((true, Heading section) ∷ ts)
heading_back p places.Start section s ts h = direction_back p section s ts h
heading_back p places.Objective section s ts h =
    (None, (true, Heading section) ∷ ts, refl, ([], (true, Heading section) ∷ ts, refl, turn_goes p Beginning section (saying (with_cost s.said) s) ts h))
heading_back p places.ObjectiveName section s ts h = λ i.
    let m : Said = with_term s.name one s.said in (
      None,
      (i, Named s.name) ∷ (true, Heading section) ∷ ts,
      refl,
      cost_goes p s.said ((i, Named s.name) ∷ (true, Heading section) ∷ ts) (name_sum true (KCost p) s.said i s.name ((true, Heading section) ∷ ts)
          (no_later true (KCost p) m ((true, Heading section) ∷ ts) refl (turn_goes p Beginning section (saying (with_cost m) s) ts h))),
    )
heading_back p places.CostOpen section s ts h = ([], (true, Heading section) ∷ ts, refl, turn_goes p Beginning section (saying (with_cost s.said) s) ts h)
heading_back p (places.Numbered sums.Cost) section s ts h = constant_turn p section s.number s ts refl h
heading_back p (places.After sums.Cost) section s ts h = no_later true (KCost p) s.said ((true, Heading section) ∷ ts) refl (turn_goes p Beginning section (saying (with_cost s.said) s) ts h)
heading_back p (places.After sums.Right) section s ts h =
    no_later false (KRight p s.value s.sense) s.said ((true, Heading section) ∷ ts) refl (inl (turn_goes p (Rows false) section (saying (with_row (sides_of (mirrored s.sense) s.value) s.said) s) ts h))
heading_back p (places.Rows fresh) section s ts h = turn_goes p (Rows fresh) section s ts h
heading_back p places.Bit section s ts h =
    let m : Said = with_row (sides_of senses.Equal s.number) (with_term s.name one s.said) in
    λ e i j k. number_body p s.said s.name s.number i j k ((true, Heading section) ∷ ts) (turn_goes p (Rows false) section (saying m s) ts h)
heading_back p (places.Bounds fresh) section s ts h = turn_goes p (Bounds fresh) section s ts h
heading_back p places.BoundMiddle section s ts h = inl (turn_goes p (Bounds false) section s ts h)
heading_back p (places.Names list) section s ts h = turn_goes p (Names list) section s ts h
heading_back p places.Sets section s ts h = turn_goes p (Sets false) section s ts h
heading_back p places.Members section s ts h = turn_goes p (Sets true) section s ts h
heading_back p place section s ts h = absurd h

-- any lexeme
pub kind_back : (p : Draft) (k : Kind) (f : Bool) (s : State) (ts : Toks) → Holds (kind_step k f s) (Next p ts) → Rest p s.place s ((f, k) ∷ ts)
kind_back p (Heading section) true s ts h = heading_back p s.place section s ts h
kind_back p (Heading section) false s ts h = absurd h
kind_back p (Named name) f s ts h = name_back p s.place f name s ts h
kind_back p (Number n) f s ts h = number_back p s.place f n s ts h
kind_back p (Sign minus) f s ts h = sign_back p s.place f minus s ts h
kind_back p (Relation sense) f s ts h = relation_back p s.place f sense s ts h
kind_back p Colon f s ts h = colon_back p s.place f s ts h
kind_back p DoubleColon f s ts h = double_colon_back p s.place f s ts h
kind_back p Arrow f s ts h = arrow_back p s.place f s ts h
kind_back p Other f s ts h = absurd h

done_back : (p : Draft) (place : Place) (s : State) → finished place s.said ≡ Some p → Rest p place s []
done_back p places.Done s e = (refl, cc)
done_back p place s e = cc

run_holds : (p : Draft) (ts : Toks) (o : Option State) → option_and_then (λ next. run next ts) o ≡ Some p → ((x : State) → run x ts ≡ Some p → Next p ts x) → Holds o (Next p ts)
run_holds p ts None e ih = cc
run_holds p ts (Some x) e ih = ih x e

-- what is read is what is left of a file of the grammar
pub run_back : (p : Draft) (ts : Toks) (s : State) → run s ts ≡ Some p → Rest p s.place s ts
unfolding run step
run_back p [] s e = done_back p s.place s e
run_back p (t ∷ ts) s e = kind_back p t.1 t.0 s ts (run_holds p ts (kind_step t.1 t.0 s) e (λ x h. run_back p ts x h))
