-- A file has one list of tokens, and its list ends in one way.
use Rattle.std.proofs.Common.{◌≡◌, ℕ, ◌+◌, ◌-◌, ◌<◌, Bool, true, false, List, [], ◌∷◌, length, drop, refl, ap, sym, ◌∙◌, subst, arith}
use Rattle.std.specs.Prelude.{Ok, Err, Option, None, Some}
use Rattle.std.proofs.lemmas.Bool.{both_ways}
use Rattle.sp_decimal.specs.declared.numerals.NumeralFault.TheVariants as numeral_faults
use Rattle.sp_lp_tokens.specs.declared.token_types.Token.{Token}
use Rattle.sp_lp_tokens.specs.declared.token_types.TokenKind.{TokenKind}
use Rattle.sp_lp_tokens.specs.declared.token_types.TokenKind.TheVariants.{Name, Number, Symbol}
use Rattle.sp_lp_tokens.specs.declared.token_types.TokenKindFault.{TokenKindFault}
use Rattle.sp_lp_tokens.specs.declared.token_types.TokenKindFault.TheVariants.{BadByte, Wide, LongName}
use Rattle.sp_lp_tokens.specs.declared.token_types.TokenRefusal.TheVariants as refusals
use Rattle.sp_lp_tokens.specs.declared.symbols.Symbol as symbols
use Rattle.sp_lp_tokens.specs.declared.symbols.Symbol.TheVariants.{Plus}
use Rattle.sp_lp_tokens.specs.Gaps.{gap_length, line_at}
use Rattle.sp_lp_tokens.specs.InnerSymbolHeads.{symbol_from}
use Rattle.sp_lp_tokens.specs.Texts.{is_name, is_number, is_symbol, spelling, is_token_text}
use Rattle.sp_lp_tokens.specs.Tokens.{text_between, IsKind, IsFaultKind, IsNextText, IsNextToken, IsNextFault, text_of, Ending, Complete, Faulty, Onward, TokensFrom, ends_list}
use Rattle.sp_lp_tokens.specs.InnerNexts.{IsListOf, IsRefusalOf}
use Rattle.sp_lp_tokens.proofs.KindsApartLemmas.{name_is_no_number, name_is_no_symbol, number_is_no_symbol}
use Rattle.sp_lp_tokens.proofs.LongestLemmas.{longest_is_one}
use Rattle.sp_lp_tokens.proofs.TokenLemmas.{kind_has_text, no_number_in_nothing}

-- the symbol that a text is read as
read_symbol : List ℕ → Option symbols.Symbol
read_symbol [] = None
read_symbol (b ∷ bs) = symbol_from b bs

read_spelling : (s : symbols.Symbol) → read_symbol (spelling s) ≡ Some s
unfolding symbol_from read_symbol
read_spelling Plus = refl
read_spelling s = refl

spelling_is_symbol : (s : symbols.Symbol) → is_symbol (spelling s) ≡ true
spelling_is_symbol Plus = refl
spelling_is_symbol s = refl

symbol_text : (text : List ℕ) (s : symbols.Symbol) → text ≡ spelling s → is_symbol text ≡ true
symbol_text text s e = ap is_symbol e ∙ spelling_is_symbol s

same_symbol : (s t : symbols.Symbol) → spelling s ≡ spelling t → s ≡ t
same_symbol s t e = let both : Some s ≡ Some t = sym (read_spelling s) ∙ (ap read_symbol e ∙ read_spelling t) in cc

kind_is_one : (text : List ℕ) (a b : TokenKind) → IsKind text a → IsKind text b → a ≡ b
kind_is_one text Name Name g h = refl
kind_is_one text Name (Number n) g h = absurd (both_ways _ (name_is_no_number text g.0) h.0)
kind_is_one text Name (Symbol s) g h = absurd (both_ways _ (name_is_no_symbol text g.0) (symbol_text text s h))
kind_is_one text (Number n) Name g h = absurd (both_ways _ (name_is_no_number text h.0) g.0)
kind_is_one text (Number n) (Number m) g h = let both : Ok n ≡ Ok m = sym g.1 ∙ h.1 in cc
kind_is_one text (Number n) (Symbol s) g h = absurd (both_ways _ (number_is_no_symbol text g.0) (symbol_text text s h))
kind_is_one text (Symbol s) Name g h = absurd (both_ways _ (name_is_no_symbol text h.0) (symbol_text text s g))
kind_is_one text (Symbol s) (Number n) g h = absurd (both_ways _ (number_is_no_symbol text h.0) (symbol_text text s g))
kind_is_one text (Symbol s) (Symbol t) g h = ap Symbol (same_symbol s t (sym g ∙ h))

no_token_is_faulty : (text : List ℕ) (a : TokenKind) (f : TokenKindFault) → IsKind text a → IsFaultKind text f → ⊥
no_token_is_faulty text a BadByte g h = let some : 0 < length text = kind_has_text text a g in let none : length text ≡ 0 = ap length h in omega (arith, some, none)
no_token_is_faulty text Name Wide g h = both_ways _ (name_is_no_number text g.0) h.0
no_token_is_faulty text (Number n) Wide g h = let both : Ok n ≡ Err numeral_faults.Wide = sym g.1 ∙ h.1 in cc
no_token_is_faulty text (Symbol s) Wide g h = both_ways _ (number_is_no_symbol text h.0) (symbol_text text s g)
no_token_is_faulty text Name LongName g h = omega (arith, g.1, h.1)
no_token_is_faulty text (Number n) LongName g h = both_ways _ (name_is_no_number text h.0) g.0
no_token_is_faulty text (Symbol s) LongName g h = both_ways _ (name_is_no_symbol text h.0) (symbol_text text s g)

faulty_has_text : (text : List ℕ) → length text ≡ 0 → is_name text ≡ true → ⊥
faulty_has_text [] e h = both_ways false refl h
faulty_has_text (b ∷ bs) e h = omega (arith, e)

fault_is_one : (text : List ℕ) (f g : TokenKindFault) → IsFaultKind text f → IsFaultKind text g → f ≡ g
fault_is_one text BadByte BadByte a b = refl
fault_is_one text BadByte Wide a b = absurd (both_ways _ (ap is_number a ∙ no_number_in_nothing) b.0)
fault_is_one text BadByte LongName a b = absurd (faulty_has_text text (ap length a) b.0)
fault_is_one text Wide BadByte a b = absurd (both_ways _ (ap is_number b ∙ no_number_in_nothing) a.0)
fault_is_one text Wide Wide a b = refl
fault_is_one text Wide LongName a b = absurd (both_ways _ (name_is_no_number text b.0) a.0)
fault_is_one text LongName BadByte a b = absurd (faulty_has_text text (ap length b) a.0)
fault_is_one text LongName Wide a b = absurd (both_ways _ (name_is_no_number text a.0) b.0)
fault_is_one text LongName LongName a b = refl

-- what comes next lies in one place
pub record SamePlace (s e t f : ℕ) : Type 0 where
  pub starts : s ≡ t
  pub ends : e ≡ f

next_text_is_one : (source : List ℕ) (place s e t f : ℕ) → IsNextText source place s e → IsNextText source place t f → SamePlace s e t f
next_text_is_one source place s e t f g h =
    let starts : s ≡ t = g.behind_gap ∙ sym h.behind_gap in
    let there = subst (λ (k : ℕ). IsNextText source place k f) (sym starts) h in
    let sizes : e - s ≡ f - s = longest_is_one is_token_text (drop s source) (e - s) (f - s) g.longest there.longest in
    record { starts = starts; ends = omega (arith, g.ordered, there.ordered, sizes) }

same_text : (source : List ℕ) (s e t f : ℕ) → SamePlace s e t f → text_between source t f ≡ text_between source s e
same_text source s e t f p = ap (λ k. text_between source k f) (sym p.starts) ∙ ap (text_between source s) (sym p.ends)

make : TokenKind → ℕ → ℕ → ℕ → Token
make kind start end line = record { kind = kind; start = start; end = end; line = line }

token_is_one : (source : List ℕ) (place : ℕ) (t u : Token) → IsNextToken source place t → IsNextToken source place u → t ≡ u
unfolding make
token_is_one source place t u g h =
    let p : SamePlace t.start t.end u.start u.end = next_text_is_one source place t.start t.end u.start u.end g.next h.next in
    let there : IsKind (text_of source t) u.kind = subst (λ (text : List ℕ). IsKind text u.kind) (same_text source t.start t.end u.start u.end p) h.kind in
    let kinds : t.kind ≡ u.kind = kind_is_one (text_of source t) t.kind u.kind g.kind there in
    let lines : t.line ≡ u.line = g.line ∙ (ap (line_at source) p.starts ∙ sym h.line) in
    ap (λ k. make k t.start t.end t.line) kinds ∙ (ap (λ s. make u.kind s t.end t.line) p.starts ∙ (ap (λ e. make u.kind u.start e t.line) p.ends ∙ ap (λ l. make u.kind u.start u.end l) lines))

token_or_fault : (source : List ℕ) (place line : ℕ) (t : Token) (f : TokenKindFault) → IsNextToken source place t → IsNextFault source place line f → ⊥
token_or_fault source place line t f g h =
    let p : SamePlace t.start t.end h.start h.end = next_text_is_one source place t.start t.end h.start h.end g.next h.next in
    no_token_is_faulty (text_of source t) t.kind f g.kind (subst (λ (text : List ℕ). IsFaultKind text f) (same_text source t.start t.end h.start h.end p) h.kind_is)

next_fault_is_one : (source : List ℕ) (place l m : ℕ) (f k : TokenKindFault) → IsNextFault source place l f → IsNextFault source place m k → Faulty l f ≡ Faulty m k
next_fault_is_one source place l m f k g h =
    let p : SamePlace g.start g.end h.start h.end = next_text_is_one source place g.start g.end h.start h.end g.next h.next in
    let kinds : f ≡ k = fault_is_one (text_between source g.start g.end) f k g.kind_is (subst (λ (text : List ℕ). IsFaultKind text k) (same_text source g.start g.end h.start h.end p) h.kind_is) in
    let lines : l ≡ m = g.line_is ∙ (ap (line_at source) p.starts ∙ sym h.line_is) in
    ap (λ n. Faulty n f) lines ∙ ap (Faulty m) kinds

nothing_left : (source : List ℕ) (place start end : ℕ) → place + gap_length false (drop place source) ≡ length source → IsNextText source place start end → ⊥
nothing_left source place start end e h = omega (arith, e, h.behind_gap, h.some_left)

-- two lists with their endings are the same
pub record SameList (ts us : List Token) (a b : Ending) : Type 0 where
  pub tokens : ts ≡ us
  pub endings : a ≡ b

first_same : (t u : Token) (ts us : List Token) (a b : Ending) → t ≡ u → SameList ts us a b → SameList (t ∷ ts) (u ∷ us) a b
first_same t u ts us a b e s = record { tokens = ap (λ x. x ∷ ts) e ∙ ap (λ xs. u ∷ xs) s.tokens; endings = s.endings }

onward_same : (last : Bool) (ts us : List Token) (a b : Ending) (P Q : Type 0) → Onward last ts a P → Onward last us b Q → (P → Q → SameList ts us a b) → SameList ts us a b
onward_same true ts us a b P Q g h both = record { tokens = g.0 ∙ sym h.0; endings = g.1 ∙ sym h.1 }
onward_same false ts us a b P Q g h both = both g h

pub one_list : (source : List ℕ) (ts us : List Token) (place line_before : ℕ) (a b : Ending) → TokensFrom source place line_before ts a → TokensFrom source place line_before us b → SameList ts us a b
unfolding TokensFrom
one_list source [] [] place line_before Complete Complete g h = record { tokens = refl; endings = refl }
one_list source [] [] place line_before Complete (Faulty m k) g h = absurd (nothing_left source place h.start h.end g h.next)
one_list source [] [] place line_before (Faulty l f) Complete g h = absurd (nothing_left source place g.start g.end h g.next)
one_list source [] [] place line_before (Faulty l f) (Faulty m k) g h = record { tokens = refl; endings = next_fault_is_one source place l m f k g h }
one_list source [] (u ∷ us) place line_before Complete b g h = absurd (nothing_left source place u.start u.end g h.0.next)
one_list source [] (u ∷ us) place line_before (Faulty l f) b g h = absurd (token_or_fault source place l u f h.0 g)
one_list source (t ∷ ts) [] place line_before a Complete g h = absurd (nothing_left source place t.start t.end h g.0.next)
one_list source (t ∷ ts) [] place line_before a (Faulty m k) g h = absurd (token_or_fault source place m t k g.0 h)
one_list source (t ∷ ts) (u ∷ us) place line_before a b g h =
    let same : t ≡ u = token_is_one source place t u g.0 h.0 in
    let there = subst (λ (x : Token). Onward (ends_list source line_before x) us b (TokensFrom source x.end x.line us b)) (sym same) h.1 in
    first_same t u ts us a b same (onward_same (ends_list source line_before t) ts us a b _ _ g.1 there (λ p q. one_list source ts us t.end t.line a b p q))

-- what a whole list, or a fault, says of every other answer
pub only_list : (source : List ℕ) (found : List Token) → TokensFrom source 0 0 found Complete → (ts : List Token) (ending : Ending) → TokensFrom source 0 0 ts ending → IsListOf ts ending found
only_list source found h ts ending g = by ending (one_list source ts found 0 0 ending Complete g h)
  where
    by : (ending : Ending) → SameList ts found ending Complete → IsListOf ts ending found
    by Complete s = sym s.tokens
    by (Faulty l k) s = let clash : Faulty l k ≡ Complete = s.endings in cc

pub only_fault : (source : List ℕ) (found : List Token) (line : ℕ) (kind : TokenKindFault) → TokensFrom source 0 0 found (Faulty line kind) → (ts : List Token) (ending : Ending) → TokensFrom source 0 0 ts ending →
    IsRefusalOf ending (refusals.Fault line kind)
only_fault source found line kind h ts ending g = by ending (one_list source ts found 0 0 ending (Faulty line kind) g h)
  where
    by : (ending : Ending) → SameList ts found ending (Faulty line kind) → IsRefusalOf ending (refusals.Fault line kind)
    by Complete s = let clash : Complete ≡ Faulty line kind = s.endings in cc
    by (Faulty l k) s = let same : Faulty l k ≡ Faulty line kind = s.endings in (cc, cc)
