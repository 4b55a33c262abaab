-- What the next token of a file leaves behind it.
use Rattle.std.proofs.Common.{◌≡◌, ℕ, ◌+◌, ◌-◌, ◌<◌, ◌≤◌, Bool, true, false, List, [], ◌∷◌, length, drop, refl, ap, sym, ◌∙◌, subst, arith, length-drop}
use Rattle.std.specs.Prelude.{count_by}
use Rattle.std.specs.List.{All}
use Rattle.std.proofs.lemmas.Bool.{both_ways}
use Rattle.std.proofs.lemmas.List.Elements.{All-nil, All-cons}
use Rattle.std.proofs.lemmas.List.{length-take-le}
use Rattle.sp_lp_tokens.specs.declared.token_types.Token.{Token}
use Rattle.sp_lp_tokens.specs.declared.token_types.TokenKind.{TokenKind}
use Rattle.sp_lp_tokens.specs.declared.token_types.TokenKindFault.{TokenKindFault}
use Rattle.sp_lp_tokens.specs.declared.token_types.TokenKind.TheVariants.{Name, Number, Symbol}
use Rattle.sp_lp_tokens.specs.declared.symbols.Symbol.TheVariants as symbols
use Rattle.sp_lp_tokens.specs.declared.numeral_places.Place.TheVariants.{Start}
use Rattle.sp_lp_tokens.specs.Gaps.{is_feed, gap_length, line_at}
use Rattle.sp_lp_tokens.specs.Texts.{is_name, is_number}
use Rattle.sp_lp_tokens.specs.Tokens.{IsKind, IsNextToken, IsNextFault, text_of, Ending, Complete, Faulty, Onward, TokensFrom, ends_list, AreInOrder, IsSpan}
use Rattle.sp_lp_tokens.proofs.NumeralLeftLemmas.{left-nil}
use Rattle.sp_lp_tokens.proofs.FeedLemmas.{no_feed_in_name, no_feed_in_number, no_feed_in_symbol}
use Rattle.sp_lp_tokens.proofs.LineLemmas.{line_at-add}

no_name_in_nothing : is_name [] ≡ false
no_name_in_nothing = refl

pub no_number_in_nothing : is_number [] ≡ false
no_number_in_nothing = left-nil Start

-- a token's text has a byte
pub kind_has_text : (text : List ℕ) (kind : TokenKind) → IsKind text kind → 0 < length text
kind_has_text [] Name h = absurd (both_ways _ no_name_in_nothing h.0)
kind_has_text [] (Number n) h = absurd (both_ways _ no_number_in_nothing h.0)
kind_has_text [] (Symbol symbols.Plus) h = cc
kind_has_text [] (Symbol s) h = cc
kind_has_text (b ∷ bs) kind h = omega arith

no_feed_in_kind : (text : List ℕ) (kind : TokenKind) → IsKind text kind → count_by is_feed text ≡ 0
no_feed_in_kind text Name h = no_feed_in_name text h.0
no_feed_in_kind text (Number n) h = no_feed_in_number text h.0
no_feed_in_kind text (Symbol s) h = ap (count_by is_feed) h ∙ no_feed_in_symbol s

-- where the next token lies
pub record LiesBehind (source : List ℕ) (place : ℕ) (t : Token) : Type 0 where
  pub behind : place ≤ t.start
  pub some : t.start < t.end
  pub within : t.end ≤ length source

pub next_lies_behind : (source : List ℕ) (place : ℕ) (t : Token) → IsNextToken source place t → LiesBehind source place t
next_lies_behind source place t h =
    let some : 0 < length (text_of source t) = kind_has_text (text_of source t) t.kind h.kind in
    let long : length (text_of source t) ≡ t.end - t.start = length-take-le (t.end - t.start) (drop t.start source) h.next.longest.within in
    record {
      behind = omega (arith, h.next.behind_gap);
      some = omega (arith, some, long);
      within = omega (arith, h.next.longest.within, h.next.some_left, length-drop t.start source);
    }

-- the place behind a token stands in the token's line
pub line_at-end : (source : List ℕ) (place : ℕ) (t : Token) → IsNextToken source place t → t.line ≡ line_at source t.end
line_at-end source place t h =
    let l = next_lies_behind source place t h in
    let to_end : line_at source (t.start + (t.end - t.start)) ≡ line_at source t.start + count_by is_feed (text_of source t) = line_at-add source t.start (t.end - t.start) in
    let same : t.start + (t.end - t.start) ≡ t.end = omega (arith, l.some) in
    let none : count_by is_feed (text_of source t) ≡ 0 = no_feed_in_kind (text_of source t) t.kind h.kind in
    let here : line_at source t.end ≡ line_at source t.start + count_by is_feed (text_of source t) = ap (line_at source) (sym same) ∙ to_end in
    omega (arith, here, none, h.line)

-- a list of tokens from a place on, by what comes next there
pub complete_at : (source : List ℕ) (place line_before : ℕ) → place + gap_length false (drop place source) ≡ length source → TokensFrom source place line_before [] Complete
unfolding TokensFrom
complete_at source place line_before h = h

pub fault_at : (source : List ℕ) (place line_before line : ℕ) (kind : TokenKindFault) → IsNextFault source place line kind → TokensFrom source place line_before [] (Faulty line kind)
unfolding TokensFrom
fault_at source place line_before line kind h = h

pub token_first : (source : List ℕ) (place line_before : ℕ) (t : Token) (ts : List Token) (ending : Ending) → IsNextToken source place t → Onward (ends_list source line_before t) ts ending (TokensFrom source t.end t.line ts ending) →
    TokensFrom source place line_before (t ∷ ts) ending
unfolding TokensFrom
token_first source place line_before t ts ending h behind = (h, behind)

-- the tokens of a list stand in order, within the file
pub tokens_in_order : (source : List ℕ) (ts : List Token) (place line_before : ℕ) (ending : Ending) → place ≤ length source → TokensFrom source place line_before ts ending → AreInOrder place ts (length source)
unfolding TokensFrom
tokens_in_order source [] place line_before Complete within h = within
tokens_in_order source [] place line_before (Faulty l k) within h = within
tokens_in_order source (t ∷ ts) place line_before ending within h =
    let l : LiesBehind source place t = next_lies_behind source place t h.0 in
    (l.behind, l.some, by (ends_list source line_before t) h.1 (λ r. tokens_in_order source ts t.end t.line ending l.within r) l.within)
  where
    by : (last : Bool) → Onward last ts ending (TokensFrom source t.end t.line ts ending) → (TokensFrom source t.end t.line ts ending → AreInOrder t.end ts (length source)) → t.end ≤ length source → AreInOrder t.end ts (length source)
    by true o ih w = subst (λ (us : List Token). AreInOrder t.end us (length source)) (sym o.0) w
    by false o ih w = ih o

-- what lies in order ends where it may
ordered_within : (from : ℕ) (ts : List Token) (to : ℕ) → AreInOrder from ts to → from ≤ to
ordered_within from [] to h = h
ordered_within from (t ∷ ts) to h = omega (arith, h.0, h.1, ordered_within t.end ts to h.2)

-- tokens in order each have their text in the source
pub ordered_are_spans : (source : List ℕ) (from : ℕ) (ts : List Token) → AreInOrder from ts (length source) → All (IsSpan source) ts
ordered_are_spans source from [] h = All-nil (IsSpan source)
ordered_are_spans source from (t ∷ ts) h =
    All-cons (IsSpan source) t ts (record { rising = h.1; within = ordered_within t.end ts (length source) h.2 }) (ordered_are_spans source t.end ts h.2)

-- tokens with a byte each are at most as many as the bytes that they lie in
ordered_are_few : (from : ℕ) (ts : List Token) (to : ℕ) → AreInOrder from ts to → from + length ts ≤ to
ordered_are_few from [] to h = omega (arith, h)
ordered_are_few from (t ∷ ts) to h =
    let rest : t.end + length ts ≤ to = ordered_are_few t.end ts to h.2 in
    omega (arith, h.0, h.1, rest)

pub tokens_are_few : (ts : List Token) (to : ℕ) → AreInOrder 0 ts to → length ts ≤ to
tokens_are_few ts to h =
    let few : 0 + length ts ≤ to = ordered_are_few 0 ts to h in
    omega (arith, few)
