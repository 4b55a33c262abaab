-- A file has a list of tokens, which ends in some way.
use Rattle.std.proofs.Common.{◌≡◌, ◌≢◌, ◌↔◌, ◌⊎◌, inl, inr, ⊎_elim, ℕ, zero, suc, ◌+◌, ◌<◌, ◌≤◌, Bool, true, false, ◌||◌, not, List, [], ◌∷◌, length, take, drop, refl, ap, ◌∙◌, arith}
use Rattle.std.specs.Prelude.{count_by, Result, Ok, Err}
use Rattle.std.specs.List.{list_any}
use Rattle.std.specs.Str.{bytes_eq}
use Rattle.std.proofs.lemmas.Bool.{both_ways, or_cases, cases_eq, cases_lt, cases_Bool, cond_both}
use Rattle.std.proofs.lemmas.List.{length-take-le}
use Rattle.std.proofs.lemmas.Slice.Eq.{bytes_eq-Decides}
use Rattle.sp_decimal.specs.declared.numerals.Numeral.{Numeral}
use Rattle.sp_decimal.specs.declared.numerals.NumeralFault.{NumeralFault}
use Rattle.sp_decimal.specs.declared.numerals.NumeralFault.TheVariants as numeral_faults
use Rattle.sp_decimal.specs.Numerals.{numeral}
use Rattle.sp_decimal.specs.Readings.{IsReading}
use Rattle.sp_lp_tokens.specs.declared.token_types.Token.{Token}
use Rattle.sp_lp_tokens.specs.declared.token_types.TokenKind.TheVariants.{Name, Number, Symbol}
use Rattle.sp_lp_tokens.specs.declared.token_types.TokenKindFault.{TokenKindFault}
use Rattle.sp_lp_tokens.specs.declared.token_types.TokenKindFault.TheVariants.{BadByte, Wide, LongName}
use Rattle.sp_lp_tokens.specs.declared.pieces.Piece.{Piece}
use Rattle.sp_lp_tokens.specs.declared.symbols.Symbol as symbols
use Rattle.sp_lp_tokens.specs.Gaps.{is_feed, is_blank, is_backslash, gap_length, line_at}
use Rattle.sp_lp_tokens.specs.Longest.{IsLongest}
use Rattle.sp_lp_tokens.specs.InnerPieces.{IsPiece, IsFaultyPiece}
use Rattle.sp_lp_tokens.specs.Texts.{is_name, is_number, is_symbol, spelling, symbols as all_symbols, is_token_text}
use Rattle.sp_lp_tokens.specs.Tokens.{IsNextToken, Ending, Complete, Faulty, TokensFrom, ends_list}
use Rattle.sp_lp_tokens.proofs.GapLemmas.{gap_length-drop_all}
use Rattle.sp_lp_tokens.proofs.NextLemmas.{IsGapAt, token_is_next, fault_is_next}
use Rattle.sp_lp_tokens.proofs.NumberLemmas.{number_is_numeral}
use Rattle.sp_lp_tokens.proofs.TokenLemmas.{next_lies_behind, complete_at, fault_at, token_first}

-- a longest front, sought from the longest on
longest_from : (test : List ℕ → Bool) (bytes : List ℕ) (m : ℕ) → m ≤ length bytes → ((k : ℕ) → m < k → k ≤ length bytes → test (take k bytes) ≡ false) → (n : ℕ) × IsLongest test bytes n
longest_from test bytes zero w none = (0, record { within = w; passes = λ l. absurd (omega (arith, l)); longest = none })
longest_from test bytes (suc m) w none =
    ⊎_elim
    (λ yes. (suc m, record { within = w; passes = λ l. yes; longest = none }))
    (λ no. longest_from test bytes m (omega (arith, w)) (λ k l v. ⊎_elim (λ e. ap (λ j. test (take j bytes)) e ∙ no) (λ ne. none k (omega (arith, l, ne)) v) (cases_eq k (suc m))))
    (cases_Bool (test (take (suc m) bytes)))

some_longest : (test : List ℕ → Bool) (bytes : List ℕ) → (n : ℕ) × IsLongest test bytes n
some_longest test bytes = longest_from test bytes (length bytes) (omega arith) (λ k l w. absurd (omega (arith, l, w)))

some_element : (text : List ℕ) (all : List symbols.Symbol) → list_any (λ s. bytes_eq text (spelling s)) all ≡ true → (s : symbols.Symbol) × (text ≡ spelling s)
some_element text [] h = absurd (both_ways _ refl h)
some_element text (s ∷ more) h =
    ⊎_elim (λ here. (s, (bytes_eq-Decides text (spelling s)).0 here)) (λ later. some_element text more later) (or_cases (bytes_eq text (spelling s)) (list_any (λ t. bytes_eq text (spelling t)) more) h)

-- what a text that begins some bytes is
abbrev Begins : List ℕ → Type 0
Begins bytes = ((piece : Piece) × IsPiece bytes piece) ⊎ ((fault : TokenKindFault) × IsFaultyPiece bytes fault)

-- what is said of each answer of the numerals' reader
abbrev Says : Type 0
Says = (text : List ℕ) (answer : Result Numeral NumeralFault) → (numeral text ≡ answer) ↔ IsReading text answer

name_begins_so : (bytes : List ℕ) (n : ℕ) → 0 < n → IsLongest is_token_text bytes n → is_name (take n bytes) ≡ true → Begins bytes
name_begins_so bytes n some h name = ⊎_elim
    (λ long. inr (LongName, record { size = n; longest = h; fault_is = (name, omega (arith, long, length-take-le n bytes h.within)) }))
    (λ short. inl (record { kind = Name; length = n }, record { some = some; longest = h; kind_is = (name, omega (arith, short, length-take-le n bytes h.within)) }))
    (cases_lt 255 n)

number_begins_so : Says → (bytes : List ℕ) (n : ℕ) → 0 < n → IsLongest is_token_text bytes n → is_number (take n bytes) ≡ true → Begins bytes
number_begins_so says bytes n some h number = by (numeral (take n bytes)) refl
  where
    by : (answer : Result Numeral NumeralFault) → numeral (take n bytes) ≡ answer → Begins bytes
    by (Ok m) e = inl (record { kind = Number m; length = n }, record { some = some; longest = h; kind_is = (number, e) })
    by (Err numeral_faults.Wide) e = inr (Wide, record { size = n; longest = h; fault_is = (number, e) })
    by (Err numeral_faults.NotNumeral) e = absurd (number_is_numeral (take n bytes) number (says (take n bytes)) e)

symbol_begins_so : (bytes : List ℕ) (n : ℕ) → 0 < n → IsLongest is_token_text bytes n → is_symbol (take n bytes) ≡ true → Begins bytes
symbol_begins_so bytes n some h symbol =
    let found = some_element (take n bytes) all_symbols symbol in
    inl (record { kind = Symbol found.0; length = n }, record { some = some; longest = h; kind_is = found.1 })

begins_so : Says → (bytes : List ℕ) (n : ℕ) → IsLongest is_token_text bytes n → Begins bytes
begins_so says bytes zero h = inr (BadByte, record { size = 0; longest = h; fault_is = refl })
begins_so says bytes (suc m) h =
    let some : 0 < suc m = omega arith in
    let text : List ℕ = take (suc m) bytes in
    ⊎_elim
    (λ early. ⊎_elim (λ name. name_begins_so bytes (suc m) some h name) (λ number. number_begins_so says bytes (suc m) some h number) (or_cases (is_name (take (suc m) bytes)) (is_number (take (suc m) bytes)) early))
    (λ symbol. symbol_begins_so bytes (suc m) some h symbol)
    (or_cases (is_name (take (suc m) bytes) || is_number (take (suc m) bytes)) (is_symbol (take (suc m) bytes)) (h.passes some))

pub gap_length-le-length : (comment : Bool) (bytes : List ℕ) → gap_length comment bytes ≤ length bytes
unfolding gap_length
gap_length-le-length true [] = omega arith
gap_length-le-length false [] = omega arith
gap_length-le-length true (b ∷ bs) = omega (arith, gap_length-le-length (not (is_feed b)) bs)
gap_length-le-length false (b ∷ bs) =
    cond_both (is_blank b || is_feed b) _ _ (λ n. n ≤ length (b ∷ bs))
    (λ e. omega (arith, gap_length-le-length false bs))
    (λ e. cond_both (is_backslash b) _ _ (λ n. n ≤ length (b ∷ bs)) (λ f. omega (arith, gap_length-le-length true bs)) (λ f. omega arith))

gap_at : (source : List ℕ) (place : ℕ) → place ≤ length source → IsGapAt source place (line_at source place) (gap_length false (drop place source)) (count_by is_feed (take (gap_length false (drop place source)) (drop place source)))
gap_at source place w = record { within = w; line_is = refl; gap_is = refl; feeds_are = refl; fits = gap_length-le-length false (drop place source) }

-- a list of tokens with its ending
abbrev pub SomeTokens : List ℕ → ℕ → ℕ → Type 0
SomeTokens source place line_before = (ts : List Token) × (ending : Ending) × TokensFrom source place line_before ts ending

-- a token, and what is left behind it
with_token : (source : List ℕ) (place line_before : ℕ) (t : Token) → IsNextToken source place t → SomeTokens source t.end t.line → SomeTokens source place line_before
with_token source place line_before t h rest = ⊎_elim
    (λ last. (t ∷ [], Complete, token_first source place line_before t [] Complete h (rw last (refl, refl))))
    (λ more. (t ∷ rest.0, rest.1, token_first source place line_before t rest.0 rest.1 h (rw more rest.2)))
    (cases_Bool (ends_list source line_before t))

-- so many bytes are left at most
pub tokens_from : Says → (source : List ℕ) (left place line_before : ℕ) → place ≤ length source → length source ≤ place + left → SomeTokens source place line_before
tokens_from says source zero place line_before w enough =
    ([], Complete, complete_at source place line_before (omega (arith, w, enough, gap_length-drop_all false source place (omega (arith, enough)))))
tokens_from says source (suc left) place line_before w enough =
    ⊎_elim (λ done. ([], Complete, complete_at source place line_before done)) (λ more. by more (begins_so says (drop (place + gap) source) (some_longest is_token_text (drop (place + gap) source)).0 (some_longest is_token_text (drop (place + gap) source)).1) (λ t h. let l = next_lies_behind source place t h in tokens_from says source left t.end t.line l.within (omega (arith, l.behind, l.some, enough))))
    (cases_eq (place + gap) (length source))
  where
    gap : ℕ
    gap = gap_length false (drop place source)

    feeds : ℕ
    feeds = count_by is_feed (take gap (drop place source))

    by : (place + gap) ≢ length source → Begins (drop (place + gap) source) → ((t : Token) → IsNextToken source place t → SomeTokens source t.end t.line) → SomeTokens source place line_before
    by more (inl piece) behind =
        let h = token_is_next source place (line_at source place) gap feeds piece.0 (gap_at source place w) more piece.1 in
        with_token source place line_before _ h (behind _ h)
    by more (inr fault) behind =
        ([], Faulty (line_at source place + feeds) fault.0, fault_at source place line_before (line_at source place + feeds) fault.0 (fault_is_next source place (line_at source place) gap feeds fault.0 (gap_at source place w) more fault.1))
