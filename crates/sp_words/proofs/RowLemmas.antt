-- The code that a word stands for among some rows.
use Rattle.std.proofs.Common.{◌≡◌, ℕ, zero, suc, ◌<◌, Bool, true, false, cond, List, [], ◌∷◌, length, get_or, Option, Some, None, is_some, ◌↔◌, refl, sym, ap, ◌∙◌, inl, inr, arith, ◌||◌}
use Rattle.std.specs.List.{All, AllPairs, list_any}
use Rattle.std.proofs.lemmas.Bool.{true≢false, cases_Bool, cond-true, cond-false}
use Rattle.std.proofs.lemmas.List.Elements.{All-nil, All-cons, All-tail}
use Rattle.std.proofs.lemmas.List.{length-map, get_or-map}
use Rattle.sp_words.specs.Spellings.{same_word}
use Rattle.sp_words.specs.Rows.{Row, words_of, code_of, IsCodeFor}
use Rattle.sp_words.proofs.WordLemmas.{same_word_parts}

abbrev pub Other : List ℕ → Row → Type 0
Other word row = same_word word row.0 ≡ false

abbrev pub Apart : List ℕ → List ℕ → Type 0
Apart a b = same_word a b ≡ false

pub is_some_code_of : (word : List ℕ) (rows : List Row) → is_some (code_of word rows) ≡ list_any (same_word word) (words_of rows)
is_some_code_of word [] = refl
is_some_code_of word (row ∷ rows) =
    elim (same_word word row.0) as (λ b. is_some (cond b (Some row.1) (code_of word rows)) ≡ (b || list_any (same_word word) (words_of rows)))
    [ true ↦ refl | false ↦ is_some_code_of word rows ]

none_parts : (b : Bool) (code : ℕ) (later : Option ℕ) → is_some (cond b (Some code) later) ≡ false → (b ≡ false) × (is_some later ≡ false)
none_parts true code later e = absurd (true≢false e)
none_parts false code later e = (refl, e)

pub all_other : (word : List ℕ) (rows : List Row) → is_some (code_of word rows) ≡ false → All (Other word) rows
all_other word [] e = All-nil (Other word)
all_other word (row ∷ rows) e =
    let p = none_parts (same_word word row.0) row.1 (code_of word rows) e in
    All-cons (Other word) row rows p.0 (all_other word rows p.1)

pub none_from_other : (word : List ℕ) (rows : List Row) → All (Other word) rows → code_of word rows ≡ None
none_from_other word [] h = refl
none_from_other word (row ∷ rows) h =
    cond-false (same_word word row.0) _ _ (h 0 row (omega arith))
    ∙ none_from_other word rows (All-tail (Other word) row rows h)

pub none_or_other : (word : List ℕ) (rows : List Row) → (is_some (code_of word rows) ≡ false) ↔ All (Other word) rows
none_or_other word rows = (all_other word rows, λ h. ap is_some (none_from_other word rows h))

-- the code that is found is that of a row
later_row : (word : List ℕ) (row : Row) (rows : List Row) (code : ℕ) → IsCodeFor rows word code → IsCodeFor (row ∷ rows) word code
later_row word row rows code h =
    record { spelling = h.spelling; among = (suc h.among.0, omega (arith, h.among.1), h.among.2); same = h.same }

first_row : (word : List ℕ) (row : Row) (rows : List Row) (code : ℕ) → same_word word row.0 ≡ true → row.1 ≡ code → IsCodeFor (row ∷ rows) word code
first_row word row rows code same e = record { spelling = row.0; among = (0, omega arith, ap (λ (c : ℕ). (row.0, c)) e); same = same }

row_of_code : (word : List ℕ) (rows : List Row) (code : ℕ) → code_of word rows ≡ Some code → IsCodeFor rows word code
row_of_code word [] code e = cc
row_of_code word (row ∷ rows) code e =
    elim (cases_Bool (same_word word row.0)) [
      | inl same ↦ (let one : Some row.1 ≡ Some code = sym (cond-true (same_word word row.0) _ _ same) ∙ e in first_row word row rows code same (cc))
      | inr other ↦ later_row word row rows code (row_of_code word rows code (sym (cond-false (same_word word row.0) _ _ other) ∙ e))
    ]

-- where no two rows are the same word, a row that is the word has the code that is found
code_at : (word : List ℕ) (rows : List Row) (spelling : List ℕ) (code k : ℕ) → AllPairs Apart (words_of rows) → k < length rows → get_or rows k (spelling, code) ≡ (spelling, code) → same_word word spelling ≡ true → code_of word rows ≡ Some code
code_at word [] spelling code k apart within at same = absurd (omega arith)
code_at word (row ∷ rows) spelling code zero apart within at same =
    let first : same_word word row.0 ≡ true = ap (λ (r : Row). same_word word r.0) at ∙ same in
    cond-true (same_word word row.0) _ _ first ∙ ap (λ (r : Row). Some r.1) at
code_at word (row ∷ rows) spelling code (suc k) apart within at same =
    let long : length (words_of rows) ≡ length rows = length-map rows (λ (r : Row). r.0) in
    let there : get_or (words_of rows) k spelling ≡ spelling =
    get_or-map (λ (r : Row). r.0) rows k (spelling, code) spelling (omega arith) ∙ ap (λ (r : Row). r.0) at in
    let differ : same_word row.0 spelling ≡ false =
    sym (ap (same_word row.0) there) ∙ apart 0 (suc k) spelling (omega arith) (omega arith) in
    cond-false (same_word word row.0) _ _ (same_word_parts word row.0 spelling differ same)
    ∙ code_at word rows spelling code k (λ i j d p q. apart (suc i) (suc j) d (omega arith) (omega arith)) (omega arith) at same

pub code_or_row : (word : List ℕ) (rows : List Row) (code : ℕ) → AllPairs Apart (words_of rows) → (code_of word rows ≡ Some code) ↔ IsCodeFor rows word code
code_or_row word rows code apart =
    (row_of_code word rows code, λ h. code_at word rows h.spelling code h.among.0 apart h.among.1 h.among.2 h.same)
