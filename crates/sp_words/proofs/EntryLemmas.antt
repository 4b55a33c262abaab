-- The rows of entries, one entry after the other.
use Rattle.std.proofs.Common.{◌≡◌, ℕ, ◌+◌, ◌-◌, ◌<◌, Bool, true, false, not, ◌&&◌, List, length, get_or, take, drop, Some, sym, ap, ap₂, ◌∙◌}
use Rattle.std.specs.List.{list_any}
use Rattle.std.proofs.lemmas.List.{at_drop_more, take_rest}
use Rattle.std.proofs.lemmas.Bool.{cond-true, cond-false, and_left, and_right, not_from_true}
use Rattle.sp_words.specs.Spellings.{same_word, is_empty_word, are_keywords}
use Rattle.sp_words.specs.Rows.{words_of, code_of}
use Rattle.sp_words.specs.InnerEntries.{spelling_at, rows_of}
use Rattle.sp_words.specs.declared.entries.Entry.{Entry}

pub found_here : (text word : List ℕ) (entries : List Entry) (i : ℕ) (d : Entry) → i < length entries
    → same_word word (spelling_at text (get_or entries i d)) ≡ true
    → code_of word (rows_of text (drop i entries)) ≡ code_of word (rows_of text entries)
    → Some (get_or entries i d).code ≡ code_of word (rows_of text entries)
found_here text word entries i d within same left =
    sym (cond-true (same_word word (spelling_at text (get_or entries i d))) _ _ same)
    ∙ sym (at_drop_more (λ (es : List Entry). code_of word (rows_of text es)) entries i d within)
    ∙ left

pub not_here : (text word : List ℕ) (entries : List Entry) (i : ℕ) (d : Entry) → i < length entries
    → same_word word (spelling_at text (get_or entries i d)) ≡ false
    → code_of word (rows_of text (drop i entries)) ≡ code_of word (rows_of text entries)
    → code_of word (rows_of text (drop (i + 1) entries)) ≡ code_of word (rows_of text entries)
not_here text word entries i d within other left =
    sym (cond-false (same_word word (spelling_at text (get_or entries i d))) _ _ other)
    ∙ sym (at_drop_more (λ (es : List Entry). code_of word (rows_of text es)) entries i d within)
    ∙ left

-- the test of the entries from a place on
abbrev pub keywords_from : List ℕ → List Entry → Bool
keywords_from text entries = are_keywords (words_of (rows_of text entries))

abbrev pub is_repeated : List ℕ → List Entry → List ℕ → Bool
is_repeated text later word = list_any (same_word word) (words_of (rows_of text later))

pub keywords_repeat : (text : List ℕ) (entries : List Entry) (i : ℕ) (d : Entry) → i < length entries
    → keywords_from text (drop i entries) ≡ keywords_from text entries
    → true ≡ is_repeated text (take (length entries - (i + 1)) (drop (i + 1) entries)) (spelling_at text (get_or entries i d))
    → false ≡ keywords_from text entries
keywords_repeat text entries i d within left same =
    let word = spelling_at text (get_or entries i d) in
    let same' : is_repeated text (drop (i + 1) entries) word ≡ true =
    sym (same ∙ ap (λ (es : List Entry). is_repeated text es word) (take_rest entries (i + 1))) in
    sym (and_right (not (is_empty_word word)) _ (and_left _ _ (not_from_true _ same')))
    ∙ sym (at_drop_more (keywords_from text) entries i d within)
    ∙ left

pub keywords_more : (text : List ℕ) (entries : List Entry) (i : ℕ) (d : Entry) → i < length entries
    → keywords_from text (drop i entries) ≡ keywords_from text entries
    → false ≡ is_empty_word (spelling_at text (get_or entries i d))
    → false ≡ is_repeated text (take (length entries - (i + 1)) (drop (i + 1) entries)) (spelling_at text (get_or entries i d))
    → keywords_from text (drop (i + 1) entries) ≡ keywords_from text entries
keywords_more text entries i d within left filled other =
    let word = spelling_at text (get_or entries i d) in
    let rest = keywords_from text (drop (i + 1) entries) in
    let other' : false ≡ is_repeated text (drop (i + 1) entries) word =
    other ∙ ap (λ (es : List Entry). is_repeated text es word) (take_rest entries (i + 1)) in
    ap₂ (λ (e b : Bool). not e && (not b && rest)) filled other'
    ∙ sym (at_drop_more (keywords_from text) entries i d within)
    ∙ left
