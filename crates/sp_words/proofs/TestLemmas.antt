-- The test of a table's words says what a table is.
use Rattle.std.proofs.Common.{◌≡◌, ◌≢◌, ℕ, suc, true, false, not, ◌==◌, List, [], ◌∷◌, length, ◌↔◌, refl, sym, arith, inl, inr, get_or, ◌<◌}
use Rattle.std.specs.List.{All, AllPairs, list_any}
use Rattle.std.proofs.lemmas.Bool.{both_ways, cases_order, true≢false, and_parts, and_from, or_parts, not-true, not_from_false, eqb-true, eq-eqb, ne_eqb}
use Rattle.std.proofs.lemmas.List.Elements.{All-nil, All-cons, All-tail}
use Rattle.std.proofs.lemmas.List.Kept.{AllPairs-cons}
use Rattle.std.proofs.lemmas.List.Folds.{list_any_none}
use Rattle.sp_words.specs.Spellings.{spellings, same_word, is_empty_word, are_keywords, is_table, IsTable}
use Rattle.sp_words.proofs.RowLemmas.{Apart}
use Rattle.sp_words.proofs.WordLemmas.{same_word_joins}

abbrev pub Filled : List ℕ → Type 0
Filled word = word ≢ []

filled_from_test : (word : List ℕ) → not (is_empty_word word) ≡ true → Filled word
filled_from_test [] e = λ p. true≢false (sym e)
filled_from_test (byte ∷ bytes) e = λ p. cc

test_from_filled : (word : List ℕ) → Filled word → not (is_empty_word word) ≡ true
test_from_filled [] h = absurd (h refl)
test_from_filled (byte ∷ bytes) h = not_from_false _ (ne_eqb (length (byte ∷ bytes)) 0 (λ e. omega arith))

none_same : (word : List ℕ) (words : List (List ℕ)) → list_any (same_word word) words ≡ false → All (Apart word) words
none_same word [] e = All-nil (Apart word)
none_same word (other ∷ words) e =
    let p = or_parts (same_word word other) _ e in
    All-cons (Apart word) other words p.0 (none_same word words p.1)

pub table_from_test : (words : List (List ℕ)) → are_keywords words ≡ true → All Filled words × AllPairs Apart words
table_from_test [] e = (All-nil Filled, λ i j d p q. absurd (omega arith))
table_from_test (word ∷ words) e =
    let p = and_parts (not (is_empty_word word)) _ e in
    let q = and_parts (not (list_any (same_word word) words)) _ p.1 in
    let rest = table_from_test words q.1 in
    (All-cons Filled word words (filled_from_test word p.0) rest.0, AllPairs-cons Apart word words (none_same word words (not-true _ q.0)) rest.1)

test_from_table : (words : List (List ℕ)) → All Filled words → AllPairs Apart words → are_keywords words ≡ true
test_from_table [] filled apart = refl
test_from_table (word ∷ words) filled apart =
    let others : All (Apart word) words = λ k d lt. apart 0 (suc k) d (omega arith) (omega arith) in
    and_from _ _ (test_from_filled word (filled 0 word (omega arith)))
    (and_from _ _ (not_from_false _ (list_any_none (same_word word) words others))
    (test_from_table words (All-tail Filled word words filled) (λ i j d p q. apart (suc i) (suc j) d (omega arith) (omega arith))))

pub test_or_table : (text : List ℕ) (n : ℕ) → (is_table text n ≡ true) ↔ IsTable n (spellings text)
test_or_table text n = (
  λ e. let p = and_parts (length (spellings text) == n) _ e in
      let table = table_from_test (spellings text) p.1 in
      record { count = eqb-true _ _ p.0; filled = table.0; apart = table.1 },
  λ h. and_from _ _ (eq-eqb _ _ h.count) (test_from_table (spellings text) h.filled h.apart),
)

-- two places that hold the same word are one place
pub one_place : (n : ℕ) (words : List (List ℕ)) (word : List ℕ) (i j : ℕ) (d : List ℕ) → IsTable n words → i < n → j < n
    → same_word word (get_or words i d) ≡ true → same_word word (get_or words j d) ≡ true → i ≡ j
one_place n words word i j d table low high first second =
    let a = get_or words i d in
    let b = get_or words j d in
    let long : length words ≡ n = table.count in
    elim (cases_order i j) [
      | inl same ↦ same
      | inr differ ↦ elim differ [
        | inl before ↦ absurd (both_ways _ (table.apart i j d before (omega arith)) (same_word_joins word a b first second))
        | inr after ↦ absurd (both_ways _ (table.apart j i d after (omega arith)) (same_word_joins word b a second first))
      ]
    ]
