-- Words that are the same when the case of their letters is ignored.
use Rattle.std.proofs.Common.{◌≡◌, ℕ, Bool, true, false, List, map, ◌↔◌, sym, ◌∙◌}
use Rattle.std.specs.Bool.{one_answer}
use Rattle.std.specs.Char.{to_ascii_lowercase}
use Rattle.std.proofs.lemmas.Slice.Eq.{bytes_eq-Decides}
use Rattle.std.proofs.lemmas.Bool.{false_from_ne_true, both_ways}
use Rattle.sp_words.specs.Spellings.{same_word}

pub lowered : (a b : List ℕ) → same_word a b ≡ true → map to_ascii_lowercase a ≡ map to_ascii_lowercase b
lowered a b e = (bytes_eq-Decides _ _).0 e

pub same_word-true : (a b : List ℕ) → map to_ascii_lowercase a ≡ map to_ascii_lowercase b → same_word a b ≡ true
same_word-true a b e = (bytes_eq-Decides _ _).1 e

-- a word that is the same as two words makes them the same
pub same_word_joins : (word a b : List ℕ) → same_word word a ≡ true → same_word word b ≡ true → same_word a b ≡ true
same_word_joins word a b p q = same_word-true a b (sym (lowered word a p) ∙ lowered word b q)

-- so it is not the other of two that differ
pub same_word_parts : (word a b : List ℕ) → same_word a b ≡ false → same_word word b ≡ true → same_word word a ≡ false
same_word_parts word a b apart same =
    false_from_ne_true _ (λ e. both_ways _ apart (same_word_joins word a b e same))

-- a test of the folded bytes is the test of the words
pub same_word_from_test : (a b : List ℕ) (r : Bool) → ((r ≡ true) ↔ (map to_ascii_lowercase a ≡ map to_ascii_lowercase b)) → r ≡ same_word a b
same_word_from_test a b r test = one_answer r (same_word a b) test (bytes_eq-Decides _ _)
