-- From the entries that were cut, and the test of their words, to a table.
use Rattle.std.proofs.Common.{◌≡◌, ℕ, Bool, true, false, ◌&&◌, List, length, sym, ap, ◌∙◌, IsTrue}
use Rattle.std.proofs.lemmas.Bool.{eq-eqb}
use Rattle.std.proofs.lemmas.List.{length-map}
use Rattle.std.proofs.lemmas.Slice.Zip.{firsts-zip}
use Rattle.sp_words.specs.Spellings.{spellings, are_keywords, is_table}
use Rattle.sp_words.specs.Rows.{Row, words_of}
use Rattle.sp_words.specs.InnerEntries.{IsCut, row_at, rows_of}
use Rattle.sp_words.specs.InnerKept.{IsKept}
use Rattle.sp_words.specs.declared.entries.Entry.{Entry}
use Rattle.sp_words.proofs.TestLemmas.{table_from_test}

pub keeps : (n : ℕ) (text codes : List ℕ) (entries : List Entry) → IsCut n text codes entries
    → true ≡ are_keywords (words_of (rows_of text entries)) → IsKept n text entries
keeps n text codes entries cut tested =
    let words = words_of (rows_of text entries) in
    let table = table_from_test words (sym tested) in
    record {
      within = cut.within;
      table = record { count = length-map (rows_of text entries) (λ (row : Row). row.0) ∙ (length-map entries (row_at text) ∙ cut.room); filled = table.0; apart = table.1 };
    }

is_table-cut : (n : ℕ) (text codes : List ℕ) (entries : List Entry) → IsCut n text codes entries → length codes ≡ n
    → is_table text n ≡ are_keywords (words_of (rows_of text entries))
is_table-cut n text codes entries cut full =
    ap (λ (b : Bool). b && are_keywords (spellings text)) (eq-eqb (length (spellings text)) n cut.count)
    ∙ ap are_keywords (sym (ap words_of cut.rows ∙ firsts-zip (spellings text) codes (full ∙ sym cut.count)))

pub taken : (n : ℕ) (words text codes : List ℕ) (entries : List Entry) → text ≡ words → IsCut n text codes entries → length codes ≡ n
    → true ≡ are_keywords (words_of (rows_of text entries)) → IsTrue (is_table words n)
taken n words text codes entries same cut full tested =
    ap (λ (bytes : List ℕ). is_table bytes n) (sym same) ∙ is_table-cut n text codes entries cut full ∙ sym tested

pub refused : (n : ℕ) (words text codes : List ℕ) (entries : List Entry) → text ≡ words → IsCut n text codes entries → length codes ≡ n
    → false ≡ are_keywords (words_of (rows_of text entries)) → IsTrue (is_table words n) → false ≡ true
refused n words text codes entries same cut full tested table =
    tested ∙ sym (is_table-cut n text codes entries cut full) ∙ ap (λ (bytes : List ℕ). is_table bytes n) same ∙ table
