-- Words whose first letter and length no spelling of the tables has.
use Rattle.std.proofs.Common.{◌≡◌, ℕ, Bool, true, false, ◌&&◌, List, [], ◌∷◌, map, length, slice_get, Option, Some, None, is_some, refl, sym, ap, ap₂, ◌∙◌, inl, inr, option_and_then}
use Rattle.std.specs.List.{list_all}
use Rattle.std.specs.Char.{to_ascii_lowercase}
use Rattle.std.proofs.lemmas.Slice.Eq.{bytes_eq-Decides}
use Rattle.std.proofs.lemmas.Bool.{true≢false, cases_Bool, cond-false}
use Rattle.std.proofs.lemmas.List.{length-map}
use Rattle.sp_words.specs.Spellings.{same_word}
use Rattle.sp_words.specs.Rows.{Row, words_of, code_of}
use Rattle.sp_lp_words.specs.declared.classes.Class.TheVariants as classes
use Rattle.sp_lp_words.specs.Sections.{part_for, direction_for}
use Rattle.sp_lp_words.specs.Tables.{section_rows, objective_rows, infinity_rows, part_of, direction_of, is_infinity}
use Rattle.sp_lp_words.specs.Classes.{word_class, name_class}
use Rattle.sp_lp_words.specs.InnerFirsts.{has_length, may_be_word}

-- the first byte tells, and where there is none
pub empty_told : (word : List ℕ) → None ≡ slice_get word 0 → false ≡ may_be_word word
unfolding may_be_word
empty_told [] e = refl
empty_told (x ∷ xs) e = cc

pub first_told : (word : List ℕ) (byte : ℕ) → Some byte ≡ slice_get word 0 → has_length (to_ascii_lowercase byte) (length word) ≡ may_be_word word
unfolding may_be_word
first_told [] byte e = cc
first_told (x ∷ xs) byte e =
    let same : byte ≡ x = cc in
    ap (λ (b : ℕ). has_length (to_ascii_lowercase b) (length (x ∷ xs))) same

-- words whose bytes fold alike have the same first letter and are as long as each other
folded_alike : (a b : List ℕ) → map to_ascii_lowercase a ≡ map to_ascii_lowercase b → may_be_word a ≡ may_be_word b
unfolding may_be_word
folded_alike [] [] e = refl
folded_alike [] (y ∷ ys) e = cc
folded_alike (x ∷ xs) [] e = cc
folded_alike (x ∷ xs) (y ∷ ys) e =
    let head : to_ascii_lowercase x ≡ to_ascii_lowercase y = cc in
    let long : length (x ∷ xs) ≡ length (y ∷ ys) =
    sym (length-map (x ∷ xs) to_ascii_lowercase) ∙ (ap length e ∙ length-map (y ∷ ys) to_ascii_lowercase) in
    ap₂ has_length head long

same_alike : (a b : List ℕ) → same_word a b ≡ true → may_be_word a ≡ may_be_word b
same_alike a b e = folded_alike a b ((bytes_eq-Decides _ _).0 e)

-- a spelling that may be a word is no word that may be none
other : (word spelling : List ℕ) → may_be_word word ≡ false → may_be_word spelling ≡ true → same_word word spelling ≡ false
other word spelling none some =
    elim (cases_Bool (same_word word spelling)) [
      | inl same ↦ absurd (true≢false (sym some ∙ (sym (same_alike word spelling same) ∙ none)))
      | inr differ ↦ differ
    ]

both : (a b : Bool) → (a && b) ≡ true → (a ≡ true) × (b ≡ true)
both true b e = (refl, e)
both false b e = absurd (true≢false (sym e))

-- a word that may be none has no code among spellings that may be words
no_code : (word : List ℕ) (rows : List Row) → may_be_word word ≡ false → list_all may_be_word (words_of rows) ≡ true → code_of word rows ≡ None
no_code word [] none all = refl
no_code word (row ∷ rows) none all =
    let p = both (may_be_word row.0) (list_all may_be_word (words_of rows)) all in
    cond-false (same_word word row.0) _ _ (other word row.0 none p.0) ∙ no_code word rows none p.1

section_words : list_all may_be_word (words_of section_rows) ≡ true
unfolding may_be_word has_length
section_words = refl

objective_words : list_all may_be_word (words_of objective_rows) ≡ true
unfolding may_be_word has_length
objective_words = refl

infinity_words : list_all may_be_word (words_of infinity_rows) ≡ true
unfolding may_be_word has_length
infinity_words = refl

no_part : (word : List ℕ) → may_be_word word ≡ false → part_of word ≡ None
unfolding part_of
no_part word none = ap (λ (code : Option ℕ). option_and_then part_for code) (no_code word section_rows none section_words)

no_direction : (word : List ℕ) → may_be_word word ≡ false → direction_of word ≡ None
unfolding direction_of
no_direction word none = ap (λ (code : Option ℕ). option_and_then direction_for code) (no_code word objective_rows none objective_words)

no_infinity : (word : List ℕ) → may_be_word word ≡ false → is_infinity word ≡ false
unfolding is_infinity
no_infinity word none = ap is_some (no_code word infinity_rows none infinity_words)

plain_word : (first : Bool) (word : List ℕ) → may_be_word word ≡ false → word_class first word ≡ classes.Name None
plain_word true word none = ap classes.Name (no_direction word none)
plain_word false word none = ap classes.Name (no_part word none)

-- a word that may be none is a name and no part of a section word
pub plain_name : (first : Bool) (word : List ℕ) → may_be_word word ≡ false → classes.Name None ≡ name_class first word
plain_name first word none =
    sym (cond-false (is_infinity word) _ _ (no_infinity word none) ∙ plain_word first word none)
