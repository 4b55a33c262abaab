-- The pieces of a text hold no blank, and joined by blanks they are the text.
use Rattle.std.proofs.Common.{◌≡◌, ℕ, false, List, [], ◌∷◌, length, ◌↔◌, refl, inl, inr, arith}
use Rattle.std.specs.List.{All, slice_split, onto_first, join_with_byte}
use Rattle.std.proofs.lemmas.Bool.{cases_Bool}
use Rattle.std.proofs.lemmas.List.Elements.{All-nil, All-cons, All-tail}
use Rattle.std.proofs.lemmas.List.Splits.{join_with_byte-slice_split, length-slice_split, slice_split-cons_yes, slice_split-cons_no}
use Rattle.sp_words.specs.Spellings.{is_blank, spellings}

pub spellings_join : (text : List ℕ) → join_with_byte 32 (spellings text) ≡ text
spellings_join [] = refl
spellings_join (byte ∷ bytes) = join_with_byte-slice_split 32 (byte ∷ bytes)

abbrev pub NoBlank : List ℕ → Type 0
NoBlank piece = All (λ byte. is_blank byte ≡ false) piece

onto : (byte : ℕ) (pieces : List (List ℕ)) → is_blank byte ≡ false → All NoBlank pieces → All NoBlank (onto_first byte pieces)
onto byte [] e h = All-cons NoBlank (byte ∷ []) [] (All-cons (λ b. is_blank b ≡ false) byte [] e (All-nil (λ b. is_blank b ≡ false))) (All-nil NoBlank)
onto byte (piece ∷ pieces) e h =
    All-cons NoBlank (byte ∷ piece) pieces
    (All-cons (λ b. is_blank b ≡ false) byte piece e (h 0 piece (omega arith))) (All-tail NoBlank piece pieces h)

split_parts : (text : List ℕ) → All NoBlank (slice_split is_blank text)
split_parts [] = All-cons NoBlank [] [] (All-nil (λ b. is_blank b ≡ false)) (All-nil NoBlank)
split_parts (byte ∷ bytes) =
    elim (cases_Bool (is_blank byte)) [
      | inl blank ↦ rw (slice_split-cons_yes is_blank byte bytes blank) (All-cons NoBlank [] (slice_split is_blank bytes) (All-nil (λ b. is_blank b ≡ false)) (split_parts bytes))
      | inr other ↦ rw (slice_split-cons_no is_blank byte bytes other) (onto byte (slice_split is_blank bytes) other (split_parts bytes))
    ]

pub spellings_part : (text : List ℕ) → All NoBlank (spellings text)
spellings_part [] = All-nil NoBlank
spellings_part (byte ∷ bytes) = split_parts (byte ∷ bytes)

pub spellings_empty : (text : List ℕ) → (length (spellings text) ≡ 0) ↔ (text ≡ [])
spellings_empty [] = (λ e. refl, λ e. refl)
spellings_empty (byte ∷ bytes) = (λ e. absurd (omega (arith, length-slice_split is_blank (byte ∷ bytes))), λ e. cc)
