-- Words are the same where they are the same byte by byte, but for the case of letters.
use Rattle.std.proofs.Common.{◌≡◌, ℕ, ◌+◌, ◌<◌, ◌≤◌, true, List, [], ◌∷◌, map, ◌↔◌, ◌⊎◌, refl, sym, ap, ap₂, inl, inr, arith}
use Rattle.std.specs.List.{AllZip}
use Rattle.std.specs.Char.{to_ascii_lowercase}
use Rattle.std.proofs.lemmas.Bool.{cases_lt}
use Rattle.std.proofs.lemmas.Str.Ascii.{lowercase_is}
use Rattle.sp_words.specs.Spellings.{IsCapitalOf, IsSameByte, same_word}
use Rattle.sp_words.proofs.WordLemmas.{lowered, same_word-true}

-- a byte and what it folds to
record IsFolded (byte small : ℕ) : Type 0 where
  place : ((65 ≤ byte) × (byte ≤ 90) × (small ≡ byte + 32)) ⊎ (((byte < 65) ⊎ (90 < byte)) × (small ≡ byte))

folded : (byte : ℕ) → IsFolded byte (to_ascii_lowercase byte)
folded byte =
    let p = lowercase_is byte in
    elim (cases_lt byte 65) [
      | inl low ↦ record { place = inr (inl low, p.1 low) }
      | inr from ↦ elim (cases_lt 90 byte) [
        | inl high ↦ record { place = inr (inr high, p.2 high) }
        | inr upto ↦ record { place = inl (from, upto, p.0 (from, upto)) }
      ]
    ]

same_byte : (a b x y : ℕ) → IsFolded a x → IsFolded b y → x ≡ y → IsSameByte a b
same_byte a b x y p q e =
    elim p.place [
      | inl h ↦ elim q.place [ inl k ↦ inl (omega arith) | inr k ↦ inr (inl record { low = h.0; high = h.1; small_is = omega arith }) ]
      | inr h ↦ elim q.place [ inl k ↦ inr (inr record { low = k.0; high = k.1; small_is = omega arith }) | inr k ↦ inl (omega arith) ]
    ]

capital_folds : (a b x y : ℕ) → IsFolded a x → IsFolded b y → IsCapitalOf a b → x ≡ y
capital_folds a b x y p q h =
    elim p.place [
      | inl k ↦ elim q.place [ inl l ↦ absurd (omega arith) | inr l ↦ omega arith ]
      | inr k ↦ elim k.0 [ inl low ↦ absurd (omega arith) | inr high ↦ absurd (omega arith) ]
    ]

same_folds : (a b : ℕ) → IsSameByte a b → to_ascii_lowercase a ≡ to_ascii_lowercase b
same_folds a b (inl e) = ap to_ascii_lowercase e
same_folds a b (inr (inl h)) = capital_folds a b _ _ (folded a) (folded b) h
same_folds a b (inr (inr h)) = sym (capital_folds b a _ _ (folded b) (folded a) h)

zip_from_folds : (a b : List ℕ) → map to_ascii_lowercase a ≡ map to_ascii_lowercase b → AllZip IsSameByte a b
zip_from_folds [] [] e = tt
zip_from_folds [] (y ∷ ys) e = cc
zip_from_folds (x ∷ xs) [] e = cc
zip_from_folds (x ∷ xs) (y ∷ ys) e =
    let head : to_ascii_lowercase x ≡ to_ascii_lowercase y = cc in
    let tail : map to_ascii_lowercase xs ≡ map to_ascii_lowercase ys = cc in
    (same_byte x y _ _ (folded x) (folded y) head, zip_from_folds xs ys tail)

folds_from_zip : (a b : List ℕ) → AllZip IsSameByte a b → map to_ascii_lowercase a ≡ map to_ascii_lowercase b
folds_from_zip [] [] h = refl
folds_from_zip [] (y ∷ ys) h = absurd h
folds_from_zip (x ∷ xs) [] h = absurd h
folds_from_zip (x ∷ xs) (y ∷ ys) h = ap₂ (λ (c : ℕ) (cs : List ℕ). c ∷ cs) (same_folds x y h.0) (folds_from_zip xs ys h.1)

pub same_or_zip : (a b : List ℕ) → (same_word a b ≡ true) ↔ AllZip IsSameByte a b
same_or_zip a b = (λ e. zip_from_folds a b (lowered a b e), λ h. same_word-true a b (folds_from_zip a b h))
