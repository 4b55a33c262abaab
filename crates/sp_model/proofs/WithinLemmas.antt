-- What a box of two lists of bounds has at a variable.
use Rattle.std.proofs.Common.{◌≡◌, ℕ, zero, suc, ◌+◌, ◌<◌, ◌≤◌, List, [], ◌∷◌, length, ℤ, refl, sym, ◌∙◌, below_more, arith}
use Rattle.sp_model.proofs.RangeLemmas.{length_ranges}
use Rattle.sp_model.specs.Boxes.{Bounds, ranges, range_at, coordinate, IsBetween, IsWithin}

pub range_at-ranges : (ls us : List ℤ) → length us ≡ length ls → (j : ℕ) → range_at (ranges ls us) j ≡ (coordinate ls j, coordinate us j)
range_at-ranges [] [] e zero = refl
range_at-ranges [] [] e (suc j) = refl
range_at-ranges [] (u ∷ us) e j = absurd (omega arith)
range_at-ranges (l ∷ ls) [] e j = absurd (omega arith)
range_at-ranges (l ∷ ls) (u ∷ us) e zero = refl
range_at-ranges (l ∷ ls) (u ∷ us) e (suc j) = range_at-ranges ls us (omega arith) j

-- the first values of a point lie within their ranges
pub record AreBetween (b : Bounds) (x : List ℤ) (n : ℕ) : Type 0 where
  pub each : (j : ℕ) → j < n → IsBetween (range_at b j) (coordinate x j)

pub none_between : (b : Bounds) (x : List ℤ) → AreBetween b x 0
none_between b x = record { each = λ j l. absurd (omega arith) }

pub more_between : (b : Bounds) (x : List ℤ) (n : ℕ) → AreBetween b x n → IsBetween (range_at b n) (coordinate x n) → AreBetween b x (n + 1)
more_between b x n h p = record { each = below_more (λ j. IsBetween (range_at b j) (coordinate x j)) n h.each p }

pub within_from_between : (ls us x : List ℤ) (n : ℕ) → length us ≡ length ls → length x ≡ length ls → length x ≤ n → AreBetween (ranges ls us) x n → IsWithin (ranges ls us) x
within_from_between ls us x n e l m h = record {
  long = l ∙ sym (length_ranges ls us e);
  each = λ j k. h.each j (omega (arith, length_ranges ls us e));
}

pub long_within : (ls us x : List ℤ) → length us ≡ length ls → IsWithin (ranges ls us) x → length x ≡ length ls
long_within ls us x e h = h.long ∙ length_ranges ls us e

pub between_within : (ls us x : List ℤ) (j : ℕ) → length us ≡ length ls → j < length ls → IsWithin (ranges ls us) x → IsBetween (range_at (ranges ls us) j) (coordinate x j)
between_within ls us x j e l h = h.each j (omega (arith, length_ranges ls us e))
