-- What lawful models give: rows that are fit for sums over each box inside the closed one.
use Rattle.std.proofs.lemmas.Bool.{cases_lt}
use Rattle.std.proofs.lemmas.List.{get_or_past}
use Rattle.std.proofs.Common.{◌≡◌, inl, inr, [], subst, sym, ℕ, List, length, get_or, All, arith}
use Rattle.sp_model.specs.declared.parts.Row.{Row}
use Rattle.sp_model.specs.declared.parts.ModelParts.{ModelParts}
use Rattle.sp_model.specs.Boxes.{Bounds}
use Rattle.sp_model.specs.Models.{root_of}
use Rattle.sp_model.specs.Rules.{AreTermsLawful, IsLawful, IsRowLawful}
use Rattle.sp_model.specs.Sums.{Term}
use Rattle.sp_sums.specs.Extremes.{AreTermsNarrow}
use Rattle.sp_sums.specs.Ranges.{IsInside}
use Rattle.sp_sums.specs.Rows.{IsRowFit, bare_row, row_at}
use Rattle.sp_bound.specs.Inner.{AreRowsRising, IsRising}

pub row_fit : (root : Bounds) (row : Row) → IsRowLawful root row → IsRowFit root row
row_fit root row h = record {
  narrow = record { known = h.terms.known; narrow = omega (arith, h.narrow) };
  rising = h.terms.rising;
}

-- fit rows are narrow over each box inside the root
abbrev pub NarrowInside : Type 0
NarrowInside = (root b : Bounds) (row : Row) → IsRowFit root row → IsInside root b → AreTermsNarrow b row.terms

pub rows_narrow : NarrowInside → (m : ModelParts) (b : Bounds) → IsLawful m → IsInside (root_of m) b → All (λ (row : Row). AreTermsNarrow b row.terms) m.rows
rows_narrow law m b lawful inside = λ k d l. law (root_of m) b (get_or m.rows k d) (row_fit (root_of m) (get_or m.rows k d) (lawful.rows.each k d l)) inside

rising_of : (count n : ℕ) (ts : List Term) → n ≡ count → AreTermsLawful count ts → IsRising n ts
rising_of count n ts e h = record { known = λ k d l. omega (arith, h.known k d l, e); rising = h.rising }

pub rows_rising : (m : ModelParts) (n : ℕ) → IsLawful m → n ≡ length (root_of m) → AreRowsRising m n
rows_rising m n lawful e = record {
  cost = rising_of (length (root_of m)) n m.cost e lawful.objective.terms;
  rows = λ k l. rising_of (length (root_of m)) n (row_at m.rows k).terms e (lawful.rows.each k bare_row l).terms;
}

bare_rising : (n : ℕ) → IsRising n []
bare_rising n = record { known = λ k d l. absurd (omega (arith, l)); rising = λ i k d l g. absurd (omega (arith, g)) }

-- also past the last row, where there are no terms
pub all_rising : (m : ModelParts) (b : Bounds) → IsLawful m → IsInside (root_of m) b → (k : ℕ) → IsRising (length b) (row_at m.rows k).terms
all_rising m b lawful inside k = elim (cases_lt k (length m.rows)) [
  | inl l ↦ (rows_rising m (length b) lawful inside.long).rows k l
  | inr g ↦ (let bare : bare_row ≡ row_at m.rows k = sym (get_or_past m.rows k bare_row g) in subst (λ (row : Row). IsRising (length b) row.terms) bare (bare_rising (length b)))
]
