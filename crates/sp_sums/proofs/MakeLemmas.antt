-- The spans from nothing: one term after another, and one row after another.
use Rattle.std.proofs.Common.{◌≡◌, ℕ, zero, suc, ◌+◌, ◌^◌, ◌<◌, ◌≤◌, List, [], ◌∷◌, ◌++◌, length, map, get_or, set, take, ℤ, ◌+ℤ◌, All, Bool, refl, ap, ap₂, arith, not-suc-le-zero, le_of_suc-le-suc}
use Rattle.std.proofs.lemmas.Int.{ints}
use Rattle.std.specs.Int.RustNames.{unsigned_abs}
use Rattle.sp_model.specs.declared.parts.Row.{Row}
use Rattle.sp_model.specs.Boxes.{Bounds, range_at}
use Rattle.sp_model.specs.Sums.{Term, reach, width_over}
use Rattle.sp_sums.specs.declared.spans.Span.{Span}
use Rattle.sp_sums.specs.Extremes.{AreTermsNarrow, term_least, term_most, sum_over, span_of, span_over, is_broken, is_broken_over}
use Rattle.sp_sums.specs.Inner.{IsTermSmall, IsSpanSmall, marks, span_at, with_term, zero_span}
use Rattle.sp_sums.specs.Ranges.{IsInside}
use Rattle.sp_sums.specs.Rows.{AreRowsFit, IsRowFit, row_at}
use Rattle.sp_sums.proofs.SpanLemmas.{IsWithinReach, least_bounded, most_bounded, own_reach, width_inside}
use Rattle.sp_sums.proofs.MoveLemmas.{term_small}

-- a loop that adds up terms, stated by what is left
pub record IsSumming (b : Bounds) (ts rest : List Term) (s : Span) : Type 0 where
  pub least : s.least +ℤ sum_over term_least b rest ≡ sum_over term_least b ts
  pub most : s.most +ℤ sum_over term_most b rest ≡ sum_over term_most b ts
  pub light_least : unsigned_abs s.least + width_over b rest ≤ 10 ^ 36
  pub light_most : unsigned_abs s.most + width_over b rest ≤ 10 ^ 36

pub summing_start : (b : Bounds) (ts : List Term) → width_over b ts ≤ 10 ^ 36 → IsSumming b ts ts zero_span
summing_start b ts h = record { least = omega (arith, ints); most = omega (arith, ints); light_least = omega arith; light_most = omega arith }

abs-add : (a b : ℤ) → unsigned_abs (a +ℤ b) ≤ unsigned_abs a + unsigned_abs b
abs-add a b = omega (arith, ints)

pub summing_turn : (b : Bounds) (ts rest : List Term) (t : Term) (s : Span) → IsSumming b ts (t ∷ rest) s → IsSumming b ts rest (with_term s t.1 (range_at b t.0))
summing_turn b ts rest t s p =
    let r : IsWithinReach (reach (range_at b t.0)) (range_at b t.0) = own_reach (range_at b t.0) in
    record {
      least = omega (arith, ints, p.least);
      most = omega (arith, ints, p.most);
      light_least = omega (arith, p.light_least, abs-add s.least (term_least t.1 (range_at b t.0)), least_bounded t.1 (range_at b t.0) (reach (range_at b t.0)) r);
      light_most = omega (arith, p.light_most, abs-add s.most (term_most t.1 (range_at b t.0)), most_bounded t.1 (range_at b t.0) (reach (range_at b t.0)) r);
    }

-- what the next term needs
pub record IsAddable (s : Span) (a : ℤ) (r : ℤ × ℤ) : Type 0 where
  pub small : IsSpanSmall s
  pub term : IsTermSmall a r

pub summing_next : (b : Bounds) (ts rest : List Term) (t : Term) (s : Span) → IsSumming b ts (t ∷ rest) s → IsAddable s t.1 (range_at b t.0)
summing_next b ts rest t s p =
    let r : IsWithinReach (reach (range_at b t.0)) (range_at b t.0) = own_reach (range_at b t.0) in
    record {
      small = record { least = omega (arith, p.light_least); most = omega (arith, p.light_most) };
      term = term_small (reach (range_at b t.0)) 0 t.1 (range_at b t.0) r (omega (arith, p.light_least));
    }

abbrev span_from : ℤ → ℤ → Span
span_from l u = record { least = l; most = u }

pub summing_stop : (b : Bounds) (ts : List Term) (s : Span) → IsSumming b ts [] s → s ≡ span_over b ts
summing_stop b ts s p =
    let least : s.least ≡ sum_over term_least b ts = omega (arith, ints, p.least) in
    let most : s.most ≡ sum_over term_most b ts = omega (arith, ints, p.most) in
    ap₂ span_from least most

-- fit rows are narrow over each box inside the root
pub row_inside : (root b : Bounds) (row : Row) → IsRowFit root row → IsInside root b → AreTermsNarrow b row.terms
row_inside root b row f h = record {
  known = λ n e g. omega (arith, f.narrow.known n e g, h.long);
  narrow = omega (arith, f.narrow.narrow, width_inside root b h row.terms);
}

pub narrow_inside : (root b : Bounds) (rows : List Row) → AreRowsFit root rows → IsInside root b → All (λ (row : Row). AreTermsNarrow b row.terms) rows
narrow_inside root b rows f h = λ k d l. row_inside root b (get_or rows k d) (f.each k d l) h

-- ---- marks

pub length-marks : (rows : List Row) (ss : List Span) → length ss ≡ length rows → length (marks rows ss) ≡ length rows
length-marks [] ss e = refl
length-marks (row ∷ rows) [] e = absurd (omega (arith, e))
length-marks (row ∷ rows) (s ∷ ss) e = let g : length ss ≡ length rows = omega (arith, e) in ap suc (length-marks rows ss g)

-- one row's span is put anew
pub marks-set : (rows : List Row) (ss : List Span) (k : ℕ) (s : Span) → k < length rows → length ss ≡ length rows → marks rows (set ss k s) ≡ set (marks rows ss) k (is_broken (row_at rows k) s)
marks-set [] ss k s h e = absurd (not-suc-le-zero h)
marks-set (row ∷ rows) [] k s h e = absurd (omega (arith, e))
marks-set (row ∷ rows) (x ∷ ss) zero s h e = refl
marks-set (row ∷ rows) (x ∷ ss) (suc k) s h e = let g : length ss ≡ length rows = omega (arith, e) in ap (λ (bs : List Bool). is_broken row x ∷ bs) (marks-set rows ss k s (le_of_suc-le-suc h) g)

-- over a box they say which rows are broken over it
pub marks-over : (b : Bounds) (rows : List Row) → marks rows (map (span_of b) rows) ≡ map (is_broken_over b) rows
marks-over b [] = refl
marks-over b (row ∷ rows) = ap (λ (bs : List Bool). is_broken_over b row ∷ bs) (marks-over b rows)

-- one row more
pub marks-take : (rows : List Row) (ss : List Span) (i : ℕ) → i < length rows → length ss ≡ length rows → marks (take (suc i) rows) (take (suc i) ss) ≡ marks (take i rows) (take i ss) ++ is_broken (row_at rows i) (span_at ss i) ∷ []
marks-take [] ss i h e = absurd (not-suc-le-zero h)
marks-take (row ∷ rows) [] i h e = absurd (omega (arith, e))
marks-take (row ∷ rows) (s ∷ ss) zero h e = refl
marks-take (row ∷ rows) (s ∷ ss) (suc i) h e = let g : length ss ≡ length rows = omega (arith, e) in ap (λ (bs : List Bool). is_broken row s ∷ bs) (marks-take rows ss i (le_of_suc-le-suc h) g)
