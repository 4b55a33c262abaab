-- Sums of written terms, in whole units of a power of ten.
use Rattle.std.specs.Prelude.{ℕ, suc, ◌+◌, ◌-◌, ◌^◌, max, Bool, true, false, ◌==◌, if◌then◌else◌, List, [], ◌∷◌, map, filter, ℤ, pos, neg_ℤ, ◌+ℤ◌, ◌*ℤ◌, unsigned_abs}
use Rattle.std.specs.List.{range_with_len}
use Rattle.sp_decimal.specs.DecimalFraction.{DecimalFraction}
use Rattle.sp_model.specs.Models.{is_nonzero}
use Rattle.sp_model.specs.Sums.{Term}

-- a variable with its coefficient or its weight, as written
abbrev pub WrittenTerm : Type 0
WrittenTerm = ℕ × DecimalFraction

-- no sum's width is greater
abbrev pub greatest_width : ℕ
greatest_width = 10 ^ 36

-- the most decimal places that one of the numbers has
abbrev pub most_places_of : List DecimalFraction → ℕ
most_places_of [] = 0
most_places_of (d ∷ ds) = max d.s (most_places_of ds)

-- the coefficients of the terms
abbrev pub numbers_of : List WrittenTerm → List DecimalFraction
numbers_of ts = map (λ t. t.1) ts

-- how many units of 10^-places the number is; a number that has more places isn't asked for
abbrev pub units : ℕ → DecimalFraction → ℤ
units places d = d.p *ℤ pos (10 ^ (places - d.s))

-- the terms in such units, each by itself
abbrev pub scaled : ℕ → List WrittenTerm → List Term
scaled places ts = map (λ t. (t.0, units places t.1)) ts

-- the magnitudes of the coefficients, added up
abbrev pub size_of : List Term → ℕ
size_of [] = 0
size_of (t ∷ ts) = unsigned_abs t.1 + size_of ts

-- the coefficients of one variable, added up
abbrev pub coefficient : List Term → ℕ → ℤ
coefficient [] j = pos 0
coefficient (t ∷ ts) j = (if t.0 == j then t.1 else pos 0) +ℤ coefficient ts j

-- one past the last variable of the terms
abbrev pub past : List Term → ℕ
past [] = 0
past (t ∷ ts) = max (suc t.0) (past ts)

-- each variable up to the last one with its coefficients added up, those of 0 left out
abbrev pub collected : List Term → List Term
collected ts = filter (λ t. is_nonzero t.1) (map (λ j. (j, coefficient ts j)) (range_with_len 0 (past ts)))

-- numbers added up
abbrev pub total : List ℤ → ℤ
total [] = pos 0
total (z ∷ zs) = z +ℤ total zs

-- their magnitudes added up
abbrev pub sizes : List ℤ → ℕ
sizes [] = 0
sizes (z ∷ zs) = unsigned_abs z + sizes zs

-- the number, negated where the flag is set
abbrev pub turned : Bool → ℤ → ℤ
turned true z = neg_ℤ z
turned false z = z

-- the terms, negated where the flag is set
abbrev pub turned_terms : Bool → List Term → List Term
turned_terms negate ts = map (λ t. (t.0, turned negate t.1)) ts
