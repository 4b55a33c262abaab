-- What a drafted filter becomes: whole numbers, in units of a power of ten.
use Rattle.std.specs.Prelude.{ℕ, ◌<◌, ◌≤ℤ◌, max, List, map, All, Option, None, Some, ℤ, pos}
use Rattle.std.specs.Option.{option_map}
use Rattle.sp_decimal.specs.DecimalFraction.{DecimalFraction}
use Rattle.sp_scaling.specs.Scaling.{most_places_of, numbers_of, units, scaled, collected}
use Rattle.sp_filter.specs.declared.drafting.FilterDraft.{FilterDraft}
use Rattle.sp_filter.specs.declared.drafting.FilterDraft.TheVariants.{Range as RangeDraft, Diversity as DiversityDraft}
use Rattle.sp_filter.specs.declared.kinds.Filter.{Filter}
use Rattle.sp_filter.specs.declared.kinds.Filter.TheVariants.{Range, Diversity}
use Rattle.sp_filter.specs.Filters.{Weighted}

-- a variable with its weight, as written, and its reference
abbrev pub WrittenWeighted : Type 0
WrittenWeighted = ℕ × DecimalFraction × ℤ

-- each term's variable is one of so many
abbrev pub AreDraftKnown : FilterDraft → ℕ → Type 0
AreDraftKnown (RangeDraft terms lo hi) count = All (λ t. t.0 < count) terms
AreDraftKnown (DiversityDraft terms lo hi) count = All (λ t. t.0 < count) terms

-- no weight of a diversity filter is negative
abbrev pub AreDraftWeightsLawful : FilterDraft → Type 0
AreDraftWeightsLawful (RangeDraft terms lo hi) = Unit {0}
AreDraftWeightsLawful (DiversityDraft terms lo hi) = All (λ t. pos 0 ≤ℤ t.1.p) terms

-- how many decimal places a bound has
abbrev pub bound_places : Option DecimalFraction → ℕ
bound_places None = 0
bound_places (Some d) = d.s

abbrev pub weight_places : List WrittenWeighted → ℕ
weight_places ts = most_places_of (map (λ t. t.1) ts)

-- the scale: the most decimal places of a coefficient or weight, or of a bound
abbrev pub places_of : FilterDraft → ℕ
places_of (RangeDraft terms lo hi) = max (most_places_of (numbers_of terms)) (max (bound_places lo) (bound_places hi))
places_of (DiversityDraft terms lo hi) = max (weight_places terms) (max (bound_places lo) (bound_places hi))

-- a bound in units of 10^-places
abbrev pub bound_units : ℕ → Option DecimalFraction → Option ℤ
bound_units places bound = option_map (units places) bound

-- weights in such units; the references stay
abbrev pub weighted_units : ℕ → List WrittenWeighted → List Weighted
weighted_units places ts = map (λ t. (t.0, units places t.1, t.2)) ts

-- the draft in such units, each term by itself
abbrev pub scaled_to : ℕ → FilterDraft → Filter
scaled_to places (RangeDraft terms lo hi) = Range (scaled places terms) (bound_units places lo) (bound_units places hi) places
scaled_to places (DiversityDraft terms lo hi) = Diversity (weighted_units places terms) (bound_units places lo) (bound_units places hi) places

-- the draft in units of its scale, as written
abbrev pub written : FilterDraft → Filter
written d = scaled_to (places_of d) d

-- the terms of one variable of a range filter added up, those of 0 left out, by rising variable; a diversity filter's terms stay
abbrev pub combined : Filter → Filter
combined (Range terms lo hi scale) = Range (collected terms) lo hi scale
combined (Diversity terms lo hi scale) = Diversity terms lo hi scale

-- the filter that a draft becomes
abbrev pub lowered : FilterDraft → Filter
lowered d = combined (written d)
