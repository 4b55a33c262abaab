-- Special ordered sets: their members in order of weight.
use Rattle.std.specs.Prelude.{ℕ, ◌+◌, Bool, false, ◌||◌, ◌==◌, nat_lt, if◌then◌else◌, List, [], ◌∷◌, map, ℤ, int_lt}
use Rattle.std.specs.List.{list_any}
use Rattle.std.specs.Ordering.{int_eq}
use Rattle.sp_decimal.specs.DecimalFraction.{most_places}
use Rattle.sp_model.specs.declared.parts.Sos.{Sos}
use Rattle.sp_draft.specs.declared.drafts.DraftSos.{DraftSos}
use Rattle.sp_scaling.specs.Scaling.{WrittenTerm, units}

-- a member's weight, in units of 10^-30, the finest place that a decimal has
abbrev pub weight_of : WrittenTerm → ℤ
weight_of m = units most_places m.1

-- a member put before the first heavier one
abbrev pub placed : WrittenTerm → List WrittenTerm → List WrittenTerm
placed m [] = m ∷ []
placed m (n ∷ ms) = if int_lt (weight_of m) (weight_of n) then m ∷ n ∷ ms else n ∷ placed m ms

-- the members in order of weight
abbrev pub by_weight : List WrittenTerm → List WrittenTerm
by_weight [] = []
by_weight (m ∷ ms) = placed m (by_weight ms)

-- how many of the members pass a test
abbrev pub count_where : (WrittenTerm → Bool) → List WrittenTerm → ℕ
count_where test [] = 0
count_where test (m ∷ ms) = (if test m then 1 else 0) + count_where test ms

-- the member has this weight
abbrev pub weighs : ℤ → WrittenTerm → Bool
weighs weight m = int_eq weight (weight_of m)

-- two members have one weight
abbrev pub has_tie : List WrittenTerm → Bool
has_tie ms = list_any (λ m. nat_lt 1 (count_where (weighs (weight_of m)) ms)) ms

-- a variable stands there twice
abbrev pub has_twin : List ℕ → Bool
has_twin [] = false
has_twin (v ∷ vs) = list_any (λ w. v == w) vs || has_twin vs

-- the variables of a set in order of weight
abbrev pub members_of : DraftSos → List ℕ
members_of set = map (λ m. m.0) (by_weight set.members)

-- two weights of the set are equal, or a variable stands in it twice
abbrev pub is_bad_set : DraftSos → Bool
is_bad_set set = has_tie set.members || has_twin (members_of set)

-- the set of a model that it becomes
abbrev pub model_set : DraftSos → Sos
model_set set = record { kind = set.kind; vars = members_of set }
