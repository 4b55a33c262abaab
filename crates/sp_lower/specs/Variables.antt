-- The bounds that a model states of variables, and the cores of the semi-integer ones.
use Rattle.std.specs.Prelude.{ℕ, suc, if◌then◌else◌, List, [], ◌∷◌, Option, None, Some, option_map, ℤ, pos}
use Rattle.sp_model.specs.Stated.{Core, widened}
use Rattle.sp_draft.specs.declared.drafts.DraftVar.{DraftVar}
use Rattle.sp_lower.specs.Bounds.{least_of, greatest_of}

-- the core of two bounds; where one is missing, the other stands for both
abbrev pub core_between : Option ℤ → Option ℤ → ℤ × ℤ
core_between (Some l) (Some u) = (l, u)
core_between (Some l) None = (l, l)
core_between None (Some u) = (u, u)
core_between None None = (pos 0, pos 0)

-- the core of the variable at j
abbrev pub core_of : ℕ → DraftVar → Core
core_of j v = (j, (core_between (least_of v) (greatest_of v)).0, (core_between (least_of v) (greatest_of v)).1)

-- the bounds of a semi-integer variable that are there are widened so that 0 is within them
abbrev pub stated_lower : DraftVar → Option ℤ
stated_lower v = if v.semi then option_map (λ l. (widened (core_of 0 v)).0) (least_of v) else least_of v

abbrev pub stated_upper : DraftVar → Option ℤ
stated_upper v = if v.semi then option_map (λ u. (widened (core_of 0 v)).1) (greatest_of v) else greatest_of v

-- the cores of the semi-integer variables, where the places of the variables are counted from j
abbrev pub cores_from : ℕ → List DraftVar → List Core
cores_from j [] = []
cores_from j (v ∷ vs) = if v.semi then core_of j v ∷ cores_from (suc j) vs else cores_from (suc j) vs
