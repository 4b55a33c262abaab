-- The line that is printed for a point of a model.
use Rattle.std.specs.Prelude.{ℕ, Bool, cond, List, [], ◌∷◌, ◌++◌, codes, ℤ, pos, neg_ℤ}
use Rattle.std.specs.Fmt.{signed_decimal}
use Rattle.std.specs.Ordering.{int_eq}
use Rattle.sp_decimal.specs.Printing.{printed}
use Rattle.sp_model.specs.declared.parts.ModelParts.{ModelParts}
use Rattle.sp_model.specs.Models.{objective}
use Rattle.sp_draft.specs.Names.{Name}

-- an objective in the user's direction: negated back where the user maximises
abbrev pub in_user_direction : Bool → ℤ → ℤ
in_user_direction maximize v = cond maximize (neg_ℤ v) v

-- an objective in the user's direction and in the user's unit, as a decimal
abbrev pub objective_text : Bool → ℕ → ℤ → List ℕ
objective_text maximize places v = printed (in_user_direction maximize v) places

-- a variable with its value, where that isn't zero
unfoldable pub named_value : Name → ℤ → List ℕ
named_value name v = cond (int_eq v (pos 0)) [] (codes " " ++ name ++ codes " " ++ signed_decimal v)

-- the variables that aren't zero with their values, in declared order
abbrev pub named_values : List Name → List ℤ → List ℕ
named_values [] xs = []
named_values (n ∷ ns) [] = []
named_values (n ∷ ns) (x ∷ xs) = named_value n x ++ named_values ns xs

-- the line of a point of this objective: the objective, a blank and a colon, and the variables that aren't zero
abbrev pub point_line : List Name → Bool → ℕ → ℤ → List ℤ → List ℕ
point_line names maximize places v x = objective_text maximize places v ++ codes " :" ++ named_values names x ++ codes "\n"

-- the line of a point of the model
abbrev pub solution_line : List Name → ModelParts → List ℤ → List ℕ
solution_line names m x = point_line names m.maximize m.scale (objective m x) x
