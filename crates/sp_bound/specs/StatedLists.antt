-- The stated lists of a model: the empty one, and for each term that has a cost the list of its row that leaves nothing of that cost.
use Rattle.std.specs.Prelude.{ℕ, suc, ◌≤◌, ◌==◌, Bool, true, false, ◌&&◌, cond, List, [], ◌∷◌, ◌++◌, length, take, ℤ, pos, neg_ℤ, int_lt, unsigned_abs}
use Rattle.std.specs.List.{list_any}
use Rattle.std.specs.Ordering.{int_eq}
use Rattle.sp_model.specs.declared.parts.Row.{Row}
use Rattle.sp_model.specs.declared.parts.ModelParts.{ModelParts}
use Rattle.sp_model.specs.Sums.{Term}
use Rattle.sp_dual.specs.Lists.{MultiplierList, IsWellFormed, zero_list}
use Rattle.sp_bound.specs.Bounds.{AreRowsKnown, Weight, coefficient_in}

-- row i with the multiplier that leaves nothing of a cost of c, where the coefficient is a
abbrev pub single_list : ℕ → ℤ → ℤ → MultiplierList
single_list i a c = record { d = pos (unsigned_abs a); y = (i, cond (int_lt (pos 0) a) c (neg_ℤ c)) ∷ [] }

-- the lists of row i: of each term whose variable has a cost
abbrev pub lists_of_terms : List Term → ℕ → List Term → List MultiplierList
lists_of_terms cost i [] = []
lists_of_terms cost i (t ∷ ts) =
    cond (int_eq (coefficient_in cost t.0) (pos 0)) (lists_of_terms cost i ts)
    (single_list i t.1 (coefficient_in cost t.0) ∷ lists_of_terms cost i ts)

-- those of the rows from row i on
abbrev pub lists_of_rows : List Term → ℕ → List Row → List MultiplierList
lists_of_rows cost i [] = []
lists_of_rows cost i (row ∷ rows) = lists_of_terms cost i row.terms ++ lists_of_rows cost (suc i) rows

-- the same rows with the same multipliers
abbrev pub are_same_weights : List Weight → List Weight → Bool
are_same_weights [] [] = true
are_same_weights [] (w ∷ ws) = false
are_same_weights (v ∷ vs) [] = false
are_same_weights (v ∷ vs) (w ∷ ws) = ((v.0 == w.0) && int_eq v.1 w.1) && are_same_weights vs ws

abbrev pub is_same : MultiplierList → MultiplierList → Bool
is_same k l = int_eq k.d l.d && are_same_weights k.y l.y

-- without the lists that equal one that was seen, or one before them
abbrev pub new_lists : List MultiplierList → List MultiplierList → List MultiplierList
new_lists seen [] = []
new_lists seen (l ∷ ls) = cond (list_any (is_same l) seen) (new_lists seen ls) (l ∷ new_lists (seen ++ l ∷ []) ls)

-- the empty list, and the first 64 others
unfoldable pub stated_lists : ModelParts → List MultiplierList
stated_lists m = zero_list ∷ take 64 (new_lists (zero_list ∷ []) (lists_of_rows m.cost 0 m.rows))

-- what each of them keeps: the rules of lists, known rows, and at most one entry
pub record IsStated (m : ModelParts) (l : MultiplierList) : Type 0 where
  pub formed : IsWellFormed l
  pub known : AreRowsKnown m l
  pub short : length l.y ≤ 1
