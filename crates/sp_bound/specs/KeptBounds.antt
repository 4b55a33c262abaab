-- What kept bounds are of a model: its stated lists, of which some stand as rows over one box and others are asked.
use Rattle.std.specs.Prelude.{◌≡◌, ◌⊎◌, ℕ, suc, ◌<◌, cond, List, [], ◌∷◌, length, slice_index_or, All, Contains, Option, None, ℤ, pos}
use Rattle.std.specs.Ordering.{int_eq}
use Rattle.sp_model.specs.declared.parts.Row.{Row}
use Rattle.sp_model.specs.declared.parts.ModelParts.{ModelParts}
use Rattle.sp_model.specs.Boxes.{Bounds}
use Rattle.sp_model.specs.Models.{root_of}
use Rattle.sp_model.specs.Sums.{Term}
use Rattle.sp_sums.specs.Rows.{row_at}
use Rattle.sp_dual.specs.Lists.{MultiplierList}
use Rattle.sp_bound.specs.declared.kept.KeptBounds.{KeptBounds}
use Rattle.sp_bound.specs.declared.keeping.Owner.{Owner}
use Rattle.sp_bound.specs.Bounds.{reduced_cost}
use Rattle.sp_bound.specs.Closing.{IsIdle, list_at}
use Rattle.sp_bound.specs.Inner.{IsSafe, IsSideOf, side_total}
use Rattle.sp_bound.specs.StatedLists.{stated_lists}

-- a term for each cost that isn't 0, over these ranges, of which the first is that of variable j
abbrev pub cost_terms : (ℕ → ℤ) → ℕ → Bounds → List Term
cost_terms c j [] = []
cost_terms c j (r ∷ rs) = cond (int_eq (c j) (pos 0)) (cost_terms c (suc j) rs) ((j, c j) ∷ cost_terms c (suc j) rs)

-- a row belongs to a list that is safe: its terms are the reduced costs, and it has no least side
pub record IsOwned (m : ModelParts) (ls : List MultiplierList) (o : Owner) (row : Row) : Type 0 where
  pub known : o.place < length ls
  pub sides : o.sides ≡ side_total m (list_at ls o.place)
  pub safe : IsSafe m (list_at ls o.place)
  pub terms : row.terms ≡ cost_terms (reduced_cost m (list_at ls o.place)) 0 (root_of m)
  pub low : row.lo ≡ None

abbrev pub no_owner : Owner
no_owner = record { place = 0; sides = pos 0 }

abbrev pub owner_at : List Owner → ℕ → Owner
owner_at os k = slice_index_or os k no_owner

-- each row belongs to a list
pub record AreOwned (m : ModelParts) (ls : List MultiplierList) (os : List Owner) (rows : List Row) : Type 0 where
  pub paired : length os ≡ length rows
  pub each : (k : ℕ) → k < length rows → IsOwned m ls (owner_at os k) (row_at rows k)

-- the greatest side of a list's row is what a sum passes exactly where the bound passes the threshold
abbrev pub IsRaised : ModelParts → Option ℤ → List MultiplierList → Owner → Option ℤ → Type 0
IsRaised m t ls o hi = IsSideOf t m.constant (list_at ls o.place).d o.sides hi

-- the first so many rows have that side
pub record AreRaised (m : ModelParts) (t : Option ℤ) (ls : List MultiplierList) (os : List Owner) (rows : List Row) (count : ℕ) : Type 0 where
  pub each : (k : ℕ) → k < count → IsRaised m t ls (owner_at os k) (row_at rows k).hi

-- a row belongs to the list at a place
pub record HasRow (os : List Owner) (p : ℕ) : Type 0 where
  pub row : ℕ
  pub known : row < length os
  pub here : (owner_at os row).place ≡ p

-- each of the first so many lists has a row, is asked, or lacks its side
pub record AreCovered (m : ModelParts) (ls : List MultiplierList) (os : List Owner) (ps : List ℕ) (count : ℕ) : Type 0 where
  pub each : (p : ℕ) → p < count → (HasRow os p ⊎ Contains ps p) ⊎ IsIdle m (list_at ls p)
  pub asked : All (λ p. p < length ls) ps

abbrev pub lists_of : KeptBounds → List MultiplierList
lists_of k = k.lists.items

abbrev pub threshold_of : KeptBounds → Option ℤ
threshold_of k = k.threshold

abbrev pub bounds_of : KeptBounds → Bounds
bounds_of k = k.sums.bounds

-- all is as the model and the threshold have it over the box
pub record IsKeptOf (m : ModelParts) (k : KeptBounds) : Type 0 where
  pub stated : lists_of k ≡ stated_lists m
  pub rooted : k.sums.root ≡ root_of m
  pub owned : AreOwned m (lists_of k) k.owners k.sums.rows
  pub raised : AreRaised m (threshold_of k) (lists_of k) k.owners k.sums.rows (length k.sums.rows)
  pub covered : AreCovered m (lists_of k) k.owners k.asked (length (lists_of k))
