-- What private functions say of the lists that get rows.
use Rattle.std.specs.Prelude.{◌≡◌, ℕ, ◌+◌, ◌-◌, ◌*◌, ◌^◌, ◌<◌, ◌≤◌, List, [], ◌∷◌, ◌++◌, cond, length, map, All, IsSome, Option, None, unwrap_or, ℤ, pos, unsigned_abs}
use Rattle.std.specs.Ordering.{int_eq}
use Rattle.sp_model.specs.declared.parts.Row.{Row}
use Rattle.sp_model.specs.declared.parts.ModelParts.{ModelParts}
use Rattle.sp_model.specs.Boxes.{Bounds}
use Rattle.sp_model.specs.Models.{root_of}
use Rattle.sp_model.specs.Sums.{Term, reach}
use Rattle.sp_sums.specs.Rows.{IsRowFit, RowsOver, row_at}
use Rattle.sp_dual.specs.Lists.{MultiplierList}
use Rattle.sp_bound.specs.declared.keeping.Draft.{Draft}
use Rattle.sp_bound.specs.declared.keeping.Owner.{Owner}
use Rattle.sp_bound.specs.declared.keeping.Sides.{Sides}
use Rattle.sp_bound.specs.declared.keeping.Sides.TheVariants.{Missing, Wide, Of}
use Rattle.sp_bound.specs.Bounds.{Weight, side_product, total}
use Rattle.sp_bound.specs.Closing.{named_side}
use Rattle.sp_bound.specs.Inner.{AreReduced, cost_at, sizes, spread}
use Rattle.sp_bound.specs.KeptBounds.{AreCovered, AreOwned, cost_terms}

-- there is one weight, and its row lacks the side
pub record LacksSide (rows : List Row) (ws : List Weight) : Type 0 where
  pub weight : Weight
  pub alone : ws ≡ weight ∷ []
  pub missing : named_side (row_at rows weight.0) weight.1 ≡ None

-- the products of the sides are the same on each box, and p in all
pub record HasSides (rows : List Row) (ws : List Weight) (p : ℤ) : Type 0 where
  pub same : (b c : Bounds) → map (side_product b rows) ws ≡ map (side_product c rows) ws
  pub total_is : (b : Bounds) → total (map (side_product b rows) ws) ≡ p
  pub size_is : (b : Bounds) → sizes (map (side_product b rows) ws) ≡ unsigned_abs p
  pub small : unsigned_abs p ≤ 10 ^ 36

abbrev pub TellsSides : List Row → List Weight → Sides → Type 0
TellsSides rows ws Missing = LacksSide rows ws
TellsSides rows ws Wide = Unit {0}
TellsSides rows ws (Of p) = HasSides rows ws p

-- the cost of a variable, 0 where it has ended
abbrev pub cost_value : List (Option ℤ) → ℕ → ℤ
cost_value costs j = unwrap_or (cost_at costs j) (pos 0)

-- a cost is there, and this much of the room is left beside it
pub record LeavesRoom (room : ℕ) (cost : Option ℤ) (r : ℤ × ℤ) (rest : ℕ) : Type 0 where
  pub there : IsSome cost
  pub left : rest + unsigned_abs (unwrap_or cost (pos 0)) * reach r ≡ room

-- the terms of costs that are all there and within the room
pub record TellsTerms (root : Bounds) (costs : List (Option ℤ)) (room : ℕ) (ts : List Term) : Type 0 where
  pub there : (j : ℕ) → j < length root → IsSome (cost_at costs j)
  pub terms : ts ≡ cost_terms (cost_value costs) 0 root
  pub narrow : spread (cost_value costs) 0 root ≤ room

-- a term came where the value isn't 0, and the cost left this much of the room
pub record AddsCost (old new : List Term) (j : ℕ) (value : ℤ) (before : ℕ) (cost : Option ℤ) (r : ℤ × ℤ) (after : ℕ) : Type 0 where
  pub room : LeavesRoom before cost r after
  pub terms : new ≡ old ++ cond (int_eq value (pos 0)) [] ((j, value) ∷ [])

-- the place came among those that are asked
abbrev pub asking : Draft → ℕ → Draft
asking d p = record d { asked = d.asked ++ p ∷ [] }

-- the row of these terms came
abbrev pub keeping : Draft → ℕ → ℤ → List Term → Draft
keeping d p s ts = record d { rows = d.rows ++ record { terms = ts; lo = None; hi = None } ∷ []; owners = d.owners ++ record { place = p; sides = s } ∷ [] }

-- a list is asked, or its row came
pub data AsksOrKeeps (root : Bounds) (costs : List (Option ℤ)) (p : ℕ) (s : ℤ) (old new : Draft) : Type 0 where
  asks : new ≡ asking old p → AsksOrKeeps root costs p s old new
  keeps : (ts : List Term) → TellsTerms root costs (10 ^ 36 - unsigned_abs s) ts → new ≡ keeping old p s ts → AsksOrKeeps root costs p s old new

-- a list came: it lacks its side, or it is asked, or its row came
pub data AddsList (m : ModelParts) (l : MultiplierList) (p : ℕ) (old new : Draft) : Type 0 where
  is_idle : LacksSide m.rows l.y → new ≡ old → AddsList m l p old new
  is_asked : new ≡ asking old p → AddsList m l p old new
  is_kept : (costs : List (Option ℤ)) (s : ℤ) (ts : List Term) → AreReduced m l (length (root_of m)) costs → HasSides m.rows l.y s → TellsTerms (root_of m) costs (10 ^ 36 - unsigned_abs s) ts → new ≡ keeping old p s ts → AddsList m l p old new

-- the first so many lists stand in the draft
pub record IsDraftOf (m : ModelParts) (ls : List MultiplierList) (count : ℕ) (d : Draft) : Type 0 where
  pub owned : AreOwned m ls d.owners d.rows
  pub bare : (k : ℕ) → k < length d.rows → (row_at d.rows k).hi ≡ None
  pub fit : All (IsRowFit (root_of m)) d.rows
  pub covered : AreCovered m ls d.owners d.asked count
  pub few : length d.rows ≤ count

-- the sums of the draft's rows over the closed box, and the rest of the draft
pub record StandsOn (m : ModelParts) (d : Draft) (s : RowsOver) (os : List Owner) (ps : List ℕ) : Type 0 where
  pub sums : s ≡ record { root = root_of m; bounds = root_of m; rows = d.rows }
  pub owners : os ≡ d.owners
  pub asked : ps ≡ d.asked
