-- What kept truths are of a model: its rows and the rows of its indicators over one box, and which items can't hold there.
use Rattle.std.specs.Prelude.{◌≡◌, ℕ, length, map, slice_set, ℤ}
use Rattle.sp_model.specs.declared.parts.ModelParts.{ModelParts}
use Rattle.sp_model.specs.Boxes.{Bounds}
use Rattle.sp_model.specs.Models.{root_of}
use Rattle.sp_sums.specs.Rows.{RowsOver}
use Rattle.sp_activity.specs.declared.kept.Kept.{Kept}
use Rattle.sp_activity.specs.declared.broken.Broken.{Broken}
use Rattle.sp_activity.specs.declared.uses.ModelUses.{ModelUses}
use Rattle.sp_activity.specs.Stages.{is_core_broken, is_gate_broken, is_set_broken}
use Rattle.sp_activity.specs.Uses.{AreUses, core_vars, gate_vars, set_vars}

-- which indicators, sets and cores can't hold over the box
pub record IsBrokenOf (m : ModelParts) (b : Bounds) (k : Broken) : Type 0 where
  pub gates : k.gates ≡ map (is_gate_broken b) m.indicators
  pub sets : k.sets ≡ map (is_set_broken b) m.sos
  pub cores : k.cores ≡ map (is_core_broken b) m.semi

-- the items of each of so many variables
pub record AreUsesOf (m : ModelParts) (count : ℕ) (u : ModelUses) : Type 0 where
  pub gates : AreUses count (map gate_vars m.indicators) u.gates
  pub sets : AreUses count (map set_vars m.sos) u.sets
  pub cores : AreUses count (map core_vars m.semi) u.cores

-- the rows of the model over a box, and the rows of its indicators
abbrev pub rows_over : ModelParts → Bounds → RowsOver
rows_over m b = record { root = root_of m; bounds = b; rows = m.rows }

abbrev pub gates_over : ModelParts → Bounds → RowsOver
gates_over m b = record { root = root_of m; bounds = b; rows = map (λ i. i.row) m.indicators }

-- the box that they are taken over
abbrev pub bounds_of : Kept → Bounds
bounds_of k = k.rows.bounds

-- all is as the model has it over the box
pub record IsKeptOf (m : ModelParts) (k : Kept) : Type 0 where
  pub rows : k.rows ≡ rows_over m (bounds_of k)
  pub gates : k.gates ≡ gates_over m (bounds_of k)
  pub broken : IsBrokenOf m (bounds_of k) k.broken
  pub uses : AreUsesOf m (length (root_of m)) k.uses

-- they were those over a box, one of whose ranges is another now
pub record IsMoved (m : ModelParts) (k : Broken) (j : ℕ) (q : ℤ × ℤ) (now : Bounds) : Type 0 where
  pub before : Bounds
  pub was : IsBrokenOf m before k
  pub moved : now ≡ slice_set before j q
