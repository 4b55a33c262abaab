-- What private functions say of the rows under another threshold.
use Rattle.std.specs.Prelude.{◌≡◌, ℕ, List, Option, ℤ}
use Rattle.sp_model.specs.declared.parts.ModelParts.{ModelParts}
use Rattle.sp_sums.specs.Rows.{RowsOver, with_upper}
use Rattle.sp_dual.specs.Lists.{MultiplierList}
use Rattle.sp_bound.specs.declared.keeping.Owner.{Owner}
use Rattle.sp_bound.specs.KeptBounds.{AreOwned, AreRaised, IsRaised, owner_at}

-- one row has the side of the threshold now
pub record RaisesRow (m : ModelParts) (t : Option ℤ) (ls : List MultiplierList) (os : List Owner) (at : ℕ) (old new : RowsOver) : Type 0 where
  pub side : Option ℤ
  pub set : new ≡ with_upper old at side
  pub tells : IsRaised m t ls (owner_at os at) side

-- the first so many rows have, and all else is as it was
pub record IsRaising (m : ModelParts) (t : Option ℤ) (ls : List MultiplierList) (os : List Owner) (count : ℕ) (old new : RowsOver) : Type 0 where
  pub root : new.root ≡ old.root
  pub bounds : new.bounds ≡ old.bounds
  pub owned : AreOwned m ls os new.rows
  pub raised : AreRaised m t ls os new.rows count
