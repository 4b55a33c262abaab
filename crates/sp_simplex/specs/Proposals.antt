-- What a proposed list keeps.
use Rattle.sp_model.specs.declared.parts.ModelParts.{ModelParts}
use Rattle.sp_dual.specs.Lists.{MultiplierList, IsWellFormed}
use Rattle.sp_bound.specs.Bounds.{AreRowsKnown}

-- the rules of lists, and each row is the model's
pub record IsProposal (m : ModelParts) (l : MultiplierList) : Type 0 where
  pub well_formed : IsWellFormed l
  pub known : AreRowsKnown m l
