use Rattle.sp_model.specs.Boxes.{ranges}
use Rattle.sp_search.specs.InnerSteps.{AreSingle}
use Rattle.sp_search.proofs.BoxLemmas.{lower-alone}
use Rattle.sp_search.proofs.steps.only_point.Goals as goal

pub returns : goal.returns
returns c =
    let single : AreSingle (ranges c.bounds.inside.lower c.bounds.inside.upper) = rw (← c.bounds.view_is) at c.requires in
    rw (c.from_vec.ensures, c.in_ok-values.ensures.items, c.as_slice.ensures, ← c.bounds.view_is) (lower-alone c.bounds.inside.lower c.bounds.inside.upper c.bounds.invariant single)
