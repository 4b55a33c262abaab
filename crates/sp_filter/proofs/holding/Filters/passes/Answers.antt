use Rattle.sp_filter.proofs.holding.Filters.passes.Goals as goal

pub returns : goal.returns
returns c = rw (← c.self.view_is) (rw c.deref.ensures.value at c.are_passed.ensures)
