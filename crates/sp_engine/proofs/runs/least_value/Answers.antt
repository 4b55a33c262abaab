use Rattle.std.proofs.Common.{refl, sym}
use Rattle.sp_engine.proofs.FirstRunLemmas.{none_best}
use Rattle.sp_engine.proofs.runs.least_value.Goals as goal

pub returns-in-None : goal.returns-in-None
returns-in-None c =
    let s = c.args.state.now in
    sym (none_best s.search.found s.search.best c.proved-phase.ensures.state.search.best (c.in-None.ensures.none.0 refl))
