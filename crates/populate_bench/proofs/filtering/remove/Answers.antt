use Rattle.std.proofs.Common.{◌≡◌, Result, Ok, Err, OnOk, OnErr}
use Rattle.sp_model.specs.declared.parts.ModelParts.{ModelParts}
use Rattle.sp_filter.specs.Held.{FilterList, without_filter}
use Rattle.sp_search.specs.States.{AreFit}
use Rattle.populate_bench.proofs.filtering.remove.Goals as goal

fit-after : {X E : Type 0} (m : ModelParts) (old new without : FilterList) (r : Result X E) → OnOk r (new ≡ without) → OnErr r (new ≡ old) → AreFit m old → AreFit m without → AreFit m new
fit-after m old new without (Ok x) e f h k = rw e k
fit-after m old new without (Err x) e f h k = rw f h

pub returns-clause-fit : goal.returns-clause-fit
returns-clause-fit c = λ h.
    let old = c.args.filters.now in
    fit-after c.args.model.now old c.remove.new.self (without_filter old c.args.name.now) c.remove.result c.remove.ensures.ok c.remove.ensures.err h
    (c.changed_filters_keep_the_cover.ensures.still_fit c.args.model.now old c.args.name.now h)
