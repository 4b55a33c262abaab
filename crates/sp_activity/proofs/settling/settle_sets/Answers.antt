use Rattle.std.proofs.Common.{map, get_or, ap, ◌∙◌}
use Rattle.std.proofs.lemmas.List.{drop_all, get_or_read}
use Rattle.sp_activity.specs.Reasons.{bare_set}
use Rattle.sp_activity.specs.Stages.{is_set_broken}
use Rattle.sp_activity.proofs.UsesLemmas.{place_known, settling_map, settling_stop}
use Rattle.sp_activity.proofs.settling.settle_sets.Goals as goal

pub loop-place-preserved : goal.loop-place-preserved
loop-place-preserved c =
    let known = place_known (is_set_broken c.args.bounds.now) c.args.sets.now c.args.places.now c.loop-place.place-index c.loop-place.flags c.loop-place-test.true c.loop-place.invariant in
    let item = get_or_read c.args.sets.now (get_or c.args.places.now c.loop-place.place-index 0) c.index-sets-at.result known c.index-sets-at.is bare_set in
    settling_map (is_set_broken c.args.bounds.now) c.args.sets.now bare_set c.args.places.now c.loop-place.place-index c.loop-place.flags c.put.new.self c.is_set_broken-broken.result c.loop-place-test.true c.loop-place.invariant (c.is_set_broken-broken.ensures ∙ ap (is_set_broken c.args.bounds.now) item) c.put.ensures

pub returns : goal.returns
returns c =
    let d = drop_all c.loop-place.place-index c.args.places.now c.loop-place-test.false in
    settling_stop (map (is_set_broken c.args.bounds.now) c.args.sets.now) c.loop-place.flags (rw d at c.loop-place.invariant)
