use Rattle.std.proofs.Common.{pos, map, get_or, ap, ◌∙◌}
use Rattle.std.proofs.lemmas.List.{drop_all, get_or_read}
use Rattle.sp_activity.specs.Stages.{is_core_broken}
use Rattle.sp_activity.proofs.UsesLemmas.{place_known, settling_map, settling_stop}
use Rattle.sp_activity.proofs.settling.settle_cores.Goals as goal

pub loop-place-preserved : goal.loop-place-preserved
loop-place-preserved c =
    let known = place_known (is_core_broken c.args.bounds.now) c.args.cores.now c.args.places.now c.loop-place.place-index c.loop-place.flags c.loop-place-test.true c.loop-place.invariant in
    let item = get_or_read c.args.cores.now (get_or c.args.places.now c.loop-place.place-index 0) c.index-cores-at.result known c.index-cores-at.is (0, pos 0, pos 0) in
    settling_map (is_core_broken c.args.bounds.now) c.args.cores.now (0, pos 0, pos 0) c.args.places.now c.loop-place.place-index c.loop-place.flags c.put.new.self c.is_core_broken-broken.result c.loop-place-test.true c.loop-place.invariant (c.is_core_broken-broken.ensures ∙ ap (is_core_broken c.args.bounds.now) item) c.put.ensures

pub returns : goal.returns
returns c =
    let d = drop_all c.loop-place.place-index c.args.places.now c.loop-place-test.false in
    settling_stop (map (is_core_broken c.args.bounds.now) c.args.cores.now) c.loop-place.flags (rw d at c.loop-place.invariant)
