use Rattle.sp_model.proofs.ModelLemmas.{cores_known, rows_safe, indicators_known, indicators_safe, sets_known}
use Rattle.sp_model.proofs.feasibility.do_all_hold.Goals as goal

pub do_cores_hold-cores-requires : goal.do_cores_hold-cores-requires
do_cores_hold-cores-requires c =
    rw c.as_slice.ensures (cores_known c.args.parts.now c.args.x.now c.requires.lawful c.requires.within)

pub do_rows_hold-rows-requires : goal.do_rows_hold-rows-requires
do_rows_hold-rows-requires c =
    rw c.as_slice-2.ensures (rows_safe c.args.parts.now c.args.x.now c.requires.lawful c.requires.within)

pub do_indicators_hold-indicators-requires-clause-known : goal.do_indicators_hold-indicators-requires-clause-known
do_indicators_hold-indicators-requires-clause-known c =
    rw c.as_slice-3.ensures (indicators_known c.args.parts.now c.args.x.now c.requires.lawful c.requires.within)

pub do_indicators_hold-indicators-requires-clause-safe : goal.do_indicators_hold-indicators-requires-clause-safe
do_indicators_hold-indicators-requires-clause-safe c =
    rw c.as_slice-3.ensures (indicators_safe c.args.parts.now c.args.x.now c.requires.lawful c.requires.within)

pub do_sets_hold-requires : goal.do_sets_hold-requires
do_sets_hold-requires c =
    rw c.as_slice-4.ensures (sets_known c.args.parts.now c.args.x.now c.requires.lawful c.requires.within)
