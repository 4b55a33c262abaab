use Rattle.std.proofs.Common.{length, map, set}
use Rattle.sp_activity.specs.Stages.{is_core_broken, is_gate_broken, is_set_broken}
use Rattle.sp_activity.specs.Uses.{IsSettling, uses_at}
use Rattle.sp_activity.proofs.KeptLemmas.{settling_cores, settling_gates, settling_sets}
use Rattle.sp_activity.proofs.broken.settle.Goals as goal

pub settle_gates-requires-clause-settling : goal.settle_gates-requires-clause-settling
settle_gates-requires-clause-settling c =
    let b = c.requires.moved.before in
    let from : IsSettling (map (is_gate_broken (set b c.args.var c.args.range.now)) c.args.parts.now.indicators) (uses_at c.args.uses.now.gates c.args.var) c.args.broken.now.gates =
    settling_gates b c.args.var c.args.range.now c.args.parts.now.indicators (length c.args.gates.now.bounds) c.args.uses.now.gates c.args.broken.now.gates c.requires.uses.gates c.requires.known c.requires.moved.was.gates in
    rw (c.as_slice.ensures, c.of.ensures, c.requires.moved.moved) from

pub settle_sets-requires-clause-settling : goal.settle_sets-requires-clause-settling
settle_sets-requires-clause-settling c =
    let b = c.requires.moved.before in
    let from : IsSettling (map (is_set_broken (set b c.args.var c.args.range.now)) c.args.parts.now.sos) (uses_at c.args.uses.now.sets c.args.var) c.args.broken.now.sets =
    settling_sets b c.args.var c.args.range.now c.args.parts.now.sos (length c.args.gates.now.bounds) c.args.uses.now.sets c.args.broken.now.sets c.requires.uses.sets c.requires.known c.requires.moved.was.sets in
    rw (c.bounds-bounds.ensures, c.as_slice-2.ensures, c.of-2.ensures, c.requires.moved.moved) from

pub settle_cores-requires-clause-settling : goal.settle_cores-requires-clause-settling
settle_cores-requires-clause-settling c =
    let b = c.requires.moved.before in
    let from : IsSettling (map (is_core_broken (set b c.args.var c.args.range.now)) c.args.parts.now.semi) (uses_at c.args.uses.now.cores c.args.var) c.args.broken.now.cores =
    settling_cores b c.args.var c.args.range.now c.args.parts.now.semi (length c.args.gates.now.bounds) c.args.uses.now.cores c.args.broken.now.cores c.requires.uses.cores c.requires.known c.requires.moved.was.cores in
    rw (c.bounds-bounds.ensures, c.as_slice-3.ensures, c.of-3.ensures, c.requires.moved.moved) from
