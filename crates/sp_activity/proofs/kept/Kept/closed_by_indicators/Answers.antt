use Rattle.sp_activity.specs.Kept.{bounds_of}
use Rattle.sp_activity.specs.Stages.{IsFirstGate}
use Rattle.sp_activity.proofs.KeptLemmas.{gate_flag, gates_open}
use Rattle.sp_activity.proofs.NamedLemmas.{gate_named}
use Rattle.sp_activity.proofs.StepLemmas.{gate_span}
use Rattle.sp_activity.proofs.kept.Kept.closed_by_indicators.Goals as goal

pub closed_by_sets-requires-clause-indicators : goal.closed_by_sets-requires-clause-indicators
closed_by_sets-requires-clause-indicators c = record {
  rows = c.requires.rows;
  indicators = gates_open (bounds_of c.args.self.now) c.args.parts.now.indicators c.args.self.now.broken.gates c.requires.kept.broken.gates c.in-None.ensures;
}

pub returns-in-Some : goal.returns-in-Some
returns-in-Some c =
    let first = gate_flag (bounds_of c.args.self.now) c.args.parts.now.indicators c.args.self.now.broken.gates c.in-Some.id c.requires.kept.broken.gates c.in-Some.ensures in
    let here : IsFirstGate (bounds_of c.args.self.now) c.as_slice-indicators.result.now c.in-Some.id = rw c.as_slice-indicators.ensures first in
    let asked = rw c.new.ensures at c.span-span.ensures in
    let span = gate_span c.args.parts.now c.args.self.now c.in-Some.id c.as_slice-indicators.result.now c.index-indicators-id.result c.span-span.result c.requires.kept c.as_slice-indicators.ensures c.index-indicators-id.is first.known asked in
    gate_named c.args.parts.now (bounds_of c.args.self.now) c.as_slice-indicators.result.now c.in-Some.id c.index-indicators-id.result c.span-span.result c.gate_reason.result c.as_slice-indicators.ensures c.index-indicators-id.is span c.gate_reason.ensures c.requires.rows here
