use Rattle.std.proofs.Common.{ap}
use Rattle.sp_model.specs.Boxes.{range_at}
use Rattle.sp_filter.proofs.TermLemmas.{near_small, far_small}
use Rattle.sp_filter.proofs.terms.most_of_weighted.Goals as goal

pub greater_multiple-requires-clause-low : goal.greater_multiple-requires-clause-low
greater_multiple-requires-clause-low c = near_small _ _ c.args.term.now.2 (range_at c.args.bounds.now c.args.term.now.0) (ap (λ r. r.0) c.distances_of.ensures) c.requires.small

pub greater_multiple-requires-clause-high : goal.greater_multiple-requires-clause-high
greater_multiple-requires-clause-high c = far_small _ _ c.args.term.now.2 (range_at c.args.bounds.now c.args.term.now.0) (ap (λ r. r.1) c.distances_of.ensures) c.requires.small
