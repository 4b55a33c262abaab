use Rattle.std.proofs.Common.{ap}
use Rattle.sp_model.specs.Boxes.{range_at}
use Rattle.sp_filter.proofs.TermLemmas.{first_small, last_small}
use Rattle.sp_filter.proofs.terms.most_of_multiple.Goals as goal

pub greater_multiple-requires-clause-low : goal.greater_multiple-requires-clause-low
greater_multiple-requires-clause-low c = first_small _ _ (range_at c.args.bounds.now c.args.term.now.0) (ap (λ r. r.0) c.ends_of.ensures) c.requires.small

pub greater_multiple-requires-clause-high : goal.greater_multiple-requires-clause-high
greater_multiple-requires-clause-high c = last_small _ _ (range_at c.args.bounds.now c.args.term.now.0) (ap (λ r. r.1) c.ends_of.ensures) c.requires.small
