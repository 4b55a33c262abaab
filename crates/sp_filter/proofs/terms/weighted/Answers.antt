use Rattle.std.proofs.Common.{◌∙◌, ap}
use Rattle.sp_model.specs.Boxes.{coordinate}
use Rattle.sp_filter.specs.Filters.{distance}
use Rattle.sp_filter.proofs.TermLemmas.{distance_small}
use Rattle.sp_filter.proofs.terms.weighted.Goals as goal

pub times-requires : goal.times-requires
times-requires c =
    distance_small c.args.x.now c.args.term.now _
    (c.distance_between.ensures ∙ ap (λ j. distance (coordinate c.args.x.now j) c.args.term.now.2) c.index.ensures) c.requires.small
