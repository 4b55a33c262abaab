use Rattle.sp_model.specs.Rounds.{at_ends, least_end, greatest_end}
use Rattle.sp_model.proofs.tails.tails_before.Goals as goal

pub returns : goal.returns
returns c = λ ts h.
    record {
      least = rw (← c.ends_of-ends.ensures.least) (c.extended.ensures (at_ends least_end c.args.bounds.now ts) h.least);
      greatest = rw (← c.ends_of-ends.ensures.greatest) (c.extended-2.ensures (at_ends greatest_end c.args.bounds.now ts) h.greatest);
    }
