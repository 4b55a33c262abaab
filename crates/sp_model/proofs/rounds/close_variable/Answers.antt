use Rattle.std.proofs.Common.{◌≡◌, None, sym, ap, ◌∙◌}
use Rattle.sp_model.specs.Rounds.{hi_lower, hi_upper, lo_lower, lo_upper}
use Rattle.sp_model.specs.Stated.{open_at}
use Rattle.sp_model.proofs.RowLemmas.{write_same, same_range, closed_same}
use Rattle.sp_model.proofs.rounds.close_variable.Goals as goal

pub returns-clause-still : goal.returns-clause-still
returns-clause-still c = λ f.
    let r = open_at c.args.bounds.now c.index-var.result in
    let row = c.args.row.now in
    let a = c.args.term.now.1 in
    let least = c.args.others.now.least in
    let greatest = c.args.others.now.greatest in
    let e = c.after_rules-after.ensures in
    let lower = ap (λ s. s.0) e ∙ closed_same r.0 (hi_lower row.hi a least) (lo_lower row.lo a greatest) (rw e at (c.is_closer.ensures.lower f)) in
    let upper = ap (λ s. s.1) e ∙ closed_same r.1 (hi_upper row.hi a least) (lo_upper row.lo a greatest) (rw e at (c.is_closer.ensures.upper f)) in
    write_same c.args.bounds.now c.index-var.result c.after_rules-after.result (same_range c.after_rules-after.result r lower upper)
