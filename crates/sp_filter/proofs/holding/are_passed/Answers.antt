use Rattle.std.proofs.Common.{sym, ◌∙◌}
use Rattle.std.proofs.lemmas.List.Sums.{AllPass-from_list_all, list_all-from_AllPass}
use Rattle.sp_filter.specs.declared.holding.Held.{Held}
use Rattle.sp_filter.specs.Filters.{is_passed}
use Rattle.sp_filter.proofs.holding.are_passed.Goals as goal

pub returns : goal.returns
returns c = (
  λ t. AllPass-from_list_all (λ (h : Held). is_passed h.filter c.args.x.now) c.args.held.now (sym c.are_all_passed.ensures ∙ t),
  λ p. c.are_all_passed.ensures ∙ list_all-from_AllPass (λ (h : Held). is_passed h.filter c.args.x.now) c.args.held.now p,
)
