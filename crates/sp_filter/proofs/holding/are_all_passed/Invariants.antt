use Rattle.std.proofs.Common.{◌≡◌, drop}
use Rattle.std.specs.List.{list_all}
use Rattle.sp_filter.specs.declared.holding.Held.{Held}
use Rattle.sp_filter.specs.Filters.{is_passed}
use Rattle.sp_filter.proofs.holding.are_all_passed.Given as goal

abbrev pub invariant-loop-entry : goal.invariant-loop-entry
invariant-loop-entry l = list_all (λ (h : Held). is_passed h.filter l.x) (drop l.entry-index l.held) ≡ list_all (λ (h : Held). is_passed h.filter l.x) l.held
