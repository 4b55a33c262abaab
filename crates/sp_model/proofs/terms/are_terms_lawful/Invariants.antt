use Rattle.std.proofs.Common.{◌≡◌, drop}
use Rattle.sp_model.specs.Rounds.{terms_rise}
use Rattle.sp_model.proofs.terms.are_terms_lawful.Given as goal

abbrev pub invariant-loop-term : goal.invariant-loop-term
invariant-loop-term l = terms_rise l.count l.next (drop l.term-index l.terms) ≡ terms_rise l.count 0 l.terms
