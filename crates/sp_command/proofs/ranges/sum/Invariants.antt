use Rattle.std.proofs.Common.{◌≡◌, length}
use Rattle.sp_base.specs.Fields.{fields}
use Rattle.sp_command.specs.declared.places.Place.TheVariants.{First}
use Rattle.sp_command.specs.Filters.{sum_from}
use Rattle.sp_command.specs.InnerResults.{after_terms}
use Rattle.sp_command.proofs.ranges.sum.Given as goal

-- the terms so far, and those of the words that are left
abbrev pub invariant-loop-word : goal.invariant-loop-word
invariant-loop-word l = sum_from First (fields l.text) ≡ after_terms l.terms (sum_from l.place (fields l.rest))

abbrev pub decreases-loop-word : goal.decreases-loop-word
decreases-loop-word l = length l.rest
