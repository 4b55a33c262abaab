use Rattle.std.proofs.Common.{◌≡◌, length}
use Rattle.std.specs.Prelude.{All}
use Rattle.sp_command.specs.Lawful.{IsDistance}
use Rattle.sp_base.specs.Fields.{fields}
use Rattle.sp_command.specs.Filters.{distances_from}
use Rattle.sp_command.specs.InnerResults.{after_distances}
use Rattle.sp_command.proofs.diversity.terms.Given as goal

-- the terms so far, and those of the words that are left
abbrev pub invariant-loop-word : goal.invariant-loop-word
invariant-loop-word l = (distances_from (fields l.text) ≡ after_distances l.terms (distances_from (fields l.rest))) × All IsDistance l.terms

abbrev pub decreases-loop-word : goal.decreases-loop-word
decreases-loop-word l = length l.rest
