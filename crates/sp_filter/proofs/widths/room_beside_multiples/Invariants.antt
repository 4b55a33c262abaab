use Rattle.std.proofs.Common.{◌≡◌, ◌+◌, drop}
use Rattle.sp_model.specs.Models.{root_of}
use Rattle.sp_filter.specs.Filters.{count_total, multiple_width}
use Rattle.sp_filter.proofs.widths.room_beside_multiples.Given as goal

abbrev pub invariant-loop-term : goal.invariant-loop-term
invariant-loop-term l =
    l.left + count_total (multiple_width (root_of l.model)) l.terms ≡ l.room + count_total (multiple_width (root_of l.model)) (drop l.term-index l.terms)
