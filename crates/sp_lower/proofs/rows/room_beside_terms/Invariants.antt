use Rattle.std.proofs.Common.{◌≡◌, ◌+◌, ◌≤◌, length, drop}
use Rattle.sp_draft.specs.Drafts.{AreKnown}
use Rattle.sp_model.specs.Sums.{width_over}
use Rattle.sp_scaling.specs.Scaling.{greatest_width, most_places_of, numbers_of, scaled}
use Rattle.sp_lower.proofs.rows.room_beside_terms.Given as goal

abbrev pub invariant-loop-term : goal.invariant-loop-term
invariant-loop-term l =
    record {
      same : l.left + width_over l.root (scaled l.places l.terms) ≡ l.room + width_over l.root (scaled l.places (drop l.term-index l.terms));
      room : l.left ≤ greatest_width;
      scale : most_places_of (numbers_of (drop l.term-index l.terms)) ≤ l.places;
      known : AreKnown (length l.root) (drop l.term-index l.terms);
    }
