use Rattle.std.proofs.Common.{◌≡◌, ℕ, ◌<◌}
use Rattle.sp_activity.specs.Kept.{IsKeptOf, bounds_of}
use Rattle.sp_activity.specs.Sides.{IsLooseAt}
use Rattle.sp_activity.proofs.kept.Kept.tighten.Given as goal

abbrev pub invariant-loop-at : goal.invariant-loop-at
invariant-loop-at l =
    record {
      kept : IsKeptOf l.model l.self;
      same : bounds_of l.self ≡ bounds_of l.fn.self;
      loose : (v : ℕ) → v < l.at → IsLooseAt l.model (bounds_of l.fn.self) v;
    }
