use Rattle.std.proofs.Common.{◌≡◌, ℕ, ◌<◌}
use Rattle.sp_activity.specs.Sides.{IsLooseAt}
use Rattle.sp_activity.proofs.sides.tighten.Given as goal

abbrev pub invariant-loop-at : goal.invariant-loop-at
invariant-loop-at l =
    record {
      same : l.bounds ≡ l.fn.bounds;
      loose : (v : ℕ) → v < l.at → IsLooseAt l.model l.fn.bounds v;
    }
