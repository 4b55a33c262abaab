use Rattle.std.proofs.Common.{ap}
use Rattle.sp_tree.specs.Splits.{box_at}
use Rattle.sp_cover.specs.Moves.{closed_as}
use Rattle.sp_search.specs.Steps.{IsUnclosed, aim_of}
use Rattle.sp_search.proofs.BoxLemmas.{single-from, unreasoned-filled}
use Rattle.sp_search.proofs.StepLemmas.{closes-may, settled-same}
use Rattle.sp_search.proofs.steps.advance.Goals as goal

pub find_only-requires-clause-single : goal.find_only-requires-clause-single
find_only-requires-clause-single c =
    let unclosed : IsUnclosed c.args.model.now c.args.search.now c.args.goal.now c.args.bounds.now = rw c.in-None.is at c.requires.kind in
    single-from c.args.bounds.now (unreasoned-filled c.args.model.now c.args.bounds.now unclosed.unreasoned) c.in-None-hinted_place.ensures.none

pub returns-in-Some-clause-done : goal.returns-in-Some-clause-done
returns-in-Some-clause-done c =
    let s = c.args.search.now in
    let closes = rw (c.in-Some.is, c.requires.ready.in_hand) at c.requires.kind in
    record {
      steps = record {
        kind = c.in-Some.kind;
        closes = closes;
        closed = settled-same c.close.new.self (closed_as s c.args.node c.in-Some.kind) c.close.ensures.closed;
      };
      search = c.close.ensures.search c.args.model.now (aim_of c.args.goal.now) c.requires.ready.search c.requires.ready.fits
          (closes-may c.args.model.now s c.args.goal.now (box_at s.tree.boxes c.args.node) c.in-Some.kind c.requires.ready.fits closes);
      extends = c.close.ensures.extends;
      phase = ap (λ t. t.proved) c.close.ensures.closed;
    }
