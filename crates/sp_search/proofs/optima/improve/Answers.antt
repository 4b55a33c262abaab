use Rattle.std.proofs.Common.{◌≡◌, ◌≢◌, false, refl, ap, ◌∙◌}
use Rattle.std.proofs.lemmas.Bool.{false≢true}
use Rattle.sp_cover.specs.Cover.{IsOpenAt, IsShut}
use Rattle.sp_search.specs.States.{with_search}
use Rattle.sp_search.specs.declared.goals.Goal.TheVariants.{Improve}
use Rattle.sp_search.specs.declared.goals.Stepped.TheVariants.{Full}
use Rattle.sp_search.specs.declared.optima.OptEnd.TheVariants.{NodeLimit}
use Rattle.sp_search.proofs.MeasureLemmas.{Counts}
use Rattle.sp_search.proofs.PreparedLemmas.{cursor-prepared, full-stays, leaf-kept, model-prepared, proved-prepared, room-kept, run-prepared, shut-kept}
use Rattle.sp_search.proofs.RunLemmas.{full-of, full-stuck, model-stays, not-limit, phase-open, run-goes-on, step-falls, stuck-small}
use Rattle.sp_search.proofs.StayLemmas.{step-goes-on}
use Rattle.sp_search.proofs.optima.improve.Goals as goal

pub step-requires-clause-known : goal.step-requires-clause-known
step-requires-clause-known c =
    let leaf : IsOpenAt c.loop-node.state.search.tree.nodes c.in-Some.node = rw (← c.tree.ensures.tree) c.in-Some.ensures.found in
    leaf-kept c.loop-node.state.search.tree c.prepare.new.state.search.tree c.in-Some.node c.prepare.ensures.lists leaf

pub step-requires-clause-cursor : goal.step-requires-clause-cursor
step-requires-clause-cursor c =
    cursor-prepared c.cursors_last.ensures c.loop-node.state c.prepare.new.state c.loop-node.cursor c.prepare.ensures c.loop-node.invariant.cursor

pub returns-in_err-stepped-clause-run : goal.returns-in_err-stepped-clause-run
returns-in_err-stepped-clause-run c =
    rw c.in_err-stepped.ensures.memory (run-prepared c.extensions_last.ensures.joined c.args.state.now c.loop-node.state c.prepare.new.state c.args.node_limit c.loop-node.invariant.run c.prepare.ensures)

pub returns-in_err-stepped-clause-kept : goal.returns-in_err-stepped-clause-kept
returns-in_err-stepped-clause-kept c =
    rw c.in_err-stepped.ensures.memory (shut-kept c.args.state.now.search.tree.nodes c.loop-node.state.search.tree c.prepare.new.state.search.tree c.prepare.ensures.lists c.loop-node.invariant.kept)

pub returns-in_err-stepped-clause-covered : goal.returns-in_err-stepped-clause-covered
returns-in_err-stepped-clause-covered c = λ fs h. c.step.ensures.covered fs tt (c.prepare.ensures.covered fs (c.loop-node.invariant.covered fs h))

pub returns-then-is_full-clause-ends : goal.returns-then-is_full-clause-ends
returns-then-is_full-clause-ends c =
    let b = c.loop-node.state in
    let s = c.prepare.new.state in
    let leaf : IsOpenAt b.search.tree.nodes c.in-Some.node = rw (← c.tree.ensures.tree) c.in-Some.ensures.found in
    let still : IsOpenAt s.search.tree.nodes c.in-Some.node = leaf-kept b.search.tree s.search.tree c.in-Some.node c.prepare.ensures.lists leaf in
    let going : s.search.proved ≡ false = proved-prepared b s c.prepare.ensures ∙ c.loop-node.invariant.phase c.in-Some.node leaf in
    let is : c.in_ok-stepped.stepped ≡ Full = c.if-is_full.ensures.0 refl in
    let full = full-of s.model s.search c.step.new.state.search Improve c.in-Some.node c.args.node_limit c.in_ok-stepped.stepped is c.in_ok-stepped.ensures.steps in
    let stays = full-stays s.model s.search c.step.new.state.search Improve c.in-Some.node c.args.node_limit c.in_ok-stepped.stepped is c.in_ok-stepped.ensures.steps in
    let same : c.step.new.state ≡ s = c.step.ensures.rest ∙ ap (λ r. with_search s r) stays in
    rw same (going, full-stuck s Improve c.in-Some.node c.args.node_limit still full)

pub returns-then-is_full-clause-run : goal.returns-then-is_full-clause-run
returns-then-is_full-clause-run c =
    let s = c.prepare.new.state in
    let is : c.in_ok-stepped.stepped ≡ Full = c.if-is_full.ensures.0 refl in
    let stays = full-stays s.model s.search c.step.new.state.search Improve c.in-Some.node c.args.node_limit c.in_ok-stepped.stepped is c.in_ok-stepped.ensures.steps in
    let same : c.step.new.state ≡ s = c.step.ensures.rest ∙ ap (λ r. with_search s r) stays in
    rw same (run-prepared c.extensions_last.ensures.joined c.args.state.now c.loop-node.state s c.args.node_limit c.loop-node.invariant.run c.prepare.ensures)

pub returns-then-is_full-clause-kept : goal.returns-then-is_full-clause-kept
returns-then-is_full-clause-kept c =
    let s = c.prepare.new.state in
    let is : c.in_ok-stepped.stepped ≡ Full = c.if-is_full.ensures.0 refl in
    let stays = full-stays s.model s.search c.step.new.state.search Improve c.in-Some.node c.args.node_limit c.in_ok-stepped.stepped is c.in_ok-stepped.ensures.steps in
    rw stays (shut-kept c.args.state.now.search.tree.nodes c.loop-node.state.search.tree s.search.tree c.prepare.ensures.lists c.loop-node.invariant.kept)

pub returns-then-is_full-clause-covered : goal.returns-then-is_full-clause-covered
returns-then-is_full-clause-covered c = λ fs h. c.step.ensures.covered fs tt (c.prepare.ensures.covered fs (c.loop-node.invariant.covered fs h))

pub returns-then-is_full-clause-roomy : goal.returns-then-is_full-clause-roomy
returns-then-is_full-clause-roomy c = λ big e.
    let counts : Counts = record { sum = c.split_divides_count.ensures.sum; parts = c.split_divides_count.ensures.parts } in
    let s = c.prepare.new.state in
    let leaf : IsOpenAt c.loop-node.state.search.tree.nodes c.in-Some.node = rw (← c.tree.ensures.tree) c.in-Some.ensures.found in
    let still : IsOpenAt s.search.tree.nodes c.in-Some.node = leaf-kept c.loop-node.state.search.tree s.search.tree c.in-Some.node c.prepare.ensures.lists leaf in
    let is : c.in_ok-stepped.stepped ≡ Full = c.if-is_full.ensures.0 refl in
    let full = full-of s.model s.search c.step.new.state.search Improve c.in-Some.node c.args.node_limit c.in_ok-stepped.stepped is c.in_ok-stepped.ensures.steps in
    let same : s.model ≡ c.args.state.now.model = model-prepared c.loop-node.state s c.prepare.ensures ∙ model-stays c.args.state.now c.loop-node.state c.loop-node.invariant.run.rest in
    stuck-small counts s Improve c.args.node_limit c.prepare.ensures.state (full-stuck s Improve c.in-Some.node c.args.node_limit still full) (rw same big)

pub loop-node-smaller : goal.loop-node-smaller
loop-node-smaller c =
    let counts : Counts = record { sum = c.split_divides_count.ensures.sum; parts = c.split_divides_count.ensures.parts } in
    let s = c.prepare.new.state in
    let leaf : IsOpenAt c.loop-node.state.search.tree.nodes c.in-Some.node = rw (← c.tree.ensures.tree) c.in-Some.ensures.found in
    let still : IsOpenAt s.search.tree.nodes c.in-Some.node = leaf-kept c.loop-node.state.search.tree s.search.tree c.in-Some.node c.prepare.ensures.lists leaf in
    let go : c.in_ok-stepped.stepped ≢ Full = λ e. false≢true (c.if-is_full.ensures.1 e) in
    let less = step-falls counts s.model s.search c.step.new.state.search Improve c.in-Some.node c.args.node_limit c.in_ok-stepped.stepped c.prepare.ensures.state.search.grown still go c.in_ok-stepped.ensures.steps in
    rw (room-kept c.loop-node.state.search.tree s.search.tree c.prepare.ensures.lists) at less

pub loop-node-preserved : goal.loop-node-preserved
loop-node-preserved c =
    let b = c.loop-node.state in
    let s = c.prepare.new.state in
    let new = c.step.new.state in
    let run = run-prepared c.extensions_last.ensures.joined c.args.state.now b s c.args.node_limit c.loop-node.invariant.run c.prepare.ensures in
    let leaf : IsOpenAt b.search.tree.nodes c.in-Some.node = rw (← c.tree.ensures.tree) c.in-Some.ensures.found in
    let still : IsOpenAt s.search.tree.nodes c.in-Some.node = leaf-kept b.search.tree s.search.tree c.in-Some.node c.prepare.ensures.lists leaf in
    let going : s.search.proved ≡ false = proved-prepared b s c.prepare.ensures ∙ c.loop-node.invariant.phase c.in-Some.node leaf in
    record {
      state = c.step.ensures.state;
      run = run-goes-on c.extensions_last.ensures.joined c.args.state.now s new c.in-Some.node c.args.node_limit c.in_ok-stepped.stepped c.prepare.ensures.state run c.step.ensures.rest c.step.ensures.extends c.in_ok-stepped.ensures.steps;
      kept = step-goes-on c.args.state.now.search.tree.nodes s.model s.search new.search Improve c.in-Some.node c.args.node_limit c.in_ok-stepped.stepped
          (shut-kept c.args.state.now.search.tree.nodes b.search.tree s.search.tree c.prepare.ensures.lists c.loop-node.invariant.kept) still c.in_ok-stepped.ensures.steps;
      covered = λ fs h. c.step.ensures.covered fs tt (c.prepare.ensures.covered fs (c.loop-node.invariant.covered fs h));
      cursor = c.step.ensures.cursor;
      phase = phase-open new.search.proved s.search.proved new.search.tree.nodes c.step.ensures.phase going;
    }

pub returns-clause-ends : goal.returns-clause-ends
returns-clause-ends c = c.end_of.ensures c.args.node_limit

pub returns-clause-roomy : goal.returns-clause-roomy
returns-clause-roomy c = λ big e.
    let same : c.end_of.result ≡ NodeLimit = cc in
    let shut : IsShut c.loop-node.state.search.tree.nodes = rw (← c.tree.ensures.tree) c.in_default.ensures.none in
    not-limit c.loop-node.state c.args.node_limit c.end_of.result (c.loop-node.invariant.state.ended.proved shut) (c.end_of.ensures c.args.node_limit) same
