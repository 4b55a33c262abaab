use Rattle.std.proofs.Common.{◌≡◌, ◌≢◌, refl, ap, ◌∙◌, arith, length, rules, FitsSigned, to_z-of_z, true}
use Rattle.std.specs.Int.{w128}
use Rattle.std.proofs.lemmas.Bool.{false≢true}
use Rattle.sp_tree.specs.Trees.{is_held}
use Rattle.sp_cover.specs.Cover.{IsOpenAt}
use Rattle.sp_search.specs.States.{with_search}
use Rattle.sp_search.specs.declared.goals.Stepped.TheVariants.{Full}
use Rattle.sp_populate.proofs.CollectLemmas.{full-of, full-stuck, later-more, later-none, step-count}
use Rattle.sp_populate.proofs.KeepLemmas.{same-nodes, shut-join, step-keeps}
use Rattle.sp_populate.proofs.PreparedLemmas.{above-kept, cursor-kept, fit-kept, found-kept, later-kept, leaf-kept, proved-kept, room-kept, settled-kept, shut-kept}
use Rattle.sp_populate.proofs.SettledLemmas.{step-settles}
use Rattle.sp_populate.proofs.StayLemmas.{stays-proved}
use Rattle.sp_populate.proofs.populating.take_leaves.Goals as goal

pub loop-node-init : goal.loop-node-init
loop-node-init c =
    let s = c.args.state.now in
    record {
      state = c.proved-phase.ensures.state;
      run = later-none s c.args.cut.now c.args.filters.now c.args.node_limit (c.extensions_last.ensures.same s.search.tree);
      settled = c.requires.settled;
      touched = same-nodes s.search.tree.nodes;
      covered = λ h. h;
      count = refl;
      cursor = c.requires.cursor;
    }

pub step-requires-clause-known : goal.step-requires-clause-known
step-requires-clause-known c =
    let leaf : IsOpenAt c.loop-node.state.search.tree.nodes c.in-Some.node = rw (← c.tree.ensures.tree) c.in-Some.ensures.found in
    leaf-kept c.loop-node.state c.prepare.new.state c.in-Some.node c.prepare.ensures leaf

pub step-requires-clause-cursor : goal.step-requires-clause-cursor
step-requires-clause-cursor c =
    cursor-kept c.cursors_last.ensures c.loop-node.state c.prepare.new.state c.loop-node.cursor c.prepare.ensures c.loop-node.invariant.cursor

pub step-requires-clause-fits : goal.step-requires-clause-fits
step-requires-clause-fits c =
    let a = c.args.state.now in
    let b = c.loop-node.state in
    let s = c.prepare.new.state in
    let f : FitsSigned w128 c.args.cut.now = search rules in
    record {
      phase = (
        proved-kept b s c.prepare.ensures ∙ c.loop-node.invariant.run.proved ∙ c.requires.proved,
        rw (to_z-of_z f) (above-kept a b s c.args.cut.now c.args.filters.now c.args.node_limit c.loop-node.invariant.run c.prepare.ensures c.requires.above),
      );
      filters = fit-kept a b s c.args.cut.now c.args.filters.now c.args.node_limit c.loop-node.invariant.run c.prepare.ensures c.requires.fit;
    }

pub returns-in_err-stepped-clause-run : goal.returns-in_err-stepped-clause-run
returns-in_err-stepped-clause-run c =
    rw c.in_err-stepped.ensures.memory
    (later-kept c.extensions_last.ensures.joined c.args.state.now c.loop-node.state c.prepare.new.state c.args.cut.now c.args.filters.now c.args.node_limit c.loop-node.invariant.run c.prepare.ensures)

pub returns-in_err-stepped-clause-settled : goal.returns-in_err-stepped-clause-settled
returns-in_err-stepped-clause-settled c =
    rw c.in_err-stepped.ensures.memory (settled-kept c.args.cut.now (is_held c.args.filters.now) c.loop-node.state c.prepare.new.state c.prepare.ensures c.loop-node.invariant.settled)

pub returns-in_err-stepped-clause-touched : goal.returns-in_err-stepped-clause-touched
returns-in_err-stepped-clause-touched c =
    rw c.in_err-stepped.ensures.memory (shut-kept c.args.state.now.search.tree.nodes c.loop-node.state c.prepare.new.state c.prepare.ensures c.loop-node.invariant.touched)

pub returns-in_err-stepped-clause-covered : goal.returns-in_err-stepped-clause-covered
returns-in_err-stepped-clause-covered c = λ h. c.step.ensures.covered c.args.filters.now refl (c.prepare.ensures.covered c.args.filters.now (c.loop-node.invariant.covered h))

pub returns-then-is_full-clause-run : goal.returns-then-is_full-clause-run
returns-then-is_full-clause-run c =
    let s = c.prepare.new.state in
    let f : FitsSigned w128 c.args.cut.now = search rules in
    let steps = rw (to_z-of_z f) at c.in_ok-stepped.ensures.steps in
    let is : c.in_ok-stepped.stepped ≡ Full = c.if-is_full.ensures.0 refl in
    let full = full-of s.model s.search c.step.new.state.search c.args.cut.now _ c.in-Some.node c.args.node_limit c.in_ok-stepped.stepped is steps in
    let same : c.step.new.state ≡ s = c.step.ensures.rest ∙ ap (λ r. with_search s r) full.1 in
    rw same (later-kept c.extensions_last.ensures.joined c.args.state.now c.loop-node.state s c.args.cut.now c.args.filters.now c.args.node_limit c.loop-node.invariant.run c.prepare.ensures)

pub returns-then-is_full-clause-settled : goal.returns-then-is_full-clause-settled
returns-then-is_full-clause-settled c =
    let s = c.prepare.new.state in
    let f : FitsSigned w128 c.args.cut.now = search rules in
    let steps = rw (to_z-of_z f) at c.in_ok-stepped.ensures.steps in
    let is : c.in_ok-stepped.stepped ≡ Full = c.if-is_full.ensures.0 refl in
    let full = full-of s.model s.search c.step.new.state.search c.args.cut.now _ c.in-Some.node c.args.node_limit c.in_ok-stepped.stepped is steps in
    let same : c.step.new.state ≡ s = c.step.ensures.rest ∙ ap (λ r. with_search s r) full.1 in
    rw same (settled-kept c.args.cut.now (is_held c.args.filters.now) c.loop-node.state s c.prepare.ensures c.loop-node.invariant.settled)

pub returns-then-is_full-clause-touched : goal.returns-then-is_full-clause-touched
returns-then-is_full-clause-touched c =
    let s = c.prepare.new.state in
    let f : FitsSigned w128 c.args.cut.now = search rules in
    let steps = rw (to_z-of_z f) at c.in_ok-stepped.ensures.steps in
    let is : c.in_ok-stepped.stepped ≡ Full = c.if-is_full.ensures.0 refl in
    let full = full-of s.model s.search c.step.new.state.search c.args.cut.now _ c.in-Some.node c.args.node_limit c.in_ok-stepped.stepped is steps in
    let same : c.step.new.state ≡ s = c.step.ensures.rest ∙ ap (λ r. with_search s r) full.1 in
    rw same (shut-kept c.args.state.now.search.tree.nodes c.loop-node.state s c.prepare.ensures c.loop-node.invariant.touched)

pub returns-then-is_full-clause-covered : goal.returns-then-is_full-clause-covered
returns-then-is_full-clause-covered c = λ h. c.step.ensures.covered c.args.filters.now refl (c.prepare.ensures.covered c.args.filters.now (c.loop-node.invariant.covered h))

pub loop-node-smaller : goal.loop-node-smaller
loop-node-smaller c =
    let b = c.loop-node.state in
    let s = c.prepare.new.state in
    let leaf : IsOpenAt b.search.tree.nodes c.in-Some.node = rw (← c.tree.ensures.tree) c.in-Some.ensures.found in
    let go : c.in_ok-stepped.stepped ≢ Full = λ e. false≢true (c.if-is_full.ensures.1 e) in
    let less = c.steps_fall.ensures.falls s c.step.new.state _ c.in-Some.node c.args.node_limit c.in_ok-stepped.stepped c.prepare.ensures.state
    (leaf-kept b s c.in-Some.node c.prepare.ensures leaf) go c.in_ok-stepped.ensures.steps in
    rw (room-kept b s c.prepare.ensures) at less

pub loop-node-preserved : goal.loop-node-preserved
loop-node-preserved c =
    let a = c.args.state.now in
    let b = c.loop-node.state in
    let s = c.prepare.new.state in
    let new = c.step.new.state in
    let f : FitsSigned w128 c.args.cut.now = search rules in
    let steps = rw (to_z-of_z f) at c.in_ok-stepped.ensures.steps in
    let leaf : IsOpenAt b.search.tree.nodes c.in-Some.node = rw (← c.tree.ensures.tree) c.in-Some.ensures.found in
    let still : IsOpenAt s.search.tree.nodes c.in-Some.node = leaf-kept b s c.in-Some.node c.prepare.ensures leaf in
    let run = later-kept c.extensions_last.ensures.joined a b s c.args.cut.now c.args.filters.now c.args.node_limit c.loop-node.invariant.run c.prepare.ensures in
    let was : s.search.proved ≡ true = run.proved ∙ c.requires.proved in
    let is : new.search.proved ≡ true = stays-proved c.extensions_last.ensures.marks s new c.in-Some.node c.prepare.ensures.state c.step.ensures.state c.step.ensures.extends still was in
    let counted = step-count s.model s.search new.search c.args.cut.now _ c.in-Some.node c.args.node_limit c.in_ok-stepped.stepped steps in
    let same : length s.search.found ≡ length b.search.found = ap length (found-kept b s c.prepare.ensures) in
    let found = c.found_by-left.ensures.found in
    let few = c.found_by-left.ensures.few in
    let count = c.loop-node.invariant.count in
    let some = c.if-left-eq0.false in
    record {
      state = c.step.ensures.state;
      run = later-more c.extensions_last.ensures.joined a s new c.args.cut.now _ c.in-Some.node c.args.node_limit c.in_ok-stepped.stepped run c.step.ensures.rest c.step.ensures.extends was is steps;
      settled = step-settles s.model s.search new.search c.args.cut.now _ c.in-Some.node c.args.node_limit c.in_ok-stepped.stepped
          (settled-kept c.args.cut.now (is_held c.args.filters.now) b s c.prepare.ensures c.loop-node.invariant.settled) steps;
      touched = shut-join a.search.tree.nodes s.search.tree.nodes new.search.tree.nodes (shut-kept a.search.tree.nodes b s c.prepare.ensures c.loop-node.invariant.touched)
          (step-keeps s.model s.search new.search _ c.in-Some.node c.args.node_limit c.in_ok-stepped.stepped still steps);
      covered = λ h. c.step.ensures.covered c.args.filters.now refl (c.prepare.ensures.covered c.args.filters.now (c.loop-node.invariant.covered h));
      count = omega (arith, counted, same, found, few, count, some);
      cursor = c.step.ensures.cursor;
    }

pub returns-then-is_full-clause-ends : goal.returns-then-is_full-clause-ends
returns-then-is_full-clause-ends c =
    let b = c.loop-node.state in
    let s = c.prepare.new.state in
    let f : FitsSigned w128 c.args.cut.now = search rules in
    let steps = rw (to_z-of_z f) at c.in_ok-stepped.ensures.steps in
    let leaf : IsOpenAt b.search.tree.nodes c.in-Some.node = rw (← c.tree.ensures.tree) c.in-Some.ensures.found in
    let still : IsOpenAt s.search.tree.nodes c.in-Some.node = leaf-kept b s c.in-Some.node c.prepare.ensures leaf in
    let is : c.in_ok-stepped.stepped ≡ Full = c.if-is_full.ensures.0 refl in
    let full = full-of s.model s.search c.step.new.state.search c.args.cut.now _ c.in-Some.node c.args.node_limit c.in_ok-stepped.stepped is steps in
    let same : c.step.new.state ≡ s = c.step.ensures.rest ∙ ap (λ r. with_search s r) full.1 in
    let found : length s.search.found ≡ length b.search.found = ap length (found-kept b s c.prepare.ensures) in
    let count = c.loop-node.invariant.count in
    let some = c.if-left-eq0.false in
    rw same (record { stuck = full-stuck s c.args.cut.now _ c.in-Some.node c.args.node_limit still full.0; fewer = omega (arith, found, count, some) })

pub returns-clause-ends : goal.returns-clause-ends
returns-clause-ends c = rw (← c.tree.ensures.tree) c.in_default.ensures.none
