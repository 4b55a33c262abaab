use Rattle.std.proofs.Common.{◌≡◌, ◌∙◌, ap, inl, inr, sym}
use Rattle.sp_tree.specs.Laws.{Extends}
use Rattle.sp_cover.specs.Cover.{IsShut, SearchOf}
use Rattle.sp_search.specs.InnerSteps.{IsStep}
use Rattle.sp_search.proofs.CursorLemmas.{some-lasts}
use Rattle.sp_search.proofs.StepLemmas.{stated-last, steps-settled}
use Rattle.sp_search.proofs.steps.work.Goals as goal

shut-there : (mid new : SearchOf) → new.tree ≡ mid.tree → IsShut mid.tree.nodes → IsShut new.tree.nodes
shut-there mid new e shut = rw e shut

pub returns-clause-cursor : goal.returns-clause-cursor
returns-clause-cursor c =
    let m = c.args.model.now in
    let old = c.args.search.now in
    let mid = c.work_by.new.search in
    let new = c.settle.new.self in
    let done : IsStep m old mid c.args.goal.now c.args.node c.args.node_limit c.in_ok-stepped.stepped = c.in_ok-stepped.ensures.done in
    let trees : new.tree ≡ mid.tree = ap (λ s. s.tree) c.settle.ensures.rest in
    let extends : Extends old.tree new.tree = rw trees done.extends in
    some-lasts c.cursors_last.ensures m old.tree new.tree c.work_by.new.cursor extends c.work_by.ensures.cursor

pub returns-clause-worked : goal.returns-clause-worked
returns-clause-worked c =
    let m = c.args.model.now in
    let old = c.args.search.now in
    let mid = c.work_by.new.search in
    let new = c.settle.new.self in
    let done : IsStep m old mid c.args.goal.now c.args.node c.args.node_limit c.in_ok-stepped.stepped = c.in_ok-stepped.ensures.done in
    let trees : new.tree ≡ mid.tree = ap (λ s. s.tree) c.settle.ensures.rest in
    let extends : Extends old.tree new.tree = rw trees done.extends in
    record {
      steps = steps-settled m old mid new c.args.goal.now c.args.node c.args.node_limit c.in_ok-stepped.stepped done.steps c.settle.ensures.rest
          (λ e. c.settle.ensures.still_open c.args.node (rw e c.requires.known));
      search = c.settle.ensures.search m c.requires.state.lawful done.search;
      ended = c.settle.ensures.ended;
      phase = λ e. elim (c.settle.ensures.phase e) [ inl was ↦ inl (sym done.phase ∙ was) | inr shut ↦ inr (shut-there mid new trees shut) ];
      extends = extends;
      lists = stated-last m old new c.args.stated c.requires.state.stated extends.table;
    }
