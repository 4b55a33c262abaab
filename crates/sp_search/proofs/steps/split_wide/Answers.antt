use Rattle.std.proofs.Common.{◌≡◌, Err, ap, ◌∙◌}
use Rattle.sp_model.specs.Boxes.{above, below, point_count}
use Rattle.sp_tree.specs.declared.refusals.SplitRefusal.TheVariants.{NodeLimit}
use Rattle.sp_search.proofs.BoxLemmas.{counted-from, some-points, unreasoned-filled}
use Rattle.sp_search.proofs.steps.split_wide.Goals as goal

pub split-requires-clause-filled : goal.split-requires-clause-filled
split-requires-clause-filled c =
    rw c.requires.ready.in_hand at (counted-from c.args.bounds.now (unreasoned-filled c.args.model.now c.args.bounds.now c.requires.unclosed.unreasoned))

pub returns-in-Err-NodeLimit-clause-done : goal.returns-in-Err-NodeLimit-clause-done
returns-in-Err-NodeLimit-clause-done c =
    let b = c.args.bounds.now in
    let v = c.args.place.now.0 in
    let at' = c.args.place.now.1 in
    let same = c.in-Err-NodeLimit.ensures.err in
    let why : c.split.result ≡ Err NodeLimit = c.in-Err-NodeLimit.is ∙ ap (λ e. Err e) c.in-Err-NodeLimit.field-0-is in
    let filled = counted-from b (unreasoned-filled c.args.model.now b c.requires.unclosed.unreasoned) in
    let many = some-points b (point_count (below b v at')) (point_count (above b v at')) (c.split_divides_count.ensures.sum b v at' c.requires.lawful) (c.split_divides_count.ensures.parts b v at' c.requires.lawful filled) in
    let unclosed = rw c.requires.ready.in_hand at c.requires.unclosed in
    record {
      steps = (record { no_room = c.split.ensures.limit.0 why; many = rw c.requires.ready.in_hand at many; unclosed = unclosed }, same);
      search = c.in-Err-NodeLimit.ensures.search c.args.model.now c.requires.ready.search unclosed.unreasoned;
      extends = c.in-Err-NodeLimit.ensures.extends;
      phase = ap (λ t. t.proved) same;
    }
