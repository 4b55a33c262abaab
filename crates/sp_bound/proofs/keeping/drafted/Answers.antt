use Rattle.std.proofs.Common.{◌+◌, refl, ◌∙◌}
use Rattle.std.proofs.lemmas.List.{get_or_read}
use Rattle.sp_dual.specs.Lists.{zero_list}
use Rattle.sp_bound.proofs.DraftLemmas.{draft_turn}
use Rattle.sp_bound.proofs.keeping.drafted.Goals as goal

pub loop-at-preserved : goal.loop-at-preserved
loop-at-preserved c = record {
  drafted = draft_turn c.args.model.now c.args.lists.now c.loop-at.at (c.loop-at.at + 1) c.loop-at.at c.index-lists-at.result c.loop-at.draft c.add_list.new.draft refl refl (get_or_read c.args.lists.now c.loop-at.at c.index-lists-at.result c.loop-at-test.true c.index-lists-at.is zero_list) c.loop-at-test.true c.loop-at.invariant.drafted c.in_ok-add_list.ensures.added;
  long = c.in_ok-add_list.ensures.long ∙ c.loop-at.invariant.long;
}
