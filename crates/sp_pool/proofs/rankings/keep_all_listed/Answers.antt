use Rattle.std.proofs.Common.{◌∙◌, ap, subst, sym, drop, ◌+◌, get_or}
use Rattle.std.proofs.lemmas.List.{get_or_default}
use Rattle.sp_pool.specs.InnerLines.{AreApart}
use Rattle.sp_pool.specs.InnerRanks.{swept}
use Rattle.sp_pool.proofs.SweepLemmas.{swept_more, unless_apart}
use Rattle.sp_pool.proofs.rankings.keep_all_listed.Goals as goal

pub loop-key-preserved : goal.loop-key-preserved
loop-key-preserved c = (
  ap (swept c.args.serials.now (drop (c.loop-key.key-index + 1) c.args.keys.now)) c.keep_listed.ensures.items
      ∙ swept_more c.args.serials.now c.args.keys.now c.loop-key.key-index (get_or c.args.keys.now c.loop-key.key-index 0) c.loop-key.line.items c.loop-key-test.true (get_or_default c.args.keys.now c.loop-key.key-index 0 _ c.loop-key-test.true)
      ∙ c.loop-key.invariant.0,
  subst AreApart (sym c.keep_listed.ensures.items) (unless_apart c.args.serials.now (get_or c.args.keys.now c.loop-key.key-index 0) c.loop-key.line.items c.loop-key.invariant.1),
  c.keep_listed.ensures.capacity ∙ c.loop-key.invariant.2,
)
