-- The greatest value is that of the last key.
use Rattle.std.proofs.Common.{◌∙◌, ap, not, List, ℕ, length, ◌-◌}
use Rattle.std.specs.Prelude.{slice_get}
use Rattle.std.specs.List.{list_any}
use Rattle.sp_pool.specs.InnerRanks.{Roll}
use Rattle.sp_pool.specs.Pools.{is_above}
use Rattle.sp_pool.proofs.RankLemmas.{exceeds_some, exceeds_none}
use Rattle.sp_pool.proofs.rankings.Ranking.exceeds.Goals as goal

pub returns-in-Some : goal.returns-in-Some
returns-in-Some c =
    ap not c.has_up_to.ensures
    ∙ exceeds_some c.self.inside.line c.self.inside.by_value.items c.in-Some.key.now c.args.value.now c.self.invariant.ranked (c.in-Some.ensures.value ∙ ap (λ (xs : List ℕ). slice_get xs (length xs - 1)) c.deref.ensures.value)
    ∙ ap (λ (r : Roll). list_any (is_above c.args.value.now) r.members) c.self.view_is

pub returns-in-None : goal.returns-in-None
returns-in-None c =
    exceeds_none c.self.inside.line c.self.inside.by_value.items c.args.value.now c.self.invariant.ranked (c.in-None.ensures.value ∙ ap (λ (xs : List ℕ). slice_get xs (length xs - 1)) c.deref.ensures.value)
    ∙ ap (λ (r : Roll). list_any (is_above c.args.value.now) r.members) c.self.view_is
