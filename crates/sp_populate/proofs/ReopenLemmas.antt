-- A run that collects, from before its reopening.
use Rattle.std.proofs.Common.{◌≡◌, ℕ, ◌+◌, ◌≤◌, ◌⊎◌, inl, inr, map, length, ◌++◌, ℤ, ap, ◌∙◌, arith}
use Rattle.std.proofs.lemmas.List.{length-map}
use Rattle.sp_filter.specs.Held.{FilterList}
use Rattle.sp_tree.specs.Laws.{Extends}
use Rattle.sp_tree.specs.Trees.{is_held, reopened}
use Rattle.sp_cover.specs.Moves.{moved_to, reopened_tree}
use Rattle.sp_search.specs.States.{StateOf, with_search}
use Rattle.sp_populate.specs.InnerEnds.{AreSettled, CollectEnds, IsLater}
use Rattle.sp_populate.specs.declared.populating.PopEnd.{PopEnd}
use Rattle.sp_populate.specs.declared.populating.PopEnd.TheVariants.{Done, NodeLimit, PopulateLimit}
use Rattle.sp_populate.proofs.CollectLemmas.{Joined}
use Rattle.sp_populate.proofs.SettledLemmas.{reopened-settles}

abbrev pub IsReopened : StateOf → StateOf → ℤ → FilterList → Type 0
IsReopened mid r cut fs = r ≡ with_search mid (moved_to mid.search (reopened_tree cut (is_held fs) mid.search.tree))

size-from : (a b c limit : ℕ) → b ≡ a → (c ≤ limit) ⊎ (c ≤ b) → (c ≤ limit) ⊎ (c ≤ a)
size-from a b c limit e (inl h) = inl h
size-from a b c limit e (inr h) = inr (omega (arith, e, h))

same-size : (mid r : StateOf) (cut : ℤ) (fs : FilterList) → IsReopened mid r cut fs → length r.search.tree.nodes ≡ length mid.search.tree.nodes
same-size mid r cut fs e = ap (λ s. length s.search.tree.nodes) e ∙ length-map mid.search.tree.nodes (reopened cut (is_held fs))

pub reopened-proved : (mid r : StateOf) (cut : ℤ) (fs : FilterList) → IsReopened mid r cut fs → r.search.proved ≡ mid.search.proved
reopened-proved mid r cut fs e = ap (λ s. s.search.proved) e

pub reopened-best : (mid r : StateOf) (cut : ℤ) (fs : FilterList) → IsReopened mid r cut fs → r.search.best ≡ mid.search.best
reopened-best mid r cut fs e = ap (λ s. s.search.best) e

pub reopened-model : (mid r : StateOf) (cut : ℤ) (fs : FilterList) → IsReopened mid r cut fs → r.model ≡ mid.model
reopened-model mid r cut fs e = ap (λ s. s.model) e

pub reopened-all : (mid r : StateOf) (cut : ℤ) (fs : FilterList) → IsReopened mid r cut fs → AreSettled cut (is_held fs) r.search.tree.nodes
reopened-all mid r cut fs e =
    let is : r.search.tree.nodes ≡ map (reopened cut (is_held fs)) mid.search.tree.nodes = ap (λ s. s.search.tree.nodes) e in
    rw is (reopened-settles cut (is_held fs) mid.search.tree.nodes)

pub later-from : Joined → (mid r new : StateOf) (cut : ℤ) (fs : FilterList) (limit : ℕ) → IsReopened mid r cut fs → Extends mid.search.tree r.search.tree → IsLater r new cut fs limit
    → IsLater mid new cut fs limit
later-from join mid r new cut fs limit e extends run = record {
  rest = run.rest ∙ ap (λ s. with_search s new.search) e;
  extends = join mid.search.tree r.search.tree new.search.tree extends run.extends;
  size = size-from (length mid.search.tree.nodes) (length r.search.tree.nodes) (length new.search.tree.nodes) limit (same-size mid r cut fs e) run.size;
  best = run.best ∙ reopened-best mid r cut fs e;
  proved = run.proved ∙ reopened-proved mid r cut fs e;
  more = run.more;
  grows = run.grows ∙ ap (λ s. s.search.found ++ run.more) e;
  wanted = run.wanted;
}

pub ends-from : (mid r new : StateOf) (cut : ℤ) (fs : FilterList) (node_limit found_limit : ℕ) (end : PopEnd) → IsReopened mid r cut fs
    → CollectEnds r new cut fs node_limit found_limit end → CollectEnds mid new cut fs node_limit found_limit end
ends-from mid r new cut fs node_limit found_limit Done e h = h
ends-from mid r new cut fs node_limit found_limit NodeLimit e h =
    let same : length r.search.found ≡ length mid.search.found = ap (λ s. length s.search.found) e in
    let fewer = h.fewer in
    record { stuck = h.stuck; fewer = omega (arith, same, fewer) }
ends-from mid r new cut fs node_limit found_limit PopulateLimit e h =
    record { found = h.found ∙ ap (λ s. length s.search.found + found_limit) e; node = h.node; leaf = h.leaf; small = h.small }
