-- What the end of a run says, from how its loop ended.
use Rattle.std.proofs.Common.{◌≡◌, ◌≢◌, ◌↔◌, ℕ, ◌+◌, ◌<◌, ◌≤◌, Bool, true, false, if◌then◌else◌, None, List, length, Result, Ok, Err, IfOk, OnOk, ℤ, refl, sym, ap, ◌∙◌, arith}
use Rattle.std.proofs.lemmas.Bool.{false≢true}
use Rattle.sp_model.specs.declared.gaps.Gaps.{Gaps}
use Rattle.sp_model.specs.declared.no_memory.NoMemory.{NoMemory}
use Rattle.sp_filter.specs.Held.{FilterList}
use Rattle.sp_tree.specs.declared.nodes.Node.{Node}
use Rattle.sp_tree.specs.declared.nodes.Kind.{Kind}
use Rattle.sp_tree.specs.declared.nodes.Kind.TheVariants.{Split, Open, Dead, Bounded, Screened, Point}
use Rattle.sp_tree.specs.Trees.{IsComplete, IsLicensed, is_held, node_at, open_node, split_of}
use Rattle.sp_cover.specs.Cover.{IsOpenAt, IsShut}
use Rattle.sp_search.specs.States.{StateOf}
use Rattle.sp_search.specs.Runs.{Ends, IsStuck}
use Rattle.sp_search.specs.declared.goals.Goal.{Goal}
use Rattle.sp_search.specs.declared.goals.Goal.TheVariants.{Improve}
use Rattle.sp_search.specs.declared.optima.OptEnd.{OptEnd}
use Rattle.sp_search.specs.declared.optima.OptEnd.TheVariants.{Optimal, Infeasible, NodeLimit as OptLimit}
use Rattle.sp_populate.specs.Complete.{IsCompleteFor, cut_under}
use Rattle.sp_populate.specs.Ends.{IsPopulateFull, PopEnds, collecting, found_before, goal_of}
use Rattle.sp_populate.specs.InnerEnds.{AreSettled, CollectEnds, IsLater, IsSettledKind}
use Rattle.sp_populate.specs.declared.populating.PopEnd.{PopEnd}
use Rattle.sp_populate.specs.declared.populating.PopEnd.TheVariants.{Done, NodeLimit, PopulateLimit}
use Rattle.sp_populate.proofs.PhaseLemmas.{cut-stays}

-- ---- complete trees

licensed-from : (cut : ℤ) (held : ℕ → Bool) (k : Kind) → IsSettledKind cut held k → k ≢ Open → split_of k ≡ None → IsLicensed cut held k
licensed-from cut held (Split var at left right) h apart leaf = cc
licensed-from cut held Open h apart leaf = absurd (apart refl)
licensed-from cut held (Dead reason) h apart leaf = tt
licensed-from cut held (Bounded bound) h apart leaf = h
licensed-from cut held (Screened f) h apart leaf = h
licensed-from cut held (Point serial) h apart leaf = tt

pub complete-from : (cut : ℤ) (held : ℕ → Bool) (nodes : List Node) → AreSettled cut held nodes → IsShut nodes → IsComplete cut held nodes
complete-from cut held nodes all shut i known leaf =
    licensed-from cut held (node_at nodes i).kind (all i open_node known) (λ e. shut i (record { known = known; open_is = e })) leaf

kind-unlicensed : (cut : ℤ) (held : ℕ → Bool) (k : Kind) → k ≡ Open → (split_of k ≡ None → IsLicensed cut held k) → ⊥
kind-unlicensed cut held k is h = let l = rw is at h in l refl

-- a complete tree has no open leaf
pub none-open : (cut : ℤ) (held : ℕ → Bool) (nodes : List Node) (i : ℕ) → IsComplete cut held nodes → IsOpenAt nodes i → ⊥
none-open cut held nodes i complete leaf = kind-unlicensed cut held (node_at nodes i).kind leaf.open_is (complete i leaf.known)

pub complete-shut : (cut : ℤ) (held : ℕ → Bool) (nodes : List Node) → IsComplete cut held nodes → IsShut nodes
complete-shut cut held nodes complete i leaf = none-open cut held nodes i complete leaf

-- ---- each answer

pub goal-collects : (proved : Bool) (goal other : Goal) (s : StateOf) (limit : ℕ) → proved ≡ true → IsStuck s goal limit → IsStuck s (if proved then goal else other) limit
goal-collects true goal other s limit e h = h
goal-collects false goal other s limit e h = cc

goal-improves : (proved : Bool) (goal other : Goal) (s : StateOf) (limit : ℕ) → proved ≡ false → IsStuck s goal limit → IsStuck s (if proved then other else goal) limit
goal-improves true goal other s limit e h = cc
goal-improves false goal other s limit e h = h

-- phase two ended so
pub tells : (old mid new : StateOf) (gaps : Gaps) (fs : FilterList) (node_limit found_limit : ℕ) (end : PopEnd) → IsLater mid new (cut_under gaps mid) fs node_limit
    → mid.search.proved ≡ true → AreSettled (cut_under gaps mid) (is_held fs) new.search.tree.nodes → found_before old new ≡ length mid.search.found → CollectEnds mid new (cut_under gaps mid) fs node_limit found_limit end → PopEnds old new gaps fs node_limit found_limit end
tells old mid new gaps fs node_limit found_limit Done run was all begins h =
    (run.proved ∙ was, rw (cut-stays mid new gaps run.rest run.best) (complete-from (cut_under gaps mid) (is_held fs) new.search.tree.nodes all h))
tells old mid new gaps fs node_limit found_limit NodeLimit run was all begins h =
    goal-collects new.search.proved (collecting (cut_under gaps new) fs) Improve new node_limit (run.proved ∙ was) (rw (cut-stays mid new gaps run.rest run.best) h.stuck)
tells old mid new gaps fs node_limit found_limit PopulateLimit run was all begins h =
    record { proved = run.proved ∙ was; found = h.found ∙ ap (λ n. n + found_limit) (sym begins); node = h.node; leaf = h.leaf }

-- phase one ended at the node limit
pub stopped : (s : StateOf) (gaps : Gaps) (fs : FilterList) (node_limit : ℕ) (end : OptEnd) → s.search.proved ≡ false → Ends s node_limit end → IsStuck s (goal_of gaps fs s) node_limit
stopped s gaps fs node_limit Optimal e h = absurd (false≢true (sym e ∙ h.0))
stopped s gaps fs node_limit Infeasible e h = absurd (false≢true (sym e ∙ h.0))
stopped s gaps fs node_limit OptLimit e h = goal-improves s.search.proved Improve (collecting (cut_under gaps s) fs) s node_limit e h.1

-- Done comes exactly with a complete tree
pub done-exactly : (old new : StateOf) (gaps : Gaps) (fs : FilterList) (node_limit found_limit : ℕ) (end : PopEnd) → PopEnds old new gaps fs node_limit found_limit end
    → (end ≡ Done) ↔ IsCompleteFor gaps fs new
done-exactly old new gaps fs node_limit found_limit Done h = (λ e. h.1, λ k. refl)
done-exactly old new gaps fs node_limit found_limit NodeLimit h =
    (λ e. cc, λ k. absurd (none-open (cut_under gaps new) (is_held fs) new.search.tree.nodes h.node k h.leaf))
done-exactly old new gaps fs node_limit found_limit PopulateLimit h =
    (λ e. cc, λ k. absurd (none-open (cut_under gaps new) (is_held fs) new.search.tree.nodes h.node k h.leaf))

-- and the populate limit exactly where so many points were found and a leaf is open
pub full-exactly : (old mid new : StateOf) (gaps : Gaps) (fs : FilterList) (node_limit found_limit : ℕ) (end : PopEnd) → IsLater mid new (cut_under gaps mid) fs node_limit
    → mid.search.proved ≡ true → found_before old new ≡ length mid.search.found → CollectEnds mid new (cut_under gaps mid) fs node_limit found_limit end
    → (end ≡ PopulateLimit) ↔ IsPopulateFull old new found_limit
full-exactly old mid new gaps fs node_limit found_limit Done run was begins h = (λ e. cc, λ k. absurd (h k.node k.leaf))
full-exactly old mid new gaps fs node_limit found_limit NodeLimit run was begins h =
    (λ e. cc, λ k. let is = k.found in let fewer = h.fewer in absurd (omega (arith, is, fewer, begins)))
full-exactly old mid new gaps fs node_limit found_limit PopulateLimit run was begins h =
    (λ e. record { proved = run.proved ∙ was; found = h.found ∙ ap (λ n. n + found_limit) (sym begins); node = h.node; leaf = h.leaf }, λ k. refl)

-- ---- answers that may be errors

pub map-ok : {P Q : PopEnd → Type 0} (r : Result PopEnd NoMemory) → ((end : PopEnd) → P end → Q end) → IfOk r P → IfOk r Q
map-ok (Ok end) f h = f end h
map-ok (Err e) f h = h

pub ok-is : (P : PopEnd → Type 0) (r : Result PopEnd NoMemory) (end : PopEnd) → r ≡ Ok end → IfOk r P → P end
ok-is P r end e h = rw e at h

-- ---- populate limits that don't stop

pub full-small : (old new : StateOf) (limit room : ℕ) → ((i : ℕ) → IsOpenAt new.search.tree.nodes i → length new.search.found < length new.search.tree.nodes)
    → length new.search.tree.nodes ≤ room → IsPopulateFull old new limit → room ≤ limit → ⊥
full-small old new limit room fewer small h big =
    let is = h.found in
    let less = fewer h.node h.leaf in
    omega (arith, is, less, small, big)

-- phase one was stopped
pub never-full : (old new : StateOf) (limit : ℕ) → new.search.proved ≡ false → (NodeLimit ≡ PopulateLimit) ↔ IsPopulateFull old new limit
never-full old new limit e = (λ k. cc, λ k. absurd (false≢true (sym e ∙ k.proved)))

pub on-ok : {P : Type 0} (r : Result PopEnd NoMemory) → P → OnOk r P
on-ok (Ok end) h = h
on-ok (Err e) h = tt
