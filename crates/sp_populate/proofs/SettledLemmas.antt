-- Reopening, and each step that collects, leave leaves that are open or licensed.
use Rattle.std.proofs.Common.{◌≡◌, ℕ, zero, suc, ◌+◌, ◌<◌, Bool, true, false, cond, if◌then◌else◌, not, is_some, nat_lt, ◌==◌, List, [], ◌∷◌, map, length, slice_set, Option, None, Some, ℤ, ◌<ℤ◌, int_le, refl, ap, arith}
use Rattle.std.specs.Borrow.{Bor}
use Rattle.std.specs.List.{position, prefix_len}
use Rattle.std.proofs.lemmas.Bool.{false≢true, lt-ltb}
use Rattle.std.proofs.lemmas.Int.{ints}
use Rattle.std.proofs.lemmas.List.Elements.{All-append, All-map, All-set}
use Rattle.sp_model.specs.declared.parts.ModelParts.{ModelParts}
use Rattle.sp_model.specs.Boxes.{Bounds}
use Rattle.sp_filter.specs.declared.holding.Held.{Held}
use Rattle.sp_filter.specs.declared.kinds.Filter.{Filter}
use Rattle.sp_filter.specs.Held.{FilterList, filter_of}
use Rattle.sp_tree.specs.declared.nodes.Bound.{Bound}
use Rattle.sp_tree.specs.declared.nodes.Node.{Node}
use Rattle.sp_tree.specs.declared.nodes.Kind.{Kind}
use Rattle.sp_tree.specs.declared.nodes.Kind.TheVariants.{Split as SplitKind, Open, Dead, Bounded, Screened, Point}
use Rattle.sp_tree.specs.Splits.{box_at}
use Rattle.sp_tree.specs.Trees.{TreeOf, is_held, is_reopened_kind, node_at, open_node, opened, reopened, with_kind, with_kind_of}
use Rattle.sp_cover.specs.Cover.{SearchOf}
use Rattle.sp_cover.specs.Moves.{closed_as, found_as, settled}
use Rattle.sp_search.specs.Steps.{ClosesAs, Steps}
use Rattle.sp_search.specs.declared.goals.Goal.TheVariants.{Collect}
use Rattle.sp_search.specs.declared.goals.Stepped.{Stepped}
use Rattle.sp_search.specs.declared.goals.Stepped.TheVariants.{Split, Closed, Found as FoundPoint, Full}
use Rattle.sp_populate.specs.InnerEnds.{AreSettled, IsSettledKind}

-- ---- reopening

not-up-to : (least cut : ℤ) → int_le least cut ≡ false → cut <ℤ least
not-up-to least cut e = grind (arith, ints)

bounded-settles : (cut : ℤ) (held : ℕ → Bool) (bound : Bound) (n : Node) (b : Bool) → int_le bound.least cut ≡ b → n.kind ≡ Bounded bound
    → IsSettledKind cut held (cond b (opened n) n).kind
bounded-settles cut held bound n true e is = tt
bounded-settles cut held bound n false e is = rw is (not-up-to bound.least cut e)

screened-settles : (cut : ℤ) (held : ℕ → Bool) (f : ℕ) (n : Node) (b : Bool) → held f ≡ b → n.kind ≡ Screened f
    → IsSettledKind cut held (cond (not b) (opened n) n).kind
screened-settles cut held f n true e is = rw is e
screened-settles cut held f n false e is = tt

kind-settles : (cut : ℤ) (held : ℕ → Bool) (k : Kind) (n : Node) → n.kind ≡ k → IsSettledKind cut held (cond (is_reopened_kind cut held k) (opened n) n).kind
kind-settles cut held (SplitKind var at left right) n is = rw is tt
kind-settles cut held Open n is = rw is tt
kind-settles cut held (Dead reason) n is = rw is tt
kind-settles cut held (Bounded bound) n is = bounded-settles cut held bound n (int_le bound.least cut) refl is
kind-settles cut held (Screened f) n is = screened-settles cut held f n (held f) refl is
kind-settles cut held (Point serial) n is = rw is tt

pub reopened-settles : (cut : ℤ) (held : ℕ → Bool) (nodes : List Node) → AreSettled cut held (map (reopened cut held) nodes)
reopened-settles cut held nodes =
    All-map (λ n. IsSettledKind cut held n.kind) (reopened cut held) nodes (λ k d h. kind-settles cut held _ _ refl)

-- ---- filters held

less-step : (h : Held) (hs : List Held) (f : ℕ) (filter : Filter) (b : Bool) → (h.id == f) ≡ b → (if b then Some h.filter else filter_of hs f) ≡ Some filter
    → (filter_of hs f ≡ Some filter → prefix_len (λ k. not (k.id == f)) hs < length hs) → cond (not b) (1 + prefix_len (λ k. not (k.id == f)) hs) 0 < length (h ∷ hs)
less-step h hs f filter true e is rest = omega arith
less-step h hs f filter false e is rest = let k = rest is in omega (arith, k)

held-less : (hs : List Held) (f : ℕ) (filter : Filter) → filter_of hs f ≡ Some filter → prefix_len (λ k. not (k.id == f)) hs < length hs
held-less [] f filter e = cc
held-less (h ∷ hs) f filter e = less-step h hs f filter (h.id == f) refl e (held-less hs f filter)

some-there : (t : Bool) (k : ℕ) → t ≡ true → is_some (cond {A = Option ℕ} t (Some k) None) ≡ true
some-there true k h = refl
some-there false k h = absurd (false≢true h)

held-there : (hs : List Held) (f : ℕ) (filter : Filter) → filter_of hs f ≡ Some filter → is_some (position (λ h. h.id == f) hs) ≡ true
held-there hs f filter e =
    let before = prefix_len (λ k. not (k.id == f)) hs in
    some-there (nat_lt before (length hs)) before (lt-ltb before (length hs) (held-less hs f filter e))

-- ---- steps

closes-settles : (m : ModelParts) (s : SearchOf) (cut : ℤ) (r : Bor FilterList) (b : Bounds) (kind : Kind)
    → ClosesAs m s (Collect cut r) b kind → IsSettledKind cut (is_held r.now) kind
closes-settles m s cut r b (SplitKind var at left right) h = tt
closes-settles m s cut r b Open h = tt
closes-settles m s cut r b (Dead reason) h = tt
closes-settles m s cut r b (Bounded bound) h = h.1
closes-settles m s cut r b (Screened f) h = held-there r.now.held f h.filter h.held
closes-settles m s cut r b (Point serial) h = tt

kind-set : (cut : ℤ) (held : ℕ → Bool) (t : TreeOf) (id : ℕ) (kind : Kind) → AreSettled cut held t.nodes → IsSettledKind cut held kind → AreSettled cut held (with_kind t id kind).nodes
kind-set cut held t id kind all here = All-set (λ n. IsSettledKind cut held n.kind) t.nodes id (with_kind_of (node_at t.nodes id) kind) here all

nodes-of : (s t : SearchOf) → s ≡ t → s.tree.nodes ≡ t.tree.nodes
nodes-of s t e = ap (λ r. r.tree.nodes) e

two-open : (cut : ℤ) (held : ℕ → Bool) → AreSettled cut held (open_node ∷ open_node ∷ [])
two-open cut held zero d h = tt
two-open cut held (suc zero) d h = tt
two-open cut held (suc (suc k)) d h = absurd (omega (arith, h))

pub step-settles : (m : ModelParts) (old new : SearchOf) (cut : ℤ) (r : Bor FilterList) (node limit : ℕ) (stepped : Stepped)
    → AreSettled cut (is_held r.now) old.tree.nodes → Steps m old new (Collect cut r) node limit stepped
    → AreSettled cut (is_held r.now) new.tree.nodes
step-settles m old new cut r node limit Split all h =
    let n = with_kind_of (node_at old.tree.nodes node) (SplitKind h.var h.at h.left h.right) in
    rw h.splits.nodes_are (All-append (λ n. IsSettledKind cut (is_held r.now) n.kind) (slice_set old.tree.nodes node n) (open_node ∷ open_node ∷ [])
    (All-set (λ n. IsSettledKind cut (is_held r.now) n.kind) old.tree.nodes node n tt all) (two-open cut (is_held r.now)))
step-settles m old new cut r node limit Closed all h =
    rw (nodes-of new (settled (closed_as old node h.kind) new.proved) h.closed)
    (kind-set cut (is_held r.now) old.tree node h.kind all (closes-settles m old cut r (box_at old.tree.boxes node) h.kind h.closes))
step-settles m old new cut r node limit (FoundPoint serial) all h =
    rw (nodes-of new (settled (found_as old node h.point) new.proved) h.found) (kind-set cut (is_held r.now) old.tree node (Point (length old.found + 1)) all tt)
step-settles m old new cut r node limit Full all h = rw (nodes-of new old h.1) all
