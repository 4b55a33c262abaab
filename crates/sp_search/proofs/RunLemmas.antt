-- A run of improving steps.
use Rattle.std.proofs.Common.{◌≡◌, ◌≢◌, ℕ, zero, suc, ◌+◌, ◌<◌, ◌≤◌, ◌⊎◌, inl, inr, Bool, true, false, Option, None, Some, List, [], ◌∷◌, ◌++◌, length, slice_index_or, slice_set, AllPairs, ℤ, ◌≤ℤ◌, ◌<ℤ◌, refl, sym, ap, ◌∙◌, arith, append_assoc, length-append}
use Rattle.std.proofs.lemmas.Int.{ints}
use Rattle.std.proofs.lemmas.List.{get_or_append_left, length-set}
use Rattle.std.proofs.Math.Seq.{get_or-append_seam}
use Rattle.std.proofs.lemmas.Bool.{false≢true}
use Rattle.sp_model.specs.declared.parts.ModelParts.{ModelParts}
use Rattle.sp_model.specs.Boxes.{point_count, room}
use Rattle.sp_model.specs.Models.{root_of}
use Rattle.sp_list.specs.declared.found.Found.{Found}
use Rattle.sp_tree.specs.declared.nodes.Node.{Node}
use Rattle.sp_tree.specs.declared.nodes.Kind.{Kind}
use Rattle.sp_tree.specs.declared.nodes.Kind.TheVariants.{Split as SplitKind, Open, Dead, Bounded, Screened, Point}
use Rattle.sp_tree.specs.Splits.{box_at}
use Rattle.sp_tree.specs.Trees.{IsGrown, SplitsNode, TreeOf, node_at, open_node, with_kind, with_kind_of}
use Rattle.sp_tree.specs.Laws.{Extends}
use Rattle.sp_cover.specs.Cover.{IsBest, IsOpenAt, IsSearch, IsShut, SearchOf, no_found}
use Rattle.sp_cover.specs.Moves.{IsBetter, closed_as, found_as, moved_to, settled}
use Rattle.sp_search.specs.States.{IsState, StateOf, with_search}
use Rattle.sp_search.specs.Steps.{ClosesAs, IsFull, Steps}
use Rattle.sp_search.specs.Runs.{Ends, IsFoundLater, IsRun, IsStuck}
use Rattle.sp_search.specs.declared.goals.Goal.{Goal}
use Rattle.sp_search.specs.declared.goals.Goal.TheVariants.{Improve}
use Rattle.sp_search.specs.declared.goals.Stepped.{Stepped}
use Rattle.sp_search.specs.declared.optima.OptEnd.{OptEnd}
use Rattle.sp_search.specs.declared.optima.OptEnd.TheVariants.{Optimal, Infeasible, NodeLimit}
use Rattle.sp_search.specs.declared.goals.Stepped.TheVariants.{Split, Closed, Found as FoundPoint, Full}
use Rattle.sp_search.proofs.BoxLemmas.{counted-from, unreasoned-filled}
use Rattle.sp_search.specs.Measures.{open_room, open_weight}
use Rattle.sp_search.proofs.MeasureLemmas.{Counts, closed-falls, roomy, split-falls}

-- ---- the measure

closes-shut : (m : ModelParts) (s : SearchOf) (goal : Goal) (b : List (ℤ × ℤ)) (kind : Kind) → ClosesAs m s goal b kind → (n : ℕ) → open_weight kind n ≡ 0
closes-shut m s goal b (SplitKind var at left right) h n = refl
closes-shut m s goal b Open h n = absurd h
closes-shut m s goal b (Dead reason) h n = refl
closes-shut m s goal b (Bounded bound) h n = refl
closes-shut m s goal b (Screened f) h n = refl
closes-shut m s goal b (Point serial) h n = refl

tree-of : (s t : SearchOf) → s ≡ t → s.tree ≡ t.tree
tree-of s t e = ap (λ r. r.tree) e

pub step-falls : Counts → (m : ModelParts) (old new : SearchOf) (goal : Goal) (node limit : ℕ) (stepped : Stepped)
    → IsGrown old.tree → IsOpenAt old.tree.nodes node → stepped ≢ Full → Steps m old new goal node limit stepped → open_room new.tree < open_room old.tree
step-falls l m old new goal node limit Split grown leaf go h =
    let b = box_at old.tree.boxes node in
    split-falls l old.tree new.tree node h.var h.at h.left h.right grown leaf h.lawful (counted-from b (unreasoned-filled m b h.unclosed.unreasoned)) h.splits
step-falls l m old new goal node limit Closed grown leaf go h =
    let b = box_at old.tree.boxes node in
    rw (tree-of new (settled (closed_as old node h.kind) new.proved) h.closed) (closed-falls old.tree node h.kind grown leaf (closes-shut m old goal b h.kind h.closes))
step-falls l m old new goal node limit (FoundPoint serial) grown leaf go h =
    rw (tree-of new (settled (found_as old node h.point) new.proved) h.found) (closed-falls old.tree node (Point (length old.found + 1)) grown leaf (λ n. refl))
step-falls l m old new goal node limit Full grown leaf go h = absurd (go refl)

-- ---- found points

last-or : (i n : ℕ) → i < suc n → (i < n) ⊎ (i ≡ n)
last-or zero zero h = inr refl
last-or zero (suc n) h = inl (omega arith)
last-or (suc i) zero h = absurd (omega (arith, h))
last-or (suc i) (suc n) h = elim (last-or i n (omega (arith, h))) [ inl k ↦ inl (omega (arith, k)) | inr e ↦ inr (ap suc e) ]

get_or-default : (found : List Found) (i : ℕ) (d e : Found) → i < length found → slice_index_or found i d ≡ slice_index_or found i e
get_or-default [] i d e h = absurd (omega (arith, h))
get_or-default (g ∷ found) zero d e h = refl
get_or-default (g ∷ found) (suc i) d e h = get_or-default found i d e (omega (arith, h))

below-all : (found : List Found) (f : Found) (best : Option ℤ) (i : ℕ) → IsBest found best → IsBetter best f.value → i < length found → f.value <ℤ (slice_index_or found i no_found).value
below-all found f None i h better i-in = let none = ap length h in absurd (omega (arith, none, i-in))
below-all found f (Some b) i h better i-in =
    let low : b ≤ℤ (slice_index_or found i no_found).value = h.least i i-in in
    let less : f.value <ℤ b = better in
    omega (arith, ints, low, less)

falls-more : (found : List Found) (f : Found) (best : Option ℤ) → IsBest found best → IsBetter best f.value → AllPairs (λ g h. h.value <ℤ g.value) found → AllPairs (λ g h. h.value <ℤ g.value) (found ++ (f ∷ []))
falls-more found f best is better falls i j d i-lt-j j-in =
    let long = length-append found (f ∷ []) in
    elim (last-or j (length found) (omega (arith, j-in, long))) [
      | inl l ↦ rw (get_or_append_left found (f ∷ []) d i (omega (arith, i-lt-j, l)), get_or_append_left found (f ∷ []) d j l) (falls i j d i-lt-j l)
      | inr e ↦ let i-in : i < length found = omega (arith, i-lt-j, e) in
          rw (e, get_or-append_seam found f [] d, get_or_append_left found (f ∷ []) d i i-in, get_or-default found i d no_found i-in) (below-all found f best i is better i-in)
    ]

append-none : (found : List Found) → found ++ [] ≡ found
append-none [] = refl
append-none (f ∷ found) = ap (λ g. f ∷ g) (append-none found)

pub same-found : (found : List Found) → IsFoundLater found found
same-found found = record { more = []; grows = sym (append-none found); falls = λ h. h }

pub joined-found : (a b c : List Found) → IsFoundLater a b → IsFoundLater b c → IsFoundLater a c
joined-found a b c h k = record { more = h.more ++ k.more; grows = k.grows ∙ ap (λ g. g ++ k.more) h.grows ∙ append_assoc a h.more k.more; falls = λ f. k.falls (h.falls f) }

found-of : (s t : SearchOf) → s ≡ t → s.found ≡ t.found
found-of s t e = ap (λ r. r.found) e

pub same-from : (a b : List Found) → b ≡ a → IsFoundLater a b
same-from a b e = rw e (same-found a)

step-found : (m : ModelParts) (old new : SearchOf) (node limit : ℕ) (stepped : Stepped) → IsSearch m old → Steps m old new Improve node limit stepped → IsFoundLater old.found new.found
step-found m old new node limit Split c h = same-from old.found new.found (found-of new (settled (moved_to old new.tree) new.proved) h.rest)
step-found m old new node limit Closed c h = same-from old.found new.found (found-of new (settled (closed_as old node h.kind) new.proved) h.closed)
step-found m old new node limit (FoundPoint serial) c h =
    let is : new.found ≡ old.found ++ (h.point ∷ []) = found-of new (settled (found_as old node h.point) new.proved) h.found in
    rw is (record { more = h.point ∷ []; grows = refl; falls = λ falls. falls-more old.found h.point old.best c.best h.wanted falls })
step-found m old new node limit Full c h = same-from old.found new.found (found-of new old h.1)

-- ---- the size

count-same : (s t : SearchOf) → s ≡ t → length s.tree.nodes ≡ length t.tree.nodes
count-same s t e = ap (λ r. length r.tree.nodes) e

kind-size : (t : TreeOf) (id : ℕ) (kind : Kind) → length (with_kind t id kind).nodes ≡ length t.nodes
kind-size t id kind = length-set t.nodes id (with_kind_of (node_at t.nodes id) kind)

split-size : (s t : TreeOf) (id var : ℕ) (at : ℤ) (left right : ℕ) → SplitsNode s t id var at left right → length t.nodes ≡ length s.nodes + 2
split-size s t id var at left right made =
    let n = with_kind_of (node_at s.nodes id) (SplitKind var at left right) in
    let set-long = length-set s.nodes id n in
    let long : length t.nodes ≡ length (slice_set s.nodes id n) + 2 = rw made.nodes_are (length-append (slice_set s.nodes id n) (open_node ∷ open_node ∷ [])) in
    omega (arith, long, set-long)

step-size : (m : ModelParts) (old new : SearchOf) (goal : Goal) (node limit : ℕ) (stepped : Stepped) → Steps m old new goal node limit stepped
    → (length new.tree.nodes ≤ limit) ⊎ (length new.tree.nodes ≤ length old.tree.nodes)
step-size m old new goal node limit Split h =
    let more = split-size old.tree new.tree node h.var h.at h.left h.right h.splits in
    let room = h.room in
    inl (omega (arith, more, room))
step-size m old new goal node limit Closed h =
    let same = count-same new (settled (closed_as old node h.kind) new.proved) h.closed in
    let long = kind-size old.tree node h.kind in
    inr (omega (arith, same, long))
step-size m old new goal node limit (FoundPoint serial) h =
    let same = count-same new (settled (found_as old node h.point) new.proved) h.found in
    let long = kind-size old.tree node (Point (length old.found + 1)) in
    inr (omega (arith, same, long))
step-size m old new goal node limit Full h = let same = count-same new old h.1 in inr (omega (arith, same))

-- ---- the run

pub run-begins : (s : StateOf) (limit : ℕ) → Extends s.search.tree s.search.tree → IsRun s s limit
run-begins s limit same = record { rest = refl; extends = same; size = inr (omega arith); found = same-found s.search.found }

size-joined : (a b c limit : ℕ) → (b ≤ limit) ⊎ (b ≤ a) → (c ≤ limit) ⊎ (c ≤ b) → (c ≤ limit) ⊎ (c ≤ a)
size-joined a b c limit (inl h) (inl k) = inl k
size-joined a b c limit (inl h) (inr k) = inl (omega (arith, h, k))
size-joined a b c limit (inr h) (inl k) = inl k
size-joined a b c limit (inr h) (inr k) = inr (omega (arith, h, k))

rest-joined : (a b c : StateOf) → b ≡ with_search a b.search → c ≡ with_search b c.search → c ≡ with_search a c.search
rest-joined a b c h k = k ∙ ap (λ s. with_search s c.search) h

abbrev pub Joined : Type 0
Joined = (a b c : TreeOf) → Extends a b → Extends b c → Extends a c

-- one more step of the run
pub run-goes-on : Joined → (a b c : StateOf) (node limit : ℕ) (stepped : Stepped) → IsState b → IsRun a b limit → c ≡ with_search b c.search → Extends b.search.tree c.search.tree
    → Steps b.model b.search c.search Improve node limit stepped → IsRun a c limit
run-goes-on join a b c node limit stepped st run rest extends steps =
    record {
      rest = rest-joined a b c run.rest rest;
      extends = join a.search.tree b.search.tree c.search.tree run.extends extends;
      size = size-joined (length a.search.tree.nodes) (length b.search.tree.nodes) (length c.search.tree.nodes) limit run.size (step-size b.model b.search c.search Improve node limit stepped steps);
      found = joined-found a.search.found b.search.found c.search.found run.found (step-found b.model b.search c.search node limit stepped st.search steps);
    }

-- a full tree has no room
pub stuck-small : Counts → (s : StateOf) (goal : Goal) (limit : ℕ) → IsState s → IsStuck s goal limit → room (point_count (root_of s.model)) ≤ limit → ⊥
stuck-small l s goal limit st h big =
    let full = h.full in
    let few = rw st.search.root at (roomy l s.search.tree h.node st.search.grown h.leaf full.many) in
    let none = full.no_room in
    omega (arith, few, none, big)

-- phase one goes on while a leaf is open
pub phase-open : (now before : Bool) (nodes : List Node) → (now ≡ true → (before ≡ true) ⊎ IsShut nodes) → before ≡ false → (i : ℕ) → IsOpenAt nodes i → now ≡ false
phase-open false before nodes h first i leaf = refl
phase-open true before nodes h first i leaf = elim (h refl) [ inl e ↦ absurd (false≢true (sym first ∙ e)) | inr shut ↦ absurd (shut i leaf) ]

-- a proved state is not stopped by the limit
pub not-limit : (s : StateOf) (limit : ℕ) (r : OptEnd) → s.search.proved ≡ true → Ends s limit r → r ≡ NodeLimit → ⊥
not-limit s limit Optimal done ends e = cc
not-limit s limit Infeasible done ends e = cc
not-limit s limit NodeLimit done ends e = false≢true (sym ends.0 ∙ done)

-- the end of a run on a full tree
pub full-stuck : (s : StateOf) (goal : Goal) (node limit : ℕ) → IsOpenAt s.search.tree.nodes node → IsFull s.model s.search goal node limit → IsStuck s goal limit
full-stuck s goal node limit leaf full = record { node = node; leaf = leaf; full = full }

pub model-stays : (a b : StateOf) → b ≡ with_search a b.search → b.model ≡ a.model
model-stays a b e = ap (λ s. s.model) e

pub full-of : (m : ModelParts) (old new : SearchOf) (goal : Goal) (node limit : ℕ) (stepped : Stepped) → stepped ≡ Full → Steps m old new goal node limit stepped → IsFull m old goal node limit
full-of m old new goal node limit stepped is h = let g = rw is at h in g.0
