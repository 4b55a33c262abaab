-- A step touches open nodes alone.
use Rattle.std.proofs.Common.{◌≡◌, ℕ, zero, suc, ◌+◌, ◌<◌, inl, inr, List, [], ◌∷◌, ◌++◌, length, slice_set, refl, sym, ap, ◌∙◌, arith, length-append}
use Rattle.std.proofs.lemmas.List.{get_or_append_left, length-set}
use Rattle.sp_model.specs.declared.parts.ModelParts.{ModelParts}
use Rattle.sp_tree.specs.declared.nodes.Node.{Node}
use Rattle.sp_tree.specs.declared.nodes.Kind.{Kind}
use Rattle.sp_tree.specs.declared.nodes.Kind.TheVariants.{Split as SplitKind, Open, Point}
use Rattle.sp_tree.specs.Trees.{node_at, open_node, with_kind_of}
use Rattle.sp_cover.specs.Cover.{IsOpenAt, SearchOf}
use Rattle.sp_cover.specs.Moves.{closed_as, found_as, settled}
use Rattle.sp_search.specs.Steps.{Steps}
use Rattle.sp_search.specs.Runs.{IsTouched, KeepsShut}
use Rattle.sp_search.specs.declared.goals.Goal.{Goal}
use Rattle.sp_search.specs.declared.goals.Stepped.{Stepped}
use Rattle.sp_search.specs.declared.goals.Stepped.TheVariants.{Split, Closed, Found as FoundPoint, Full}

pub same-nodes : (nodes : List Node) → KeepsShut nodes nodes
same-nodes nodes = record { known = omega arith; each = λ i h. inl refl }

touched-join : (a b c : Node) → IsTouched a b → IsTouched b c → IsTouched a c
touched-join a b c (inl e) (inl f) = inl (f ∙ e)
touched-join a b c (inl e) (inr f) = inr ((ap (λ n. n.kind) (sym e) ∙ f.0), (f.1 ∙ ap (λ n. n.mark) e))
touched-join a b c (inr e) (inl f) = inr (e.0, (ap (λ n. n.mark) f ∙ e.1))
touched-join a b c (inr e) (inr f) = inr (e.0, (f.1 ∙ e.1))

pub shut-join : (a b c : List Node) → KeepsShut a b → KeepsShut b c → KeepsShut a c
shut-join a b c h k =
    let one = h.known in
    let two = k.known in
    record {
      known = omega (arith, one, two);
      each = λ i i-in. touched-join (node_at a i) (node_at b i) (node_at c i) (h.each i i-in) (k.each i (omega (arith, i-in, one)));
    }

set-touches : (nodes : List Node) (id : ℕ) (n : Node) → IsTouched (node_at nodes id) n → (i : ℕ) → i < length nodes → IsTouched (node_at nodes i) (node_at (slice_set nodes id n) i)
set-touches [] id n t i h = absurd (omega (arith, h))
set-touches (m ∷ nodes) zero n t zero h = t
set-touches (m ∷ nodes) zero n t (suc i) h = inl refl
set-touches (m ∷ nodes) (suc id) n t zero h = inl refl
set-touches (m ∷ nodes) (suc id) n t (suc i) h = set-touches nodes id n t i (omega (arith, h))

-- an open leaf gets another kind
set-keeps : (nodes : List Node) (id : ℕ) (kind : Kind) → IsOpenAt nodes id → KeepsShut nodes (slice_set nodes id (with_kind_of (node_at nodes id) kind))
set-keeps nodes id kind leaf =
    let long = length-set nodes id (with_kind_of (node_at nodes id) kind) in
    record { known = omega (arith, long); each = set-touches nodes id (with_kind_of (node_at nodes id) kind) (inr (leaf.open_is, refl)) }

append-keeps : (nodes more : List Node) → KeepsShut nodes (nodes ++ more)
append-keeps nodes more =
    let long = length-append nodes more in
    record { known = omega (arith, long); each = λ i h. inl (get_or_append_left nodes more open_node i h) }

nodes-of : (s t : SearchOf) → s ≡ t → s.tree.nodes ≡ t.tree.nodes
nodes-of s t e = ap (λ r. r.tree.nodes) e

pub step-keeps : (m : ModelParts) (old new : SearchOf) (goal : Goal) (node limit : ℕ) (stepped : Stepped) → IsOpenAt old.tree.nodes node
    → Steps m old new goal node limit stepped → KeepsShut old.tree.nodes new.tree.nodes
step-keeps m old new goal node limit Split leaf h =
    let kind = SplitKind h.var h.at h.left h.right in
    let set = slice_set old.tree.nodes node (with_kind_of (node_at old.tree.nodes node) kind) in
    rw h.splits.nodes_are (shut-join old.tree.nodes set (set ++ (open_node ∷ open_node ∷ [])) (set-keeps old.tree.nodes node kind leaf) (append-keeps set (open_node ∷ open_node ∷ [])))
step-keeps m old new goal node limit Closed leaf h =
    rw (nodes-of new (settled (closed_as old node h.kind) new.proved) h.closed) (set-keeps old.tree.nodes node h.kind leaf)
step-keeps m old new goal node limit (FoundPoint serial) leaf h =
    rw (nodes-of new (settled (found_as old node h.point) new.proved) h.found) (set-keeps old.tree.nodes node (Point (length old.found + 1)) leaf)
step-keeps m old new goal node limit Full leaf h = rw (nodes-of new old h.1) (same-nodes old.tree.nodes)

-- one more step
pub step-goes-on : (a : List Node) (m : ModelParts) (old new : SearchOf) (goal : Goal) (node limit : ℕ) (stepped : Stepped) → KeepsShut a old.tree.nodes → IsOpenAt old.tree.nodes node
    → Steps m old new goal node limit stepped → KeepsShut a new.tree.nodes
step-goes-on a m old new goal node limit stepped h leaf steps = shut-join a old.tree.nodes new.tree.nodes h (step-keeps m old new goal node limit stepped leaf steps)
