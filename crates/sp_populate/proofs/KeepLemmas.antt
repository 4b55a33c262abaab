-- Steps and reopenings leave licensed nodes as they are.
use Rattle.std.proofs.Common.{◌≡◌, ℕ, zero, suc, ◌+◌, ◌<◌, inl, inr, Bool, Some, List, [], ◌∷◌, ◌++◌, map, length, slice_set, ℤ, refl, sym, ap, ◌∙◌, arith, length-append}
use Rattle.std.proofs.lemmas.List.{get_or_append_left, get_or-map, length-map, length-set}
use Rattle.sp_model.specs.declared.parts.ModelParts.{ModelParts}
use Rattle.sp_tree.specs.declared.nodes.Bound.{Bound}
use Rattle.sp_tree.specs.declared.nodes.Node.{Node}
use Rattle.sp_tree.specs.declared.nodes.Kind.{Kind}
use Rattle.sp_tree.specs.declared.nodes.Kind.TheVariants.{Split as SplitKind, Open, Bounded, Point}
use Rattle.sp_tree.specs.Trees.{IsLicensed, node_at, open_node, reopened, with_kind_of}
use Rattle.sp_cover.specs.Cover.{IsOpenAt, SearchOf}
use Rattle.sp_cover.specs.Moves.{closed_as, found_as, settled}
use Rattle.sp_search.specs.Runs.{IsTouched, KeepsShut}
use Rattle.sp_search.specs.Steps.{Steps}
use Rattle.sp_search.specs.declared.goals.Goal.{Goal}
use Rattle.sp_search.specs.declared.goals.Stepped.{Stepped}
use Rattle.sp_search.specs.declared.goals.Stepped.TheVariants.{Split, Closed, Found as FoundPoint, Full}
use Rattle.sp_populate.specs.Ends.{KeepsLicensed, KeepsNode, SparesLicensed}

same-node : (old new : Node) → new ≡ old → IsTouched old new
same-node old new e = inl e

pub same-nodes : (nodes : List Node) → KeepsShut nodes nodes
same-nodes nodes = record { known = omega arith; each = λ i h. inl refl }

touched-join : (a b c : Node) → IsTouched a b → IsTouched b c → IsTouched a c
touched-join a b c (inl e) (inl f) = inl (f ∙ e)
touched-join a b c (inl e) (inr f) = inr ((ap (λ n. n.kind) (sym e) ∙ f.0), (f.1 ∙ ap (λ n. n.mark) e))
touched-join a b c (inr e) (inl f) = inr (e.0, (ap (λ n. n.mark) f ∙ e.1))
touched-join a b c (inr e) (inr f) = inr (e.0, (f.1 ∙ e.1))

pub shut-join : (a b c : List Node) → KeepsShut a b → KeepsShut b c → KeepsShut a c
shut-join a b c h k =
    let one = h.known in
    let two = k.known in
    record {
      known = omega (arith, one, two);
      each = λ i i-in. touched-join (node_at a i) (node_at b i) (node_at c i) (h.each i i-in) (k.each i (omega (arith, i-in, one)));
    }

set-touches : (nodes : List Node) (id : ℕ) (n : Node) → IsTouched (node_at nodes id) n → (i : ℕ) → i < length nodes → IsTouched (node_at nodes i) (node_at (slice_set nodes id n) i)
set-touches [] id n t i h = absurd (omega (arith, h))
set-touches (m ∷ nodes) zero n t zero h = t
set-touches (m ∷ nodes) zero n t (suc i) h = inl refl
set-touches (m ∷ nodes) (suc id) n t zero h = inl refl
set-touches (m ∷ nodes) (suc id) n t (suc i) h = set-touches nodes id n t i (omega (arith, h))

-- an open leaf gets another kind
set-keeps : (nodes : List Node) (id : ℕ) (kind : Kind) → IsOpenAt nodes id → KeepsShut nodes (slice_set nodes id (with_kind_of (node_at nodes id) kind))
set-keeps nodes id kind leaf =
    let long = length-set nodes id (with_kind_of (node_at nodes id) kind) in
    record { known = omega (arith, long); each = set-touches nodes id (with_kind_of (node_at nodes id) kind) (inr (leaf.open_is, refl)) }

append-keeps : (nodes more : List Node) → KeepsShut nodes (nodes ++ more)
append-keeps nodes more =
    let long = length-append nodes more in
    record { known = omega (arith, long); each = λ i h. inl (get_or_append_left nodes more open_node i h) }

nodes-of : (s t : SearchOf) → s ≡ t → s.tree.nodes ≡ t.tree.nodes
nodes-of s t e = ap (λ r. r.tree.nodes) e

pub step-keeps : (m : ModelParts) (old new : SearchOf) (goal : Goal) (node limit : ℕ) (stepped : Stepped) → IsOpenAt old.tree.nodes node
    → Steps m old new goal node limit stepped → KeepsShut old.tree.nodes new.tree.nodes
step-keeps m old new goal node limit Split leaf h =
    let kind = SplitKind h.var h.at h.left h.right in
    let set = slice_set old.tree.nodes node (with_kind_of (node_at old.tree.nodes node) kind) in
    rw h.splits.nodes_are (shut-join old.tree.nodes set (set ++ (open_node ∷ open_node ∷ [])) (set-keeps old.tree.nodes node kind leaf) (append-keeps set (open_node ∷ open_node ∷ [])))
step-keeps m old new goal node limit Closed leaf h =
    rw (nodes-of new (settled (closed_as old node h.kind) new.proved) h.closed) (set-keeps old.tree.nodes node h.kind leaf)
step-keeps m old new goal node limit (FoundPoint serial) leaf h =
    rw (nodes-of new (settled (found_as old node h.point) new.proved) h.found) (set-keeps old.tree.nodes node (Point (length old.found + 1)) leaf)
step-keeps m old new goal node limit Full leaf h = rw (nodes-of new old h.1) (same-nodes old.tree.nodes)

-- ---- licensed nodes

abbrev pub Spares : Type 0
Spares = (cut : ℤ) (held : ℕ → Bool) (n : Node) → IsLicensed cut held n.kind → reopened cut held n ≡ n

abbrev pub Marks : Type 0
Marks = (cut : ℤ) (held : ℕ → Bool) (n : Node) (bound : Bound) → n.kind ≡ Bounded bound → ¬ IsLicensed cut held n.kind → reopened cut held n ≡ record { mark = Some bound; kind = Open }

open-unlicensed : (cut : ℤ) (held : ℕ → Bool) (n r : Node) → r ≡ n → r.kind ≡ Open → IsLicensed cut held n.kind → ⊥
open-unlicensed cut held n r e is h = let k : n.kind ≡ Open = ap (λ m. m.kind) (sym e) ∙ is in rw k at h

spared : (cut : ℤ) (held : ℕ → Bool) (n r c : Node) → r ≡ n → IsTouched r c → IsLicensed cut held n.kind → c ≡ n
spared cut held n r c e (inl f) h = f ∙ e
spared cut held n r c e (inr f) h = absurd (open-unlicensed cut held n r e f.0 h)

marked-so : (r c : Node) (bound : Bound) → r ≡ record { mark = Some bound; kind = Open } → IsTouched r c → c.mark ≡ Some bound
marked-so r c bound e (inl f) = ap (λ m. m.mark) (f ∙ e)
marked-so r c bound e (inr f) = f.1 ∙ ap (λ m. m.mark) e

kept-node : Spares → Marks → (cut : ℤ) (held : ℕ → Bool) (n r c : Node) → r ≡ reopened cut held n → IsTouched r c → KeepsNode cut held n c
kept-node spares marks cut held n r c e touched = record {
  licensed = λ h. spared cut held n r c (e ∙ spares cut held n h) touched h;
  marked = λ bound is not. marked-so r c bound (e ∙ marks cut held n bound is not) touched;
}

pub kept-all : Spares → Marks → (cut : ℤ) (held : ℕ → Bool) (nodes opened new : List Node) → opened ≡ map (reopened cut held) nodes → KeepsShut opened new → KeepsLicensed cut held nodes new
kept-all spares marks cut held nodes opened new e touched = record {
  each = λ i i-in.
      let long : length opened ≡ length nodes = ap length e ∙ length-map nodes (reopened cut held) in
      let is : node_at opened i ≡ reopened cut held (node_at nodes i) = ap (λ ns. node_at ns i) e ∙ get_or-map (reopened cut held) nodes i open_node open_node i-in in
      kept-node spares marks cut held (node_at nodes i) (node_at opened i) (node_at new i) is (touched.each i (omega (arith, i-in, long)));
}

-- ---- both phases

touched-spared : (cut : ℤ) (held : ℕ → Bool) (n c : Node) → IsTouched n c → IsLicensed cut held n.kind → c ≡ n
touched-spared cut held n c (inl e) h = e
touched-spared cut held n c (inr f) h = absurd (open-unlicensed cut held n n refl f.0 h)

pub shut-spares : (cut : ℤ) (held : ℕ → Bool) (old new : List Node) → KeepsShut old new → SparesLicensed cut held old new
shut-spares cut held old new h = record { each = λ i i-in l. touched-spared cut held (node_at old i) (node_at new i) (h.each i i-in) l }

pub kept-spares : (cut : ℤ) (held : ℕ → Bool) (old new : List Node) → KeepsLicensed cut held old new → SparesLicensed cut held old new
kept-spares cut held old new h = record { each = λ i i-in l. (h.each i i-in).licensed l }

open-unbounded : (n : Node) (bound : Bound) → n.kind ≡ Open → n.kind ≡ Bounded bound → ⊥
open-unbounded n bound e f = let is : Open ≡ Bounded bound = sym e ∙ f in cc

node-joined : (cut : ℤ) (held : ℕ → Bool) (n r c : Node) → IsTouched n r → KeepsNode cut held r c → KeepsNode cut held n c
node-joined cut held n r c (inl e) k = rw e at k
node-joined cut held n r c (inr f) k = record {
  licensed = λ h. absurd (open-unlicensed cut held n n refl f.0 h);
  marked = λ bound is not. absurd (open-unbounded n bound f.0 is);
}

-- what phase one left shut and phase two kept is kept
pub kept-joined : (cut : ℤ) (held : ℕ → Bool) (old mid new : List Node) → KeepsShut old mid → KeepsLicensed cut held mid new → KeepsLicensed cut held old new
kept-joined cut held old mid new h k = let known = h.known in record {
  each = λ i i-in. node-joined cut held (node_at old i) (node_at mid i) (node_at new i) (h.each i i-in) (k.each i (omega (arith, i-in, known)));
}

spared-node : (cut : ℤ) (held : ℕ → Bool) (n r c : Node) → IsTouched n r → (IsLicensed cut held r.kind → c ≡ r) → IsLicensed cut held n.kind → c ≡ n
spared-node cut held n r c (inl e) k h = k (rw e h) ∙ e
spared-node cut held n r c (inr f) k h = absurd (open-unlicensed cut held n n refl f.0 h)

pub spared-joined : (cut : ℤ) (held : ℕ → Bool) (old mid new : List Node) → KeepsShut old mid → SparesLicensed cut held mid new → SparesLicensed cut held old new
spared-joined cut held old mid new h k = let known = h.known in record {
  each = λ i i-in l. spared-node cut held (node_at old i) (node_at mid i) (node_at new i) (h.each i i-in) (k.each i (omega (arith, i-in, known))) l;
}
