-- A tree with an open leaf of two points or more has two nodes less than there is room for.
use Rattle.std.proofs.Common.{◌≡◌, ℕ, zero, suc, ◌+◌, ◌<◌, ◌≤◌, Option, None, Some, List, [], ◌∷◌, length, ℤ, refl, ◌∙◌, arith}
use Rattle.std.proofs.lemmas.List.{get_or-map, length-map}
use Rattle.sp_model.specs.Boxes.{Bounds, CanSplit, above, below, point_count, room}
use Rattle.sp_model.specs.Models.{root_of}
use Rattle.sp_tree.specs.declared.nodes.Kind.{Kind}
use Rattle.sp_tree.specs.declared.nodes.Kind.TheVariants.{Open}
use Rattle.sp_tree.specs.Splits.{Parts, box_at, parts_at, total, weight}
use Rattle.sp_tree.specs.Trees.{IsGrown, TreeOf, node_at, open_node, split_of, splits}
use Rattle.sp_cover.specs.Cover.{IsOpenAt}
use Rattle.sp_search.specs.States.{IsState, StateOf}
use Rattle.sp_search.specs.Runs.{IsStuck}
use Rattle.sp_search.specs.declared.goals.Goal.{Goal}

-- what the law of counts says of a split
pub record Counts : Type 0 where
  pub sum : (b : Bounds) (v : ℕ) (at : ℤ) → CanSplit b v at → point_count b ≡ point_count (below b v at) + point_count (above b v at)
  pub parts : (b : Bounds) (v : ℕ) (at : ℤ) → CanSplit b v at → 0 < point_count b → (0 < point_count (below b v at)) × (0 < point_count (above b v at))

room-add : (n a b : ℕ) → n ≡ a + b → 0 < a → 0 < b → room n ≡ 1 + (room a + room b)
room-add n zero b e h k = absurd (omega (arith, h))
room-add n (suc a) zero e h k = absurd (omega (arith, k))
room-add zero (suc a) (suc b) e h k = absurd (omega (arith, e))
room-add (suc n) (suc a) (suc b) e h k = omega (arith, e)

room-some : (n : ℕ) → 1 ≤ room n
room-some zero = omega arith
room-some (suc n) = omega arith

room-three : (n : ℕ) → 2 ≤ n → 3 ≤ room n
room-three zero h = absurd (omega (arith, h))
room-three (suc zero) h = absurd (omega (arith, h))
room-three (suc (suc n)) h = omega arith

room-split : Counts → (b : Bounds) (v : ℕ) (at : ℤ) → CanSplit b v at → 0 < point_count b
    → room (point_count b) ≡ 1 + (room (point_count (below b v at)) + room (point_count (above b v at)))
room-split l b v at s filled =
    let both = l.parts b v at s filled in
    room-add (point_count b) (point_count (below b v at)) (point_count (above b v at)) (l.sum b v at s) both.0 both.1

least-total : (w : Option Parts → Bounds → ℕ) → ((p : Option Parts) (b : Bounds) → 1 ≤ w p b) → (parts : List (Option Parts)) (boxes : List Bounds) → length parts ≡ length boxes → length parts ≤ total w parts boxes
least-total w some [] boxes long = omega arith
least-total w some (p ∷ parts) [] long = absurd (omega (arith, long))
least-total w some (p ∷ parts) (b ∷ boxes) long =
    let rest = least-total w some parts boxes (omega (arith, long)) in
    let here = some p b in
    omega (arith, rest, here)

more-total : (w : Option Parts → Bounds → ℕ) → ((p : Option Parts) (b : Bounds) → 1 ≤ w p b) → (parts : List (Option Parts)) (boxes : List Bounds) (i : ℕ) → length parts ≡ length boxes → i < length parts
    → 3 ≤ w (parts_at parts i) (box_at boxes i) → length parts + 2 ≤ total w parts boxes
more-total w some [] boxes i long h three = absurd (omega (arith, h))
more-total w some (p ∷ parts) [] i long h three = absurd (omega (arith, long))
more-total w some (p ∷ parts) (b ∷ boxes) zero long h three =
    let rest = least-total w some parts boxes (omega (arith, long)) in
    omega (arith, rest, three)
more-total w some (p ∷ parts) (b ∷ boxes) (suc i) long h three =
    let rest = more-total w some parts boxes i (omega (arith, long)) (omega (arith, h)) three in
    let here = some p b in
    omega (arith, rest, here)

node-some : (p : Option Parts) (b : Bounds) → 1 ≤ weight 1 (λ c. room (point_count c)) p b
node-some None b = room-some (point_count b)
node-some (Some p) b = omega arith

leaf-three : (p : Option Parts) (b : Bounds) → p ≡ None → 2 ≤ point_count b → 3 ≤ weight 1 (λ c. room (point_count c)) p b
leaf-three p b is h = rw is (room-three (point_count b) h)

open-leaf : (kind : Kind) → kind ≡ Open → split_of kind ≡ None
open-leaf kind is = rw is refl

-- a tree with an open leaf of two points or more has two nodes less than there is room for
pub roomy : Counts → (t : TreeOf) (i : ℕ) → IsGrown t → IsOpenAt t.nodes i → 2 ≤ point_count (box_at t.boxes i) → length t.nodes + 2 ≤ room (point_count (box_at t.boxes 0))
roomy l t i grown leaf many =
    let f : Bounds → ℕ = λ c. room (point_count c) in
    let i-in = leaf.known in
    let long = length-map t.nodes (λ n. split_of n.kind) in
    let at : parts_at (splits t.nodes) i ≡ split_of (node_at t.nodes i).kind = get_or-map (λ n. split_of n.kind) t.nodes i open_node None i-in in
    let none : parts_at (splits t.nodes) i ≡ None = at ∙ open-leaf (node_at t.nodes i).kind leaf.open_is in
    let sum = grown.tree.shared 1 f (λ b v at s filled. room-split l b v at s filled) in
    let more = more-total (weight 1 f) node-some (splits t.nodes) t.boxes i grown.tree.sized (omega (arith, i-in, long)) (leaf-three (parts_at (splits t.nodes) i) (box_at t.boxes i) none many) in
    omega (arith, sum, more, long)

-- a state that is stuck has a limit below the room of the model's box
pub stuck-small : Counts → (s : StateOf) (goal : Goal) (limit : ℕ) → IsState s → IsStuck s goal limit → room (point_count (root_of s.model)) ≤ limit → ⊥
stuck-small l s goal limit st h big =
    let full = h.full in
    let few = rw st.search.root at (roomy l s.search.tree h.node st.search.grown h.leaf full.many) in
    let none = full.no_room in
    omega (arith, few, none, big)
