-- The room that the open leaves need falls with each step, and a tree with an open leaf of two points has room.
use Rattle.std.proofs.Common.{◌≡◌, ℕ, zero, suc, ◌+◌, ◌<◌, ◌≤◌, Option, None, Some, List, [], ◌∷◌, ◌++◌, length, slice_set, ℤ, refl, sym, ◌∙◌, arith}
use Rattle.std.proofs.lemmas.List.{get_or-map, length-map, length-set}
use Rattle.sp_model.specs.Boxes.{Bounds, CanSplit, above, below, point_count, room}
use Rattle.sp_tree.specs.declared.nodes.Node.{Node}
use Rattle.sp_tree.specs.declared.nodes.Kind.{Kind}
use Rattle.sp_tree.specs.declared.nodes.Kind.TheVariants.{Split, Open}
use Rattle.sp_tree.specs.Splits.{Parts, box_at, parts_at, total, weight}
use Rattle.sp_tree.specs.Trees.{IsGrown, SplitsNode, TreeOf, node_at, open_node, split_of, splits, with_kind, with_kind_of}
use Rattle.sp_cover.specs.Cover.{IsOpenAt}
use Rattle.sp_search.specs.Measures.{node_room, open_room, open_weight}
use Rattle.sp_search.proofs.StepLemmas.{boxes-nodes}

-- what the law of counts says of a split
pub record Counts : Type 0 where
  pub sum : (b : Bounds) (v : ℕ) (at : ℤ) → CanSplit b v at → point_count b ≡ point_count (below b v at) + point_count (above b v at)
  pub parts : (b : Bounds) (v : ℕ) (at : ℤ) → CanSplit b v at → 0 < point_count b → (0 < point_count (below b v at)) × (0 < point_count (above b v at))

-- ---- rooms

room-add : (n a b : ℕ) → n ≡ a + b → 0 < a → 0 < b → room n ≡ 1 + (room a + room b)
room-add n zero b e h k = absurd (omega (arith, h))
room-add n (suc a) zero e h k = absurd (omega (arith, k))
room-add zero (suc a) (suc b) e h k = absurd (omega (arith, e))
room-add (suc n) (suc a) (suc b) e h k = omega (arith, e)

room-some : (n : ℕ) → 1 ≤ room n
room-some zero = omega arith
room-some (suc n) = omega arith

room-three : (n : ℕ) → 2 ≤ n → 3 ≤ room n
room-three zero h = absurd (omega (arith, h))
room-three (suc zero) h = absurd (omega (arith, h))
room-three (suc (suc n)) h = omega arith

room-split : Counts → (b : Bounds) (v : ℕ) (at : ℤ) → CanSplit b v at → 0 < point_count b
    → room (point_count b) ≡ 1 + (room (point_count (below b v at)) + room (point_count (above b v at)))
room-split l b v at s filled =
    let both = l.parts b v at s filled in
    room-add (point_count b) (point_count (below b v at)) (point_count (above b v at)) (l.sum b v at s) both.0 both.1

-- ---- totals

pub total-set : (w : Node → Bounds → ℕ) (nodes : List Node) (boxes : List Bounds) (id : ℕ) (n : Node) → id < length nodes → length nodes ≡ length boxes
    → total w (slice_set nodes id n) boxes + w (node_at nodes id) (box_at boxes id) ≡ total w nodes boxes + w n (box_at boxes id)
total-set w [] boxes id n h long = absurd (omega (arith, h))
total-set w (m ∷ nodes) [] id n h long = absurd (omega (arith, long))
total-set w (m ∷ nodes) (b ∷ boxes) zero n h long = omega arith
total-set w (m ∷ nodes) (b ∷ boxes) (suc id) n h long =
    let rest = total-set w nodes boxes id n (omega (arith, h)) (omega (arith, long)) in
    omega (arith, rest)

pub total-append : (w : Node → Bounds → ℕ) (xs ys : List Node) (bs cs : List Bounds) → length xs ≡ length bs → total w (xs ++ ys) (bs ++ cs) ≡ total w xs bs + total w ys cs
total-append w [] ys [] cs long = omega arith
total-append w [] ys (b ∷ bs) cs long = absurd (omega (arith, long))
total-append w (x ∷ xs) ys [] cs long = absurd (omega (arith, long))
total-append w (x ∷ xs) ys (b ∷ bs) cs long = let rest = total-append w xs ys bs cs (omega (arith, long)) in omega (arith, rest)

open-room : (kind : Kind) (n : ℕ) → kind ≡ Open → open_weight kind n ≡ n
open-room kind n is = rw is refl

-- a leaf that is closed leaves less
pub closed-falls : (t : TreeOf) (id : ℕ) (kind : Kind) → IsGrown t → IsOpenAt t.nodes id → ((n : ℕ) → open_weight kind n ≡ 0) → open_room (with_kind t id kind) < open_room t
closed-falls t id kind grown leaf shut =
    let n = with_kind_of (node_at t.nodes id) kind in
    let set = total-set node_room t.nodes t.boxes id n leaf.known (sym (boxes-nodes t grown)) in
    let was = open-room (node_at t.nodes id).kind (room (point_count (box_at t.boxes id))) leaf.open_is in
    let now = shut (room (point_count (box_at t.boxes id))) in
    let some = room-some (point_count (box_at t.boxes id)) in
    omega (arith, set, was, now, some)

-- a leaf that is split leaves one less
pub split-falls : Counts → (s t : TreeOf) (id var : ℕ) (at : ℤ) (left right : ℕ) → IsGrown s → IsOpenAt s.nodes id → CanSplit (box_at s.boxes id) var at → 0 < point_count (box_at s.boxes id)
    → SplitsNode s t id var at left right → open_room t < open_room s
split-falls l s t id var at left right grown leaf lawful filled made =
    let b = box_at s.boxes id in
    let n = with_kind_of (node_at s.nodes id) (Split var at left right) in
    let set = slice_set s.nodes id n in
    let long : length s.nodes ≡ length s.boxes = sym (boxes-nodes s grown) in
    let set-long : length set ≡ length s.boxes = length-set s.nodes id n ∙ long in
    let all : total node_room t.nodes t.boxes ≡ total node_room set s.boxes + total node_room (open_node ∷ open_node ∷ []) (below b var at ∷ above b var at ∷ []) =
    rw (made.nodes_are, made.boxes_are) (total-append node_room set (open_node ∷ open_node ∷ []) s.boxes (below b var at ∷ above b var at ∷ []) set-long) in
    let less = total-set node_room s.nodes s.boxes id n leaf.known long in
    let was = open-room (node_at s.nodes id).kind (room (point_count b)) leaf.open_is in
    let parts = room-split l b var at lawful filled in
    omega (arith, all, less, was, parts)

-- ---- the room of the whole tree

least-total : (w : Option Parts → Bounds → ℕ) → ((p : Option Parts) (b : Bounds) → 1 ≤ w p b) → (parts : List (Option Parts)) (boxes : List Bounds) → length parts ≡ length boxes → length parts ≤ total w parts boxes
least-total w some [] boxes long = omega arith
least-total w some (p ∷ parts) [] long = absurd (omega (arith, long))
least-total w some (p ∷ parts) (b ∷ boxes) long =
    let rest = least-total w some parts boxes (omega (arith, long)) in
    let here = some p b in
    omega (arith, rest, here)

more-total : (w : Option Parts → Bounds → ℕ) → ((p : Option Parts) (b : Bounds) → 1 ≤ w p b) → (parts : List (Option Parts)) (boxes : List Bounds) (i : ℕ) → length parts ≡ length boxes → i < length parts
    → 3 ≤ w (parts_at parts i) (box_at boxes i) → length parts + 2 ≤ total w parts boxes
more-total w some [] boxes i long h three = absurd (omega (arith, h))
more-total w some (p ∷ parts) [] i long h three = absurd (omega (arith, long))
more-total w some (p ∷ parts) (b ∷ boxes) zero long h three =
    let rest = least-total w some parts boxes (omega (arith, long)) in
    omega (arith, rest, three)
more-total w some (p ∷ parts) (b ∷ boxes) (suc i) long h three =
    let rest = more-total w some parts boxes i (omega (arith, long)) (omega (arith, h)) three in
    let here = some p b in
    omega (arith, rest, here)

node-some : (p : Option Parts) (b : Bounds) → 1 ≤ weight 1 (λ c. room (point_count c)) p b
node-some None b = room-some (point_count b)
node-some (Some p) b = omega arith

leaf-three : (p : Option Parts) (b : Bounds) → p ≡ None → 2 ≤ point_count b → 3 ≤ weight 1 (λ c. room (point_count c)) p b
leaf-three p b is h = rw is (room-three (point_count b) h)

open-leaf : (kind : Kind) → kind ≡ Open → split_of kind ≡ None
open-leaf kind is = rw is refl

-- a tree with an open leaf of two points or more has two nodes less than there is room for
pub roomy : Counts → (t : TreeOf) (i : ℕ) → IsGrown t → IsOpenAt t.nodes i → 2 ≤ point_count (box_at t.boxes i) → length t.nodes + 2 ≤ room (point_count (box_at t.boxes 0))
roomy l t i grown leaf many =
    let f : Bounds → ℕ = λ c. room (point_count c) in
    let i-in = leaf.known in
    let long = length-map t.nodes (λ n. split_of n.kind) in
    let at : parts_at (splits t.nodes) i ≡ split_of (node_at t.nodes i).kind = get_or-map (λ n. split_of n.kind) t.nodes i open_node None i-in in
    let none : parts_at (splits t.nodes) i ≡ None = at ∙ open-leaf (node_at t.nodes i).kind leaf.open_is in
    let sum = grown.tree.shared 1 f (λ b v at s filled. room-split l b v at s filled) in
    let more = more-total (weight 1 f) node-some (splits t.nodes) t.boxes i grown.tree.sized (omega (arith, i-in, long)) (leaf-three (parts_at (splits t.nodes) i) (box_at t.boxes i) none many) in
    omega (arith, sum, more, long)
