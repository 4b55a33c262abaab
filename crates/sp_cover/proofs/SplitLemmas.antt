-- Splitting a leaf keeps the cover.
use Rattle.std.proofs.Common.{◌≡◌, ℕ, zero, suc, ◌+◌, ◌<◌, ◌⊎◌, inl, inr, Bool, true, cond, Option, None, Some, List, [], ◌∷◌, ◌++◌, length, slice_set, count_by, ℤ, refl, sym, ap, ◌∙◌, arith, length-append}
use Rattle.std.proofs.lemmas.List.{length-map, length-set, get_or-map, get_or_append_left, get_or-append-add}
use Rattle.std.proofs.lemmas.List.Sums.{sum_by-append}
use Rattle.sp_model.specs.declared.parts.ModelParts.{ModelParts}
use Rattle.sp_model.specs.Boxes.{Bounds}
use Rattle.sp_list.specs.declared.found.Found.{Found}
use Rattle.sp_activity.specs.Order.{IsOpen as IsUnreasoned}
use Rattle.sp_dual.specs.Lists.{MultiplierList}
use Rattle.sp_filter.specs.Held.{FilterList}
use Rattle.sp_tree.specs.declared.nodes.Node.{Node}
use Rattle.sp_tree.specs.declared.nodes.Kind.TheVariants.{Split, Open}
use Rattle.sp_tree.specs.Splits.{box_at, parts_at, IsChild}
use Rattle.sp_tree.specs.Trees.{TreeOf, node_at, open_node, split_of, splits, with_kind_of, IsGrown, SplitsNode}
use Rattle.sp_tree.specs.Laws.{Extends, HasMark, above as from_above}
use Rattle.sp_cover.specs.Cover.{AreScreened, IfScreened, IsSearch, NodeFits, SearchOf, is_any_point, is_point, needs_mark}
use Rattle.sp_cover.specs.Moves.{moved_to}
use Rattle.sp_cover.proofs.EachLemmas.{MarksLast, below-or, count-set, each-set}
use Rattle.sp_cover.proofs.CloseLemmas.{open-is_no_any, open-is_no_point, open-some}

pub splits-at : (nodes : List Node) (i : ℕ) → i < length nodes → parts_at (splits nodes) i ≡ split_of (node_at nodes i).kind
splits-at nodes i h = get_or-map (λ n. split_of n.kind) nodes i open_node None h

pub length-splits : (nodes : List Node) → length (splits nodes) ≡ length nodes
length-splits nodes = length-map nodes (λ n. split_of n.kind)

-- the two new places
pub two-more : (i n : ℕ) → i < n + 2 → (i < n) ⊎ ((i ≡ n) ⊎ (i ≡ n + 1))
two-more i n h = elim (below-or i n) [
  | inl l ↦ inl l
  | inr g ↦ inr (elim (below-or i (n + 1)) [ inl l ↦ inl (omega (arith, g, l)) | inr k ↦ inr (omega (arith, h, k)) ])
]

left-new : (set : List Node) → node_at (set ++ (open_node ∷ open_node ∷ [])) (length set) ≡ open_node
left-new [] = refl
left-new (m ∷ set) = left-new set

node-set : (nodes : List Node) (id : ℕ) (n : Node) → id < length nodes → node_at (slice_set nodes id n) id ≡ n
node-set [] id n h = absurd (omega (arith, h))
node-set (m ∷ nodes) zero n h = refl
node-set (m ∷ nodes) (suc id) n h = node-set nodes id n (omega (arith, h))

new-fits : (m : ModelParts) (lists : List MultiplierList) (found : List Found) (proved : Bool) (best : Option ℤ) (b c : Bounds) (n : Node)
    → n.kind ≡ Open → NodeFits m lists found proved best b n → NodeFits m lists found proved best c open_node
new-fits m lists found proved best b c n is h =
    record { claim = tt; mark = tt; early = λ e. record { unmarked = refl; kind = tt }; late = λ e. record { mark = tt; kind = open-some best n.kind is (h.late e).kind } }

split-fits : (m : ModelParts) (lists : List MultiplierList) (found : List Found) (proved : Bool) (best : Option ℤ) (b : Bounds) (n : Node) (var : ℕ) (at : ℤ) (left right : ℕ)
    → IsUnreasoned m b → NodeFits m lists found proved best b n → NodeFits m lists found proved best b (with_kind_of n (Split var at left right))
split-fits m lists found proved best b n var at left right free h =
    record { claim = free; mark = h.mark; early = λ e. record { unmarked = (h.early e).unmarked; kind = tt }; late = λ e. record { mark = (h.late e).mark; kind = tt } }

-- where the nodes and boxes of the new tree come from
pub record IsTwoMore (old new : TreeOf) (id : ℕ) (n : Node) : Type 0 where
  pub long : length new.nodes ≡ length old.nodes + 2
  pub node : (i : ℕ) → i < length old.nodes → node_at new.nodes i ≡ node_at (slice_set old.nodes id n) i
  pub left : node_at new.nodes (length old.nodes) ≡ open_node
  pub right : node_at new.nodes (length old.nodes + 1) ≡ open_node
  pub here : node_at new.nodes id ≡ n

pub made-two : (s t : TreeOf) (id var : ℕ) (at : ℤ) (left right : ℕ) → SplitsNode s t id var at left right → id < length s.nodes
    → IsTwoMore s t id (with_kind_of (node_at s.nodes id) (Split var at left right))
made-two s t id var at left right made id-in =
    let n = with_kind_of (node_at s.nodes id) (Split var at left right) in
    let set = slice_set s.nodes id n in
    let new = open_node ∷ open_node ∷ [] in
    let set-long : length set ≡ length s.nodes = length-set s.nodes id n in
    let long : length t.nodes ≡ length set + 2 = rw made.nodes_are (length-append set new) in
    let node-old : (i : ℕ) → i < length s.nodes → node_at t.nodes i ≡ node_at set i = λ i i-in. rw made.nodes_are (get_or_append_left set new open_node i (omega (arith, set-long, i-in))) in
    record {
      long = omega (arith, long, set-long);
      node = node-old;
      left = rw (made.nodes_are, ← set-long) (left-new set);
      right = rw (made.nodes_are, ← set-long) (get_or-append-add set new 1 open_node);
      here = node-old id id-in ∙ node-set s.nodes id n id-in;
    }

pub splitting-keeps : MarksLast → (m : ModelParts) (s : SearchOf) (t : TreeOf) (id var : ℕ) (at : ℤ) (left right : ℕ)
    → IsSearch m s → IsGrown t → Extends s.tree t → SplitsNode s.tree t id var at left right
    → id < length s.tree.nodes → (node_at s.tree.nodes id).kind ≡ Open
    → IsUnreasoned m (box_at s.tree.boxes id) → IsSearch m (moved_to s t)
splitting-keeps last m s t id var at left right c grown ext made id-in is free =
    let old = c.nodes id id-in in
    let n = with_kind_of (node_at s.tree.nodes id) (Split var at left right) in
    let set = slice_set s.tree.nodes id n in
    let new = open_node ∷ open_node ∷ [] in
    let two = made-two s.tree t id var at left right made id-in in
    let long = two.long in
    let box-old : (i : ℕ) → i < length s.tree.nodes → box_at t.boxes i ≡ box_at s.tree.boxes i = λ i i-in. ext.boxes i i-in in
    let id-new : id < length t.nodes = omega (arith, id-in, long) in
    let parts : parts_at (splits t.nodes) id ≡ Some (record { var = var; at = at; left = left; right = right }) = splits-at t.nodes id id-new ∙ ap (λ k. split_of k.kind) two.here in
    let child : (j : ℕ) → (left ≡ j) ⊎ (right ≡ j) → IsChild (parts_at (splits t.nodes) id) j = λ j w. rw parts w in
    let fits : (i : ℕ) → i < length s.tree.nodes → NodeFits m s.tree.lists s.found s.proved s.best (box_at s.tree.boxes i) (node_at set i) = each-set
    (λ j k. NodeFits m s.tree.lists s.found s.proved s.best (box_at s.tree.boxes j) k)
    (λ j k. NodeFits m s.tree.lists s.found s.proved s.best (box_at s.tree.boxes j) k)
    s.tree.nodes id n (λ j k h. h)
    (split-fits m s.tree.lists s.found s.proved s.best (box_at s.tree.boxes id) (node_at s.tree.nodes id) var at left right free old)
    c.nodes in
    record {
      grown = grown;
      root = box-old 0 (omega (arith, id-in)) ∙ c.root;
      nodes = λ i i-in. rw made.lists_are (elim (two-more i (length s.tree.nodes) (omega (arith, i-in, long))) [
        | inl l ↦ rw (box-old i l, two.node i l) (fits i l)
        | inr w ↦ elim w [
          | inl e ↦ rw (e, two.left) (new-fits m s.tree.lists s.found s.proved s.best (box_at s.tree.boxes id) (box_at t.boxes (length s.tree.nodes)) (node_at s.tree.nodes id) is old)
          | inr e ↦ rw (e, two.right) (new-fits m s.tree.lists s.found s.proved s.best (box_at s.tree.boxes id) (box_at t.boxes (length s.tree.nodes + 1)) (node_at s.tree.nodes id) is old)
        ]
      ]);
      placed = λ serial from known.
          let all : count_by (is_point serial) t.nodes ≡ count_by (is_point serial) set + 0 = rw made.nodes_are (sum_by-append (λ k. cond {A = ℕ} (is_point serial k) 1 0) set new) in
          let less = count-set (is_point serial) s.tree.nodes id n id-in in
          let was = open-is_no_point (node_at s.tree.nodes id).kind serial is in
          let less' = rw was at less in
          let one = c.placed serial from known in
          omega (arith, all, less', one);
      matched =
          let all : count_by is_any_point t.nodes ≡ count_by is_any_point set + 0 = rw made.nodes_are (sum_by-append (λ k. cond {A = ℕ} (is_any_point k) 1 0) set new) in
          let less = count-set is_any_point s.tree.nodes id n id-in in
          let was = open-is_no_any (node_at s.tree.nodes id).kind is in
          let less' = rw was at less in
          let same = c.matched in
          omega (arith, all, less', same);
      best = c.best;
      falling = c.falling;
      optimal = c.optimal;
      marked = λ e i i-in needs.
          let own-mark : HasMark t.nodes id = last s.tree t ext id id-in (c.marked e id id-in (rw is refl)) in
          elim (two-more i (length s.tree.nodes) (omega (arith, i-in, long))) [
            | inl l ↦ each-set (λ j k. (j < length s.tree.nodes) × (needs_mark k.kind ≡ true → HasMark s.tree.nodes j)) (λ j k. needs_mark k.kind ≡ true → HasMark t.nodes j) s.tree.nodes id n
                (λ j k g h. last s.tree t ext j g.0 (g.1 h)) (λ _. own-mark) (λ j j-in. (j-in, c.marked e j j-in)) i l (rw (two.node i l) at needs)
            | inr w ↦ elim w [
              | inl f ↦ from_above id (child i (inl (made.left_is ∙ sym f))) own-mark
              | inr f ↦ from_above id (child i (inr (made.right_is ∙ sym f))) own-mark
            ]
          ];
    }

pub splitting-screens : (fs : FilterList) (s t : TreeOf) (id var : ℕ) (at : ℤ) (left right : ℕ)
    → Extends s t → SplitsNode s t id var at left right → id < length s.nodes → AreScreened fs s → AreScreened fs t
splitting-screens fs s t id var at left right ext made id-in h =
    let n = with_kind_of (node_at s.nodes id) (Split var at left right) in
    let two = made-two s t id var at left right made id-in in
    let long = two.long in
    let fits : (i : ℕ) → i < length s.nodes → IfScreened fs (box_at s.boxes i) (node_at (slice_set s.nodes id n) i).kind = each-set
    (λ j k. IfScreened fs (box_at s.boxes j) k.kind) (λ j k. IfScreened fs (box_at s.boxes j) k.kind)
    s.nodes id n (λ j k g. g) tt h.each in
    record {
      each = λ i i-in. elim (two-more i (length s.nodes) (omega (arith, i-in, long))) [
        | inl l ↦ rw (ext.boxes i l, two.node i l) (fits i l)
        | inr w ↦ elim w [
          | inl e ↦ rw (e, two.left) tt
          | inr e ↦ rw (e, two.right) tt
        ]
      ];
    }
