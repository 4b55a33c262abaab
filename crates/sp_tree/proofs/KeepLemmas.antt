-- What lasts over the calls, and what leaves the splits alone.
use Rattle.std.proofs.Common.{◌≡◌, ◌≢◌, ℕ, zero, suc, ◌+◌, ◌<◌, inl, inr, Bool, true, false, cond, Option, Some, None, IsSome, IfSome, List, [], ◌∷◌, ◌++◌, map, length, take, slice_set, ℤ, refl, sym, ap, ◌∙◌, arith, append-nil, length-append}
use Rattle.std.proofs.lemmas.List.{length-set, length-map, get_or_append_left}
use Rattle.std.proofs.Math.Seq.{map-set_same}
use Rattle.sp_model.specs.Boxes.{Bounds}
use Rattle.sp_dual.specs.Lists.{MultiplierList}
use Rattle.sp_tree.specs.declared.nodes.Bound.{Bound}
use Rattle.sp_tree.specs.declared.cuts.Cut.{Cut}
use Rattle.sp_tree.specs.declared.nodes.Node.{Node}
use Rattle.sp_tree.specs.declared.nodes.Kind.{Kind}
use Rattle.sp_tree.specs.declared.nodes.Kind.TheVariants.{Split, Open, Dead, Bounded, Screened, Point}
use Rattle.sp_tree.specs.Splits.{box_at}
use Rattle.sp_tree.specs.Tables.{IsTable, IsPrefix}
use Rattle.sp_tree.specs.Trees.{TreeOf, split_of, splits, node_at, open_node, IsKnown, IsFit, IsNode, IsClosing, is_reopened, is_reopened_kind, opened, opened_mark, reopened}
use Rattle.sp_tree.specs.Laws.{Extends, Lasts, KindLasts}
use Rattle.sp_tree.specs.InnerTrees.{boxes_of, IsFirstOpen, IsKept}
use Rattle.sp_tree.proofs.ListLemmas.{each-item}
use Rattle.sp_tree.proofs.TreeLemmas.{length-splits}

-- ---- changes that leave the splits alone

pub kept-same : (root : Bounds) (cuts : List Cut) (old new : List Node) (lists : List MultiplierList) (first next : ℕ) → splits new ≡ splits old
    → ((i : ℕ) → i < length old → IsNode lists (box_at (boxes_of root cuts) i) (node_at new i)) → IsFirstOpen new next → IsKept root cuts old lists first → IsKept root cuts new lists next
kept-same root cuts old new lists first next e fits opens k =
    let long : length new ≡ length old = sym (length-splits new) ∙ ap length e ∙ length-splits old in
    let sized = k.sized in
    let small = k.small in
    record {
      grown = record { tree = rw e k.grown.tree; nodes = λ i i-in. fits i (omega (arith, long, i-in)); table = k.grown.table };
      sized = omega (arith, long, sized);
      small = omega (arith, long, small);
      cut = rw e k.cut;
      next = opens;
    }

-- ---- closing

closing-leaf : (lists : List MultiplierList) (b : Bounds) (kind : Kind) → IsClosing lists b kind → split_of kind ≡ None
closing-leaf lists b (Split var at left right) h = absurd h
closing-leaf lists b Open h = absurd h
closing-leaf lists b (Dead reason) h = refl
closing-leaf lists b (Bounded bound) h = refl
closing-leaf lists b (Screened f) h = refl
closing-leaf lists b (Point serial) h = refl

closing-fits : (lists : List MultiplierList) (b : Bounds) (kind : Kind) → IsClosing lists b kind → IsFit lists b kind
closing-fits lists b (Split var at left right) h = absurd h
closing-fits lists b Open h = absurd h
closing-fits lists b (Dead reason) h = tt
closing-fits lists b (Bounded bound) h = h
closing-fits lists b (Screened f) h = tt
closing-fits lists b (Point serial) h = h

pub closing-not_open : (lists : List MultiplierList) (b : Bounds) (kind : Kind) → IsClosing lists b kind → kind ≢ Open
closing-not_open lists b (Split var at left right) h e = absurd h
closing-not_open lists b Open h e = absurd h
closing-not_open lists b (Dead reason) h e = absurd cc
closing-not_open lists b (Bounded bound) h e = absurd cc
closing-not_open lists b (Screened f) h e = absurd cc
closing-not_open lists b (Point serial) h e = absurd cc

open-leaf : (kind : Kind) → kind ≡ Open → split_of kind ≡ None
open-leaf kind is = rw is refl

-- no node before the place is open after a change of one node, which isn't open
pub before-set : (nodes : List Node) (id first : ℕ) (n : Node) → IsFirstOpen nodes first → n.kind ≢ Open → (i : ℕ) → i < first → (node_at (slice_set nodes id n) i).kind ≢ Open
before-set nodes id first n opens closed i h =
    let few = opens.few in
    each-item (λ j m. j < first → m.kind ≢ Open) (λ j m. j < first → m.kind ≢ Open) nodes id n open_node
    (λ j m b f. f) (λ b. closed) (λ j b. opens.before j) i (omega (arith, few, h)) h

pub before-split : (nodes more : List Node) (id first : ℕ) (n : Node) → IsFirstOpen nodes first → n.kind ≢ Open → (i : ℕ) → i < first → (node_at (slice_set nodes id n ++ more) i).kind ≢ Open
before-split nodes more id first n opens closed i h =
    let few = opens.few in
    let long : length (slice_set nodes id n) ≡ length nodes = length-set nodes id n in
    rw (get_or_append_left (slice_set nodes id n) more open_node i (omega (arith, few, long, h))) (before-set nodes id first n opens closed i h)

pub kept-closed : (root : Bounds) (cuts : List Cut) (nodes : List Node) (lists : List MultiplierList) (first next id : ℕ) (mark : Option Bound) (kind : Kind)
    → IsKept root cuts nodes lists first → id < length nodes → (node_at nodes id).kind ≡ Open → mark ≡ (node_at nodes id).mark → IsClosing lists (box_at (boxes_of root cuts) id) kind
    → IsFirstOpen (slice_set nodes id (record { mark = mark; kind = kind })) next
    → IsKept root cuts (slice_set nodes id (record { mark = mark; kind = kind })) lists next
kept-closed root cuts nodes lists first next id mark kind k id-in is same closing opens =
    let n : Node = record { mark = mark; kind = kind } in
    kept-same root cuts nodes (slice_set nodes id n) lists first next
    (map-set_same (λ m. split_of m.kind) nodes id n open_node (closing-leaf lists (box_at (boxes_of root cuts) id) kind closing ∙ sym (open-leaf (node_at nodes id).kind is)))
    (each-item (λ j m. IsNode lists (box_at (boxes_of root cuts) j) m) (λ j m. IsNode lists (box_at (boxes_of root cuts) j) m) nodes id n open_node
    (λ j m b w. w)
    (record { kind = closing-fits lists (box_at (boxes_of root cuts) id) kind closing; mark = rw same (k.grown.nodes id id-in).mark })
    k.grown.nodes)
    opens k

-- ---- reopening

opened-fits : (lists : List MultiplierList) (b : Bounds) (kind : Kind) (mark : Option Bound) → IsFit lists b kind → IfSome mark (IsKnown lists) → IfSome (opened_mark kind mark) (IsKnown lists)
opened-fits lists b (Split var at left right) mark f h = h
opened-fits lists b Open mark f h = h
opened-fits lists b (Dead reason) mark f h = h
opened-fits lists b (Bounded bound) mark f h = f
opened-fits lists b (Screened filter) mark f h = h
opened-fits lists b (Point serial) mark f h = h

chosen-fits : (lists : List MultiplierList) (b : Bounds) (n : Node) (c : Bool) → IsNode lists b n → IsNode lists b (cond c (opened n) n)
chosen-fits lists b n true w = record { kind = tt; mark = opened-fits lists b n.kind n.mark w.kind w.mark }
chosen-fits lists b n false w = w

opened-no_split : (cut : ℤ) (held : ℕ → Bool) (kind : Kind) → is_reopened_kind cut held kind ≡ true → split_of kind ≡ None
opened-no_split cut held (Split var at left right) e = absurd cc
opened-no_split cut held Open e = refl
opened-no_split cut held (Dead reason) e = refl
opened-no_split cut held (Bounded bound) e = refl
opened-no_split cut held (Screened f) e = refl
opened-no_split cut held (Point serial) e = refl

chosen-split : (n : Node) (c : Bool) → (c ≡ true → split_of n.kind ≡ None) → split_of (cond {A = Node} c (opened n) n).kind ≡ split_of n.kind
chosen-split n true h = sym (h refl)
chosen-split n false h = refl

pub splits-reopened : (cut : ℤ) (held : ℕ → Bool) (nodes : List Node) → splits (map (reopened cut held) nodes) ≡ splits nodes
splits-reopened cut held [] = refl
splits-reopened cut held (n ∷ nodes) = rw (chosen-split n (is_reopened cut held n) (opened-no_split cut held n.kind), splits-reopened cut held nodes) refl

pub node-reopened : (cut : ℤ) (held : ℕ → Bool) (nodes : List Node) (i : ℕ) → i < length nodes → node_at (map (reopened cut held) nodes) i ≡ reopened cut held (node_at nodes i)
node-reopened cut held [] i h = absurd (omega (arith, h))
node-reopened cut held (n ∷ nodes) zero h = refl
node-reopened cut held (n ∷ nodes) (suc i) h = node-reopened cut held nodes i (omega (arith, h))

pub kept-reopened : (root : Bounds) (cuts : List Cut) (nodes : List Node) (lists : List MultiplierList) (first next : ℕ) (cut : ℤ) (held : ℕ → Bool)
    → IsKept root cuts nodes lists first → IsFirstOpen (map (reopened cut held) nodes) next → IsKept root cuts (map (reopened cut held) nodes) lists next
kept-reopened root cuts nodes lists first next cut held k opens =
    kept-same root cuts nodes (map (reopened cut held) nodes) lists first next (splits-reopened cut held nodes)
    (λ i i-in. rw (node-reopened cut held nodes i i-in) (chosen-fits lists (box_at (boxes_of root cuts) i) (node_at nodes i) (is_reopened cut held (node_at nodes i)) (k.grown.nodes i i-in)))
    opens k

-- a list that was changed behind a slice
pub written-back : {X : Type 0} (len : ℕ) (new old : List X) → length new ≡ len → take len (new ++ old) ≡ new
written-back len [] old h = rw (← h) refl
written-back zero (x ∷ new) old h = absurd (omega (arith, h))
written-back (suc len) (x ∷ new) old h = ap (λ l. x ∷ l) (written-back len new old (omega (arith, h)))

-- ---- what lasts

kind-lasts : (kind : Kind) (marked : Type 0) → KindLasts kind kind marked
kind-lasts (Split var at left right) marked = refl
kind-lasts Open marked = tt
kind-lasts (Dead reason) marked = refl
kind-lasts (Bounded bound) marked = inl refl
kind-lasts (Screened f) marked = tt
kind-lasts (Point serial) marked = refl

pub lasts-self : (n m : Node) → m ≡ n → Lasts n m
lasts-self n m e = rw e (record { kind = kind-lasts n.kind (IsSome n.mark); mark = λ h. h })

open-lasts : (kind new : Kind) (marked : Type 0) → kind ≡ Open → KindLasts kind new marked
open-lasts kind new marked is = rw is tt

same-lists : (lists : List MultiplierList) → IsPrefix lists lists
same-lists lists = ([], sym (append-nil lists))

pub extends-self : (t : TreeOf) → Extends t t
extends-self t = record { table = same-lists t.lists; known = omega arith; boxes = λ i h. refl; nodes = λ i h. lasts-self (node_at t.nodes i) (node_at t.nodes i) refl }

-- node id is another, and more nodes stand behind
pub extends-more : (boxes more : List Bounds) (nodes behind : List Node) (lists : List MultiplierList) (id : ℕ) (n : Node) → length boxes ≡ length nodes → id < length nodes → (node_at nodes id).kind ≡ Open → n.mark ≡ (node_at nodes id).mark
    → Extends (record { boxes = boxes; nodes = nodes; lists = lists }) (record { boxes = boxes ++ more; nodes = slice_set nodes id n ++ behind; lists = lists })
extends-more boxes more nodes behind lists id n long id-in is mark =
    let set = slice_set nodes id n in
    let nodes-long : length (set ++ behind) ≡ length set + length behind = length-append set behind in
    let set-len : length set ≡ length nodes = length-set nodes id n in
    record {
      table = same-lists lists;
      known = omega (arith, nodes-long, set-len);
      boxes = λ i i-in. get_or_append_left boxes more [] i (omega (arith, long, i-in));
      nodes = λ i i-in. rw (get_or_append_left set behind open_node i (omega (arith, set-len, i-in)))
          (each-item (λ j m. m ≡ node_at nodes j) (λ j m. Lasts (node_at nodes j) m) nodes id n open_node
          (λ j m b e. lasts-self (node_at nodes j) m e)
          (record { kind = open-lasts (node_at nodes id).kind n.kind (IsSome n.mark) is; mark = λ h. rw mark h })
          (λ j j-in. refl) i i-in);
    }

pub extends-closed : (boxes : List Bounds) (nodes : List Node) (lists : List MultiplierList) (id : ℕ) (n : Node) → id < length nodes → (node_at nodes id).kind ≡ Open → n.mark ≡ (node_at nodes id).mark
    → Extends (record { boxes = boxes; nodes = nodes; lists = lists }) (record { boxes = boxes; nodes = slice_set nodes id n; lists = lists })
extends-closed boxes nodes lists id n id-in is mark =
    let set-len : length (slice_set nodes id n) ≡ length nodes = length-set nodes id n in
    record {
      table = same-lists lists;
      known = omega (arith, set-len);
      boxes = λ i i-in. refl;
      nodes = each-item (λ j m. m ≡ node_at nodes j) (λ j m. Lasts (node_at nodes j) m) nodes id n open_node
          (λ j m b e. lasts-self (node_at nodes j) m e)
          (record { kind = open-lasts (node_at nodes id).kind n.kind (IsSome n.mark) is; mark = λ h. rw mark h })
          (λ j j-in. refl);
    }

-- a node that is opened lasts
opened-lasts : (cut : ℤ) (held : ℕ → Bool) (kind : Kind) (mark : Option Bound) → is_reopened_kind cut held kind ≡ true → Lasts (record { mark = mark; kind = kind }) (record { mark = opened_mark kind mark; kind = Open })
opened-lasts cut held (Split var at left right) mark e = absurd cc
opened-lasts cut held Open mark e = absurd cc
opened-lasts cut held (Dead reason) mark e = absurd cc
opened-lasts cut held (Bounded bound) mark e = record { kind = inr refl; mark = λ h. refl }
opened-lasts cut held (Screened f) mark e = record { kind = tt; mark = λ h. h }
opened-lasts cut held (Point serial) mark e = absurd cc

chosen-lasts : (n : Node) (c : Bool) → (c ≡ true → Lasts n (opened n)) → Lasts n (cond c (opened n) n)
chosen-lasts n true h = h refl
chosen-lasts n false h = lasts-self n n refl

pub extends-reopened : (boxes : List Bounds) (nodes : List Node) (lists : List MultiplierList) (cut : ℤ) (held : ℕ → Bool)
    → Extends (record { boxes = boxes; nodes = nodes; lists = lists }) (record { boxes = boxes; nodes = map (reopened cut held) nodes; lists = lists })
extends-reopened boxes nodes lists cut held =
    let long : length (map (reopened cut held) nodes) ≡ length nodes = length-map nodes (reopened cut held) in
    record {
      table = same-lists lists;
      known = omega (arith, long);
      boxes = λ i i-in. refl;
      nodes = λ i i-in. rw (node-reopened cut held nodes i i-in)
          (chosen-lasts (node_at nodes i) (is_reopened cut held (node_at nodes i)) (opened-lasts cut held (node_at nodes i).kind (node_at nodes i).mark));
    }

-- ---- a longer table

known-longer : (old new : List MultiplierList) → IsPrefix old new → (bound : Bound) → IsKnown old bound → IsKnown new bound
known-longer old new p bound h =
    let long : length new ≡ length old + length p.0 = ap length p.1 ∙ length-append old p.0 in
    omega (arith, long, h)

fits-longer : (old new : List MultiplierList) → IsPrefix old new → (b : Bounds) (kind : Kind) → IsFit old b kind → IsFit new b kind
fits-longer old new p b (Split var at left right) h = tt
fits-longer old new p b Open h = tt
fits-longer old new p b (Dead reason) h = tt
fits-longer old new p b (Bounded bound) h = known-longer old new p bound h
fits-longer old new p b (Screened f) h = tt
fits-longer old new p b (Point serial) h = h

mark-longer : (old new : List MultiplierList) → IsPrefix old new → (mark : Option Bound) → IfSome mark (IsKnown old) → IfSome mark (IsKnown new)
mark-longer old new p None h = tt
mark-longer old new p (Some bound) h = known-longer old new p bound h

pub kept-longer : (root : Bounds) (cuts : List Cut) (nodes : List Node) (old new : List MultiplierList) (first : ℕ) → IsPrefix old new → IsTable new → IsKept root cuts nodes old first → IsKept root cuts nodes new first
kept-longer root cuts nodes old new first p table k = record {
  grown = record {
    tree = k.grown.tree;
    nodes = λ i i-in. let w = k.grown.nodes i i-in in
        record { kind = fits-longer old new p (box_at (boxes_of root cuts) i) (node_at nodes i).kind w.kind; mark = mark-longer old new p (node_at nodes i).mark w.mark };
    table = table;
  };
  sized = k.sized;
  small = k.small;
  cut = k.cut;
  next = k.next;
}

pub extends-longer : (boxes : List Bounds) (nodes : List Node) (old new : List MultiplierList) → IsPrefix old new
    → Extends (record { boxes = boxes; nodes = nodes; lists = old }) (record { boxes = boxes; nodes = nodes; lists = new })
extends-longer boxes nodes old new p =
    record { table = p; known = omega arith; boxes = λ i h. refl; nodes = λ i h. lasts-self (node_at nodes i) (node_at nodes i) refl }
