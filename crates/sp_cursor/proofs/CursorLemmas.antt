-- The moves of a cursor.
use Rattle.std.proofs.Common.{◌≡◌, ℕ, zero, suc, ◌+◌, ◌<◌, ◌≤◌, ◌⊎◌, inl, inr, Bool, true, false, Option, None, Some, IfSome, List, [], ◌∷◌, ◌++◌, ◌%◌, length, slice_set, slice_index_or, ℤ, pos, ◌≤ℤ◌, ◌<ℤ◌, ◌+ℤ◌, ◌==◌, refl, sym, ap, map, ◌∙◌, subst, arith}
use Rattle.std.proofs.lemmas.Int.{ints}
use Rattle.std.proofs.lemmas.List.{get_or-map, length-map}
use Rattle.std.proofs.lemmas.Bool.{false≢true}
use Rattle.sp_model.specs.declared.parts.ModelParts.{ModelParts}
use Rattle.sp_model.specs.Boxes.{Bounds, CanSplit, above, below, range_at}
use Rattle.sp_model.specs.Models.{root_of}
use Rattle.sp_sums.specs.Ranges.{IsChange, IsInside, IsPart}
use Rattle.sp_tree.specs.declared.nodes.Node.{Node}
use Rattle.sp_tree.specs.Laws.{Extends}
use Rattle.sp_tree.specs.Splits.{IfSplit, IsChild, IsSplit, IsTree, Parts, box_at, parts_at}
use Rattle.sp_tree.specs.Trees.{IsGrown, TreeOf, node_at, open_node, split_of, splits}
use Rattle.sp_cursor.specs.declared.hands.Hand.{Hand}
use Rattle.sp_cursor.specs.declared.cursors.Back.{Back}
use Rattle.sp_cursor.specs.declared.cursors.Cut.{Cut}
use Rattle.sp_cursor.specs.declared.cursors.Cursor.{Cursor}
use Rattle.sp_cursor.specs.Cursors.{HasRoot, IsBack, IsCursorOf, IsHand, IsWayBack, first_of}
use Rattle.sp_cursor.specs.InnerCursors.{IsCutOf, IsLine, IsWayDown, first_node, part_of}

-- ---- boxes

pub below-set : (b : Bounds) (v : ℕ) (at : ℤ) → below b v at ≡ slice_set b v (part_of (range_at b v) at true)
below-set [] v at = refl
below-set (r ∷ b) zero at = refl
below-set (r ∷ b) (suc v) at = ap (λ c. r ∷ c) (below-set b v at)

pub above-set : (b : Bounds) (v : ℕ) (at : ℤ) → above b v at ≡ slice_set b v (part_of (range_at b v) at false)
above-set [] v at = refl
above-set (r ∷ b) zero at = refl
above-set (r ∷ b) (suc v) at = ap (λ c. r ∷ c) (above-set b v at)

set-back : (b : Bounds) (v : ℕ) (q : ℤ × ℤ) → slice_set (slice_set b v q) v (range_at b v) ≡ b
set-back [] v q = refl
set-back (r ∷ b) zero q = refl
set-back (r ∷ b) (suc v) q = ap (λ c. r ∷ c) (set-back b v q)

pub change-back : (root b : Bounds) (v : ℕ) → IsInside root b → v < length b → IsChange root v (range_at b v)
change-back root b v h v-in =
    let long = h.long in
    let known : v < length root = omega (arith, long, v-in) in
    record { known = known; part = h.each v known }

part-within : (q r : ℤ × ℤ) (at : ℤ) (lower : Bool) → IsPart q r → r.0 ≤ℤ at → at <ℤ r.1 → IsPart q (part_of r at lower)
part-within q r at true h low high =
    let a = h.lower in
    let d = h.upper in
    record { lower = a; filled = low; upper = omega (arith, ints, d, high) }
part-within q r at false h low high =
    let a = h.lower in
    let d = h.upper in
    record { lower = omega (arith, ints, a, low); filled = omega (arith, ints, high); upper = d }

pub change-part : (root b : Bounds) (v : ℕ) (at : ℤ) (lower : Bool) → IsInside root b → CanSplit b v at → IsChange root v (part_of (range_at b v) at lower)
change-part root b v at lower h can =
    let long = h.long in
    let v-in = can.known in
    let known : v < length root = omega (arith, long, v-in) in
    record { known = known; part = part-within (range_at root v) (range_at b v) at lower (h.each v known) can.least can.greatest }

-- ---- the way back

pub back-push : (root : Bounds) (boxes : List Bounds) (ps : List Back) (p : Back) (n : ℕ) → IsWayBack root boxes ps p.node → IsBack root boxes p n → IsWayBack root boxes (ps ++ p ∷ []) n
back-push root boxes [] p n way back = (back, tt)
back-push root boxes (q ∷ []) p n way back = (way.0, (back, tt))
back-push root boxes (q ∷ (r ∷ ps)) p n way back = (way.0, back-push root boxes (r ∷ ps) p n way.1 back)

pub back-first : (ps : List Back) (p : Back) (n : ℕ) → first_of (ps ++ p ∷ []) n ≡ first_of ps p.node
back-first [] p n = refl
back-first (q ∷ ps) p n = refl

pub record Popped (root : Bounds) (boxes : List Bounds) (ps : List Back) (p : Back) (n : ℕ) : Type 0 where
  pub way : IsWayBack root boxes ps p.node
  pub last : IsBack root boxes p n

pub back-pop : (root : Bounds) (boxes : List Bounds) (ps : List Back) (p : Back) (n : ℕ) → IsWayBack root boxes (ps ++ p ∷ []) n → Popped root boxes ps p n
back-pop root boxes [] p n way = record { way = tt; last = way.0 }
back-pop root boxes (q ∷ []) p n way = record { way = (way.0, tt); last = way.1.0 }
back-pop root boxes (q ∷ (r ∷ ps)) p n way =
    let rest = back-pop root boxes (r ∷ ps) p n way.1 in
    record { way = (way.0, rest.way); last = rest.last }

-- ---- one step up

pub rises : (m : ModelParts) (t : TreeOf) (old : Cursor) (new : Cursor) (ps : List Back) (p : Back) → IsCursorOf m t old → old.backs.items ≡ ps ++ p ∷ [] → new.backs.items ≡ ps → new.node ≡ p.node
    → IsHand m new.hand (slice_set (box_at t.boxes old.node) p.var p.range) → IsCursorOf m t new
rises m t old new ps p c were are here hand =
    let way = rw were at c.back in
    let popped = back-pop (root_of m) t.boxes ps p old.node way in
    let less = popped.last.order in
    let known = c.known in
    let root = rw (were, back-first ps p old.node) at c.root in
    record {
      hand = rw here (rw popped.last.box at hand);
      known = rw here (omega (arith, less, known));
      back = rw (are, here) popped.way;
      root = rw (are, here) root;
    }

pub change-of : (m : ModelParts) (t : TreeOf) (c : Cursor) (ps : List Back) (p : Back) → IsCursorOf m t c → c.backs.items ≡ ps ++ p ∷ [] → IsBack (root_of m) t.boxes p c.node
change-of m t c ps p h were = (back-pop (root_of m) t.boxes ps p c.node (rw were at h.back)).last

pub at-root : (m : ModelParts) (t : TreeOf) (c : Cursor) → IsCursorOf m t c → c.backs.items ≡ [] → c.node ≡ 0
at-root m t c h none = rw none at h.root

-- ---- one step down

split-at : (t : TreeOf) (i : ℕ) (cut : Cut) → IsGrown t → (c : IsCutOf (parts_at (splits t.nodes) i) cut) → IsSplit t.boxes i (record { var = cut.var; at = cut.at; left = cut.left; right = c.right })
split-at t i cut grown c = rw c.parts_are at (grown.tree.split i)

pub can-split : (t : TreeOf) (i : ℕ) (cut : Cut) → IsGrown t → IsCutOf (parts_at (splits t.nodes) i) cut → CanSplit (box_at t.boxes i) cut.var cut.at
can-split t i cut grown c = (split-at t i cut grown c).lawful

child-is : (parts : Option Parts) (cut : Cut) (c : IsCutOf parts cut) (n : ℕ) → IsChild parts n → (cut.left ≡ n) ⊎ (c.right ≡ n)
child-is parts cut c n h = rw c.parts_are at h

-- what is known of a part of a split
pub record IsBelow (m : ModelParts) (t : TreeOf) (i : ℕ) (cut : Cut) (lower : Bool) (n : ℕ) : Type 0 where
  pub order : i < n
  pub known : n < length t.boxes
  pub box : box_at t.boxes n ≡ slice_set (box_at t.boxes i) cut.var (part_of (range_at (box_at t.boxes i) cut.var) cut.at lower)

lower-below : (m : ModelParts) (t : TreeOf) (i : ℕ) (cut : Cut) (n : ℕ) → IsGrown t → IsCutOf (parts_at (splits t.nodes) i) cut → cut.left ≡ n → IsBelow m t i cut true n
lower-below m t i cut n grown c e =
    let s = split-at t i cut grown c in
    let next = s.next in
    let within = s.within in
    rw (← e) (record { order = s.order; known = omega (arith, next, within); box = s.low ∙ below-set (box_at t.boxes i) cut.var cut.at })

upper-below : (m : ModelParts) (t : TreeOf) (i : ℕ) (cut : Cut) (n : ℕ) → IsGrown t → (c : IsCutOf (parts_at (splits t.nodes) i) cut) → c.right ≡ n → IsBelow m t i cut false n
upper-below m t i cut n grown c e =
    let s = split-at t i cut grown c in
    let next = s.next in
    let order = s.order in
    rw (← e) (record { order = omega (arith, next, order); known = s.within; box = s.high ∙ above-set (box_at t.boxes i) cut.var cut.at })

pub part-below : (m : ModelParts) (t : TreeOf) (i : ℕ) (cut : Cut) (n : ℕ) (lower : Bool) → IsGrown t → IsCutOf (parts_at (splits t.nodes) i) cut → IsChild (parts_at (splits t.nodes) i) n
    → (lower ≡ true → cut.left ≡ n) → (cut.left ≡ n → lower ≡ true) → IsBelow m t i cut lower n
part-below m t i cut n true grown c child told from = lower-below m t i cut n grown c (told refl)
part-below m t i cut n false grown c child told from =
    elim (child-is (parts_at (splits t.nodes) i) cut c n child) [ inl e ↦ absurd (false≢true (from e)) | inr e ↦ upper-below m t i cut n grown c e ]

equal-from : (a b : ℕ) → (a == b) ≡ true → a ≡ b
equal-from a b h = grind (arith, h)

equal-to : (a b : ℕ) → a ≡ b → (a == b) ≡ true
equal-to a b h = grind (arith, h)

pub part-below-by : (m : ModelParts) (t : TreeOf) (i : ℕ) (cut : Cut) (n l k : ℕ) → IsGrown t → IsCutOf (parts_at (splits t.nodes) i) cut → IsChild (parts_at (splits t.nodes) i) n
    → l ≡ cut.left → k ≡ n → IsBelow m t i cut (l == k) n
part-below-by m t i cut n l k grown c child left here =
    part-below m t i cut n (l == k) grown c child (λ e. sym left ∙ equal-from l k e ∙ here) (λ e. equal-to l k (left ∙ e ∙ sym here))

pub descends : (m : ModelParts) (t : TreeOf) (old new : Cursor) (cut : Cut) (lower : Bool) (n : ℕ) (p : Back) → IsCursorOf m t old → IsBelow m t old.node cut lower n → IsInside (root_of m) (box_at t.boxes old.node) → cut.var < length (box_at t.boxes old.node)
    → p.node ≡ old.node → p.var ≡ cut.var → p.range ≡ range_at (box_at t.boxes old.node) cut.var → new.backs.items ≡ old.backs.items ++ p ∷ [] → new.node ≡ n → length t.boxes ≡ length t.nodes
    → IsHand m new.hand (slice_set (box_at t.boxes old.node) cut.var (part_of (range_at (box_at t.boxes old.node) cut.var) cut.at lower)) → IsCursorOf m t new
descends m t old new cut lower n p c below inside v-in pn pv pr are here sized hand =
    let b = box_at t.boxes old.node in
    let known = below.known in
    let set : slice_set (box_at t.boxes n) cut.var (range_at b cut.var) ≡ b = rw below.box (set-back b cut.var (part_of (range_at b cut.var) cut.at lower)) in
    let back : IsBack (root_of m) t.boxes p n =
    record { order = rw pn below.order; change = rw (pv, pr) (change-back (root_of m) b cut.var inside v-in); box = rw (pn, pv, pr) set } in
    let way = rw (← pn) at c.back in
    record {
      hand = rw (here, below.box) hand;
      known = rw here (omega (arith, known, sized));
      back = rw (are, here) (back-push (root_of m) t.boxes old.backs.items p n way back);
      root = rw (are, here, back-first old.backs.items p n, pn) c.root;
    }

-- ---- the way down

pub line-push : (parts : List (Option Parts)) (ks : List ℕ) (n p : ℕ) → IsLine parts ks n → IsChild (parts_at parts p) n → IsLine parts (ks ++ n ∷ []) p
line-push parts [] n p h child = (child, tt)
line-push parts (k ∷ []) n p h child = (h.0, (child, tt))
line-push parts (k ∷ (j ∷ ks)) n p h child = (h.0, line-push parts (j ∷ ks) n p h.1 child)

line-first : (ks : List ℕ) (n p : ℕ) → first_node (ks ++ n ∷ []) p ≡ first_node ks n
line-first [] n p = refl
line-first (k ∷ ks) n p = refl

pub record Stepped (parts : List (Option Parts)) (ks : List ℕ) (k n : ℕ) : Type 0 where
  pub line : IsLine parts ks k
  pub child : IsChild (parts_at parts n) k

line-pop : (parts : List (Option Parts)) (ks : List ℕ) (k n : ℕ) → IsLine parts (ks ++ k ∷ []) n → Stepped parts ks k n
line-pop parts [] k n h = record { line = tt; child = h.0 }
line-pop parts (j ∷ []) k n h = record { line = (h.0, tt); child = h.1.0 }
line-pop parts (j ∷ (i ∷ ks)) k n h = let rest = line-pop parts (i ∷ ks) k n h.1 in record { line = (h.0, rest.line); child = rest.child }

-- the room for a way is no part of where a cursor is
pub other-path : (m : ModelParts) (t : TreeOf) (old new : Cursor) → new.hand ≡ old.hand → new.node ≡ old.node → new.backs ≡ old.backs → IsCursorOf m t old → IsCursorOf m t new
other-path m t old new hand node backs h = rw (hand, node, backs) (record { hand = h.hand; known = h.known; back = h.back; root = h.root })

pub way-more : (t : TreeOf) (path : List ℕ) (n p to : ℕ) → IsWayDown t path n to → IsChild (parts_at (splits t.nodes) p) n → IsWayDown t (path ++ n ∷ []) p to
way-more t path n p to h child = record { line = line-push (splits t.nodes) path n p h.line child; end = line-first path n p ∙ h.end }

pub way-child : (t : TreeOf) (all path : List ℕ) (k n to : ℕ) → all ≡ path ++ k ∷ [] → IsWayDown t all n to → IsChild (parts_at (splits t.nodes) n) k
way-child t all path k n to is h = (line-pop (splits t.nodes) path k n (rw is at h.line)).child

pub way-less : (t : TreeOf) (all path : List ℕ) (k n to : ℕ) → all ≡ path ++ k ∷ [] → IsWayDown t all n to → IsWayDown t path k to
way-less t all path k n to is h = record { line = (line-pop (splits t.nodes) path k n (rw is at h.line)).line; end = sym (line-first path k n) ∙ rw is at h.end }

pub way-end : (t : TreeOf) (path : List ℕ) (n to : ℕ) → path ≡ [] → IsWayDown t path n to → n ≡ to
way-end t path n to none h = rw none at h.end

pub way-none : (t : TreeOf) (path : List ℕ) (to : ℕ) → path ≡ [] → IsWayDown t path to to
way-none t path to none = rw none (record { line = tt; end = refl })

-- ---- a part comes after the whole

after-split : (boxes : List Bounds) (i : ℕ) (parts : Option Parts) (j : ℕ) → IfSplit boxes i parts → IsChild parts j → i < j
after-split boxes i None j s h = absurd h
after-split boxes i (Some p) j s (inl e) = let order = s.order in omega (arith, order, e)
after-split boxes i (Some p) j s (inr e) = let order = s.order in let next = s.next in omega (arith, order, next, e)

pub after-parent : (t : TreeOf) (i j : ℕ) → IsGrown t → IsChild (parts_at (splits t.nodes) i) j → i < j
after-parent t i j grown h = after-split t.boxes i (parts_at (splits t.nodes) i) j (grown.tree.split i) h

-- ---- a later tree

first-known : (root : Bounds) (boxes : List Bounds) (ps : List Back) (n count : ℕ) → IsWayBack root boxes ps n → n < count → first_of ps n < count
first-known root boxes [] n count h n-in = n-in
first-known root boxes (p ∷ ps) n count h n-in =
    let less = h.0.order in
    let rest = first-known root boxes ps n count h.1 n-in in
    omega (arith, less, rest)

way-lasts : (root : Bounds) (old new : List Bounds) (count : ℕ) → ((i : ℕ) → i < count → box_at new i ≡ box_at old i) → (ps : List Back) (n : ℕ) → n < count → IsWayBack root old ps n → IsWayBack root new ps n
way-lasts root old new count same [] n n-in h = tt
way-lasts root old new count same (p ∷ ps) n n-in h =
    let next = first-known root old ps n count h.1 n-in in
    let less = h.0.order in
    let here = same (first_of ps n) next in
    let there = same p.node (omega (arith, less, next)) in
    (record { order = h.0.order; change = h.0.change; box = rw (here, there) h.0.box }, way-lasts root old new count same ps n n-in h.1)

pub cursor-lasts : (m : ModelParts) (old new : TreeOf) (c : Cursor) → Extends old new → IsCursorOf m old c → IsCursorOf m new c
cursor-lasts m old new c later h =
    let n-in = h.known in
    let more = later.known in
    record {
      hand = rw (later.boxes c.node n-in) h.hand;
      known = omega (arith, n-in, more);
      back = way-lasts (root_of m) old.boxes new.boxes (length old.nodes) later.boxes c.backs.items c.node n-in h.back;
      root = h.root;
    }

-- ---- trees

splits-at : (nodes : List Node) (i : ℕ) → i < length nodes → parts_at (splits nodes) i ≡ split_of (node_at nodes i).kind
splits-at nodes i h = get_or-map (λ n. split_of n.kind) nodes i open_node None h

length-splits : (nodes : List Node) → length (splits nodes) ≡ length nodes
length-splits nodes = length-map nodes (λ n. split_of n.kind)

pub boxes-nodes : (t : TreeOf) → IsGrown t → length t.boxes ≡ length t.nodes
boxes-nodes t grown = sym grown.tree.sized ∙ length-splits t.nodes

-- ---- the root

root-some : (nodes : List Node) (boxes : List Bounds) → length nodes ≡ length boxes → length boxes % 2 ≡ 1 → 0 < length nodes
root-some [] [] sized odd = absurd (omega (arith, odd))
root-some [] (b ∷ boxes) sized odd = absurd (omega (arith, sized))
root-some (n ∷ nodes) boxes sized odd = omega arith

pub root-known : (m : ModelParts) (t : TreeOf) → HasRoot m t → 0 < length t.nodes
root-known m t r =
    let tree = r.grown.tree in
    root-some t.nodes t.boxes (sym (length-map t.nodes (λ n. split_of n.kind)) ∙ tree.sized) tree.odd

pub root-hand : (m : ModelParts) (t : TreeOf) (h : Hand) → HasRoot m t → IsHand m h (root_of m) → IsHand m h (box_at t.boxes 0)
root-hand m t h r hand = subst (IsHand m h) (sym r.box) hand
