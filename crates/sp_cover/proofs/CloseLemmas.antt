-- Closing a leaf keeps the cover.
use Rattle.std.proofs.Common.{◌≡◌, ◌≢◌, ℕ, ◌<◌, Bool, true, false, Option, None, Some, IfSome, length, slice_set, ℤ, ◌≤ℤ◌, ◌<ℤ◌, refl, sym, arith}
use Rattle.std.proofs.lemmas.Int.{ints}
use Rattle.std.proofs.lemmas.List.{length-set}
use Rattle.std.proofs.lemmas.Bool.{false≢true}
use Rattle.sp_model.specs.declared.parts.ModelParts.{ModelParts}
use Rattle.sp_model.specs.Boxes.{Bounds}
use Rattle.sp_filter.specs.Held.{FilterList}
use Rattle.sp_tree.specs.declared.nodes.Node.{Node}
use Rattle.sp_tree.specs.declared.nodes.Kind.{Kind}
use Rattle.sp_tree.specs.declared.nodes.Kind.TheVariants.{Split, Open, Dead, Bounded, Screened, Point}
use Rattle.sp_tree.specs.Splits.{box_at}
use Rattle.sp_tree.specs.Trees.{TreeOf, node_at, with_kind, with_kind_of, IsGrown}
use Rattle.sp_tree.specs.Laws.{Extends, HasMark}
use Rattle.sp_cover.specs.Cover.{AreScreened, Claim, IfScreened, IsBestWithin, IsEarlyKind, IsLateKind, IsSearch, NodeFits, SearchOf, is_any_point, is_any_point_of, is_point, is_point_of, needs_mark}
use Rattle.sp_cover.specs.Moves.{FitsAim, MayClose, closed_as}
use Rattle.sp_cover.specs.declared.aims.Aim.{Aim}
use Rattle.sp_cover.specs.declared.aims.Aim.TheVariants.{Improve, Collect}
use Rattle.sp_cover.proofs.EachLemmas.{MarksLast, count-set, each-set}

-- no phase is both
pub both-phases : {X : Type 0} (b : Bool) → b ≡ true → b ≡ false → X
both-phases true h k = absurd (false≢true (sym k))
both-phases false h k = absurd (false≢true h)

within-more : (best : Option ℤ) (cut least : ℤ) → best ≢ None → IfSome best (λ b. b ≤ℤ cut) → cut <ℤ least → IsBestWithin best least
within-more None cut least some h k = absurd (some refl)
within-more (Some b) cut least some h k = let g : b ≤ℤ cut = h in omega (arith, ints, g, k)

may-claim : (m : ModelParts) (s : SearchOf) (aim : Aim) (b : Bounds) (kind : Kind) → MayClose m s aim b kind → Claim m s.tree.lists s.found b kind
may-claim m s aim b (Split var at left right) may = absurd may
may-claim m s aim b Open may = absurd may
may-claim m s aim b (Dead reason) may = may
may-claim m s aim b (Bounded bound) may = may.0
may-claim m s aim b (Screened f) may = tt
may-claim m s aim b (Point serial) may = absurd may

may-early : (m : ModelParts) (s : SearchOf) (aim : Aim) (b : Bounds) (kind : Kind) → FitsAim aim s → MayClose m s aim b kind → s.proved ≡ false → IsEarlyKind s.best kind
may-early m s aim b (Split var at left right) fits may e = tt
may-early m s aim b Open fits may e = tt
may-early m s aim b (Dead reason) fits may e = tt
may-early m s Improve b (Bounded bound) fits may e = may.1
may-early m s (Collect cut) b (Bounded bound) fits may e = both-phases s.proved fits.0 e
may-early m s aim b (Screened f) fits may e = both-phases s.proved may e
may-early m s aim b (Point serial) fits may e = tt

may-late : (m : ModelParts) (s : SearchOf) (aim : Aim) (b : Bounds) (kind : Kind) → FitsAim aim s → MayClose m s aim b kind → s.best ≢ None → IsLateKind s.best kind
may-late m s aim b (Split var at left right) fits may some = tt
may-late m s aim b Open fits may some = some
may-late m s aim b (Dead reason) fits may some = tt
may-late m s Improve b (Bounded bound) fits may some = may.1
may-late m s (Collect cut) b (Bounded bound) fits may some = within-more s.best cut bound.least some fits.1 may.1
may-late m s aim b (Screened f) fits may some = some
may-late m s aim b (Point serial) fits may some = some

-- after phase one an open leaf says that a point was found
pub open-some : (best : Option ℤ) (kind : Kind) → kind ≡ Open → IsLateKind best kind → best ≢ None
open-some best kind is late = rw is at late

may-is_no_point : (m : ModelParts) (s : SearchOf) (aim : Aim) (b : Bounds) (kind : Kind) (serial : ℕ) → MayClose m s aim b kind → is_point_of serial kind ≡ false
may-is_no_point m s aim b (Split var at left right) serial may = refl
may-is_no_point m s aim b Open serial may = refl
may-is_no_point m s aim b (Dead reason) serial may = refl
may-is_no_point m s aim b (Bounded bound) serial may = refl
may-is_no_point m s aim b (Screened f) serial may = refl
may-is_no_point m s aim b (Point k) serial may = absurd may

may-is_no_any : (m : ModelParts) (s : SearchOf) (aim : Aim) (b : Bounds) (kind : Kind) → MayClose m s aim b kind → is_any_point_of kind ≡ false
may-is_no_any m s aim b (Split var at left right) may = refl
may-is_no_any m s aim b Open may = refl
may-is_no_any m s aim b (Dead reason) may = refl
may-is_no_any m s aim b (Bounded bound) may = refl
may-is_no_any m s aim b (Screened f) may = refl
may-is_no_any m s aim b (Point k) may = absurd may

pub open-is_no_point : (kind : Kind) (serial : ℕ) → kind ≡ Open → is_point_of serial kind ≡ false
open-is_no_point kind serial is = rw is refl

pub open-is_no_any : (kind : Kind) → kind ≡ Open → is_any_point_of kind ≡ false
open-is_no_any kind is = rw is refl

-- a node that lasts keeps the mark on its path; an open leaf that is another kind has had one
pub marked-set : MarksLast → (old new : TreeOf) (id : ℕ) (n : Node) → Extends old new → new.nodes ≡ slice_set old.nodes id n → id < length old.nodes → (node_at old.nodes id).kind ≡ Open
    → ((i : ℕ) → i < length old.nodes → needs_mark (node_at old.nodes i).kind ≡ true → HasMark old.nodes i)
    → (i : ℕ) → i < length old.nodes → needs_mark (node_at (slice_set old.nodes id n) i).kind ≡ true → HasMark new.nodes i
marked-set last old new id n ext is id-in shut h =
    let at-id : HasMark new.nodes id = last old new ext id id-in (h id id-in (rw shut refl)) in
    each-set (λ i m. (i < length old.nodes) × (needs_mark m.kind ≡ true → HasMark old.nodes i)) (λ i m. needs_mark m.kind ≡ true → HasMark new.nodes i) old.nodes id n
    (λ i m g k. last old new ext i g.0 (g.1 k))
    (λ _. at-id)
    (λ i i-in. (i-in, h i i-in))

pub closing-keeps : MarksLast → (m : ModelParts) (s : SearchOf) (aim : Aim) (id : ℕ) (kind : Kind)
    → IsSearch m s → IsGrown (with_kind s.tree id kind) → Extends s.tree (with_kind s.tree id kind)
    → FitsAim aim s → id < length s.tree.nodes → (node_at s.tree.nodes id).kind ≡ Open
    → MayClose m s aim (box_at s.tree.boxes id) kind → IsSearch m (closed_as s id kind)
closing-keeps last m s aim id kind c grown ext fits id-in is may =
    let old = c.nodes id id-in in
    let n = with_kind_of (node_at s.tree.nodes id) kind in
    let long = length-set s.tree.nodes id n in
    record {
      grown = grown;
      root = c.root;
      nodes = λ i i-in. each-set
          (λ j k. NodeFits m s.tree.lists s.found s.proved s.best (box_at s.tree.boxes j) k)
          (λ j k. NodeFits m s.tree.lists s.found s.proved s.best (box_at s.tree.boxes j) k)
          s.tree.nodes id n (λ j k h. h)
          (record {
            claim = may-claim m s aim (box_at s.tree.boxes id) kind may;
            mark = old.mark;
            early = λ e. record { unmarked = (old.early e).unmarked; kind = may-early m s aim (box_at s.tree.boxes id) kind fits may e };
            late = λ e. record { mark = (old.late e).mark; kind = may-late m s aim (box_at s.tree.boxes id) kind fits may (open-some s.best (node_at s.tree.nodes id).kind is (old.late e).kind) };
          })
          c.nodes i (rw (← long) i-in);
      placed = λ serial from known.
          let set = count-set (is_point serial) s.tree.nodes id n id-in in
          let was = open-is_no_point (node_at s.tree.nodes id).kind serial is in
          let now = may-is_no_point m s aim (box_at s.tree.boxes id) kind serial may in
          let one = c.placed serial from known in
          let set' = rw (was, now) at set in
          omega (arith, set', one);
      matched =
          let set = count-set is_any_point s.tree.nodes id n id-in in
          let was = open-is_no_any (node_at s.tree.nodes id).kind is in
          let now = may-is_no_any m s aim (box_at s.tree.boxes id) kind may in
          let all = c.matched in
          let set' = rw (was, now) at set in
          omega (arith, set', all);
      best = c.best;
      falling = c.falling;
      optimal = c.optimal;
      marked = λ e i i-in. marked-set last s.tree (with_kind s.tree id kind) id n ext refl id-in is (c.marked e) i (rw (← long) i-in);
    }

pub closing-screens : (fs : FilterList) (t : TreeOf) (id : ℕ) (kind : Kind) → AreScreened fs t → IfScreened fs (box_at t.boxes id) kind → AreScreened fs (with_kind t id kind)
closing-screens fs t id kind h k =
    let n = with_kind_of (node_at t.nodes id) kind in
    let long = length-set t.nodes id n in
    record {
      each = λ i i-in. each-set
          (λ j n. IfScreened fs (box_at t.boxes j) n.kind) (λ j n. IfScreened fs (box_at t.boxes j) n.kind)
          t.nodes id n (λ j n g. g) k h.each i (rw (← long) i-in);
    }
