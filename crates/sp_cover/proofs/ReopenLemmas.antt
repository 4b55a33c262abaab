-- Reopening, more lists, and a change of filters keep the cover.
use Rattle.std.proofs.Common.{◌≡◌, ◌≢◌, ℕ, ◌<◌, ◌⊎◌, inl, inr, Bool, true, false, cond, Option, None, Some, IfSome, IsSome, List, ◌++◌, map, length, ℤ, refl, sym, ◌∙◌, arith, length-append}
use Rattle.std.proofs.lemmas.List.{length-map, get_or-map, get_or_append_left}
use Rattle.std.proofs.lemmas.Option.{none-some}
use Rattle.std.proofs.lemmas.Bool.{false≢true}
use Rattle.sp_model.specs.declared.parts.ModelParts.{ModelParts}
use Rattle.sp_model.specs.Boxes.{Bounds}
use Rattle.sp_list.specs.declared.found.Found.{Found}
use Rattle.sp_dual.specs.Lists.{MultiplierList, zero_list}
use Rattle.sp_filter.specs.declared.kinds.Filter.{Filter}
use Rattle.sp_filter.specs.Held.{Closes, FilterList, filter_of}
use Rattle.sp_tree.specs.declared.nodes.Bound.{Bound}
use Rattle.sp_tree.specs.declared.nodes.Node.{Node}
use Rattle.sp_tree.specs.declared.nodes.Kind.{Kind}
use Rattle.sp_tree.specs.declared.nodes.Kind.TheVariants.{Split, Open, Dead, Bounded, Screened, Point}
use Rattle.sp_tree.specs.Splits.{box_at}
use Rattle.sp_tree.specs.Trees.{TreeOf, IsGrown, is_reopened, is_reopened_kind, node_at, open_node, opened, opened_mark, reopened}
use Rattle.sp_tree.specs.Laws.{Extends, own}
use Rattle.sp_cover.specs.Cover.{AreScreened, Claim, IfScreened, IsBestWithin, IsBoundOf, IsSearch, NodeFits, SearchOf, is_any_point, is_any_point_of, is_point, is_point_of, needs_mark}
use Rattle.sp_cover.specs.Moves.{AreLater, KeepsLists, moved_to, reopened_tree}
use Rattle.sp_cover.proofs.EachLemmas.{MarksLast, count-map}

within-some : (best : Option ℤ) (v : ℤ) → IsBestWithin best v → best ≢ None
within-some None v h = absurd h
within-some (Some b) v h = λ e. none-some b (sym e)

-- a node of each kind, kept or opened
kind-reopened : (m : ModelParts) (lists : List MultiplierList) (found : List Found) (best : Option ℤ) (b : Bounds) (kind : Kind) (mark : Option Bound) (cut : ℤ) (held : ℕ → Bool)
    → NodeFits m lists found true best b (record { mark = mark; kind = kind }) → is_reopened_kind cut held kind ≡ true
    → NodeFits m lists found true best b (record { mark = opened_mark kind mark; kind = Open })
kind-reopened m lists found best b (Split var at left right) mark cut held h e = absurd (false≢true e)
kind-reopened m lists found best b Open mark cut held h e = absurd (false≢true e)
kind-reopened m lists found best b (Dead reason) mark cut held h e = absurd (false≢true e)
kind-reopened m lists found best b (Bounded bound) mark cut held h e =
    record { claim = tt; mark = h.claim; early = λ f. absurd (false≢true (sym f)); late = λ f. record { mark = (h.late refl).kind; kind = within-some best bound.least (h.late refl).kind } }
kind-reopened m lists found best b (Screened f) mark cut held h e =
    record { claim = tt; mark = h.mark; early = λ g. absurd (false≢true (sym g)); late = λ g. record { mark = (h.late refl).mark; kind = (h.late refl).kind } }
kind-reopened m lists found best b (Point serial) mark cut held h e = absurd (false≢true e)

fits-reopened : (m : ModelParts) (lists : List MultiplierList) (found : List Found) (best : Option ℤ) (b : Bounds) (n : Node) (cut : ℤ) (held : ℕ → Bool) (c : Bool)
    → is_reopened cut held n ≡ c → NodeFits m lists found true best b n → NodeFits m lists found true best b (cond {A = Node} c (opened n) n)
fits-reopened m lists found best b n cut held true e h = kind-reopened m lists found best b n.kind n.mark cut held h e
fits-reopened m lists found best b n cut held false e h = h

-- a reopened node is the same point
point-opened : (serial : ℕ) (kind : Kind) (cut : ℤ) (held : ℕ → Bool) → is_reopened_kind cut held kind ≡ true → is_point_of serial kind ≡ false
point-opened serial (Split var at left right) cut held e = refl
point-opened serial Open cut held e = refl
point-opened serial (Dead reason) cut held e = refl
point-opened serial (Bounded bound) cut held e = refl
point-opened serial (Screened f) cut held e = refl
point-opened serial (Point s) cut held e = absurd (false≢true e)

any-opened : (kind : Kind) (cut : ℤ) (held : ℕ → Bool) → is_reopened_kind cut held kind ≡ true → is_any_point_of kind ≡ false
any-opened (Split var at left right) cut held e = refl
any-opened Open cut held e = refl
any-opened (Dead reason) cut held e = refl
any-opened (Bounded bound) cut held e = refl
any-opened (Screened f) cut held e = refl
any-opened (Point s) cut held e = absurd (false≢true e)

point-reopened : (serial : ℕ) (n : Node) (cut : ℤ) (held : ℕ → Bool) (c : Bool) → is_reopened cut held n ≡ c → is_point serial (cond {A = Node} c (opened n) n) ≡ is_point serial n
point-reopened serial n cut held true e = sym (point-opened serial n.kind cut held e)
point-reopened serial n cut held false e = refl

any-reopened : (n : Node) (cut : ℤ) (held : ℕ → Bool) (c : Bool) → is_reopened cut held n ≡ c → is_any_point (cond {A = Node} c (opened n) n) ≡ is_any_point n
any-reopened n cut held true e = sym (any-opened n.kind cut held e)
any-reopened n cut held false e = refl

-- an opened node needed a mark before, or has its own
needs-opened : (kind : Kind) (mark : Option Bound) (cut : ℤ) (held : ℕ → Bool) → is_reopened_kind cut held kind ≡ true → (needs_mark kind ≡ true) ⊎ IsSome (opened_mark kind mark)
needs-opened (Split var at left right) mark cut held e = absurd (false≢true e)
needs-opened Open mark cut held e = inl refl
needs-opened (Dead reason) mark cut held e = absurd (false≢true e)
needs-opened (Bounded bound) mark cut held e = inr refl
needs-opened (Screened f) mark cut held e = inl refl
needs-opened (Point s) mark cut held e = absurd (false≢true e)

needs-reopened : (n : Node) (cut : ℤ) (held : ℕ → Bool) (c : Bool) → is_reopened cut held n ≡ c → needs_mark (cond {A = Node} c (opened n) n).kind ≡ true
    → (needs_mark n.kind ≡ true) ⊎ IsSome (cond {A = Node} c (opened n) n).mark
needs-reopened n cut held true e h = needs-opened n.kind n.mark cut held e
needs-reopened n cut held false e h = inl h

reopened-at : (cut : ℤ) (held : ℕ → Bool) (nodes : List Node) (i : ℕ) → i < length nodes → node_at (map (reopened cut held) nodes) i ≡ reopened cut held (node_at nodes i)
reopened-at cut held nodes i h = get_or-map (reopened cut held) nodes i open_node open_node h

pub reopening-keeps : MarksLast → (m : ModelParts) (s : SearchOf) (cut : ℤ) (held : ℕ → Bool) → IsSearch m s → s.proved ≡ true
    → IsGrown (reopened_tree cut held s.tree) → Extends s.tree (reopened_tree cut held s.tree) → IsSearch m (moved_to s (reopened_tree cut held s.tree))
reopening-keeps last m s cut held c done grown ext =
    let long : length (map (reopened cut held) s.tree.nodes) ≡ length s.tree.nodes = length-map s.tree.nodes (reopened cut held) in
    record {
      grown = grown;
      root = c.root;
      nodes = λ i i-in.
          let j : i < length s.tree.nodes = rw (← long) i-in in
          let was = rw done at (c.nodes i j) in
          rw (done, reopened-at cut held s.tree.nodes i j) (fits-reopened m s.tree.lists s.found s.best (box_at s.tree.boxes i) (node_at s.tree.nodes i) cut held (is_reopened cut held (node_at s.tree.nodes i)) refl was);
      placed = λ serial from known. count-map (is_point serial) (reopened cut held) (λ n. point-reopened serial n cut held (is_reopened cut held n) refl) s.tree.nodes ∙ c.placed serial from known;
      matched = count-map is_any_point (reopened cut held) (λ n. any-reopened n cut held (is_reopened cut held n) refl) s.tree.nodes ∙ c.matched;
      best = c.best;
      falling = c.falling;
      optimal = c.optimal;
      marked = λ e i i-in needs.
          let j : i < length s.tree.nodes = rw (← long) i-in in
          let is = reopened-at cut held s.tree.nodes i j in
          elim (needs-reopened (node_at s.tree.nodes i) cut held (is_reopened cut held (node_at s.tree.nodes i)) refl (rw is at needs)) [
            | inl old ↦ last s.tree (reopened_tree cut held s.tree) ext i j (c.marked e i j old)
            | inr new ↦ own (rw is new)
          ];
    }

screen-kept : (fs : FilterList) (b : Bounds) (n : Node) (cut : ℤ) (held : ℕ → Bool) (c : Bool) → IfScreened fs b n.kind → IfScreened fs b (cond {A = Node} c (opened n) n).kind
screen-kept fs b n cut held true h = tt
screen-kept fs b n cut held false h = h

pub reopening-screens : (fs : FilterList) (t : TreeOf) (cut : ℤ) (held : ℕ → Bool) → AreScreened fs t → AreScreened fs (reopened_tree cut held t)
reopening-screens fs t cut held h =
    let long : length (map (reopened cut held) t.nodes) ≡ length t.nodes = length-map t.nodes (reopened cut held) in
    record {
      each = λ i i-in.
          let j : i < length t.nodes = rw (← long) i-in in
          rw (reopened-at cut held t.nodes i j) (screen-kept fs (box_at t.boxes i) (node_at t.nodes i) cut held (is_reopened cut held (node_at t.nodes i)) (h.each i j));
    }

-- ---- more lists

bound-kept : (m : ModelParts) (old more : List MultiplierList) (b : Bounds) (bound : Bound) → IsBoundOf m old b bound → IsBoundOf m (old ++ more) b bound
bound-kept m old more b bound h =
    let known = h.known in
    let long = length-append old more in
    let same = get_or_append_left old more zero_list bound.by known in
    record { known = omega (arith, known, long); formed = rw same h.formed; number = rw same h.number }

claim-kept : (m : ModelParts) (old more : List MultiplierList) (found : List Found) (b : Bounds) (kind : Kind) → Claim m old found b kind → Claim m (old ++ more) found b kind
claim-kept m old more found b (Split var at left right) h = h
claim-kept m old more found b Open h = h
claim-kept m old more found b (Dead reason) h = h
claim-kept m old more found b (Bounded bound) h = bound-kept m old more b bound h
claim-kept m old more found b (Screened f) h = h
claim-kept m old more found b (Point serial) h = h

mark-kept : (m : ModelParts) (old more : List MultiplierList) (b : Bounds) (mark : Option Bound) → IfSome mark (IsBoundOf m old b) → IfSome mark (IsBoundOf m (old ++ more) b)
mark-kept m old more b None h = h
mark-kept m old more b (Some bound) h = bound-kept m old more b bound h

fits-kept : (m : ModelParts) (old more : List MultiplierList) (found : List Found) (proved : Bool) (best : Option ℤ) (b : Bounds) (n : Node)
    → NodeFits m old found proved best b n → NodeFits m (old ++ more) found proved best b n
fits-kept m old more found proved best b n h =
    record { claim = claim-kept m old more found b n.kind h.claim; mark = mark-kept m old more b n.mark h.mark; early = h.early; late = h.late }

pub keeping-keeps : (m : ModelParts) (s : SearchOf) (t : TreeOf) → IsSearch m s → IsGrown t → KeepsLists s.tree t → IsSearch m (moved_to s t)
keeping-keeps m s t c grown k =
    let lists = k.lists.1 in
    record {
      grown = grown;
      root = rw k.boxes c.root;
      nodes = rw (k.nodes, k.boxes, lists) (λ i i-in. fits-kept m s.tree.lists k.lists.0 s.found s.proved s.best (box_at s.tree.boxes i) (node_at s.tree.nodes i) (c.nodes i i-in));
      placed = rw k.nodes c.placed;
      matched = rw k.nodes c.matched;
      best = c.best;
      falling = c.falling;
      optimal = c.optimal;
      marked = rw k.nodes c.marked;
    }

-- ---- filters

screen-at : (old new : Option Filter) (b : Bounds) → IfSome new (λ filter. old ≡ Some filter) → IfSome old (λ filter. Closes filter b true) → IfSome new (λ filter. Closes filter b true)
screen-at old None b h k = tt
screen-at old (Some filter) b h k = rw h at k

kind-later : (old new : FilterList) (b : Bounds) (kind : Kind) → AreLater old new → IfScreened old b kind → IfScreened new b kind
kind-later old new b (Split var at left right) l h = h
kind-later old new b Open l h = h
kind-later old new b (Dead reason) l h = h
kind-later old new b (Bounded bound) l h = h
kind-later old new b (Screened f) l h =
    let used = h.used in
    let next = l.next in
    record { used = omega (arith, used, next); closes = screen-at (filter_of old.held f) (filter_of new.held f) b (l.held f used) h.closes }
kind-later old new b (Point serial) l h = h

pub later-screens : (old new : FilterList) (t : TreeOf) → AreLater old new → AreScreened old t → AreScreened new t
later-screens old new t l h = record { each = λ i i-in. kind-later old new (box_at t.boxes i) (node_at t.nodes i).kind l (h.each i i-in) }
