-- What a cover says where no leaf is open, and where each leaf is licensed.
use Rattle.std.proofs.Common.{◌≡◌, ◌≢◌, ℕ, zero, suc, ◌+◌, ◌-◌, ◌<◌, ◌≤◌, ◌↔◌, Bool, true, false, cond, ◌==◌, if◌then◌else◌, not, nat_lt, Option, None, Some, IfSome, is_some, List, [], ◌∷◌, length, slice_index_or, count_by, Contains, IsTrue, ℤ, ◌≤ℤ◌, ◌<ℤ◌, refl, sym, ap, ◌∙◌, arith}
use Rattle.std.proofs.lemmas.Int.{ints}
use Rattle.std.proofs.lemmas.Option.{none-some}
use Rattle.std.proofs.lemmas.List.Elements.{All-head, All-tail}
use Rattle.std.specs.List.{prefix_len}
use Rattle.std.proofs.lemmas.Bool.{false≢true, ltb-true}
use Rattle.sp_model.specs.declared.parts.ModelParts.{ModelParts}
use Rattle.sp_model.specs.Boxes.{Bounds, IsWithin, point_count, points}
use Rattle.sp_model.specs.Models.{Feasible, IsOptimum, objective, root_of}
use Rattle.sp_model.specs.Sums.{Term}
use Rattle.sp_list.specs.declared.found.Found.{Found}
use Rattle.sp_activity.specs.Reasons.{Holds}
use Rattle.sp_activity.specs.declared.reasons.Reason.{Reason}
use Rattle.sp_dual.specs.Lists.{IsWellFormed, MultiplierList}
use Rattle.sp_bound.specs.Bounds.{KeepsRows, bound_of}
use Rattle.sp_sums.specs.Ranges.{IsInside}
use Rattle.sp_cover.proofs.BoxLemmas.{held-filled, inside-from}
use Rattle.sp_filter.specs.declared.holding.Held.{Held}
use Rattle.sp_filter.specs.declared.kinds.Filter.{Filter}
use Rattle.sp_filter.specs.Filters.{is_passed}
use Rattle.sp_filter.specs.Held.{Closes, FilterList, Passes, filter_of}
use Rattle.sp_sums.specs.Extremes.{IsSpanned}
use Rattle.sp_tree.specs.declared.nodes.Bound.{Bound}
use Rattle.sp_tree.specs.declared.nodes.Node.{Node}
use Rattle.sp_tree.specs.declared.nodes.Kind.{Kind}
use Rattle.sp_tree.specs.declared.nodes.Kind.TheVariants.{Split, Open, Dead, Bounded, Screened, Point}
use Rattle.sp_tree.specs.Splits.{box_at}
use Rattle.sp_tree.specs.Tables.{list_at}
use Rattle.sp_tree.specs.Trees.{TreeOf, node_at, open_node, split_of, splits, is_held, new_tree, IsComplete, IsGrown, IsLicensed}
use Rattle.sp_tree.specs.Laws.{IsPartition, LiesInLeaf}
use Rattle.sp_cover.specs.Numbers.{least_objective, number_by}
use Rattle.sp_cover.specs.Cover.{AreScreened, Claim, IfScreened, IsBest, IsBestWithin, IsBoundOf, IsEarlyKind, IsFound, IsLateKind, IsLeastFound, IsOpenAt, IsSearch, IsShut, NodeFits, SearchOf, found_of, is_any_point, is_any_point_of, is_point, is_point_of, needs_mark, no_found}
use Rattle.sp_cover.specs.Moves.{ended, new_search}
use Rattle.sp_cover.specs.Listing.{AreFound, IsListed, WasFound}
use Rattle.sp_cover.proofs.EachLemmas.{count-cons, count-some}
use Rattle.sp_cover.proofs.SplitLemmas.{length-splits, splits-at}

-- what the laws of the crates below say of any tree
pub record Divides : Type 0 where
  pub partition : (t : TreeOf) → IsGrown t → IsPartition t.boxes (splits t.nodes)
  pub within : (b : Bounds) (x : List ℤ) → Contains (points b) x ↔ IsWithin b x
  pub counted : (b : Bounds) → length (points b) ≡ point_count b

-- what the laws of the crates below say of a lawful model
pub record Sound (m : ModelParts) : Type 0 where
  pub inside : (x : List ℤ) → Feasible m x → IsWithin (root_of m) x
  pub dead : (b : Bounds) (r : Reason) (x : List ℤ) → Holds m b r → IsWithin b x → ¬ Feasible m x
  pub spanned : (b : Bounds) (ts : List Term) → IsSpanned b ts
  pub bounded : (b : Bounds) (list : MultiplierList) (x : List ℤ) (v : ℤ) → IsWellFormed list → IsInside (root_of m) b → KeepsRows m b x → bound_of m b list ≡ Some v → v ≤ℤ objective m x
  pub divides : Divides

-- ---- numbers

some-same : (a b : ℤ) → Some a ≡ Some b → a ≡ b
some-same a b h = cc

number-by-sound : (m : ModelParts) → Sound m → (b : Bounds) (list : MultiplierList) (y : List (ℕ × ℤ)) (v : ℤ) (x : List ℤ) → IsWellFormed list → IsInside (root_of m) b → number_by m b list y ≡ Some v → IsWithin b x → Feasible m x → v ≤ℤ objective m x
number-by-sound m l b list [] v x formed inside h held feasible =
    let low = (l.spanned b m.cost).least x held in
    let same = some-same (least_objective m b) v h in
    omega (arith, ints, low, same)
number-by-sound m l b list (e ∷ es) v x formed inside h held feasible = l.bounded b list x v formed inside (record { within = held; rows = feasible.rows }) h

number-sound : (m : ModelParts) → Sound m → (b : Bounds) (lists : List MultiplierList) (bound : Bound) (x : List ℤ) → IsInside (root_of m) b → IsBoundOf m lists b bound → IsWithin b x → Feasible m x → bound.least ≤ℤ objective m x
number-sound m l b lists bound x inside h held feasible = number-by-sound m l b (list_at lists bound.by) (list_at lists bound.by).y bound.least x h.formed inside h.number held feasible

-- ---- a box of one point

firsts-same : (xs : List (List ℤ)) (k : ℕ) (x d : List ℤ) → length xs ≡ 1 → k < length xs → slice_index_or xs k x ≡ slice_index_or xs 0 d
firsts-same [] k x d one h = absurd (omega (arith, one))
firsts-same (y ∷ ys) zero x d one h = refl
firsts-same (y ∷ ys) (suc k) x d one h = absurd (omega (arith, one, h))

pub one-point : Divides → (b : Bounds) (x y : List ℤ) → point_count b ≡ 1 → IsWithin b x → IsWithin b y → x ≡ y
one-point l b x y one h k =
    let long : length (points b) ≡ 1 = l.counted b ∙ one in
    let in-x = (l.within b x).1 h in
    let in-y = (l.within b y).1 k in
    sym in-x.2 ∙ firsts-same (points b) in-x.0 x [] long in-x.1 ∙ sym (firsts-same (points b) in-y.0 y [] long in-y.1) ∙ in-y.2

-- ---- the leaf that holds a point

boxes-nodes : (t : TreeOf) → IsGrown t → length t.boxes ≡ length t.nodes
boxes-nodes t grown = sym grown.tree.sized ∙ length-splits t.nodes

pub record HoldingLeaf (root : Bounds) (t : TreeOf) (x : List ℤ) : Type 0 where
  pub leaf : ℕ
  pub known : leaf < length t.nodes
  pub is_leaf : split_of (node_at t.nodes leaf).kind ≡ None
  pub held : IsWithin (box_at t.boxes leaf) x
  pub inside : IsInside root (box_at t.boxes leaf)

pub leaf-of : (m : ModelParts) → Sound m → (s : SearchOf) → IsSearch m s → (x : List ℤ) → Feasible m x → HoldingLeaf (root_of m) s.tree x
leaf-of m l s c x feasible =
    let parts = l.divides.partition s.tree c.grown in
    let r = parts.covers x (rw c.root (l.inside x feasible)) in
    let lies = r.1 in
    let boxes-long = boxes-nodes s.tree c.grown in
    let k = lies.known in
    let k' : r.0 < length s.tree.nodes = omega (arith, k, boxes-long) in
    let here = box_at s.tree.boxes r.0 in
    let inside = inside-from (root_of m) here (held-filled here x lies.within)
    (λ y w. rw c.root at (parts.inside y r.0 (record { known = k; leaf = lies.leaf; within = w }))) in
    record { leaf = r.0; known = k'; is_leaf = sym (splits-at s.tree.nodes r.0 k') ∙ lies.leaf; held = lies.within; inside = inside }

-- ---- where no leaf is open, in phase one

within-least : (best : Option ℤ) (v w : ℤ) → IsBestWithin best v → v ≤ℤ w → IsBestWithin best w
within-least None v w h k = absurd h
within-least (Some b) v w h k = let g : b ≤ℤ v = h in omega (arith, ints, g, k)

best-within : (found : List Found) (best : Option ℤ) (serial : ℕ) → IsBest found best → 0 < serial → serial ≤ length found → IsBestWithin best (found_of found serial).value
best-within found None serial is from known = let none = ap length is in absurd (omega (arith, none, from, known))
best-within found (Some b) serial is from known = is.least (serial - 1) (omega (arith, from, known))

-- a feasible point of a leaf that isn't open has an objective that isn't below the best
leaf-best : (m : ModelParts) → Sound m → (lists : List MultiplierList) (found : List Found) (best : Option ℤ) (b : Bounds) (kind : Kind) (x : List ℤ)
    → IsBest found best → Feasible m x → IsInside (root_of m) b → IsWithin b x → split_of kind ≡ None → kind ≢ Open
    → Claim m lists found b kind → IsEarlyKind best kind → IsBestWithin best (objective m x)
leaf-best m l lists found best b (Split var at left right) x is feasible inside held leaf shut claim early = absurd (grind arith)
leaf-best m l lists found best b Open x is feasible inside held leaf shut claim early = absurd (shut refl)
leaf-best m l lists found best b (Dead reason) x is feasible inside held leaf shut claim early = absurd (l.dead b reason x claim held feasible)
leaf-best m l lists found best b (Bounded bound) x is feasible inside held leaf shut claim early =
    within-least best bound.least (objective m x) early (number-sound m l b lists bound x inside claim held feasible)
leaf-best m l lists found best b (Screened f) x is feasible inside held leaf shut claim early = absurd early
leaf-best m l lists found best b (Point serial) x is feasible inside held leaf shut claim early =
    let same = one-point l.divides b x (found_of found serial).point claim.one held claim.held in
    rw (same, claim.value) (best-within found best serial is claim.from claim.known)

-- the best was found for a feasible point
best-reached : (m : ModelParts) (found : List Found) (v : ℤ) → AreFound m found → IsLeastFound found v → (x : List ℤ) × Feasible m x × (objective m x ≡ v)
best-reached m found v all is =
    let at = is.reached in
    ((slice_index_or found at.0 no_found).point, all.feasible at.0 at.1, all.value at.0 at.1 ∙ at.2)

optimal-from : (m : ModelParts) (found : List Found) (best : Option ℤ) → AreFound m found → IsBest found best → ((x : List ℤ) → Feasible m x → IsBestWithin best (objective m x)) → IsOptimum m best
optimal-from m found None all is h = λ x. h x
optimal-from m found (Some v) all is h = record { reached = best-reached m found v all is; least = λ x e. h x e }

-- ---- each found point stands in one leaf

same-number : (a b : ℕ) → (a == b) ≡ true → a ≡ b
same-number a b h = grind arith

-- the node that is the point of a serial
is-point-kind : (kind : Kind) (serial : ℕ) → is_point_of serial kind ≡ true → kind ≡ Point serial
is-point-kind (Split var at left right) serial h = absurd (false≢true h)
is-point-kind Open serial h = absurd (false≢true h)
is-point-kind (Dead reason) serial h = absurd (false≢true h)
is-point-kind (Bounded bound) serial h = absurd (false≢true h)
is-point-kind (Screened f) serial h = absurd (false≢true h)
is-point-kind (Point s) serial h = ap Point (same-number s serial h)

claim-found : (m : ModelParts) (lists : List MultiplierList) (found : List Found) (b : Bounds) (kind : Kind) (serial : ℕ) → kind ≡ Point serial → Claim m lists found b kind → IsFound m found b serial
claim-found m lists found b kind serial is h = rw is at h

leaf-point : (kind : Kind) (serial : ℕ) → kind ≡ Point serial → split_of kind ≡ None
leaf-point kind serial is = rw is refl

pub record FoundLeaf (m : ModelParts) (s : SearchOf) (k : ℕ) : Type 0 where
  pub leaf : ℕ
  pub known : leaf < length s.tree.nodes
  pub kind : (node_at s.tree.nodes leaf).kind ≡ Point (suc k)
  pub found : IsFound m s.found (box_at s.tree.boxes leaf) (suc k)

pub leaf-of-found : (m : ModelParts) (s : SearchOf) → IsSearch m s → (k : ℕ) → k < length s.found → FoundLeaf m s k
leaf-of-found m s c k k-in =
    let one = c.placed (suc k) (omega arith) (omega (arith, k-in)) in
    let r = count-some (is_point (suc k)) s.tree.nodes (omega (arith, one)) in
    let is = is-point-kind (node_at s.tree.nodes r.0).kind (suc k) r.2 in
    record { leaf = r.0; known = r.1; kind = is; found = claim-found m s.tree.lists s.found (box_at s.tree.boxes r.0) (node_at s.tree.nodes r.0).kind (suc k) is (c.nodes r.0 r.1).claim }

before : (k : ℕ) → suc k - 1 ≡ k
before k = omega arith

same-points : (a b : ℕ) → Point a ≡ Point b → a < b → ⊥
same-points a b e h = grind arith

lies-there : (m : ModelParts) (s : SearchOf) (c : IsSearch m s) (k : ℕ) (r : FoundLeaf m s k) → LiesInLeaf s.tree.boxes (splits s.tree.nodes) (slice_index_or s.found k no_found).point r.leaf
lies-there m s c k r =
    let boxes-long = boxes-nodes s.tree c.grown in
    let r-in = r.known in
    let held = r.found.held in
    record {
      known = omega (arith, r-in, boxes-long);
      leaf = splits-at s.tree.nodes r.leaf r-in ∙ leaf-point (node_at s.tree.nodes r.leaf).kind (suc k) r.kind;
      within = rw (before k) at held;
    }

pub found-are : Divides → (m : ModelParts) (s : SearchOf) → IsSearch m s → AreFound m s.found
found-are l m s c =
    record {
      feasible = λ k k-in. let r = leaf-of-found m s c k k-in in let h = r.found.feasible in rw (before k) at h;
      value = λ k k-in. let r = leaf-of-found m s c k k-in in let h = r.found.value in rw (before k) at h;
      once = λ k j less j-in same.
          let q = leaf-of-found m s c k (omega (arith, less, j-in)) in
          let r = leaf-of-found m s c j j-in in
          let parts = l.partition s.tree c.grown in
          let x = (slice_index_or s.found k no_found).point in
          let r-lies = lies-there m s c j r in
          let e : q.leaf ≡ r.leaf = parts.apart x q.leaf r.leaf (lies-there m s c k q) (rw same r-lies) in
          same-points (suc k) (suc j) (sym q.kind ∙ rw e r.kind) (omega (arith, less));
    }

-- ---- the end of phase one

found-some : (best : Option ℤ) (found : List Found) (serial : ℕ) → IsBest found best → 0 < serial → serial ≤ length found → best ≢ None
found-some None found serial is from known = let none = ap length is in absurd (omega (arith, none, from, known))
found-some (Some v) found serial is from known = λ e. none-some v (sym e)

early-late : (m : ModelParts) (best : Option ℤ) (lists : List MultiplierList) (found : List Found) (b : Bounds) (kind : Kind) → IsBest found best → kind ≢ Open → Claim m lists found b kind → IsEarlyKind best kind → IsLateKind best kind
early-late m best lists found b (Split var at left right) is shut claim early = tt
early-late m best lists found b Open is shut claim early = absurd (shut refl)
early-late m best lists found b (Dead reason) is shut claim early = tt
early-late m best lists found b (Bounded bound) is shut claim early = early
early-late m best lists found b (Screened f) is shut claim early = absurd early
early-late m best lists found b (Point serial) is shut claim early = found-some best found serial is claim.from claim.known

early-needs : (best : Option ℤ) (kind : Kind) → kind ≢ Open → IsEarlyKind best kind → needs_mark kind ≡ true → ⊥
early-needs best (Split var at left right) shut early h = false≢true h
early-needs best Open shut early h = shut refl
early-needs best (Dead reason) shut early h = false≢true h
early-needs best (Bounded bound) shut early h = false≢true h
early-needs best (Screened f) shut early h = early
early-needs best (Point serial) shut early h = false≢true h

ending-now : (m : ModelParts) → Sound m → (s : SearchOf) → IsSearch m s → IsShut s.tree.nodes → s.proved ≡ false → IsSearch m (ended s)
ending-now m l s c none first =
    let shut : (i : ℕ) → i < length s.tree.nodes → (node_at s.tree.nodes i).kind ≢ Open = λ i i-in e. none i (record { known = i-in; open_is = e }) in
    record {
      grown = c.grown;
      root = c.root;
      nodes = λ i i-in.
          let h = c.nodes i i-in in
          let early = h.early first in
          record {
            claim = h.claim;
            mark = h.mark;
            early = λ e. absurd (false≢true (sym e));
            late = λ e. record {
              mark = rw early.unmarked tt;
              kind = early-late m s.best s.tree.lists s.found (box_at s.tree.boxes i) (node_at s.tree.nodes i).kind c.best (shut i i-in) h.claim early.kind;
            };
          };
      placed = c.placed;
      matched = c.matched;
      best = c.best;
      falling = λ e. absurd (false≢true (sym e));
      optimal = λ e. optimal-from m s.found s.best (found-are l.divides m s c) c.best (λ x feasible.
          let r = leaf-of m l s c x feasible in
          let h = c.nodes r.leaf r.known in
          leaf-best m l s.tree.lists s.found s.best (box_at s.tree.boxes r.leaf) (node_at s.tree.nodes r.leaf).kind x c.best feasible r.inside r.held r.is_leaf (shut r.leaf r.known) h.claim (h.early first).kind);
      marked = λ e i i-in needs. absurd (early-needs s.best (node_at s.tree.nodes i).kind (shut i i-in) ((c.nodes i i-in).early first).kind needs);
    }

ending-at : (m : ModelParts) → Sound m → (s : SearchOf) (proved : Bool) → s.proved ≡ proved → IsSearch m s → IsShut s.tree.nodes → IsSearch m (ended s)
ending-at m l s false is c none = ending-now m l s c none is
ending-at m l s true is c none = rw (← is) c

pub ending-keeps : (m : ModelParts) → Sound m → (s : SearchOf) → IsSearch m s → IsShut s.tree.nodes → IsSearch m (ended s)
ending-keeps m l s c none = ending-at m l s s.proved refl c none

-- ---- the list

passes-step : (h : Held) (hs : List Held) (f : ℕ) (filter : Filter) (x : List ℤ) (b : Bool) → (h.id == f) ≡ b → (if b then Some h.filter else filter_of hs f) ≡ Some filter
    → is_passed h.filter x ≡ true → (filter_of hs f ≡ Some filter → is_passed filter x ≡ true) → is_passed filter x ≡ true
passes-step h hs f filter x true e is here rest = let same : h.filter ≡ filter = cc in rw (← same) here
passes-step h hs f filter x false e is here rest = rest is

passes-one : (hs : List Held) (f : ℕ) (filter : Filter) (x : List ℤ) → filter_of hs f ≡ Some filter → Passes hs x → is_passed filter x ≡ true
passes-one [] f filter x h k = cc
passes-one (g ∷ hs) f filter x h k =
    let P : Held → Type 0 = λ h. IsTrue (is_passed h.filter x) in
    passes-step g hs f filter x (g.id == f) refl h (All-head P g hs k) (λ e. passes-one hs f filter x e (All-tail P g hs k))

held-step : (h : Held) (hs : List Held) (f : ℕ) (b : Bool) → (h.id == f) ≡ b → cond (not b) (1 + prefix_len (λ k. not (k.id == f)) hs) 0 < length (h ∷ hs)
    → (prefix_len (λ k. not (k.id == f)) hs < length hs → (filter : Filter) × (filter_of hs f ≡ Some filter))
    → (filter : Filter) × ((if b then Some h.filter else filter_of hs f) ≡ Some filter)
held-step h hs f true e less rest = (h.filter, refl)
held-step h hs f false e less rest = rest (omega (arith, less))

held-from : (hs : List Held) (f : ℕ) → prefix_len (λ k. not (k.id == f)) hs < length hs → (filter : Filter) × (filter_of hs f ≡ Some filter)
held-from [] f h = absurd (omega (arith, h))
held-from (g ∷ hs) f h = held-step g hs f (g.id == f) refl h (held-from hs f)

some-true : (t : Bool) (k : ℕ) → is_some (cond {A = Option ℕ} t (Some k) None) ≡ true → t ≡ true
some-true true k h = refl
some-true false k h = absurd (false≢true h)

pub held-some : (fs : FilterList) (f : ℕ) → is_held fs f ≡ true → (filter : Filter) × (filter_of fs.held f ≡ Some filter)
held-some fs f h =
    let before = prefix_len (λ k. not (k.id == f)) fs.held in
    let less = some-true (nat_lt before (length fs.held)) before h in
    held-from fs.held f (ltb-true before (length fs.held) less)

closes-at : (o : Option Filter) (filter : Filter) (b : Bounds) → o ≡ Some filter → IfSome o (λ g. Closes g b true) → Closes filter b true
closes-at o filter b is h = rw is at h

leaf-listed : (m : ModelParts) → Sound m → (fs : FilterList) (lists : List MultiplierList) (found : List Found) (b : Bounds) (kind : Kind) (cut : ℤ) (x : List ℤ)
    → IsListed m cut fs x → IsInside (root_of m) b → IsWithin b x → split_of kind ≡ None → IsLicensed cut (is_held fs) kind → Claim m lists found b kind → IfScreened fs b kind → WasFound m found x
leaf-listed m l fs lists found b (Split var at left right) cut x listed inside held leaf licensed claim screen = absurd (grind arith)
leaf-listed m l fs lists found b Open cut x listed inside held leaf licensed claim screen = absurd licensed
leaf-listed m l fs lists found b (Dead reason) cut x listed inside held leaf licensed claim screen = absurd (l.dead b reason x claim held listed.feasible)
leaf-listed m l fs lists found b (Bounded bound) cut x listed inside held leaf licensed claim screen =
    let low : bound.least ≤ℤ objective m x = number-sound m l b lists bound x inside claim held listed.feasible in
    let near : objective m x ≤ℤ cut = listed.near in
    let far : cut <ℤ bound.least = licensed in
    absurd (omega (arith, ints, low, near, far))
leaf-listed m l fs lists found b (Screened f) cut x listed inside held leaf licensed claim screen =
    let here = held-some fs f licensed in
    let closes = closes-at (filter_of fs.held f) here.0 b here.1 screen.closes in
    absurd (false≢true (sym (closes.sound refl x held) ∙ passes-one fs.held f here.0 x here.1 listed.passes))
leaf-listed m l fs lists found b (Point serial) cut x listed inside held leaf licensed claim screen =
    let same = one-point l.divides b x (found_of found serial).point claim.one held claim.held in
    let from = claim.from in
    let known = claim.known in
    record { place = serial - 1; known = omega (arith, from, known); point = sym same; value = sym claim.value ∙ ap (objective m) (sym same) }

pub listed-found : (m : ModelParts) → Sound m → (fs : FilterList) (s : SearchOf) (cut : ℤ) (x : List ℤ) → IsSearch m s → AreScreened fs s.tree → IsComplete cut (is_held fs) s.tree.nodes → IsListed m cut fs x → WasFound m s.found x
listed-found m l fs s cut x c screens all listed =
    let r = leaf-of m l s c x listed.feasible in
    leaf-listed m l fs s.tree.lists s.found (box_at s.tree.boxes r.leaf) (node_at s.tree.nodes r.leaf).kind cut x listed r.inside r.held r.is_leaf (all r.leaf r.known r.is_leaf) (c.nodes r.leaf r.known).claim (screens.each r.leaf r.known)

-- ---- the start

new-fits : (m : ModelParts) (lists : List MultiplierList) (root : Bounds) (i : ℕ) → i < length (open_node ∷ []) → NodeFits m lists [] false None (box_at (root ∷ []) i) (node_at (open_node ∷ []) i)
new-fits m lists root zero h = record { claim = tt; mark = tt; early = λ e. record { unmarked = refl; kind = tt }; late = λ e. absurd (false≢true e) }
new-fits m lists root (suc i) h = absurd (omega (arith, h))

pub starting-covers : (m : ModelParts) → IsGrown (new_tree (root_of m)) → IsSearch m (new_search (root_of m))
starting-covers m grown =
    record {
      grown = grown;
      root = refl;
      nodes = λ i i-in. new-fits m (new_tree (root_of m)).lists (root_of m) i i-in;
      placed = λ serial from known. absurd (omega (arith, from, known));
      matched = refl;
      best = refl;
      falling = λ e i j d less j-in. absurd (omega (arith, j-in));
      optimal = λ e. absurd (false≢true e);
      marked = λ e. absurd (false≢true e);
    }

new-screened : (fs : FilterList) (root : Bounds) (i : ℕ) → i < length (open_node ∷ []) → IfScreened fs (box_at (root ∷ []) i) (node_at (open_node ∷ []) i).kind
new-screened fs root zero h = tt
new-screened fs root (suc i) h = absurd (omega (arith, h))

pub starting-screens : (fs : FilterList) (root : Bounds) → AreScreened fs (new_tree root)
starting-screens fs root = record { each = λ i i-in. new-screened fs root i i-in }

-- ---- an open leaf is more than the found points need

few-step : (test : Node → Bool) (n : Node) (nodes : List Node) (b : Bool) → test n ≡ b → count_by test nodes ≤ length nodes → count_by test (n ∷ nodes) ≤ length (n ∷ nodes)
few-step test n nodes true e h = let more = count-cons test n nodes in let one : cond {A = ℕ} (test n) 1 0 ≡ 1 = rw e refl in omega (arith, more, one, h)
few-step test n nodes false e h = let more = count-cons test n nodes in let none : cond {A = ℕ} (test n) 1 0 ≡ 0 = rw e refl in omega (arith, more, none, h)

count-few : (test : Node → Bool) (nodes : List Node) → count_by test nodes ≤ length nodes
count-few test [] = omega arith
count-few test (n ∷ nodes) = few-step test n nodes (test n) refl (count-few test nodes)

less-step : (test : Node → Bool) (n : Node) (nodes : List Node) (b : Bool) → test n ≡ b → count_by test nodes < length nodes → count_by test (n ∷ nodes) < length (n ∷ nodes)
less-step test n nodes true e h = let more = count-cons test n nodes in let one : cond {A = ℕ} (test n) 1 0 ≡ 1 = rw e refl in omega (arith, more, one, h)
less-step test n nodes false e h = let more = count-cons test n nodes in let none : cond {A = ℕ} (test n) 1 0 ≡ 0 = rw e refl in omega (arith, more, none, h)

count-less : (test : Node → Bool) (nodes : List Node) (i : ℕ) → i < length nodes → test (node_at nodes i) ≡ false → count_by test nodes < length nodes
count-less test [] i h e = absurd (omega (arith, h))
count-less test (n ∷ nodes) zero h e = let more = count-cons test n nodes in let none : cond {A = ℕ} (test n) 1 0 ≡ 0 = rw e refl in let few = count-few test nodes in omega (arith, more, none, few)
count-less test (n ∷ nodes) (suc i) h e = less-step test n nodes (test n) refl (count-less test nodes i (omega (arith, h)) e)

any-open : (kind : Kind) → kind ≡ Open → is_any_point_of kind ≡ false
any-open kind is = rw is refl

pub found-few : (m : ModelParts) (s : SearchOf) → IsSearch m s → length s.found ≤ length s.tree.nodes
found-few m s c =
    let few = count-few is_any_point s.tree.nodes in
    let same = c.matched in
    omega (arith, few, same)

pub found-fewer : (m : ModelParts) (s : SearchOf) (i : ℕ) → IsSearch m s → IsOpenAt s.tree.nodes i → length s.found < length s.tree.nodes
found-fewer m s i c h =
    let less = count-less is_any_point s.tree.nodes i h.known (any-open (node_at s.tree.nodes i).kind h.open_is) in
    let same = c.matched in
    omega (arith, less, same)
