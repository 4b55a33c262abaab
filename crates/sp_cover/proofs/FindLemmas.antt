-- Finding a point keeps the cover.
use Rattle.std.proofs.Common.{◌≡◌, ◌≢◌, ℕ, zero, suc, ◌+◌, ◌-◌, ◌<◌, inl, inr, Bool, true, false, ◌==◌, Option, None, Some, List, [], ◌∷◌, ◌++◌, length, slice_index_or, AllPairs, ℤ, ◌≤ℤ◌, ◌<ℤ◌, refl, sym, ap, ◌∙◌, arith, length-append}
use Rattle.std.proofs.lemmas.Int.{ints}
use Rattle.std.proofs.lemmas.List.{length-set, get_or_append_left}
use Rattle.std.proofs.Math.Seq.{get_or-append_seam}
use Rattle.std.proofs.lemmas.Bool.{false≢true}
use Rattle.sp_model.specs.declared.parts.ModelParts.{ModelParts}
use Rattle.sp_model.specs.Boxes.{Bounds, IsWithin, point_count}
use Rattle.sp_model.specs.Models.{Feasible, IsOptimum, objective}
use Rattle.sp_list.specs.declared.found.Found.{Found}
use Rattle.sp_dual.specs.Lists.{MultiplierList}
use Rattle.sp_filter.specs.Held.{FilterList}
use Rattle.sp_tree.specs.declared.nodes.Node.{Node}
use Rattle.sp_tree.specs.declared.nodes.Kind.{Kind}
use Rattle.sp_tree.specs.declared.nodes.Kind.TheVariants.{Split, Open, Dead, Bounded, Screened, Point}
use Rattle.sp_tree.specs.Splits.{box_at}
use Rattle.sp_tree.specs.Trees.{node_at, with_kind, with_kind_of, IsGrown}
use Rattle.sp_tree.specs.Laws.{Extends}
use Rattle.sp_cover.specs.Cover.{AreScreened, Claim, IsBest, IsBestWithin, IsEarlyKind, IsFound, IsSearch, NodeFits, SearchOf, found_of, is_any_point, is_point, is_point_of, no_found}
use Rattle.sp_cover.specs.Moves.{IsBetter, MayFind, best_after, found_as}
use Rattle.sp_cover.proofs.EachLemmas.{MarksLast, count-none, count-set, each-set, last-or}
use Rattle.sp_cover.proofs.CloseLemmas.{closing-screens, marked-set, open-is_no_any, open-is_no_point, open-some}

-- a found point stays where it is, and the new one is the last
old-found : (found : List Found) (f : Found) (k : ℕ) → k < length found → slice_index_or (found ++ (f ∷ [])) k no_found ≡ slice_index_or found k no_found
old-found found f k h = get_or_append_left found (f ∷ []) no_found k h

new-found : (found : List Found) (f : Found) → slice_index_or (found ++ (f ∷ [])) (length found) no_found ≡ f
new-found found f = get_or-append_seam found f [] no_found

pub one-more : (found : List Found) (f : Found) → length (found ++ (f ∷ [])) ≡ length found + 1
one-more found f = length-append found (f ∷ [])

found-more : (m : ModelParts) (found : List Found) (f : Found) (b : Bounds) (serial : ℕ) → IsFound m found b serial → IsFound m (found ++ (f ∷ [])) b serial
found-more m found f b serial h =
    let from = h.from in
    let known = h.known in
    let long = one-more found f in
    let same = old-found found f (serial - 1) (omega (arith, from, known)) in
    record {
      from = from;
      known = omega (arith, known, long);
      one = h.one;
      held = rw same h.held;
      feasible = rw same h.feasible;
      value = rw same h.value;
    }

claim-more : (m : ModelParts) (lists : List MultiplierList) (found : List Found) (f : Found) (b : Bounds) (kind : Kind) → Claim m lists found b kind → Claim m lists (found ++ (f ∷ [])) b kind
claim-more m lists found f b (Split var at left right) h = h
claim-more m lists found f b Open h = h
claim-more m lists found f b (Dead reason) h = h
claim-more m lists found f b (Bounded bound) h = h
claim-more m lists found f b (Screened g) h = h
claim-more m lists found f b (Point serial) h = found-more m found f b serial h

better-within : (best : Option ℤ) (v least : ℤ) → IsBetter best v → IsBestWithin best least → IsBestWithin (Some v) least
better-within None v least h k = absurd k
better-within (Some b) v least h k = let g : b ≤ℤ least = k in let l : v <ℤ b = h in omega (arith, ints, g, l)

early-more : (best : Option ℤ) (v : ℤ) (kind : Kind) → IsBetter best v → IsEarlyKind best kind → IsEarlyKind (Some v) kind
early-more best v (Split var at left right) h k = tt
early-more best v Open h k = tt
early-more best v (Dead reason) h k = tt
early-more best v (Bounded bound) h k = better-within best v bound.least h k
early-more best v (Screened f) h k = k
early-more best v (Point serial) h k = tt

-- the other nodes
fits-more : (m : ModelParts) (lists : List MultiplierList) (found : List Found) (f : Found) (proved : Bool) (best : Option ℤ) (b : Bounds) (n : Node)
    → (proved ≡ false → IsBetter best f.value) → NodeFits m lists found proved best b n → NodeFits m lists (found ++ (f ∷ [])) proved (best_after proved best f.value) b n
fits-more m lists found f true best b n better h =
    record { claim = claim-more m lists found f b n.kind h.claim; mark = h.mark; early = λ e. absurd (false≢true (sym e)); late = h.late }
fits-more m lists found f false best b n better h =
    record {
      claim = claim-more m lists found f b n.kind h.claim;
      mark = h.mark;
      early = λ e. record { unmarked = (h.early refl).unmarked; kind = early-more best f.value n.kind (better refl) (h.early refl).kind };
      late = λ e. absurd (false≢true e);
    }

-- the new point's own node
fits-new : (m : ModelParts) (lists : List MultiplierList) (found : List Found) (f : Found) (proved : Bool) (best : Option ℤ) (b : Bounds) (n : Node)
    → n.kind ≡ Open → IsFound m (found ++ (f ∷ [])) b (length found + 1) → NodeFits m lists found proved best b n
    → NodeFits m lists (found ++ (f ∷ [])) proved (best_after proved best f.value) b (with_kind_of n (Point (length found + 1)))
fits-new m lists found f true best b n is new h =
    record { claim = new; mark = h.mark; early = λ e. absurd (false≢true (sym e)); late = λ e. record { mark = (h.late refl).mark; kind = open-some best n.kind is (h.late refl).kind } }
fits-new m lists found f false best b n is new h =
    record { claim = new; mark = h.mark; early = λ e. record { unmarked = (h.early refl).unmarked; kind = tt }; late = λ e. absurd (false≢true e) }

unequal : (a b : ℕ) → a < b → (a == b) ≡ false
unequal a b h = grind arith

equal : (a : ℕ) → (a == a) ≡ true
equal a = grind arith

-- no node has the serial of the new point yet
other-serial : (m : ModelParts) (lists : List MultiplierList) (found : List Found) (b : Bounds) (kind : Kind) (serial : ℕ) → Claim m lists found b kind → length found < serial → is_point_of serial kind ≡ false
other-serial m lists found b (Split var at left right) serial h k = refl
other-serial m lists found b Open serial h k = refl
other-serial m lists found b (Dead reason) serial h k = refl
other-serial m lists found b (Bounded bound) serial h k = refl
other-serial m lists found b (Screened g) serial h k = refl
other-serial m lists found b (Point s) serial h k = let known = h.known in unequal s serial (omega (arith, known, k))

first-only : (f : Found) (k : ℕ) → k < length (f ∷ []) → f.value ≤ℤ (slice_index_or (f ∷ []) k no_found).value
first-only f zero h = omega (arith, ints)
first-only f (suc k) h = absurd (omega (arith, h))

-- the best after a new point
best-more : (m : ModelParts) (found : List Found) (f : Found) (proved : Bool) (best : Option ℤ)
    → IsBest found best → (proved ≡ false → IsBetter best f.value) → (proved ≡ true → best ≢ None) → (proved ≡ true → IsOptimum m best)
    → Feasible m f.point → objective m f.point ≡ f.value → IsBest (found ++ (f ∷ [])) (best_after proved best f.value)
best-more m found f true None h better some optimal feasible value = absurd (some refl refl)
best-more m found f true (Some b) h better some optimal feasible value =
    let long = one-more found f in
    let near : b ≤ℤ objective m f.point = (optimal refl).least f.point feasible in
    let near' = rw value at near in
    let at = h.reached in
    let in' = at.1 in
    record {
      reached = (at.0, omega (arith, in', long), rw (old-found found f at.0 in') at.2);
      least = λ k k-in. elim (last-or k (length found) (omega (arith, k-in, long))) [
        | inl l ↦ rw (old-found found f k l) (h.least k l)
        | inr e ↦ rw (e, new-found found f) near'
      ];
    }
best-more m found f false None h better some optimal feasible value =
    rw h (record { reached = (0, omega arith, refl); least = λ k k-in. first-only f k k-in })
best-more m found f false (Some b) h better some optimal feasible value =
    let long = one-more found f in
    let less : f.value <ℤ b = better refl in
    record {
      reached = (length found, omega (arith, long), ap (λ g. g.value) (new-found found f));
      least = λ k k-in. elim (last-or k (length found) (omega (arith, k-in, long))) [
        | inl l ↦ let was : b ≤ℤ (slice_index_or found k no_found).value = h.least k l in rw (old-found found f k l) (omega (arith, ints, less, was))
        | inr e ↦ rw (e, new-found found f) (omega (arith, ints))
      ];
    }

new-at : (m : ModelParts) (found : List Found) (f : Found) (b : Bounds) → point_count b ≡ 1 → IsWithin b f.point → Feasible m f.point → objective m f.point ≡ f.value → IsFound m (found ++ (f ∷ [])) b (length found + 1)
new-at m found f b one held feasible value =
    let long = one-more found f in
    let at : (length found + 1) - 1 ≡ length found = omega arith in
    let is : found_of (found ++ (f ∷ [])) (length found + 1) ≡ f = ap (λ k. slice_index_or (found ++ (f ∷ [])) k no_found) at ∙ new-found found f in
    record {
      from = omega arith;
      known = omega (arith, long);
      one = one;
      held = rw is held;
      feasible = rw is feasible;
      value = rw is value;
    }

unequal-above : (a b : ℕ) → a < b → (b == a) ≡ false
unequal-above a b h = grind arith

get_or-default : (found : List Found) (i : ℕ) (d e : Found) → i < length found → slice_index_or found i d ≡ slice_index_or found i e
get_or-default [] i d e h = absurd (omega (arith, h))
get_or-default (g ∷ found) zero d e h = refl
get_or-default (g ∷ found) (suc i) d e h = get_or-default found i d e (omega (arith, h))

below-all : (found : List Found) (f : Found) (best : Option ℤ) (i : ℕ) → IsBest found best → IsBetter best f.value → i < length found → f.value <ℤ (slice_index_or found i no_found).value
below-all found f None i h better i-in = let none = ap length h in absurd (omega (arith, none, i-in))
below-all found f (Some b) i h better i-in =
    let low : b ≤ℤ (slice_index_or found i no_found).value = h.least i i-in in
    let less : f.value <ℤ b = better in
    omega (arith, ints, low, less)

falls-more : (found : List Found) (f : Found) (best : Option ℤ) → IsBest found best → IsBetter best f.value → AllPairs (λ g h. h.value <ℤ g.value) found → AllPairs (λ g h. h.value <ℤ g.value) (found ++ (f ∷ []))
falls-more found f best is better falls i j d i-lt-j j-in =
    let long = one-more found f in
    elim (last-or j (length found) (omega (arith, j-in, long))) [
      | inl l ↦ rw (get_or_append_left found (f ∷ []) d i (omega (arith, i-lt-j, l)), get_or_append_left found (f ∷ []) d j l) (falls i j d i-lt-j l)
      | inr e ↦ let i-in : i < length found = omega (arith, i-lt-j, e) in
          rw (e, get_or-append_seam found f [] d, get_or_append_left found (f ∷ []) d i i-in, get_or-default found i d no_found i-in) (below-all found f best i is better i-in)
    ]

pub finding-keeps : MarksLast → (m : ModelParts) (s : SearchOf) (id : ℕ) (f : Found)
    → IsSearch m s → IsGrown (with_kind s.tree id (Point (length s.found + 1))) → Extends s.tree (with_kind s.tree id (Point (length s.found + 1)))
    → id < length s.tree.nodes → (node_at s.tree.nodes id).kind ≡ Open
    → MayFind m s (box_at s.tree.boxes id) f → IsSearch m (found_as s id f)
finding-keeps last m s id f c grown ext id-in is may =
    let old = c.nodes id id-in in
    let serial = length s.found + 1 in
    let n = with_kind_of (node_at s.tree.nodes id) (Point serial) in
    let long = length-set s.tree.nodes id n in
    let new = new-at m s.found f (box_at s.tree.boxes id) may.one may.held may.feasible may.value in
    record {
      grown = grown;
      root = c.root;
      nodes = λ i i-in. each-set
          (λ j k. NodeFits m s.tree.lists s.found s.proved s.best (box_at s.tree.boxes j) k)
          (λ j k. NodeFits m s.tree.lists (s.found ++ (f ∷ [])) s.proved (best_after s.proved s.best f.value) (box_at s.tree.boxes j) k)
          s.tree.nodes id n
          (λ j k h. fits-more m s.tree.lists s.found f s.proved s.best (box_at s.tree.boxes j) k may.better h)
          (fits-new m s.tree.lists s.found f s.proved s.best (box_at s.tree.boxes id) (node_at s.tree.nodes id) is new old)
          c.nodes i (rw (← long) i-in);
      placed = λ k from known.
          let more = one-more s.found f in
          let set = count-set (is_point k) s.tree.nodes id n id-in in
          let was = open-is_no_point (node_at s.tree.nodes id).kind k is in
          elim (last-or k serial (omega (arith, known, more))) [
            | inl l ↦
                let one = c.placed k from (omega (arith, l)) in
                let now : (serial == k) ≡ false = unequal-above k serial l in
                let set' = rw (was, now) at set in
                omega (arith, set', one)
            | inr e ↦
                let none = count-none (is_point k) s.tree.nodes (λ i i-in. other-serial m s.tree.lists s.found (box_at s.tree.boxes i) (node_at s.tree.nodes i).kind k (c.nodes i i-in).claim (omega (arith, e))) in
                let now : (serial == k) ≡ true = rw e (equal serial) in
                let set' = rw (was, now) at set in
                omega (arith, set', none)
          ];
      matched =
          let more = one-more s.found f in
          let set = count-set is_any_point s.tree.nodes id n id-in in
          let was = open-is_no_any (node_at s.tree.nodes id).kind is in
          let all = c.matched in
          let set' = rw was at set in
          omega (arith, set', all, more);
      best = best-more m s.found f s.proved s.best c.best may.better (λ e. open-some s.best (node_at s.tree.nodes id).kind is (old.late e).kind) c.optimal may.feasible may.value;
      falling = λ e. falls-more s.found f s.best c.best (may.better e) (c.falling e);
      optimal = λ e. rw (e) (c.optimal e);
      marked = λ e i i-in. marked-set last s.tree (with_kind s.tree id (Point serial)) id n ext refl id-in is (c.marked e) i (rw (← long) i-in);
    }

pub finding-screens : (fs : FilterList) (s : SearchOf) (id : ℕ) (f : Found) → AreScreened fs s.tree → AreScreened fs (found_as s id f).tree
finding-screens fs s id f h = closing-screens fs s.tree id (Point (length s.found + 1)) h tt
