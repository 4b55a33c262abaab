-- A run of steps that collect.
use Rattle.std.proofs.Common.{◌≡◌, ℕ, zero, suc, ◌+◌, ◌≤◌, ◌⊎◌, inl, inr, Bool, true, false, Option, List, [], ◌∷◌, ◌++◌, length, slice_set, All, ℤ, refl, sym, ap, ◌∙◌, arith, append_assoc, length-append}
use Rattle.std.specs.Borrow.{Bor}
use Rattle.std.proofs.lemmas.List.{append-nil, length-set}
use Rattle.std.proofs.lemmas.List.Elements.{All-append}
use Rattle.sp_model.specs.declared.parts.ModelParts.{ModelParts}
use Rattle.sp_list.specs.declared.found.Found.{Found}
use Rattle.sp_filter.specs.Held.{FilterList}
use Rattle.sp_tree.specs.declared.nodes.Kind.{Kind}
use Rattle.sp_tree.specs.declared.nodes.Kind.TheVariants.{Split as SplitKind, Point}
use Rattle.sp_tree.specs.Laws.{Extends}
use Rattle.sp_tree.specs.Trees.{TreeOf, node_at, open_node, with_kind, with_kind_of}
use Rattle.sp_cover.specs.Cover.{IsOpenAt, SearchOf}
use Rattle.sp_cover.specs.Moves.{best_after, closed_as, found_as, moved_to, settled}
use Rattle.sp_search.specs.States.{StateOf, with_search}
use Rattle.sp_search.specs.Steps.{IsFull, Steps}
use Rattle.sp_search.specs.Runs.{IsStuck}
use Rattle.sp_search.specs.declared.goals.Goal.TheVariants.{Collect}
use Rattle.sp_search.specs.declared.goals.Stepped.{Stepped}
use Rattle.sp_search.specs.declared.goals.Stepped.TheVariants.{Split, Closed, Found as FoundPoint, Full}
use Rattle.sp_populate.specs.Ends.{IsWithinBoth, collecting}
use Rattle.sp_populate.specs.InnerEnds.{IsLater, found_by}

-- ---- the size

count-same : (s t : SearchOf) → s ≡ t → length s.tree.nodes ≡ length t.tree.nodes
count-same s t e = ap (λ r. length r.tree.nodes) e

kind-size : (t : TreeOf) (id : ℕ) (kind : Kind) → length (with_kind t id kind).nodes ≡ length t.nodes
kind-size t id kind = length-set t.nodes id (with_kind_of (node_at t.nodes id) kind)

step-size : (m : ModelParts) (old new : SearchOf) (cut : ℤ) (r : Bor FilterList) (node limit : ℕ) (stepped : Stepped) → Steps m old new (Collect cut r) node limit stepped
    → (length new.tree.nodes ≤ limit) ⊎ (length new.tree.nodes ≤ length old.tree.nodes)
step-size m old new cut r node limit Split h =
    let n = with_kind_of (node_at old.tree.nodes node) (SplitKind h.var h.at h.left h.right) in
    let set-long = length-set old.tree.nodes node n in
    let long : length new.tree.nodes ≡ length (slice_set old.tree.nodes node n) + 2 = rw h.splits.nodes_are (length-append (slice_set old.tree.nodes node n) (open_node ∷ open_node ∷ [])) in
    let room = h.room in
    inl (omega (arith, long, set-long, room))
step-size m old new cut r node limit Closed h =
    let same = count-same new (settled (closed_as old node h.kind) new.proved) h.closed in
    let long = kind-size old.tree node h.kind in
    inr (omega (arith, same, long))
step-size m old new cut r node limit (FoundPoint serial) h =
    let same = count-same new (settled (found_as old node h.point) new.proved) h.found in
    let long = kind-size old.tree node (Point (length old.found + 1)) in
    inr (omega (arith, same, long))
step-size m old new cut r node limit Full h = let same = count-same new old h.1 in inr (omega (arith, same))

pub size-joined : (a b c limit : ℕ) → (b ≤ limit) ⊎ (b ≤ a) → (c ≤ limit) ⊎ (c ≤ b) → (c ≤ limit) ⊎ (c ≤ a)
size-joined a b c limit (inl h) (inl k) = inl k
size-joined a b c limit (inl h) (inr k) = inl (omega (arith, h, k))
size-joined a b c limit (inr h) (inl k) = inl k
size-joined a b c limit (inr h) (inr k) = inr (omega (arith, h, k))

-- ---- the best

best-of : (s t : SearchOf) → s ≡ t → s.best ≡ t.best
best-of s t e = ap (λ r. r.best) e

stays-best : (proved : Bool) (best : Option ℤ) (v : ℤ) → proved ≡ true → best_after proved best v ≡ best
stays-best true best v e = refl
stays-best false best v e = cc

step-best : (m : ModelParts) (old new : SearchOf) (cut : ℤ) (r : Bor FilterList) (node limit : ℕ) (stepped : Stepped) → old.proved ≡ true
    → Steps m old new (Collect cut r) node limit stepped → new.best ≡ old.best
step-best m old new cut r node limit Split proved h = best-of new (settled (moved_to old new.tree) new.proved) h.rest
step-best m old new cut r node limit Closed proved h = best-of new (settled (closed_as old node h.kind) new.proved) h.closed
step-best m old new cut r node limit (FoundPoint serial) proved h =
    best-of new (settled (found_as old node h.point) new.proved) h.found ∙ stays-best old.proved old.best h.point.value proved
step-best m old new cut r node limit Full proved h = best-of new old h.1

-- ---- found points

-- the points that a step found come behind the others, and are wanted
record IsMore (old new : SearchOf) (cut : ℤ) (fs : FilterList) (count : ℕ) : Type 0 where
  more : List Found
  grows : new.found ≡ old.found ++ more
  wanted : All (IsWithinBoth cut fs) more
  counted : length more ≡ count

found-of : (s t : SearchOf) → s ≡ t → s.found ≡ t.found
found-of s t e = ap (λ r. r.found) e

none-all : (cut : ℤ) (fs : FilterList) → All (IsWithinBoth cut fs) []
none-all cut fs k d h = absurd (omega (arith, h))

one-all : (cut : ℤ) (fs : FilterList) (f : Found) → IsWithinBoth cut fs f → All (IsWithinBoth cut fs) (f ∷ [])
one-all cut fs f is zero d h = is
one-all cut fs f is (suc k) d h = absurd (omega (arith, h))

no-more : (old new : SearchOf) (cut : ℤ) (fs : FilterList) → new.found ≡ old.found → IsMore old new cut fs 0
no-more old new cut fs e = record { more = []; grows = e ∙ sym (append-nil old.found); wanted = none-all cut fs; counted = refl }

step-more : (m : ModelParts) (old new : SearchOf) (cut : ℤ) (r : Bor FilterList) (node limit : ℕ) (stepped : Stepped)
    → Steps m old new (Collect cut r) node limit stepped → IsMore old new cut r.now (found_by stepped)
step-more m old new cut r node limit Split h = no-more old new cut r.now (found-of new (settled (moved_to old new.tree) new.proved) h.rest)
step-more m old new cut r node limit Closed h = no-more old new cut r.now (found-of new (settled (closed_as old node h.kind) new.proved) h.closed)
step-more m old new cut r node limit (FoundPoint serial) h =
    record {
      more = h.point ∷ [];
      grows = found-of new (settled (found_as old node h.point) new.proved) h.found;
      wanted = one-all cut r.now h.point (record { near = h.wanted.0; passes = h.wanted.1 });
      counted = refl;
    }
step-more m old new cut r node limit Full h = no-more old new cut r.now (found-of new old h.1)

pub step-count : (m : ModelParts) (old new : SearchOf) (cut : ℤ) (r : Bor FilterList) (node limit : ℕ) (stepped : Stepped)
    → Steps m old new (Collect cut r) node limit stepped → length new.found ≡ length old.found + found_by stepped
step-count m old new cut r node limit stepped h =
    let k = step-more m old new cut r node limit stepped h in
    let long = length-append old.found k.more in
    let is = ap length k.grows in
    let count = k.counted in
    omega (arith, long, is, count)

-- ---- the run

pub later-none : (s : StateOf) (cut : ℤ) (fs : FilterList) (limit : ℕ) → Extends s.search.tree s.search.tree → IsLater s s cut fs limit
later-none s cut fs limit same = record {
  rest = refl;
  extends = same;
  size = inr (omega arith);
  best = refl;
  proved = refl;
  more = [];
  grows = sym (append-nil s.search.found);
  wanted = none-all cut fs;
}

abbrev pub Joined : Type 0
Joined = (a b c : TreeOf) → Extends a b → Extends b c → Extends a c

-- one more step
pub later-more : Joined → (a b c : StateOf) (cut : ℤ) (r : Bor FilterList) (node limit : ℕ) (stepped : Stepped) → IsLater a b cut r.now limit → c ≡ with_search b c.search
    → Extends b.search.tree c.search.tree → b.search.proved ≡ true → c.search.proved ≡ true
    → Steps b.model b.search c.search (Collect cut r) node limit stepped → IsLater a c cut r.now limit
later-more join a b c cut r node limit stepped run rest extends was is steps =
    let k = step-more b.model b.search c.search cut r node limit stepped steps in
    record {
      rest = rest ∙ ap (λ s. with_search s c.search) run.rest;
      extends = join a.search.tree b.search.tree c.search.tree run.extends extends;
      size = size-joined (length a.search.tree.nodes) (length b.search.tree.nodes) (length c.search.tree.nodes) limit run.size (step-size b.model b.search c.search cut r node limit stepped steps);
      best = step-best b.model b.search c.search cut r node limit stepped was steps ∙ run.best;
      proved = is ∙ sym was ∙ run.proved;
      more = run.more ++ k.more;
      grows = k.grows ∙ ap (λ g. g ++ k.more) run.grows ∙ append_assoc a.search.found run.more k.more;
      wanted = All-append (IsWithinBoth cut r.now) run.more k.more run.wanted k.wanted;
    }

-- the end of a run on a full tree
pub full-stuck : (s : StateOf) (cut : ℤ) (r : Bor FilterList) (node limit : ℕ) → IsOpenAt s.search.tree.nodes node → IsFull s.model s.search (Collect cut r) node limit
    → IsStuck s (collecting cut r.now) limit
full-stuck s cut r node limit leaf full =
    record {
      node = node;
      leaf = leaf;
      full = record {
        no_room = full.no_room;
        many = full.many;
        unclosed = record { unreasoned = full.unclosed.unreasoned; unlisted = full.unclosed.unlisted; unscreened = full.unclosed.unscreened };
      };
    }

pub full-of : (m : ModelParts) (old new : SearchOf) (cut : ℤ) (r : Bor FilterList) (node limit : ℕ) (stepped : Stepped) → stepped ≡ Full
    → Steps m old new (Collect cut r) node limit stepped → IsFull m old (Collect cut r) node limit × (new ≡ old)
full-of m old new cut r node limit stepped is h = rw is at h
