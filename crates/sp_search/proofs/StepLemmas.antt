-- A step: what may close a leaf, which point is wanted, and that each node's box lies in the model's.
use Rattle.std.proofs.Common.{◌≡◌, ℕ, zero, suc, ◌+◌, ◌<◌, ◌≤◌, inl, inr, Bool, true, false, not, Option, None, Some, IfSome, MatchOption, List, [], ◌∷◌, ◌++◌, length, slice_index_or, All, AllPairs, IsTrue, ℤ, ◌≤ℤ◌, ◌<ℤ◌, ◌==◌, refl, sym, ap, subst, ◌∙◌, arith, append_assoc, length-append}
use Rattle.std.proofs.lemmas.Int.{by_lt_z}
use Rattle.std.proofs.lemmas.List.{get_or_append_left, get_or-map, length-map}
use Rattle.std.proofs.lemmas.List.Elements.{All-weaker}
use Rattle.std.proofs.lemmas.Bool.{cases_lt, false≢true}
use Rattle.sp_model.specs.declared.parts.ModelParts.{ModelParts}
use Rattle.sp_model.specs.Boxes.{Bounds}
use Rattle.sp_model.specs.Models.{root_of}
use Rattle.sp_list.specs.declared.found.Found.{Found}
use Rattle.sp_sums.specs.Ranges.{IsPointBox}
use Rattle.sp_activity.specs.Within.{IsUnder}
use Rattle.sp_filter.specs.declared.holding.Held.{Held}
use Rattle.sp_filter.specs.declared.kinds.Filter.{Filter}
use Rattle.sp_filter.specs.Filters.{is_passed}
use Rattle.sp_filter.specs.Held.{Closes, FilterList, IsOrderly, Passes, filter_of}
use Rattle.sp_tree.specs.declared.nodes.Node.{Node}
use Rattle.sp_tree.specs.declared.nodes.Kind.{Kind}
use Rattle.sp_tree.specs.declared.nodes.Kind.TheVariants.{Split, Open, Dead, Bounded, Screened, Point}
use Rattle.sp_tree.specs.Splits.{box_at, parts_at}
use Rattle.sp_tree.specs.Tables.{IsPrefix, list_at}
use Rattle.sp_dual.specs.Lists.{IsWellFormed, MultiplierList, zero_list}
use Rattle.sp_tree.specs.declared.nodes.Bound.{Bound}
use Rattle.sp_bound.specs.Bounds.{bound_of}
use Rattle.sp_bound.specs.Closing.{HasBound}
use Rattle.sp_bound.specs.StatedLists.{IsStated, stated_lists}
use Rattle.sp_tree.specs.Trees.{IsClosing, IsGrown, TreeOf, node_at, open_node, split_of, splits}
use Rattle.sp_tree.specs.Laws.{IsPartition}
use Rattle.sp_cover.specs.Numbers.{least_objective, number_by, number_of}
use Rattle.sp_cover.specs.Cover.{IfScreened, IsBestWithin, IsOpenAt, IsSearch, SearchOf}
use Rattle.sp_cover.specs.declared.aims.Aim.{Aim}
use Rattle.sp_cover.specs.Moves.{FitsAim, IsBetter, IsPast, MayClose, MayFind, closed_as, found_as, moved_to, settled}
use Rattle.sp_search.specs.States.{AreStated}
use Rattle.sp_search.specs.Steps.{AreGoalFilters, ClosesAs, IsScreenFor, IsScreenOf, IsPastList, IsUnclosed, IsUnlisted, IsUnscreenedFor, IsWanted, Steps, aim_of}
use Rattle.sp_search.specs.InnerSteps.{AreSingle, IsNotPast, IsOnly, IsPastNumber, IsReady, IsUnlistedBefore}
use Rattle.sp_search.specs.declared.goals.Goal.{Goal}
use Rattle.sp_search.specs.declared.goals.Goal.TheVariants.{Improve, Collect}
use Rattle.sp_search.specs.declared.goals.Stepped.{Stepped}
use Rattle.sp_search.specs.declared.goals.Stepped.TheVariants.{Split as SplitStep, Closed, Found as FoundPoint, Full}
use Rattle.sp_search.proofs.BoxLemmas.{filled-from, one-point, point-is, under-from, under-itself}
use Rattle.sp_search.proofs.ObjectiveLemmas.{SumsMeet, least-at-point}

-- ---- what may close a leaf

screen-proved : (s : SearchOf) (goal : Goal) (b : Bounds) (f : ℕ) → FitsAim (aim_of goal) s → IsScreenFor goal b f → s.proved ≡ true
screen-proved s Improve b f fits h = absurd h
screen-proved s (Collect cut filters) b f fits h = fits.0

pub closes-may : (m : ModelParts) (s : SearchOf) (goal : Goal) (b : Bounds) (kind : Kind) → FitsAim (aim_of goal) s → ClosesAs m s goal b kind → MayClose m s (aim_of goal) b kind
closes-may m s goal b (Split var at left right) fits h = h
closes-may m s goal b Open fits h = h
closes-may m s goal b (Dead reason) fits h = h
closes-may m s goal b (Bounded bound) fits h = h
closes-may m s goal b (Screened f) fits h = screen-proved s goal b f fits h
closes-may m s goal b (Point serial) fits h = h

pub closes-closing : (m : ModelParts) (s : SearchOf) (goal : Goal) (b : Bounds) (kind : Kind) → ClosesAs m s goal b kind → IsClosing s.tree.lists b kind
closes-closing m s goal b (Split var at left right) h = h
closes-closing m s goal b Open h = h
closes-closing m s goal b (Dead reason) h = tt
closes-closing m s goal b (Bounded bound) h = h.0.known
closes-closing m s goal b (Screened f) h = tt
closes-closing m s goal b (Point serial) h = absurd h

if-some : (o : Option Filter) (filter : Filter) (b : Bounds) → o ≡ Some filter → Closes filter b true → IfSome o (λ g. Closes g b true)
if-some o filter b is h = rw is h

screen-screened : (fs : FilterList) (goal : Goal) (b : Bounds) (f : ℕ) → AreGoalFilters goal fs → IsScreenFor goal b f → IfScreened fs b (Screened f)
screen-screened fs Improve b f of h = absurd h
screen-screened fs (Collect cut filters) b f of h =
    rw of (record { used = h.used; closes = if-some (filter_of filters.now.held f) h.filter b h.held h.closes })

pub closes-screened : (m : ModelParts) (s : SearchOf) (fs : FilterList) (goal : Goal) (b : Bounds) (kind : Kind) → AreGoalFilters goal fs → ClosesAs m s goal b kind → IfScreened fs b kind
closes-screened m s fs goal b (Split var at left right) of h = tt
closes-screened m s fs goal b Open of h = tt
closes-screened m s fs goal b (Dead reason) of h = tt
closes-screened m s fs goal b (Bounded bound) of h = tt
closes-screened m s fs goal b (Screened f) of h = screen-screened fs goal b f of h
closes-screened m s fs goal b (Point serial) of h = tt

-- ---- filters by their ids

equal : (a : ℕ) → (a == a) ≡ true
equal a = grind arith

less-unequal : (a b : ℕ) → a < b → (a == b) ≡ false
less-unequal a b h = grind arith

pairs-tail : (h : Held) (hs : List Held) → AllPairs (λ a b. a.id < b.id) (h ∷ hs) → AllPairs (λ a b. a.id < b.id) hs
pairs-tail h hs all = λ i j d less j-in. all (suc i) (suc j) d (omega (arith, less)) (omega (arith, j-in))

pub filter-at : (hs : List Held) (k : ℕ) (d : Held) → AllPairs (λ a b. a.id < b.id) hs → k < length hs → filter_of hs (slice_index_or hs k d).id ≡ Some (slice_index_or hs k d).filter
filter-at [] k d all h = absurd (omega (arith, h))
filter-at (g ∷ hs) zero d all h = rw (equal g.id) refl
filter-at (g ∷ hs) (suc k) d all h =
    let less : g.id < (slice_index_or hs k d).id = all 0 (suc k) d (omega arith) h in
    rw (less-unequal g.id (slice_index_or hs k d).id less) (filter-at hs k d (pairs-tail g hs all) (omega (arith, h)))

held-default : (hs : List Held) (i : ℕ) (d e : Held) → i < length hs → slice_index_or hs i d ≡ slice_index_or hs i e
held-default [] i d e h = absurd (omega (arith, h))
held-default (g ∷ hs) zero d e h = refl
held-default (g ∷ hs) (suc i) d e h = held-default hs i d e (omega (arith, h))

-- the filter at a place of the held ones closes the box under its id
pub screen-at : (fs : FilterList) (hs : List Held) (k : ℕ) (d e : Held) (b : Bounds) → hs ≡ fs.held → IsOrderly fs → k < length hs → Closes (slice_index_or hs k e).filter b true → IsScreenOf fs b (slice_index_or hs k d).id
screen-at fs hs k d e b same orderly inside closes =
    let known : k < length fs.held = rw same at inside in
    record {
      used = rw same (orderly.fresh k d known);
      filter = (slice_index_or hs k d).filter;
      held = rw same (filter-at fs.held k d orderly.rising known);
      closes = rw (held-default hs k d e inside) closes;
    }

-- the filters before a place, and the one there
pub closes-more : (hs : List Held) (b : Bounds) (n : ℕ) (e : Held) → n < length hs → ((k : ℕ) (d : Held) → k < n → Closes (slice_index_or hs k d).filter b false) → Closes (slice_index_or hs n e).filter b false
    → (k : ℕ) (d : Held) → k < n + 1 → Closes (slice_index_or hs k d).filter b false
closes-more hs b n e inside before here k d h =
    elim (cases_lt k n) [
      | inl less ↦ before k d less
      | inr more ↦ let same : k ≡ n = omega (arith, h, more) in rw (same, held-default hs n d e inside) here
    ]

-- ---- the wanted point

pub some-stated : (m : ModelParts) → 0 < length (stated_lists m)
unfolding stated_lists
some-stated m = omega arith

pub first-stated : (m : ModelParts) → slice_index_or (stated_lists m) 0 zero_list ≡ zero_list
unfolding stated_lists
first-stated m = refl

zero-number : (m : ModelParts) (b : Bounds) → number_of m b (slice_index_or (stated_lists m) 0 zero_list) ≡ Some (least_objective m b)
zero-number m b = rw (first-stated m) refl

not-past : SumsMeet → (m : ModelParts) (s : SearchOf) (goal : Goal) (b : Bounds) (f : Found) → IsUnclosed m s goal b → IsOnly m b f → ¬ IsPast (aim_of goal) s.best f.value
not-past meet m s goal b f h only =
    let number = zero-number m b in
    let value = least-at-point meet m b f.point only.alone ∙ only.value in
    h.unlisted.none 0 zero_list (some-stated m) f.value (number ∙ ap Some value)

not-within : (best : Option ℤ) (v : ℤ) → (IsBestWithin best v → ⊥) → IsBetter best v
not-within None v h = tt
not-within (Some b) v h = by_lt_z v b (λ less. less) (λ more. absurd (h more))

not-above : (cut v : ℤ) → (cut <ℤ v → ⊥) → v ≤ℤ cut
not-above cut v h = by_lt_z cut v (λ less. absurd (h less)) (λ more. more)

not-not : (t : Bool) → false ≡ not t → t ≡ true
not-not true h = refl
not-not false h = absurd (false≢true h)

passes-each : (b : Bounds) (x : List ℤ) → IsPointBox b x → (hs : List Held) → All (λ h. Closes h.filter b false) hs → Passes hs x
passes-each b x alone hs h =
    All-weaker (λ (g : Held). Closes g.filter b false) (λ (g : Held). IsTrue (is_passed g.filter x)) (λ g closes. not-not (is_passed g.filter x) (closes.point x (point-is b x alone))) hs h

pub wanted-from : (goal : Goal) (best : Option ℤ) (b : Bounds) (f : Found) → (¬ IsPast (aim_of goal) best f.value) → IsPointBox b f.point → IsUnscreenedFor goal b → IsWanted goal best f
wanted-from Improve best b f past alone none = not-within best f.value past
wanted-from (Collect cut filters) best b f past alone none = (not-above cut f.value past, passes-each b f.point alone filters.now.held none.none)

-- in phase one no goal but improving is lawful
better-early : (goal : Goal) (s : SearchOf) (f : Found) → FitsAim (aim_of goal) s → IsWanted goal s.best f → s.proved ≡ false → IsBetter s.best f.value
better-early Improve s f fits wanted first = wanted
better-early (Collect cut filters) s f fits wanted first = absurd (false≢true (sym first ∙ fits.0))

pub record Finds (m : ModelParts) (s : SearchOf) (goal : Goal) (b : Bounds) (f : Found) : Type 0 where
  pub may : MayFind m s b f
  pub wanted : IsWanted goal s.best f

pub finds : SumsMeet → (m : ModelParts) (s : SearchOf) (stated : ℕ) (goal : Goal) (b : Bounds) (node : ℕ) (f : Found) → IsReady m s stated b node goal → IsUnclosed m s goal b → AreSingle b → IsOnly m b f → Finds m s goal b f
finds meet m s stated goal b node f ready h single only =
    let past = not-past meet m s goal b f h only in
    let wanted = wanted-from goal s.best b f past only.alone h.unscreened in
    record {
      may = record { one = one-point b single; held = only.alone.within; feasible = only.feasible; value = only.value; better = better-early goal s f ready.fits wanted };
      wanted = wanted;
    }

-- ---- each leaf's box lies in the model's

splits-at : (nodes : List Node) (i : ℕ) → i < length nodes → parts_at (splits nodes) i ≡ split_of (node_at nodes i).kind
splits-at nodes i h = get_or-map (λ n. split_of n.kind) nodes i open_node None h

length-splits : (nodes : List Node) → length (splits nodes) ≡ length nodes
length-splits nodes = length-map nodes (λ n. split_of n.kind)

pub boxes-nodes : (t : TreeOf) → IsGrown t → length t.boxes ≡ length t.nodes
boxes-nodes t grown = sym grown.tree.sized ∙ length-splits t.nodes

abbrev pub Partition : Type 0
Partition = (t : TreeOf) → IsGrown t → IsPartition t.boxes (splits t.nodes)

open-leaf : (kind : Kind) → kind ≡ Open → split_of kind ≡ None
open-leaf kind is = rw is refl

pub node-under : Partition → (m : ModelParts) (s : SearchOf) (i : ℕ) → IsSearch m s → IsOpenAt s.tree.nodes i → IsUnder (root_of m) (box_at s.tree.boxes i)
node-under parts m s zero c h = rw c.root (under-itself (root_of m))
node-under parts m s (suc i) c h =
    let long = boxes-nodes s.tree c.grown in
    let i-in = h.known in
    let known : suc i < length s.tree.boxes = omega (arith, i-in, long) in
    let filled = filled-from (box_at s.tree.boxes (suc i)) (c.grown.tree.filled (suc i) (omega arith) known) in
    let inside = (parts s.tree c.grown).inside in
    under-from (root_of m) (box_at s.tree.boxes (suc i)) filled
    (λ x w. rw c.root at (inside x (suc i) (record { known = known; leaf = splits-at s.tree.nodes (suc i) i-in ∙ open-leaf (node_at s.tree.nodes (suc i)).kind h.open_is; within = w })))

-- ---- what was done

pub settled-same : (a b : SearchOf) → a ≡ b → a ≡ settled b a.proved
settled-same a b e = rw e refl

settle-rest : (mid new x : SearchOf) → new ≡ settled mid new.proved → mid ≡ settled x mid.proved → new ≡ settled x new.proved
settle-rest mid new x e k = e ∙ ap (λ s. settled s new.proved) k

-- ending phase one changes nothing else that a step did
pub steps-settled : (m : ModelParts) (old mid new : SearchOf) (goal : Goal) (node limit : ℕ) (stepped : Stepped)
    → Steps m old mid goal node limit stepped → new ≡ settled mid new.proved → (mid ≡ old → new ≡ mid) → Steps m old new goal node limit stepped
steps-settled m old mid new goal node limit SplitStep h e still =
    let same : new.tree ≡ mid.tree = ap (λ s. s.tree) e in
    record {
      unclosed = h.unclosed;
      room = h.room;
      var = h.var;
      at = h.at;
      left = h.left;
      right = h.right;
      lawful = h.lawful;
      splits = rw same h.splits;
      rest = settle-rest mid new (moved_to old mid.tree) e h.rest ∙ ap (λ t. settled (moved_to old t) new.proved) (sym same);
    }
steps-settled m old mid new goal node limit Closed h e still =
    record { kind = h.kind; closes = h.closes; closed = settle-rest mid new (closed_as old node h.kind) e h.closed }
steps-settled m old mid new goal node limit (FoundPoint serial) h e still =
    record { point = h.point; may = h.may; wanted = h.wanted; next = h.next; found = settle-rest mid new (found_as old node h.point) e h.found }
steps-settled m old mid new goal node limit Full h e still = (h.0, still h.1 ∙ h.1)

-- ---- the stated lists in the table

list-default : (lists : List MultiplierList) (k : ℕ) (d e : MultiplierList) → k < length lists → slice_index_or lists k d ≡ slice_index_or lists k e
list-default [] k d e h = absurd (omega (arith, h))
list-default (l ∷ lists) zero d e h = refl
list-default (l ∷ lists) (suc k) d e h = list-default lists k d e (omega (arith, h))

-- they stay first
pub stated-last : (m : ModelParts) (old new : SearchOf) (stated : ℕ) → AreStated m old stated → IsPrefix old.tree.lists new.tree.lists → AreStated m new stated
stated-last m old new stated h more =
    record { front = (h.front.0 ++ more.0, more.1 ∙ ap (λ ls. ls ++ more.0) h.front.1 ∙ append_assoc (stated_lists m) h.front.0 more.0); count = h.count }

pub stated-some : (m : ModelParts) (s : SearchOf) (stated : ℕ) → AreStated m s stated → 0 < stated
stated-some m s stated h = let some = some-stated m in let count = h.count in omega (arith, some, count)

pub stated-known : (m : ModelParts) (s : SearchOf) (stated : ℕ) → AreStated m s stated → stated ≤ length s.tree.lists
stated-known m s stated h =
    let long = ap length h.front.1 in
    let both = length-append (stated_lists m) h.front.0 in
    let count = h.count in
    omega (arith, long, both, count)

-- the table has each of them at its place
pub stated-at : (m : ModelParts) (lists : List MultiplierList) (k : ℕ) → IsPrefix (stated_lists m) lists → k < length (stated_lists m) → (d : MultiplierList) → slice_index_or (stated_lists m) k d ≡ list_at lists k
stated-at m lists k front h d = list-default (stated_lists m) k d zero_list h ∙ sym (rw front.1 (get_or_append_left (stated_lists m) front.0 zero_list k h))

-- each of them keeps the rules of lists, and names rows of the model
pub table-stated : (m : ModelParts) (lists : List MultiplierList) (k : ℕ) → All (IsStated m) (stated_lists m) → IsPrefix (stated_lists m) lists → k < length (stated_lists m) → IsStated m (list_at lists k)
table-stated m lists k all front h = rw (stated-at m lists k front h zero_list) at (all k zero_list h)

-- where none of them closes the box, no stated list does
pub unlisted-all : (m : ModelParts) (lists : List MultiplierList) (aim : Aim) (best : Option ℤ) (b : Bounds) → IsPrefix (stated_lists m) lists → IsUnlistedBefore m lists (length (stated_lists m)) aim best b → IsUnlisted m aim best b
unlisted-all m lists aim best b front h = record { none = λ k d k-in v number. (h.each k k-in).none v (rw (stated-at m lists k front k-in d) at number) }

pub unlisted-more : (m : ModelParts) (lists : List MultiplierList) (n : ℕ) (aim : Aim) (best : Option ℤ) (b : Bounds) → IsUnlistedBefore m lists n aim best b → IsNotPast m (list_at lists n) aim best b → IsUnlistedBefore m lists (n + 1) aim best b
unlisted-more m lists n aim best b h here = record {
  each = λ k less. elim (cases_lt k n) [
    | inl lower ↦ h.each k lower
    | inr more ↦ let same : k ≡ n = omega (arith, less, more) in rw same here
  ];
}

-- the number of a list with entries is its bound
number-listed : (m : ModelParts) (b : Bounds) (list : MultiplierList) (entries : List (ℕ × ℤ)) → 0 < length entries → number_by m b list entries ≡ bound_of m b list
number-listed m b list [] some = absurd (omega (arith, some))
number-listed m b list (e ∷ es) some = refl

-- what a list's number says of it
pub past-told : (m : ModelParts) (lists : List MultiplierList) (place : ℕ) (aim : Aim) (best : Option ℤ) (b : Bounds) (number : Option ℤ) (r : Option Bound)
    → place < length lists → IsWellFormed (list_at lists place) → number ≡ number_of m b (list_at lists place)
    → MatchOption r ((v : ℤ) → number ≡ Some v → ¬ IsPast aim best v) (IsPastNumber number aim best place)
    → MatchOption r (IsNotPast m (list_at lists place) aim best b) (λ bound. IsPastList m lists aim best b bound.by bound.least)
past-told m lists place aim best b number None within formed is h = record { none = λ v e. h v (is ∙ e) }
past-told m lists place aim best b number (Some bound) within formed is h =
    let by = h.2 in
    record { known = rw by within; formed = rw by formed; number = rw by (sym is ∙ h.0); past = h.1 }

-- a length that is tested to be 0, and isn't
pub some-unless : (n : ℕ) (empty : Bool) → empty ≡ (n == 0) → empty ≡ false → 0 < n
some-unless zero empty is none = absurd (false≢true (sym none ∙ is))
some-unless (suc n) empty is none = omega arith

-- the same of a list with entries whose bound is known
pub row-told : (m : ModelParts) (ls lists : List MultiplierList) (place : ℕ) (aim : Aim) (best : Option ℤ) (b : Bounds) (number : Option ℤ) (r : Option Bound)
    → All (IsStated m) (stated_lists m) → IsPrefix (stated_lists m) lists → ls ≡ stated_lists m → HasBound m b ls place number → place < length lists → 0 < length (list_at lists place).y
    → MatchOption r ((v : ℤ) → number ≡ Some v → ¬ IsPast aim best v) (IsPastNumber number aim best place)
    → IfSome r (λ bound. IsPastList m lists aim best b bound.by bound.least)
row-told m ls lists place aim best b number None all front same has within some h = tt
row-told m ls lists place aim best b number (Some bound) all front same has within some h =
    let known : place < length (stated_lists m) = subst (λ (xs : List MultiplierList). place < length xs) same has.known in
    let there : slice_index_or ls place zero_list ≡ list_at lists place = ap (λ (xs : List MultiplierList). slice_index_or xs place zero_list) same ∙ stated-at m lists place front known zero_list in
    let exact : number ≡ number_of m b (list_at lists place) = has.exact ∙ ap (bound_of m b) there ∙ sym (number-listed m b (list_at lists place) (list_at lists place).y some) in
    let by = h.2 in
    record { known = rw by within; formed = rw by (table-stated m lists place all front known).formed; number = rw by (sym exact ∙ h.0); past = h.1 }

-- the same of the empty list, which stands first
pub zero-told : (m : ModelParts) (lists : List MultiplierList) (aim : Aim) (best : Option ℤ) (b : Bounds) (number : Option ℤ) (r : Option Bound)
    → All (IsStated m) (stated_lists m) → IsPrefix (stated_lists m) lists → 0 < length lists → number ≡ Some (least_objective m b)
    → MatchOption r ((v : ℤ) → number ≡ Some v → ¬ IsPast aim best v) (IsPastNumber number aim best 0)
    → MatchOption r (¬ IsPast aim best (least_objective m b)) (λ bound. IsPastList m lists aim best b bound.by bound.least)
zero-told m lists aim best b number None all front filled is h = h (least_objective m b) is
zero-told m lists aim best b number (Some bound) all front filled is h =
    let by = h.2 in
    let there = stated-at m lists 0 front (some-stated m) zero_list in
    record {
      known = rw by filled;
      formed = rw by (table-stated m lists 0 all front (some-stated m)).formed;
      number = rw (by, ← there) (zero-number m b ∙ sym is ∙ h.0);
      past = h.1;
    }
