-- The moves of a search, and what each needs.
use Rattle.std.specs.Prelude.{◌≡◌, ℕ, ◌+◌, ◌<◌, ◌≤◌, Bool, true, false, Option, None, Some, IfSome, [], ◌∷◌, ◌++◌, map, length, ℤ, ◌≤ℤ◌, ◌<ℤ◌}
use Rattle.sp_model.specs.declared.parts.ModelParts.{ModelParts}
use Rattle.sp_model.specs.Boxes.{Bounds, IsWithin, point_count}
use Rattle.sp_model.specs.Models.{Feasible, objective}
use Rattle.sp_list.specs.declared.found.Found.{Found}
use Rattle.sp_activity.specs.Reasons.{Holds}
use Rattle.sp_filter.specs.Held.{FilterList, filter_of}
use Rattle.sp_tree.specs.declared.nodes.Kind.{Kind}
use Rattle.sp_tree.specs.declared.nodes.Kind.TheVariants.{Split, Open, Dead, Bounded, Screened, Point}
use Rattle.sp_tree.specs.Trees.{TreeOf, new_tree, reopened, with_kind}
use Rattle.sp_tree.specs.Tables.{IsPrefix}
use Rattle.sp_cover.specs.Cover.{IsBestWithin, IsBoundOf, SearchOf}
use Rattle.sp_cover.specs.declared.aims.Aim.{Aim}
use Rattle.sp_cover.specs.declared.aims.Aim.TheVariants.{Improve, Collect}

-- ---- aims

-- collecting comes after phase one, with a cut that isn't below the best
abbrev pub FitsAim : Aim → SearchOf → Type 0
FitsAim Improve s = Unit {0}
FitsAim (Collect cut) s = (s.proved ≡ true) × IfSome s.best (λ best. best ≤ℤ cut)

-- a bound closes a box: it isn't below the best value found, or it is above the cut
abbrev pub IsPast : Aim → Option ℤ → ℤ → Type 0
IsPast Improve best least = IsBestWithin best least
IsPast (Collect cut) best least = cut <ℤ least

-- ---- closing a leaf without a new point

abbrev pub MayClose : ModelParts → SearchOf → Aim → Bounds → Kind → Type 0
MayClose m s aim b (Split var at left right) = ⊥
MayClose m s aim b Open = ⊥
MayClose m s aim b (Dead reason) = Holds m b reason
MayClose m s aim b (Bounded bound) = IsBoundOf m s.tree.lists b bound × IsPast aim s.best bound.least
MayClose m s aim b (Screened f) = s.proved ≡ true
MayClose m s aim b (Point serial) = ⊥

abbrev pub closed_as : SearchOf → ℕ → Kind → SearchOf
closed_as s id kind = record { tree = with_kind s.tree id kind; found = s.found; proved = s.proved; best = s.best }

-- ---- finding the point of a leaf

-- less than the best value found so far, if there is one
abbrev pub IsBetter : Option ℤ → ℤ → Type 0
IsBetter None v = Unit {0}
IsBetter (Some best) v = v <ℤ best

-- the one point of the box, feasible, with its objective; in phase one better than all before it
pub record MayFind (m : ModelParts) (s : SearchOf) (b : Bounds) (f : Found) : Type 0 where
  pub one : point_count b ≡ 1
  pub held : IsWithin b f.point
  pub feasible : Feasible m f.point
  pub value : objective m f.point ≡ f.value
  pub better : s.proved ≡ false → IsBetter s.best f.value

-- after phase one the best stays
abbrev pub best_after : Bool → Option ℤ → ℤ → Option ℤ
best_after false best v = Some v
best_after true best v = best

abbrev pub found_as : SearchOf → ℕ → Found → SearchOf
found_as s id f = record {
  tree = with_kind s.tree id (Point (length s.found + 1));
  found = s.found ++ (f ∷ []);
  proved = s.proved;
  best = best_after s.proved s.best f.value;
}

-- ---- the other moves

-- the same search with another tree
abbrev pub moved_to : SearchOf → TreeOf → SearchOf
moved_to s t = record { tree = t; found = s.found; proved = s.proved; best = s.best }

-- the tree with other lists behind its own
pub record KeepsLists (old new : TreeOf) : Type 0 where
  pub boxes : new.boxes ≡ old.boxes
  pub nodes : new.nodes ≡ old.nodes
  pub lists : IsPrefix old.lists new.lists

-- the same search, whether phase one has ended aside
abbrev pub settled : SearchOf → Bool → SearchOf
settled s proved = record { tree = s.tree; found = s.found; proved = proved; best = s.best }

-- phase one has ended
abbrev pub ended : SearchOf → SearchOf
ended s = record { tree = s.tree; found = s.found; proved = true; best = s.best }

-- what a cut and the filters held no longer justify is open
abbrev pub reopened_tree : ℤ → (ℕ → Bool) → TreeOf → TreeOf
reopened_tree cut held t = record { boxes = t.boxes; nodes = map (reopened cut held) t.nodes; lists = t.lists }

-- a search that has not begun: one open leaf, nothing found
abbrev pub new_search : Bounds → SearchOf
new_search root = record { tree = new_tree root; found = []; proved = false; best = None }

-- filters after others: a filter whose id was given out before is held now only if it was held then, as the same
pub record AreLater (old new : FilterList) : Type 0 where
  pub next : old.next ≤ new.next
  pub held : (f : ℕ) → f < old.next → IfSome (filter_of new.held f) (λ filter. filter_of old.held f ≡ Some filter)
