-- The search that a state begins with.
use Rattle.std.proofs.Common.{◌≡◌, ℕ, ◌<◌, ◌≤◌, List, [], ◌∷◌, ◌++◌, length, Contains, refl, sym, ap, ◌∙◌, arith}
use Rattle.std.proofs.lemmas.List.{append-nil, get_or_append_left}
use Rattle.sp_model.specs.declared.parts.ModelParts.{ModelParts}
use Rattle.sp_model.specs.Boxes.{Bounds}
use Rattle.sp_model.specs.Models.{root_of}
use Rattle.sp_dual.specs.Lists.{MultiplierList, zero_list}
use Rattle.sp_bound.specs.StatedLists.{stated_lists}
use Rattle.sp_tree.specs.declared.nodes.Node.{Node}
use Rattle.sp_tree.specs.Tables.{IsPlaceOf, list_at}
use Rattle.sp_tree.specs.Trees.{TreeOf, open_node}
use Rattle.sp_cover.specs.Cover.{IsEnded, SearchOf}
use Rattle.sp_cover.specs.Moves.{moved_to, new_search}
use Rattle.sp_search.specs.States.{AreStated, first_search}

-- a list that made the table longer stands last
longer-none : (old new : List MultiplierList) (list : MultiplierList) (k : ℕ) → IsPlaceOf list old new k → length old < length new → ¬ Contains old list
longer-none old new list k h long = λ there. let same = ap length (h.there there) in absurd (omega (arith, same, long))

pub longer-last : (old new : List MultiplierList) (list : MultiplierList) (k : ℕ) → IsPlaceOf list old new k → length old < length new → new ≡ old ++ list ∷ []
longer-last old new list k h long = (h.added (longer-none old new list k h long)).1

pub one-list : (lists : List MultiplierList) → 0 < length lists → length lists ≤ 1 → list_at lists 0 ≡ zero_list → zero_list ∷ [] ≡ lists
one-list [] some few first = absurd (omega (arith, some))
one-list (l ∷ []) some few first = ap (λ k. k ∷ []) (sym first)
one-list (l ∷ (k ∷ lists)) some few first = absurd (omega (arith, few))

pub first-front : (all front : List MultiplierList) (last : MultiplierList) → all ≡ front ++ last ∷ [] → 0 < length front → list_at all 0 ≡ zero_list → list_at front 0 ≡ zero_list
first-front all front last is some first = sym (get_or_append_left front (last ∷ []) zero_list 0 some) ∙ sym (ap (λ ls. list_at ls 0) is) ∙ first

tree-from : (t : TreeOf) (boxes : List Bounds) (nodes : List Node) (lists : List MultiplierList) → t.boxes ≡ boxes → t.nodes ≡ nodes → t.lists ≡ lists → t ≡ record { boxes = boxes; nodes = nodes; lists = lists }
tree-from t boxes nodes lists b n l = rw (← b, ← n, ← l) refl

pub first-from : (m : ModelParts) (begun new : SearchOf) → begun ≡ new_search (root_of m) → new ≡ moved_to begun new.tree → new.tree.boxes ≡ begun.tree.boxes → new.tree.nodes ≡ begun.tree.nodes → new.tree.lists ≡ stated_lists m → new ≡ first_search m
first-from m begun new is rest boxes nodes lists =
    let tree : new.tree ≡ (first_search m).tree =
    tree-from new.tree (root_of m ∷ []) (open_node ∷ []) (stated_lists m) (boxes ∙ ap (λ s. s.tree.boxes) is) (nodes ∙ ap (λ s. s.tree.nodes) is) lists in
    rest ∙ ap (λ s. moved_to s new.tree) is ∙ ap (λ t. moved_to (new_search (root_of m)) t) tree

pub first-open : (m : ModelParts) (s : SearchOf) → s ≡ first_search m → IsEnded s
first-open m s is = rw is (record { proved = λ none. absurd (none 0 (record { known = omega arith; open_is = refl })) })

pub first-stated : (m : ModelParts) (s : SearchOf) (stated : ℕ) → s ≡ first_search m → stated ≡ length (stated_lists m) → AreStated m s stated
first-stated m s stated is count = rw is (record { front = ([], sym (append-nil (stated_lists m))); count = count })
