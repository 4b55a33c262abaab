-- The ends of a strictly sorted list.
use Rattle.std.proofs.Common.{◌≡◌, List, [], ◌∷◌, Ordering, Less}
use Rattle.std.specs.List.{AllByRecursion}
use Rattle.std.specs.List.Sorted.{IsStrictlySortedBy}

pub sorted_nil : {X : Type 0} (c : X → X → Ordering) → IsStrictlySortedBy c []
unfolding IsStrictlySortedBy
sorted_nil c = tt

pub sorted_cons : {X : Type 0} (c : X → X → Ordering) (x : X) (xs : List X) → AllByRecursion (λ y. c x y ≡ Less) xs → IsStrictlySortedBy c xs → IsStrictlySortedBy c (x ∷ xs)
unfolding IsStrictlySortedBy
sorted_cons c x xs h g = (h, g)
