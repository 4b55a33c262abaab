-- The points of a box are in strictly lexicographic order.
use Rattle.std.proofs.Common.{◌≡◌, ℕ, zero, suc, List, [], ◌∷◌, ◌++◌, map, flat_map, ℤ, pos, ◌+ℤ◌, ◌<ℤ◌, int_cmp, Ordering, Less, sym, ap, ◌∙◌, arith}
use Rattle.std.specs.List.{AllByRecursion}
use Rattle.std.specs.Cmp.{int_cmp_is}
use Rattle.std.specs.List.Sorted.{IsStrictlySortedBy}
use Rattle.std.specs.Ordering.{ordering_then}
use Rattle.std.proofs.lemmas.Int.{ints}
use Rattle.std.proofs.lemmas.Cmp.{tied_itself, int_cmp_total}
use Rattle.sp_model.specs.Boxes.{Bounds, lex_cmp, width_of, numbers_from, points}

-- ---- what holds of each element, and strict order, through joined and mapped lists

pub each-append : {X : Type 0} (P : X → Type 0) (xs ys : List X) → AllByRecursion P xs → AllByRecursion P ys → AllByRecursion P (xs ++ ys)
each-append P [] ys h g = g
each-append P (x ∷ xs) ys h g = (h.0, each-append P xs ys h.1 g)

pub each-map : {X Y : Type 0} (P : Y → Type 0) (f : X → Y) (xs : List X) → ((x : X) → P (f x)) → AllByRecursion P (map f xs)
each-map P f [] h = tt
each-map P f (x ∷ xs) h = (h x, each-map P f xs h)

each-map_from : {X Y : Type 0} (P : X → Type 0) (Q : Y → Type 0) (f : X → Y) (xs : List X) → ((x : X) → P x → Q (f x)) → AllByRecursion P xs → AllByRecursion Q (map f xs)
each-map_from P Q f [] h g = tt
each-map_from P Q f (x ∷ xs) h g = (h x g.0, each-map_from P Q f xs h g.1)

pub sorted_nil : {X : Type 0} (c : X → X → Ordering) → IsStrictlySortedBy c []
unfolding IsStrictlySortedBy
sorted_nil c = tt

pub sorted_cons : {X : Type 0} (c : X → X → Ordering) (x : X) (xs : List X) → AllByRecursion (λ y. c x y ≡ Less) xs → IsStrictlySortedBy c xs → IsStrictlySortedBy c (x ∷ xs)
unfolding IsStrictlySortedBy
sorted_cons c x xs h g = (h, g)

-- a function that keeps the order keeps a list in order
pub sorted-map : {X Y : Type 0} (c : X → X → Ordering) (e : Y → Y → Ordering) (f : X → Y) → ((x y : X) → c x y ≡ Less → e (f x) (f y) ≡ Less) → (xs : List X) → IsStrictlySortedBy c xs → IsStrictlySortedBy e (map f xs)
unfolding IsStrictlySortedBy
sorted-map c e f keeps [] s = tt
sorted-map c e f keeps (x ∷ xs) s =
    (each-map_from (λ y. c x y ≡ Less) (λ y. e (f x) y ≡ Less) f xs (keeps x) s.0, sorted-map c e f keeps xs s.1)

-- two lists in order are in order as one where each element of the first is below the whole second
pub sorted-append : {X : Type 0} (c : X → X → Ordering) (xs ys : List X) → IsStrictlySortedBy c xs → IsStrictlySortedBy c ys → AllByRecursion (λ x. AllByRecursion (λ y. c x y ≡ Less) ys) xs → IsStrictlySortedBy c (xs ++ ys)
unfolding IsStrictlySortedBy
sorted-append c [] ys s t below = t
sorted-append c (x ∷ xs) ys s t below =
    (each-append (λ y. c x y ≡ Less) xs ys s.0 below.0, sorted-append c xs ys s.1 t below.1)

-- ---- lexicographic order by the first value

int_less : (a b : ℤ) → a <ℤ b → int_cmp a b ≡ Less
int_less a b h = sym (int_cmp_is a b Less h)

pub lex_less : (a b : ℤ) (x y : List ℤ) → a <ℤ b → lex_cmp (a ∷ x) (b ∷ y) ≡ Less
lex_less a b x y h = ap (λ o. ordering_then o (lex_cmp x y)) (int_less a b h)

pub lex_same : (a : ℤ) (x y : List ℤ) → lex_cmp (a ∷ x) (a ∷ y) ≡ lex_cmp x y
lex_same a x y = ap (λ o. ordering_then o (lex_cmp x y)) (tied_itself int_cmp_total a)

-- a point that begins below the numbers is below all points that begin with one of them
all_above : (ps : List (List ℤ)) (a : ℤ) (x : List ℤ) (n : ℕ) (least : ℤ) → a <ℤ least → AllByRecursion (λ y. lex_cmp (a ∷ x) y ≡ Less) (flat_map (λ v. map (λ p. v ∷ p) ps) (numbers_from least n))
all_above ps a x zero least h = tt
all_above ps a x (suc n) least h =
    each-append (λ y. lex_cmp (a ∷ x) y ≡ Less) (map (λ p. least ∷ p) ps) (flat_map (λ v. map (λ p. v ∷ p) ps) (numbers_from (least +ℤ pos 1) n))
    (each-map (λ y. lex_cmp (a ∷ x) y ≡ Less) (λ p. least ∷ p) ps (λ p. lex_less a least x p h))
    (all_above ps a x n (least +ℤ pos 1) (omega (arith, ints)))

blocks_rise : (ps : List (List ℤ)) → IsStrictlySortedBy lex_cmp ps → (n : ℕ) (least : ℤ) → IsStrictlySortedBy lex_cmp (flat_map (λ v. map (λ p. v ∷ p) ps) (numbers_from least n))
blocks_rise ps s zero least = sorted_nil lex_cmp
blocks_rise ps s (suc n) least =
    sorted-append lex_cmp (map (λ p. least ∷ p) ps) (flat_map (λ v. map (λ p. v ∷ p) ps) (numbers_from (least +ℤ pos 1) n))
    (sorted-map lex_cmp lex_cmp (λ p. least ∷ p) (λ x y h. lex_same least x y ∙ h) ps s)
    (blocks_rise ps s n (least +ℤ pos 1))
    (each-map (λ x. AllByRecursion (λ y. lex_cmp x y ≡ Less) (flat_map (λ v. map (λ p. v ∷ p) ps) (numbers_from (least +ℤ pos 1) n))) (λ p. least ∷ p) ps
    (λ p. all_above ps least p n (least +ℤ pos 1) (omega (arith, ints))))

-- the points of a box are in strictly lexicographic order
pub points_rise : (b : Bounds) → IsStrictlySortedBy lex_cmp (points b)
points_rise [] = sorted_cons lex_cmp [] [] tt (sorted_nil lex_cmp)
points_rise (r ∷ rs) = blocks_rise (points rs) (points_rise rs) (width_of r) r.0
