-- What a term of a filter can be: its magnitude is at most its width.
use Rattle.std.proofs.Common.{◌≡◌, ℕ, ◌+◌, ◌*◌, ◌^◌, ◌≤◌, max, List, [], ◌∷◌, ℤ, pos, negsuc, ◌+ℤ◌, ◌-ℤ◌, ◌*ℤ◌, ◌∙◌, ap₂, arith}
use Rattle.std.proofs.Math.ListN.{get_or-map}
use Rattle.std.proofs.Math.Nat.{mul-le-mul_left}
use Rattle.std.proofs.lemmas.Int.{ints, clamps, to_z-of_z, unsigned_abs-mul, fits_signed_from_abs}
use Rattle.std.specs.Int.{int_min, int_max}
use Rattle.std.specs.Int.RustNames.{FitsSigned, unsigned_abs}
use mir.Syntax.{w128}
use mir.Val.{to_z, of_z}
use Rattle.sp_model.specs.Boxes.{Bounds, range_at, coordinate, natural}
use Rattle.sp_model.specs.Sums.{Term, reach}
use Rattle.sp_filter.specs.Filters.{Weighted, box_at, multiple_at, distance_at, multiple_width, distance_width, distance, least_multiple, most_multiple, nearest, farthest, distances}

-- a number of a magnitude of at most 10^36 fits 128 bits
pub fits_from_small : (z : ℤ) → unsigned_abs z ≤ 10 ^ 36 → FitsSigned w128 z
fits_from_small z h = fits_signed_from_abs w128 z (omega arith)

-- and stands for itself there
pub itself : (z : ℤ) → unsigned_abs z ≤ 10 ^ 36 → to_z w128 (of_z w128 z) ≡ z
itself z h = to_z-of_z w128 z (fits_from_small z h)

pub min_small : (y z : ℤ) (n : ℕ) → unsigned_abs y ≤ n → unsigned_abs z ≤ n → unsigned_abs (int_min y z) ≤ n
min_small y z n p q = omega (arith, ints, clamps)

pub max_small : (y z : ℤ) (n : ℕ) → unsigned_abs y ≤ n → unsigned_abs z ≤ n → unsigned_abs (int_max y z) ≤ n
max_small y z n p q = omega (arith, ints, clamps)

-- the lesser and the greater of two small numbers, as the machine has them
pub lesser_is : (y z p q m : ℤ) → p ≡ y → q ≡ z → unsigned_abs y ≤ 10 ^ 36 → unsigned_abs z ≤ 10 ^ 36 → m ≡ int_min (to_z w128 (of_z w128 p)) (to_z w128 (of_z w128 q)) → to_z w128 (of_z w128 m) ≡ int_min y z
lesser_is y z p q m d f h k e =
    let i : int_min (to_z w128 (of_z w128 p)) (to_z w128 (of_z w128 q)) ≡ int_min y z = rw (d, f) (ap₂ int_min (itself y h) (itself z k)) in
    let j : m ≡ int_min y z = e ∙ i in
    rw j (itself (int_min y z) (min_small y z (10 ^ 36) h k))

pub greater_is : (y z p q m : ℤ) → p ≡ y → q ≡ z → unsigned_abs y ≤ 10 ^ 36 → unsigned_abs z ≤ 10 ^ 36 → m ≡ int_max (to_z w128 (of_z w128 p)) (to_z w128 (of_z w128 q)) → to_z w128 (of_z w128 m) ≡ int_max y z
greater_is y z p q m d f h k e =
    let i : int_max (to_z w128 (of_z w128 p)) (to_z w128 (of_z w128 q)) ≡ int_max y z = rw (d, f) (ap₂ int_max (itself y h) (itself z k)) in
    let j : m ≡ int_max y z = e ∙ i in
    rw j (itself (int_max y z) (max_small y z (10 ^ 36) h k))

-- a multiple of a number that isn't far from 0
scaled-le : (a v : ℤ) (n : ℕ) → unsigned_abs v ≤ n → unsigned_abs (a *ℤ v) ≤ unsigned_abs a * n
scaled-le a v n h = rw unsigned_abs-mul (mul-le-mul_left (unsigned_abs a) h)

pub multiple_small : (a v : ℤ) (n : ℕ) → unsigned_abs v ≤ n → unsigned_abs a * n ≤ 10 ^ 36 → unsigned_abs (a *ℤ v) ≤ 10 ^ 36
multiple_small a v n h k = omega (arith, scaled-le a v n h)

-- the ends of a range lie within its reach
pub first_small : (a v : ℤ) (r : ℤ × ℤ) → v ≡ r.0 → unsigned_abs a * reach r ≤ 10 ^ 36 → unsigned_abs (a *ℤ v) ≤ 10 ^ 36
first_small a v r e k = multiple_small a v (reach r) (rw e (omega arith)) k

pub last_small : (a v : ℤ) (r : ℤ × ℤ) → v ≡ r.1 → unsigned_abs a * reach r ≤ 10 ^ 36 → unsigned_abs (a *ℤ v) ≤ 10 ^ 36
last_small a v r e k = multiple_small a v (reach r) (rw e (omega arith)) k

-- a difference that isn't negative is at most the distance
natural-le : (z : ℤ) → natural z ≤ unsigned_abs z
natural-le (pos n) = omega (arith, ints)
natural-le (negsuc n) = omega arith

distance-le : (v f : ℤ) (n : ℕ) → unsigned_abs v ≤ n → distance v f ≤ n + unsigned_abs f
distance-le v f n h = omega (arith, ints)

farthest-le : (r : ℤ × ℤ) (f : ℤ) → farthest r f ≤ reach r + unsigned_abs f
farthest-le r f =
    let p = distance-le r.0 f (reach r) (omega arith) in
    let q = distance-le r.1 f (reach r) (omega arith) in
    omega (arith, p, q)

flipped : (v f : ℤ) → unsigned_abs (f -ℤ v) ≡ distance v f
flipped v f = omega (arith, ints)

nearest-le : (r : ℤ × ℤ) (f : ℤ) → nearest r f ≤ reach r + unsigned_abs f
nearest-le r f =
    let p = distance-le r.0 f (reach r) (omega arith) in
    let q = distance-le r.1 f (reach r) (omega arith) in
    let u : natural (r.0 -ℤ f) ≤ distance r.0 f = natural-le (r.0 -ℤ f) in
    let v : natural (f -ℤ r.1) ≤ distance r.1 f = rw (flipped r.1 f) at (natural-le (f -ℤ r.1)) in
    omega (arith, p, q, u, v)

abs-pos : (n : ℕ) → unsigned_abs (pos n) ≡ n
abs-pos n = omega (arith, ints)

pub near_small : (a v f : ℤ) (r : ℤ × ℤ) → v ≡ (distances r f).0 → unsigned_abs a * (reach r + unsigned_abs f) ≤ 10 ^ 36 → unsigned_abs (a *ℤ v) ≤ 10 ^ 36
near_small a v f r e k = multiple_small a v (reach r + unsigned_abs f) (rw (e, abs-pos (nearest r f)) (nearest-le r f)) k

pub far_small : (a v f : ℤ) (r : ℤ × ℤ) → v ≡ (distances r f).1 → unsigned_abs a * (reach r + unsigned_abs f) ≤ 10 ^ 36 → unsigned_abs (a *ℤ v) ≤ 10 ^ 36
far_small a v f r e k = multiple_small a v (reach r + unsigned_abs f) (rw (e, abs-pos (farthest r f)) (farthest-le r f)) k

-- the range of a variable in the box of a point
pub at_box : (x : List ℤ) (j : ℕ) → range_at (box_at x) j ≡ (coordinate x j, coordinate x j)
at_box x j = get_or-map (λ (v : ℤ). (v, v)) x j (pos 0)

pub distance_small : (x : List ℤ) (t : Weighted) (d : ℕ) → d ≡ distance (coordinate x t.0) t.2 → distance_width (box_at x) t ≤ 10 ^ 36 → unsigned_abs (t.1 *ℤ pos d) ≤ 10 ^ 36
distance_small x t d e k =
    let r = at_box x t.0 in
    let h : distance (coordinate x t.0) t.2 ≤ reach (range_at (box_at x) t.0) + unsigned_abs t.2 = rw r (distance-le (coordinate x t.0) t.2 (reach (coordinate x t.0, coordinate x t.0)) (omega arith)) in
    multiple_small t.1 (pos d) (reach (range_at (box_at x) t.0) + unsigned_abs t.2) (rw (e, abs-pos (distance (coordinate x t.0) t.2)) h) k

-- ---- what a term adds is at most its width

pub multiple-le : (x : List ℤ) (t : Term) → unsigned_abs (multiple_at x t) ≤ multiple_width (box_at x) t
multiple-le x t = rw (at_box x t.0) (scaled-le t.1 (coordinate x t.0) (reach (coordinate x t.0, coordinate x t.0)) (omega arith))

pub weighted-le : (x : List ℤ) (t : Weighted) → unsigned_abs (distance_at x t) ≤ distance_width (box_at x) t
weighted-le x t = rw (at_box x t.0) (scaled-le t.1 (pos (distance (coordinate x t.0) t.2)) (reach (coordinate x t.0, coordinate x t.0) + unsigned_abs t.2) (rw (abs-pos (distance (coordinate x t.0) t.2)) (distance-le (coordinate x t.0) t.2 (reach (coordinate x t.0, coordinate x t.0)) (omega arith))))

-- the ends of the distances from a reference
near-abs : (r : ℤ × ℤ) (f : ℤ) → unsigned_abs (pos (nearest r f)) ≤ reach r + unsigned_abs f
near-abs r f = rw (abs-pos (nearest r f)) (nearest-le r f)

far-abs : (r : ℤ × ℤ) (f : ℤ) → unsigned_abs (pos (farthest r f)) ≤ reach r + unsigned_abs f
far-abs r f = rw (abs-pos (farthest r f)) (farthest-le r f)

least-le : (a : ℤ) (r : ℤ × ℤ) (n : ℕ) → unsigned_abs r.0 ≤ n → unsigned_abs r.1 ≤ n → unsigned_abs (least_multiple a r) ≤ unsigned_abs a * n
least-le a r n h k = min_small (a *ℤ r.0) (a *ℤ r.1) (unsigned_abs a * n) (scaled-le a r.0 n h) (scaled-le a r.1 n k)

most-le : (a : ℤ) (r : ℤ × ℤ) (n : ℕ) → unsigned_abs r.0 ≤ n → unsigned_abs r.1 ≤ n → unsigned_abs (most_multiple a r) ≤ unsigned_abs a * n
most-le a r n h k = max_small (a *ℤ r.0) (a *ℤ r.1) (unsigned_abs a * n) (scaled-le a r.0 n h) (scaled-le a r.1 n k)

pub least-multiple-le : (b : Bounds) (t : Term) → unsigned_abs (least_multiple t.1 (range_at b t.0)) ≤ multiple_width b t
least-multiple-le b t = least-le t.1 (range_at b t.0) (reach (range_at b t.0)) (omega arith) (omega arith)

pub most-multiple-le : (b : Bounds) (t : Term) → unsigned_abs (most_multiple t.1 (range_at b t.0)) ≤ multiple_width b t
most-multiple-le b t = most-le t.1 (range_at b t.0) (reach (range_at b t.0)) (omega arith) (omega arith)

pub least-distance-le : (b : Bounds) (t : Weighted) → unsigned_abs (least_multiple t.1 (distances (range_at b t.0) t.2)) ≤ distance_width b t
least-distance-le b t = least-le t.1 (distances (range_at b t.0) t.2) (reach (range_at b t.0) + unsigned_abs t.2) (near-abs (range_at b t.0) t.2) (far-abs (range_at b t.0) t.2)

pub most-distance-le : (b : Bounds) (t : Weighted) → unsigned_abs (most_multiple t.1 (distances (range_at b t.0) t.2)) ≤ distance_width b t
most-distance-le b t = most-le t.1 (distances (range_at b t.0) t.2) (reach (range_at b t.0) + unsigned_abs t.2) (near-abs (range_at b t.0) t.2) (far-abs (range_at b t.0) t.2)
