-- Boxes whose points all lie in another lie inside it.
use Rattle.std.proofs.Common.{◌≡◌, ℕ, ◌<◌, List, map, length, ℤ, pos, arith}
use Rattle.std.proofs.lemmas.Int.{ints}
use Rattle.std.proofs.lemmas.List.{get_or-map, length-map}
use Rattle.sp_model.specs.Boxes.{Bounds, IsWithin, coordinate, range_at}
use Rattle.sp_sums.specs.Ranges.{IsFilled, IsInside}

-- the corners of a box
lows : Bounds → List ℤ
lows b = map (λ r. r.0) b

highs : Bounds → List ℤ
highs b = map (λ r. r.1) b

low-at : (b : Bounds) (j : ℕ) → j < length b → coordinate (lows b) j ≡ (range_at b j).0
unfolding lows
low-at b j h = get_or-map (λ r. r.0) b j (pos 0, pos 0) (pos 0) h

high-at : (b : Bounds) (j : ℕ) → j < length b → coordinate (highs b) j ≡ (range_at b j).1
unfolding highs
high-at b j h = get_or-map (λ r. r.1) b j (pos 0, pos 0) (pos 0) h

low-long : (b : Bounds) → length (lows b) ≡ length b
unfolding lows
low-long b = length-map b (λ r. r.0)

high-long : (b : Bounds) → length (highs b) ≡ length b
unfolding highs
high-long b = length-map b (λ r. r.1)

low-within : (b : Bounds) → IsFilled b → IsWithin b (lows b)
low-within b f = record { long = low-long b; each = λ j j-in. let le = f.each j j-in in rw (low-at b j j-in) (record { least = omega (arith, ints); greatest = le }) }

high-within : (b : Bounds) → IsFilled b → IsWithin b (highs b)
high-within b f = record { long = high-long b; each = λ j j-in. let le = f.each j j-in in rw (high-at b j j-in) (record { least = le; greatest = omega (arith, ints) }) }

-- a box that holds a point isn't empty
pub held-filled : (b : Bounds) (x : List ℤ) → IsWithin b x → IsFilled b
held-filled b x w = record {
  each = λ j j-in.
      let v = w.each j j-in in
      let low = v.least in
      let high = v.greatest in
      omega (arith, ints, low, high);
}

-- a box whose points all lie in another lies inside it
pub inside-from : (root b : Bounds) → IsFilled b → ((x : List ℤ) → IsWithin b x → IsWithin root x) → IsInside root b
inside-from root b f h =
    let low = h (lows b) (low-within b f) in
    let high = h (highs b) (high-within b f) in
    let low-len = low-long b in
    let low-root = low.long in
    let long : length b ≡ length root = omega (arith, low-len, low-root) in
    record {
      long = long;
      each = λ j j-in.
          let j-b : j < length b = omega (arith, j-in, long) in
          let l = rw (low-at b j j-b) at (low.each j j-in) in
          let g = rw (high-at b j j-b) at (high.each j j-in) in
          record { lower = l.least; filled = f.each j j-b; upper = g.greatest };
    }
