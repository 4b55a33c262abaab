-- The least value found, and its magnitude.
use Rattle.std.proofs.Common.{◌≡◌, ℕ, ◌-◌, ◌<◌, ◌≤◌, Option, None, Some, IfSome, List, [], length, slice_index_or, unsigned_abs, ℤ, ◌≤ℤ◌, refl, ap, ◌∙◌, arith}
use Rattle.std.proofs.lemmas.Int.{ints}
use Rattle.std.proofs.lemmas.Option.{same_Some}
use Rattle.sp_model.specs.declared.parts.ModelParts.{ModelParts}
use Rattle.sp_model.specs.Cuts.{ceiling}
use Rattle.sp_model.specs.Limits.{greatest_width}
use Rattle.sp_model.specs.Models.{Feasible, objective}
use Rattle.sp_list.specs.declared.found.Found.{Found}
use Rattle.sp_cover.specs.Cover.{IsBest, no_found}
use Rattle.sp_cover.specs.Listing.{AreFound}
use Rattle.sp_search.specs.Runs.{IsFirstBest}

between : (a b : ℤ) → a ≤ℤ b → b ≤ℤ a → a ≡ b
between a b h k = omega (arith, ints, h, k)

-- the value of the first point of least value is the least one
pub first-is-best : (found : List Found) (best : Option ℤ) (serial : ℕ) → IsBest found best → IsFirstBest found serial
    → best ≡ Some (slice_index_or found (serial - 1) no_found).value
first-is-best found None serial h first =
    let none = ap length h in
    let from = first.from in
    let known = first.known in
    absurd (omega (arith, none, from, known))
first-is-best found (Some v) serial h first =
    let from = first.from in
    let known = first.known in
    let place : serial - 1 < length found = omega (arith, from, known) in
    let up : v ≤ℤ (slice_index_or found (serial - 1) no_found).value = h.least (serial - 1) place in
    let down : (slice_index_or found (serial - 1) no_found).value ≤ℤ (slice_index_or found h.reached.0 no_found).value = first.least h.reached.0 h.reached.1 in
    let is : (slice_index_or found h.reached.0 no_found).value ≡ v = h.reached.2 in
    ap Some (between v (slice_index_or found (serial - 1) no_found).value up (rw is at down))

-- nothing was found: no best
pub none-is-best : (found : List Found) (best : Option ℤ) → IsBest found best → found ≡ [] → best ≡ None
none-is-best found None h e = refl
none-is-best found (Some v) h e = let none = ap length e in let there = h.reached.1 in absurd (omega (arith, none, there))

-- a best value has a small magnitude
pub small-best : (m : ModelParts) (found : List Found) (best : ℤ) → IsBest found (Some best) → AreFound m found → ((x : List ℤ) → Feasible m x → unsigned_abs (objective m x) ≤ greatest_width)
    → best ≤ℤ ceiling
small-best m found best h are small =
    let k = h.reached.0 in
    let f = slice_index_or found k no_found in
    let is : objective m f.point ≡ best = are.value k h.reached.1 ∙ h.reached.2 in
    let less : unsigned_abs best ≤ greatest_width = rw is at (small f.point (are.feasible k h.reached.1)) in
    omega (arith, ints, less)

pub above-some : (o : Option ℤ) (b r : ℤ) → Some b ≡ o → b ≤ℤ r → IfSome o (λ v. v ≤ℤ r)
above-some None b r e h = cc
above-some (Some v) b r e h = let same : b ≡ v = same_Some b v e in rw (← same) h
