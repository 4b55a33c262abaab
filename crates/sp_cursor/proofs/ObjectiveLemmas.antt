-- The least objective over a box.
use Rattle.std.proofs.Common.{◌≡◌, ◌≤◌, ◌^◌, None, List, ℤ, ◌+ℤ◌, ◌≤ℤ◌, unsigned_abs, ◌∙◌, arith}
use Rattle.std.proofs.lemmas.Int.{ints}
use Rattle.sp_model.specs.declared.parts.ModelParts.{ModelParts}
use Rattle.sp_model.specs.declared.parts.Row.{Row}
use Rattle.sp_model.specs.Boxes.{Bounds, IsWithin}
use Rattle.sp_model.specs.Limits.{greatest_width}
use Rattle.sp_model.specs.Models.{objective, root_of}
use Rattle.sp_model.specs.Rules.{IsLawful}
use Rattle.sp_sums.specs.Extremes.{AreTermsNarrow, IsReached, least_over}
use Rattle.sp_sums.specs.Ranges.{IsFilled, IsInside}
use Rattle.sp_sums.specs.Rows.{IsRowFit}

pub filled-inside : (root b : Bounds) → IsInside root b → IsFilled b
filled-inside root b h = let long = h.long in record { each = λ j j-in. (h.each j (omega (arith, j-in, long))).filled }

pub within-inside : (root b : Bounds) (x : List ℤ) → IsInside root b → IsWithin b x → IsWithin root x
within-inside root b x h w =
    let long = h.long in
    record {
      long = w.long ∙ h.long;
      each = λ j j-in.
          let p = h.each j j-in in
          let v = w.each j (omega (arith, j-in, long)) in
          let a = p.lower in let d = p.upper in let e = v.least in let g = v.greatest in
          record { least = omega (arith, ints, a, e); greatest = omega (arith, ints, d, g) };
    }

-- what the laws of the crates below say of sums
pub record SumLaws : Type 0 where
  pub narrow : (root b : Bounds) (row : Row) → IsRowFit root row → IsInside root b → AreTermsNarrow b row.terms
  pub reached : (b : Bounds) (row : Row) → IsFilled b → IsRowFit b row → IsReached b row.terms
  pub small : (m : ModelParts) (x : List ℤ) → IsLawful m → IsWithin (root_of m) x → unsigned_abs (objective m x) ≤ greatest_width

-- the objective as a row without sides
abbrev pub cost_row : ModelParts → Row
cost_row m = record { terms = m.cost; lo = None; hi = None }

root-fit : (m : ModelParts) → IsLawful m → IsRowFit (root_of m) (cost_row m)
root-fit m lawful =
    let wide = lawful.objective.narrow in
    record { narrow = record { known = lawful.objective.terms.known; narrow = omega (arith, wide) }; rising = lawful.objective.terms.rising }

pub cost-narrow : (l : SumLaws) (m : ModelParts) (b : Bounds) → IsLawful m → IsInside (root_of m) b → AreTermsNarrow b m.cost
cost-narrow l m b lawful inside = l.narrow (root_of m) b (cost_row m) (root-fit m lawful) inside

pub least-small : (l : SumLaws) (m : ModelParts) (b : Bounds) → IsLawful m → IsInside (root_of m) b → unsigned_abs (m.constant +ℤ least_over b m.cost) ≤ 10 ^ 36
least-small l m b lawful inside =
    let fit : IsRowFit b (cost_row m) = record { narrow = cost-narrow l m b lawful inside; rising = lawful.objective.terms.rising } in
    let r = (l.reached b (cost_row m) (filled-inside (root_of m) b inside) fit).least in
    let small = l.small m r.0 lawful (within-inside (root_of m) b r.0 inside r.1) in
    rw r.2 at small
