-- Costs from which the shares of rows are taken, one row after another.
use Rattle.std.proofs.Common.{◌≡◌, ℕ, ◌<◌, List, [], ◌∷◌, length, Option, None, Some, ℤ, pos, ◌+ℤ◌, All, Bool, true, false, cond, refl, sym, ap, subst, ◌∙◌, arith}
use Rattle.std.proofs.lemmas.Int.{ints}
use Rattle.sp_model.specs.declared.parts.ModelParts.{ModelParts}
use Rattle.sp_model.specs.Boxes.{Bounds}
use Rattle.sp_dual.specs.Lists.{MultiplierList}
use Rattle.sp_sums.specs.Rows.{row_at}
use Rattle.sp_bound.specs.Bounds.{Weight, bound_of, fits, scaled_cost}
use Rattle.sp_bound.specs.Inner.{AreHeld, AreReduced, Changes, IsHeld, cost_at, ended, if_fits, minus, minus_shares, plus, plus_sides, plus_values, reduced}
use Rattle.sp_bound.proofs.ChangeLemmas.{values-same}
use Rattle.sp_bound.proofs.HeldLemmas.{bound-held}

pub record IsReducing (m : ModelParts) (l : MultiplierList) (count : ℕ) (rest : List Weight) (costs : List (Option ℤ)) : Type 0 where
  pub long : length costs ≡ count
  pub held : AreHeld costs
  pub each : (j : ℕ) → j < count → minus_shares m.rows j (cost_at costs j) rest ≡ reduced m l j

plus_from_zero : (p : Bool) (z : ℤ) → fits z ≡ p → plus (Some (pos 0)) (cond p (Some z) None) ≡ if_fits z
plus_from_zero true z e = ap if_fits (let same : pos 0 +ℤ z ≡ z = omega (arith, ints) in same)
plus_from_zero false z e = sym (ap (λ p. cond p (Some z) None) e)

zero_held : (costs : List (Option ℤ)) → All (λ c. c ≡ Some (pos 0)) costs → AreHeld costs
zero_held costs h k d l = subst IsHeld (sym (h k d l)) refl

pub reducing_start : (m : ModelParts) (l : MultiplierList) (count : ℕ) (old cleared now : List (Option ℤ)) → length old ≡ count → length cleared ≡ length old → All (λ c. c ≡ Some (pos 0)) cleared → Changes plus l.d m.cost cleared now → IsReducing m l count l.y now
reducing_start m l count old cleared now e g z c = record {
  long = c.long ∙ g ∙ e;
  held = c.held;
  each = λ j k. (let below : j < length cleared = omega (arith, k, e, g) in ap (λ s. minus_shares m.rows j s l.y) (c.each j below ∙ ap (λ s. plus s (if_fits (scaled_cost m l j))) (z j None below) ∙ plus_from_zero (fits (scaled_cost m l j)) (scaled_cost m l j) refl));
}

pub reducing_turn : (m : ModelParts) (l : MultiplierList) (count : ℕ) (w : Weight) (rest : List Weight) (now new : List (Option ℤ)) → IsReducing m l count (w ∷ rest) now → Changes minus w.1 (row_at m.rows w.0).terms now new → IsReducing m l count rest new
reducing_turn m l count w rest now new p c = record {
  long = c.long ∙ p.long;
  held = c.held;
  each = λ j k. ap (λ s. minus_shares m.rows j s rest) (c.each j (omega (arith, k, p.long))) ∙ p.each j k;
}

pub reducing_stop : (m : ModelParts) (l : MultiplierList) (count : ℕ) (now : List (Option ℤ)) → IsReducing m l count [] now → AreReduced m l count now
reducing_stop m l count now p = record { long = p.long; each = p.each }

-- the bound in four steps
pub bound_in_told : (m n : ModelParts) (b : Bounds) (l : MultiplierList) (costs : List (Option ℤ)) (sides sum result : Option ℤ) → n ≡ m → sides ≡ plus_sides b n.rows (Some (pos 0)) l.y → AreReduced n l (length b) costs → sum ≡ plus_values (cost_at costs) 0 sides b → result ≡ ended n l sum → result ≡ bound_of m b l
bound_in_told m n b l costs sides sum result same first second third fourth =
    fourth
    ∙ ap (ended n l) (third ∙ values-same (cost_at costs) (reduced n l) 0 sides b (λ k g. second.each k (omega (arith, g))) ∙ ap (λ (s : Option ℤ). plus_values (reduced n l) 0 s b) first)
    ∙ bound-held n b l
    ∙ ap (λ (p : ModelParts). bound_of p b l) same
