-- Rows that get the sides of another threshold, one after another.
use Rattle.std.proofs.Common.{◌≡◌, ◌≢◌, ℕ, ◌+◌, ◌^◌, ◌<◌, ◌≤◌, Bool, true, false, nat_eq, List, length, map, set, Option, ℤ, refl, sym, ap, subst, ◌∙◌, arith, length-set, get_or-set_same, get_or-set_other}
use Rattle.std.specs.Int.RustNames.{unsigned_abs}
use Rattle.std.proofs.lemmas.Bool.Decides.{nat_tests}
use Rattle.sp_model.specs.declared.parts.Row.{Row}
use Rattle.sp_model.specs.declared.parts.ModelParts.{ModelParts}
use Rattle.sp_model.specs.Models.{root_of}
use Rattle.sp_sums.specs.Rows.{RowsOver, bare_row, row_at}
use Rattle.sp_dual.specs.Lists.{MultiplierList}
use Rattle.sp_bound.specs.declared.keeping.Owner.{Owner}
use Rattle.sp_bound.specs.Bounds.{side_product}
use Rattle.sp_bound.specs.Closing.{list_at}
use Rattle.sp_bound.specs.KeptBounds.{AreOwned, IsOwned, IsRaised, owner_at}
use Rattle.sp_bound.specs.Raising.{IsRaising, RaisesRow}
use Rattle.sp_bound.proofs.SafeLemmas.{total-size}

-- a list's sides are small
pub sides_small : (m : ModelParts) (ls : List MultiplierList) (o : Owner) (row : Row) → IsOwned m ls o row → unsigned_abs o.sides ≤ 10 ^ 36
sides_small m ls o row h = omega (arith, ap unsigned_abs h.sides, total-size (map (side_product (root_of m) m.rows) (list_at ls o.place).y), h.safe.small)

-- the row with another greatest side
abbrev raised_row : Row → Option ℤ → Row
raised_row row side = record row { hi = side }

still_owned : (m : ModelParts) (ls : List MultiplierList) (o : Owner) (row : Row) (side : Option ℤ) → IsOwned m ls o row → IsOwned m ls o (raised_row row side)
still_owned m ls o row side h = record { known = h.known; sides = h.sides; safe = h.safe; terms = h.terms; low = h.low }

-- after the change of one row, what holds of the new row there and of the old ones elsewhere holds of each
pub each_row : (rows : List Row) (at : ℕ) (new : Row) (P : ℕ → Row → Type 0) (k : ℕ) → at < length rows → P at new → (k ≢ at → P k (row_at rows k)) → P k (row_at (set rows at new) k)
each_row rows at new P k h here other = by_case (nat_eq k at) refl
  where
    by_case : (b : Bool) → nat_eq k at ≡ b → P k (row_at (set rows at new) k)
    by_case true e =
        let same : k ≡ at = grind (arith, nat_tests) in
        subst (λ (j : ℕ). P j (row_at (set rows at new) j)) (sym same) (subst (P at) (sym (get_or-set_same rows at new bare_row h)) here)
    by_case false e =
        let differs : k ≢ at = grind (arith, nat_tests) in
        subst (P k) (sym (get_or-set_other rows at k new bare_row differs)) (other differs)

pub raising_start : (m : ModelParts) (t : Option ℤ) (ls : List MultiplierList) (os : List Owner) (old : RowsOver) → AreOwned m ls os old.rows → IsRaising m t ls os 0 old old
raising_start m t ls os old h = record { root = refl; bounds = refl; owned = h; raised = record { each = λ k l. absurd (omega (arith, l)) } }

pub raising_turn : (m : ModelParts) (t : Option ℤ) (ls : List MultiplierList) (os : List Owner) (at next : ℕ) (old now new : RowsOver) → next ≡ at + 1 → at < length now.rows → IsRaising m t ls os at old now → RaisesRow m t ls os at now new → IsRaising m t ls os next old new
raising_turn m t ls os at next old now new e l p r =
    subst (λ (s : RowsOver). IsRaising m t ls os next old s) (sym r.set) (record {
      root = p.root;
      bounds = p.bounds;
      owned = record {
        paired = p.owned.paired ∙ sym (length-set now.rows at (raised_row (row_at now.rows at) r.side));
        each = λ k g. (let below : k < length now.rows = omega (arith, g, length-set now.rows at (raised_row (row_at now.rows at) r.side)) in each_row now.rows at (raised_row (row_at now.rows at) r.side) (λ (j : ℕ) (row : Row). IsOwned m ls (owner_at os j) row) k l (still_owned m ls (owner_at os at) (row_at now.rows at) r.side (p.owned.each at l)) (λ d. p.owned.each k below));
      };
      raised = record {
        each = λ k g. each_row now.rows at (raised_row (row_at now.rows at) r.side) (λ (j : ℕ) (row : Row). IsRaised m t ls (owner_at os j) row.hi) k l r.tells (λ d. p.raised.each k (omega (arith, g, e, d)));
      };
    })

pub raising_stop : (m : ModelParts) (t : Option ℤ) (ls : List MultiplierList) (os : List Owner) (at count : ℕ) (old new : RowsOver) → count ≤ at → IsRaising m t ls os at old new → IsRaising m t ls os count old new
raising_stop m t ls os at count old new h p = record {
  root = p.root;
  bounds = p.bounds;
  owned = p.owned;
  raised = record { each = λ k l. p.raised.each k (omega (arith, l, h)) };
}
