-- What kept bounds say of stated lists, and a cursor that may be there.
use Rattle.std.proofs.Common.{◌≡◌, ℕ, zero, suc, ◌<◌, false, Option, None, Some, IfSome, List, [], ◌∷◌, length, slice_index_or, ℤ, ◌≤ℤ◌, refl, sym, ap, ◌∙◌, arith}
use Rattle.std.proofs.lemmas.Int.{ints}
use Rattle.sp_model.specs.declared.parts.ModelParts.{ModelParts}
use Rattle.sp_model.specs.Boxes.{Bounds}
use Rattle.sp_dual.specs.Lists.{MultiplierList, zero_list}
use Rattle.sp_bound.specs.Closing.{IsLeftOpen, closes, is_above, list_at}
use Rattle.sp_bound.specs.StatedLists.{stated_lists}
use Rattle.sp_tree.specs.Laws.{Extends}
use Rattle.sp_tree.specs.Trees.{TreeOf}
use Rattle.sp_cover.specs.Numbers.{least_objective, number_by, number_of}
use Rattle.sp_cover.specs.Moves.{IsPast}
use Rattle.sp_cover.specs.declared.aims.Aim.{Aim}
use Rattle.sp_cover.specs.declared.aims.Aim.TheVariants.{Improve, Collect}
use Rattle.sp_cursor.specs.Cursors.{IsCursorOf}
use Rattle.sp_cursor.specs.declared.cursors.Cursor.{Cursor}
use Rattle.sp_search.specs.InnerAims.{threshold_of}
use Rattle.sp_search.specs.Steps.{IsUnlisted}

abbrev pub CursorsLast : Type 0
CursorsLast = (m : ModelParts) (old new : TreeOf) (c : Cursor) → Extends old new → IsCursorOf m old c → IsCursorOf m new c

pub some-lasts : CursorsLast → (m : ModelParts) (old new : TreeOf) (cursor : Option Cursor) → Extends old new → IfSome cursor (IsCursorOf m old) → IfSome cursor (IsCursorOf m new)
some-lasts last m old new None later h = tt
some-lasts last m old new (Some c) later h = last m old new c later h

-- ---- lists

not-above : (aim : Aim) (best : Option ℤ) (v : ℤ) → is_above (threshold_of aim best) (Some v) ≡ false → ¬ IsPast aim best v
not-above Improve None v h = λ past. past
not-above Improve (Some best) v h = λ past. let low : best ≤ℤ v = past in absurd (omega (arith, ints, h, low))
not-above (Collect cut) best v h = λ past. absurd (omega (arith, ints, h, past))

some-same : (a b : ℤ) → Some a ≡ Some b → a ≡ b
some-same a b h = cc

not-past-by : (m : ModelParts) (aim : Aim) (best : Option ℤ) (b : Bounds) (l : MultiplierList) (y : List (ℕ × ℤ)) → closes m b (threshold_of aim best) l ≡ false → ¬ IsPast aim best (least_objective m b)
    → (v : ℤ) → number_by m b l y ≡ Some v → ¬ IsPast aim best v
not-past-by m aim best b l [] shut low v number = rw (some-same (least_objective m b) v number) at low
not-past-by m aim best b l (e ∷ es) shut low v number =
    let above : is_above (threshold_of aim best) (Some v) ≡ false = rw number at shut in
    not-above aim best v above

list-default : (lists : List MultiplierList) (k : ℕ) (d e : MultiplierList) → k < length lists → slice_index_or lists k d ≡ slice_index_or lists k e
list-default [] k d e h = absurd (omega (arith, h))
list-default (l ∷ lists) zero d e h = refl
list-default (l ∷ lists) (suc k) d e h = list-default lists k d e (omega (arith, h))

not-past-at : (m : ModelParts) (aim : Aim) (best : Option ℤ) (b : Bounds) (l k : MultiplierList) → k ≡ l → closes m b (threshold_of aim best) l ≡ false → ¬ IsPast aim best (least_objective m b)
    → (v : ℤ) → number_of m b k ≡ Some v → ¬ IsPast aim best v
not-past-at m aim best b l k same shut low = rw same (not-past-by m aim best b l l.y shut low)

-- where kept bounds leave the box open, and the empty list too, no stated list closes it
pub unlisted-kept : (m : ModelParts) (aim : Aim) (best : Option ℤ) (b : Bounds) (t : Option ℤ) (ls : List MultiplierList) → ls ≡ stated_lists m → t ≡ threshold_of aim best → IsLeftOpen m b t ls → ¬ IsPast aim best (least_objective m b)
    → IsUnlisted m aim best b
unlisted-kept m aim best b t ls lists threshold shut low = record {
  none = λ k d k-in.
      let inside : k < length ls = rw lists k-in in
      let here : closes m b (threshold_of aim best) (list_at ls k) ≡ false = rw threshold at (shut.each k inside) in
      not-past-at m aim best b (list_at ls k) (slice_index_or (stated_lists m) k d) (list-default (stated_lists m) k d zero_list k-in ∙ ap (λ xs. list_at xs k) (sym lists)) here low;
}
