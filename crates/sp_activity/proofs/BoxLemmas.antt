-- The kept box lies in the model's closed one.
use Rattle.std.proofs.Common.{◌≡◌, ap, subst}
use Rattle.sp_model.specs.declared.parts.ModelParts.{ModelParts}
use Rattle.sp_model.specs.Boxes.{Bounds, range_at}
use Rattle.sp_model.specs.Models.{root_of}
use Rattle.sp_sums.specs.Ranges.{IsInside, IsPart}
use Rattle.sp_sums.specs.Rows.{RowsOver}
use Rattle.sp_activity.specs.declared.kept.Kept.{Kept}
use Rattle.sp_activity.specs.Kept.{IsKeptOf, bounds_of}
use Rattle.sp_activity.specs.Within.{IsUnder}

pub kept_inside : (m : ModelParts) (k : Kept) → IsKeptOf m k → IsInside k.rows.root k.rows.bounds → IsInside (root_of m) (bounds_of k)
kept_inside m k h i =
    let root : k.rows.root ≡ root_of m = ap (λ (s : RowsOver). s.root) h.rows in
    subst (λ (b : Bounds). IsInside b (bounds_of k)) root i

pub inside_under : (root b : Bounds) → IsInside root b → IsUnder root b
inside_under root b i = record {
  long = i.long;
  each = λ j l. (let p : IsPart (range_at root j) (range_at b j) = i.each j l in record { lower = p.lower; upper = p.upper });
}
