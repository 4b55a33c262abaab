use Rattle.std.proofs.Common.{arith, FitsSigned, sym, ◌∙◌}
use Rattle.std.specs.Int.{w128}
use Rattle.std.proofs.lemmas.Int.{fits_signed_from_abs, to_z-of_z}
use Rattle.sp_search.proofs.steps.only_found.Goals as goal

pub returns : goal.returns
returns c =
    let small = c.value-value.ensures.small in
    let fits : FitsSigned w128 c.value-value.result = fits_signed_from_abs w128 c.value-value.result (omega (arith, small)) in
    record {
      alone = c.in_ok-point.ensures;
      feasible = c.open_points_are_feasible.ensures c.args.model.now c.args.bounds.now c.in_ok-point.point c.parts-parts.ensures.lawful c.requires.under c.in_ok-point.ensures c.requires.unreasoned;
      value = sym c.value-value.ensures.exact ∙ sym (to_z-of_z w128 c.value-value.result fits);
    }
