use Rattle.std.proofs.Common.{◌≡◌, ◌<◌, ◌∙◌, length, get_or, sym, refl, arith, Some}
use Rattle.std.proofs.lemmas.Option.{get_or_from_slice_get}
use Rattle.std.specs.List.{slice_get}
use Rattle.sp_draft.proofs.LineLemmas.{named_values_drop, named_values_end}
use Rattle.sp_draft.proofs.solution_lines.print_values.Goals as goal

pub loop-at-init : goal.loop-at-init
loop-at-init g c = c.texts_grow.ensures.begins _ _ _ _ refl

pub returns-in-Err : goal.returns-in-Err
returns-in-Err g c =
    let named : c.loop-at.at < length c.args.names.now = omega arith in
    let valued : c.loop-at.at < length c.args.values.now = omega arith in
    let there : slice_get c.args.names.now c.loop-at.at ≡ Some c.name.result.now = rw (← c.new.ensures) c.name.ensures in
    let is : c.name.result.now ≡ get_or c.args.names.now c.loop-at.at c.name.result.now = sym (get_or_from_slice_get c.args.names.now c.loop-at.at c.name.result.now c.name.result.now there) in
    record { written = c.texts_grow.ensures.fails _ _ _ _ _ _ _ _ _ _ c.loop-at.invariant (named_values_drop _ _ _ _ named valued is) c.in-Err.is c.print_value.ensures.written }

pub loop-at-preserved : goal.loop-at-preserved
loop-at-preserved g c =
    let named : c.loop-at.at < length c.args.names.now = omega arith in
    let valued : c.loop-at.at < length c.args.values.now = omega arith in
    let there : slice_get c.args.names.now c.loop-at.at ≡ Some c.name.result.now = rw (← c.new.ensures) c.name.ensures in
    let is : c.name.result.now ≡ get_or c.args.names.now c.loop-at.at c.name.result.now = sym (get_or_from_slice_get c.args.names.now c.loop-at.at c.name.result.now c.name.result.now there) in
    c.texts_grow.ensures.goes_on _ _ _ _ _ _ _ _ _ c.loop-at.invariant (named_values_drop _ _ _ _ named valued is) c.in-Ok.is c.print_value.ensures.written

pub returns : goal.returns
returns g c = record { written = c.texts_grow.ensures.ends _ _ _ _ _ c.loop-at.invariant (named_values_end c.args.names.now c.args.values.now c.loop-at.at (omega arith)) }
