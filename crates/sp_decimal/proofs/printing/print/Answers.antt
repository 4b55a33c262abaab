use Rattle.std.proofs.Common.{refl, arith}
use Rattle.std.specs.Int.{w128}
use Rattle.std.proofs.lemmas.Int.{to_z-of_z}
use Rattle.sp_decimal.proofs.PrintedFormLemmas.{printed-normal}
use Rattle.sp_decimal.proofs.PrintedTextLemmas.{printed_from}
use Rattle.sp_decimal.proofs.PrintedValueLemmas.{printed-reads, printed-value}
use Rattle.sp_decimal.proofs.printing.print.Goals as goal

pub returns : goal.returns
returns c =
    let z = c.args.z in
    let s = c.args.s in
    let same = to_z-of_z w128 z c.ranges.z in
    let size = rw same at c.unsigned_abs.ensures.value in
    let small = c.unsigned_abs.ensures.bound in
    let exact = printed_from z _ c.unsigned_abs.result s c.sign_of.result.now c.print_size.result same c.sign_of.ensures c.unsigned_abs.ensures.value c.print_size.ensures in
    rw exact (record {
      exact = refl;
      normal = printed-normal z s (omega arith);
      value = printed-value z s (omega arith);
      reads = printed-reads z s (omega arith);
    })
