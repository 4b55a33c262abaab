use Rattle.std.proofs.Common.{◌+ℤ◌, to_z, of_z, arith}
use Rattle.std.specs.Int.{w128}
use Rattle.std.proofs.lemmas.Int.{ints, clamps}
use Rattle.sp_model.specs.declared.tails.Tail.{Tail}
use Rattle.sp_model.proofs.TailLemmas.{IsLonger, longer_tail, no_tail}
use Rattle.sp_model.proofs.tails.lengthened.Goals as goal

pub returns-then-abs_diff-le-FARTHEST : goal.returns-then-abs_diff-le-FARTHEST
returns-then-abs_diff-le-FARTHEST c = λ vs h.
    let v = c.args.addend.now in
    let t = c.args.tail.now in
    let u : Tail = record {
      total = to_z w128 (of_z w128 (to_z w128 (of_z w128 v) +ℤ to_z w128 (of_z w128 t.total)));
      low = to_z w128 (of_z w128 c.min-low.result);
      high = to_z w128 (of_z w128 c.max-high.result);
    } in
    let l : IsLonger v t u = record {
      total = omega (arith, ints);
      low = omega (arith, ints, clamps, c.min-low.ensures.value);
      high = omega (arith, ints, clamps, c.max-high.ensures.value);
    } in
    longer_tail v t u vs l (omega (arith, ints, l.low, l.high)) c.requires.span h

pub returns-else-abs_diff-le-FARTHEST : goal.returns-else-abs_diff-le-FARTHEST
returns-else-abs_diff-le-FARTHEST c = λ vs h.
    let v = c.args.addend.now in
    let t = c.args.tail.now in
    let u : Tail = record { total = v +ℤ t.total; low = c.min-low.result; high = c.max-high.result } in
    let l : IsLonger v t u = record {
      total = omega (arith, ints);
      low = omega (arith, ints, clamps, c.min-low.ensures.value);
      high = omega (arith, ints, clamps, c.max-high.ensures.value);
    } in
    no_tail v t u vs l (omega (arith, ints, l.low, l.high)) h
