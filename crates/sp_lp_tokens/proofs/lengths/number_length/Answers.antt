use Rattle.std.proofs.Common.{◌≡◌, get_or, Some, None, arith}
use Rattle.sp_lp_tokens.specs.InnerNumeralPlaces.{place_after}
use Rattle.sp_lp_tokens.proofs.NumeralLeftLemmas.{no_place, next_place}
use Rattle.sp_lp_tokens.proofs.NumeralFrontsLemmas.{read_stops, read_more}
use Rattle.sp_lp_tokens.proofs.lengths.number_length.Goals as goal

pub returns-in-None : goal.returns-in-None
returns-in-None c =
    let e : place_after c.loop-i.place (get_or c.args.bytes.now c.loop-i.i 0) ≡ None = cc in
    read_stops c.args.bytes.now c.loop-i.i c.loop-i.place c.loop-i.longest c.loop-i.invariant (omega arith) (no_place c.loop-i.place (get_or c.args.bytes.now c.loop-i.i 0) e)

pub loop-i-preserved : goal.loop-i-preserved
loop-i-preserved c =
    let e : place_after c.loop-i.place (get_or c.args.bytes.now c.loop-i.i 0) ≡ Some c.in-Some.next = cc in
    rw c.longer-longest.ensures (read_more c.args.bytes.now c.loop-i.i c.loop-i.place c.in-Some.next c.loop-i.longest c.loop-i.invariant (omega arith) (next_place c.loop-i.place c.in-Some.next (get_or c.args.bytes.now c.loop-i.i 0) e))
