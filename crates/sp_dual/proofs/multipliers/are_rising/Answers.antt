use Rattle.std.proofs.Common.{◌≢◌, pos, refl, arith}
use Rattle.sp_dual.specs.Inner.{next_of}
use Rattle.sp_dual.proofs.EntryLemmas.{turns-there, turns-more, turns-end}
use Rattle.sp_dual.proofs.multipliers.are_rising.Goals as goal

pub loop-entry-init : goal.loop-entry-init
loop-entry-init c = record { there = λ w. w; back = λ w. w }

pub returns-then-not-is_past : goal.returns-then-not-is_past
returns-then-not-is_past c =
    (λ e. cc, λ w. let t = turns-there c.args.entries.now (next_of c.loop-entry.last) c.loop-entry.entry-index c.entry-item.result c.loop-entry-test.true c.entry-item.is c.loop-entry.invariant w in let past = c.is_past.ensures.1 (rw c.index-row.ensures t.0) in let fails = c.if-not-is_past.true in absurd cc)

pub returns-then-is_zero : goal.returns-then-is_zero
returns-then-is_zero c =
    (λ e. cc, λ w. let t = turns-there c.args.entries.now (next_of c.loop-entry.last) c.loop-entry.entry-index c.entry-item.result c.loop-entry-test.true c.entry-item.is c.loop-entry.invariant w in absurd (t.1 (c.is_zero.ensures.0 c.if-is_zero.true)))

pub loop-entry-preserved : goal.loop-entry-preserved
loop-entry-preserved c =
    let nonzero : c.entry-item.result.1 ≢ pos 0 = λ z. let h = c.is_zero.ensures.1 z in cc in
    let more = turns-more c.args.entries.now (next_of c.loop-entry.last) c.loop-entry.entry-index c.entry-item.result c.loop-entry-test.true c.entry-item.is (let past = c.is_past.ensures.0 c.if-not-is_past.false in omega (arith, c.index-row.ensures, past)) nonzero c.loop-entry.invariant in
    rw c.index-row.ensures more

pub returns : goal.returns
returns c =
    (λ _. turns-end c.args.entries.now (next_of c.loop-entry.last) c.loop-entry.entry-index c.loop-entry-test.false c.loop-entry.invariant, λ _. refl)
