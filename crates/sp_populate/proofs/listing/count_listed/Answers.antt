use Rattle.std.proofs.Common.{◌≡◌, true, false, get_or, sym, arith}
use Rattle.std.proofs.lemmas.List.{take_all}
use Rattle.sp_cover.specs.Cover.{no_found}
use Rattle.sp_populate.specs.InnerLists.{is_listed}
use Rattle.sp_populate.proofs.SortLemmas.{counted-more, counted-same, point-at}
use Rattle.sp_populate.proofs.listing.count_listed.Goals as goal
use Rattle.sp_populate.proofs.listing.count_listed.Goals.{then-is_listed, else-is_listed}

pub overflow_add-count : goal.overflow_add-count
overflow_add-count c =
    let few = c.loop-place.invariant.few in
    let h = c.loop-place-test.true in
    let all = c.requires.few in
    omega (arith, few, h, all)

pub loop-place-preserved : goal.loop-place-preserved
loop-place-preserved c =
    let found = c.args.found.now in
    let place = c.loop-place.place in
    let p = is_listed c.args.cut.now c.args.filters.now in
    let h = c.loop-place-test.true in
    let one : c.index-found-place.result ≡ get_or found place no_found = point-at found place c.index-found-place.result h c.index-found-place.is in
    let few = c.loop-place.invariant.few in
    elim c.if-is_listed.branch [
      | then-is_listed w ↦
          let passes : p (get_or found place no_found) ≡ true = rw one at (sym w.if-is_listed.ensures) in
          rw w.count-is (record { few = omega (arith, few); counted = counted-more found p place c.loop-place.count h c.loop-place.invariant.counted passes })
      | else-is_listed w ↦
          let fails : p (get_or found place no_found) ≡ false = rw one at (sym w.if-is_listed.ensures) in
          rw w.count-is (record { few = omega (arith, few); counted = counted-same found p place c.loop-place.count h c.loop-place.invariant.counted fails })
    ]

pub returns : goal.returns
returns c = rw (take_all c.loop-place.place c.args.found.now c.loop-place-test.false) at c.loop-place.invariant.counted
