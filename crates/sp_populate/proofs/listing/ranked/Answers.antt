use Rattle.std.proofs.Common.{◌≡◌, true, false, get_or, refl, sym}
use Rattle.std.proofs.lemmas.List.{take_all}
use Rattle.sp_cover.specs.Cover.{no_found}
use Rattle.sp_populate.specs.InnerLists.{is_listed}
use Rattle.sp_populate.proofs.SortLemmas.{chosen-more, chosen-same, named-at, named-more, point-at}
use Rattle.sp_populate.proofs.listing.ranked.Goals as goal
use Rattle.sp_populate.proofs.listing.ranked.Goals.{then-is_listed+in_ok-push, else-is_listed}

pub loop-place-preserved : goal.loop-place-preserved
loop-place-preserved c =
    let found = c.args.found.now in
    let place = c.loop-place.place in
    let p = is_listed c.args.cut.now c.args.filters.now in
    let h = c.loop-place-test.true in
    let one : c.index-found-place.result ≡ get_or found place no_found = point-at found place c.index-found-place.result h c.index-found-place.is in
    elim c.if-is_listed.branch [
      | then-is_listed+in_ok-push w ↦
          let f = w.index-found-place-then-is_listed.result in
          let passes : p (get_or found place no_found) ≡ true = rw one at (sym w.if-is_listed.ensures) in
          rw (w.ranked-is, w.in_ok-push.ensures.items) (record {
            named = named-more found c.loop-place.ranked.items _ c.loop-place.invariant.named (named-at found place _ f h refl refl w.index-found-place-then-is_listed.is);
            chosen = chosen-more found p c.loop-place.ranked.items _ place h c.loop-place.invariant.chosen (point-at found place f h w.index-found-place-then-is_listed.is) passes;
          })
      | else-is_listed w ↦
          let fails : p (get_or found place no_found) ≡ false = rw one at (sym w.if-is_listed.ensures) in
          rw w.ranked-is (record {
            named = c.loop-place.invariant.named;
            chosen = chosen-same found p c.loop-place.ranked.items place h c.loop-place.invariant.chosen fails;
          })
    ]

pub returns : goal.returns
returns c = record {
  named = c.loop-place.invariant.named;
  chosen = rw (take_all c.loop-place.place c.args.found.now c.loop-place-test.false) at c.loop-place.invariant.chosen;
}
