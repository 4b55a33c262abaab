use Rattle.std.proofs.Common.{◌≡◌, refl, sym, ap, ◌∙◌, ◌-◌, Some, rules, FitsSigned, to_z-of_z, arith, ◌<◌, length, slice_index_or}
use Rattle.std.specs.Int.{w128}
use Rattle.sp_list.specs.declared.found.Found.{Found}
use Rattle.sp_cover.specs.Cover.{no_found}
use Rattle.sp_populate.proofs.CutLemmas.{first-is-best, none-is-best}
use Rattle.sp_populate.proofs.ListLemmas.{get_or-default}
use Rattle.sp_populate.proofs.cuts.best_value.Goals as goal

pub returns-in-None : goal.returns-in-None
returns-in-None c =
    let s = c.args.state.now in
    sym (none-is-best s.search.found s.search.best c.proved-phase.ensures.state.search.best (c.in-None.ensures.none.0 refl))

pub returns-in-Some : goal.returns-in-Some
returns-in-Some c =
    let s = c.args.state.now in
    let place = c.in-Some.serial - 1 in
    let f : FitsSigned w128 c.index-found-serial.result.value = search rules in
    let first = c.in-Some.ensures.first in
    let from = first.from in
    let known = first.known in
    let there : place < length s.search.found = omega (arith, from, known) in
    let best = first-is-best s.search.found s.search.best c.in-Some.serial c.proved-phase.ensures.state.search.best first in
    let is : c.index-found-serial.result ≡ slice_index_or s.search.found place c.index-found-serial.result = rw c.found.ensures.found at c.index-found-serial.is in
    let same : slice_index_or s.search.found place no_found ≡ c.index-found-serial.result = get_or-default s.search.found place no_found c.index-found-serial.result there ∙ sym is in
    rw (← c.index-found-serial.is, to_z-of_z f) (sym (best ∙ ap (λ (g : Found). Some g.value) same))
