use Rattle.std.proofs.Common.{◌≡◌, ◌<◌, ◌≤◌, ◌++◌, ◌∷◌, [], List, length, get_or, None, ap, ◌∙◌, arith}
use Rattle.std.proofs.lemmas.List.{take_more, take_all}
use Rattle.sp_model.specs.Stated.{OpenRange, stated_of}
use Rattle.sp_model.proofs.StatedLemmas.{length_stated, stated_at}
use Rattle.sp_model.proofs.rounds.stated_bounds.Goals as goal

pub loop-place-preserved : goal.loop-place-preserved
loop-place-preserved c =
    let m = c.args.parts.now in
    let i = c.loop-place.place in
    let lt : i < length m.lower = rw c.as_slice-lower.ensures at c.loop-place-test.true in
    let in_stated : i < length (stated_of m) = omega (arith, length_stated m c.requires) in
    let h = rw (c.as_slice-lower.ensures, c.as_slice-upper.ensures) at c.in_ok-push.ensures.items in
    rw (take_more (stated_of m) i (None, None) in_stated, stated_at m i c.requires lt)
    (h ∙ ap (λ (xs : List OpenRange). xs ++ (get_or m.lower i None, get_or m.upper i None) ∷ []) c.loop-place.invariant)

pub returns : goal.returns
returns c =
    let m = c.args.parts.now in
    let end : length m.lower ≤ c.loop-place.place = rw c.as_slice-lower.ensures at c.loop-place-test.false in
    c.loop-place.invariant ∙ take_all c.loop-place.place (stated_of m) (omega (arith, length_stated m c.requires))
