use Rattle.std.proofs.Common.{◌≡◌, ◌∷◌, ◌++◌, ◌+◌, ◌-◌, ◌<◌, ◌≤◌, [], length, get_or, take, drop, refl, sym, ap, ◌∙◌, subst, arith}
use Rattle.std.specs.Int.RustNames.{unsigned_abs}
use Rattle.std.proofs.lemmas.Bool.{or_parts}
use Rattle.std.proofs.lemmas.List.{drop_all, take_more}
use Rattle.sp_model.specs.InnerRounds.{marked, no_tails, AreTailsOf}
use Rattle.sp_model.specs.Limits.{greatest_width}
use Rattle.sp_model.specs.Rounds.{close_variable}
use Rattle.sp_model.specs.Sums.{Term}
use Rattle.sp_model.proofs.RowLemmas.{IsPart, part_of, part_small, part_known, RowTurn, row_start, row_others, row_turn, row_end, tails_after}
use Rattle.sp_model.proofs.SumLemmas.{drop_item}
use Rattle.sp_model.proofs.rounds.close_along.Goals as goal

pub loop-place-init : goal.loop-place-init
loop-place-init c =
    let p = part_of (length c.args.bounds.now) c.args.row.now c.requires.part in
    record {
      turn = row_start (marked c.args.marks.now) c.args.row.now c.args.bounds.now _ refl refl p.rises;
      least = omega arith;
      greatest = omega arith;
      still = λ f. refl;
    }

pub close_variable-changed-requires-clause-coefficient : goal.close_variable-changed-requires-clause-coefficient
close_variable-changed-requires-clause-coefficient c =
    let is = rw c.as_slice-terms.ensures at c.index-terms-place.is in
    let lt = rw c.as_slice-terms.ensures at c.loop-place-test.true in
    part_small (length c.args.bounds.now) c.args.row.now c.requires.part c.loop-place.place c.index-terms-place.result lt is

pub ends_of-requires : goal.ends_of-requires
ends_of-requires c =
    let is = rw c.as_slice-terms.ensures at c.index-terms-place.is in
    let lt = rw c.as_slice-terms.ensures at c.loop-place-test.true in
    omega (arith, part_known (length c.args.bounds.now) c.args.row.now c.requires.part c.loop-place.place c.index-terms-place.result lt is)

pub loop-place-preserved : goal.loop-place-preserved
loop-place-preserved c =
    let semi = marked c.args.marks.now in
    let row = c.args.row.now in
    let i = c.loop-place.place in
    let t = c.index-terms-place.result in
    let is = rw c.as_slice-terms.ensures at c.index-terms-place.is in
    let lt = rw c.as_slice-terms.ensures at c.loop-place-test.true in
    let b = c.args.bounds.now in
    let d : drop i row.terms ≡ t ∷ drop (i + 1) row.terms = drop_item row.terms i t lt is in
    let k : take (i + 1) row.terms ≡ take i row.terms ++ t ∷ [] = take_more row.terms i t lt ∙ ap (λ u. take i row.terms ++ u ∷ []) (sym is) in
    let here : RowTurn semi row b c.loop-place.bounds (take i row.terms) (t ∷ drop (i + 1) row.terms) c.loop-place.before =
    subst (λ ts. RowTurn semi row b c.loop-place.bounds (take i row.terms) ts c.loop-place.before) d c.loop-place.invariant.turn in
    let tail_is : c.tails_at.result ≡ get_or c.args.tails.now (length row.terms - 1 - i) no_tails = rw c.as_slice-terms.ensures at c.tails_at.ensures in
    let later : AreTailsOf b (drop (i + 1) row.terms) c.tails_at.result =
    tails_after b row.terms c.args.tails.now i c.tails_at.result lt c.requires.tails tail_is in
    let rest = row_others semi row b c.loop-place.bounds (take i row.terms) (drop (i + 1) row.terms) t c.loop-place.before c.others-rest.result c.tails_at.result here c.loop-place.invariant.least c.loop-place.invariant.greatest later c.others-rest.ensures.least c.others-rest.ensures.greatest in
    let e : c.close_variable-changed.new.bounds ≡ close_variable semi row c.loop-place.bounds t (take i row.terms ++ drop (i + 1) row.terms) = rw (rest.0, rest.1) at c.close_variable-changed.ensures.closed in
    record {
      turn = rw k (row_turn semi row b c.loop-place.bounds c.close_variable-changed.new.bounds (take i row.terms) (drop (i + 1) row.terms) t c.loop-place.before c.gone_past-before.result c.ends_of.result here e c.ends_of.ensures.least c.ends_of.ensures.greatest c.gone_past-before.ensures.least c.gone_past-before.ensures.greatest);
      least = c.gone_past-before.ensures.least_small;
      greatest = c.gone_past-before.ensures.greatest_small;
      still = λ f.
          let p = or_parts c.loop-place.changed c.close_variable-changed.result f in
          c.close_variable-changed.ensures.still p.1 ∙ c.loop-place.invariant.still p.0;
    }

pub returns : goal.returns
returns c =
    let end : length c.args.row.now.terms ≤ c.loop-place.place = rw c.as_slice-terms.ensures at c.loop-place-test.false in
    record {
      closed = row_end (marked c.args.marks.now) c.args.row.now c.args.bounds.now c.loop-place.bounds _ _ c.loop-place.before (drop_all c.loop-place.place c.args.row.now.terms end) c.loop-place.invariant.turn;
      still = c.loop-place.invariant.still;
    }
