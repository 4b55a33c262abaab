use Rattle.std.proofs.Common.{◌≡◌, ◌+◌, ◌++◌, ◌∷◌, [], None, FitsSigned, w64, rules, get_or, length, unwrap_or, pos, ap, ap₂, sym, ◌∙◌, subst, arith}
use Rattle.std.proofs.lemmas.Int.{to_z-of_z}
use Rattle.std.proofs.lemmas.List.{length_push, map_more, get_or_read}
use Rattle.sp_model.specs.Boxes.{Bounds, ranges}
use Rattle.sp_model.specs.Rounds.{closed}
use Rattle.sp_model.specs.Stated.{OpenRange, open_at}
use Rattle.sp_model.proofs.RangeLemmas.{push_ranges}
use Rattle.sp_model.proofs.bound_rules.box_of.Goals as goal

pub loop-range-preserved : goal.loop-range-preserved
loop-range-preserved c =
    let b = c.args.bounds.now in
    let i = c.loop-range.range-index in
    let lows = c.loop-range.lower.items in
    let highs = c.loop-range.upper.items in
    let r = open_at b i in
    let f : FitsSigned w64 c.unwrap_or.result = search rules in
    let g : FitsSigned w64 c.unwrap_or-in-loop-range.result = search rules in
    let lower : c.push.new.self.items ≡ lows ++ unwrap_or r.0 (pos 0) ∷ [] = rw (to_z-of_z w64 _ f, c.unwrap_or.ensures) at c.in_ok-push.ensures.items in
    let upper : c.push-in-loop-range.new.self.items ≡ highs ++ unwrap_or r.1 (pos 0) ∷ [] = rw (to_z-of_z w64 _ g, c.unwrap_or-in-loop-range.ensures) at c.in_ok-push-2.ensures.items in
    let paired : length highs ≡ length lows = c.loop-range.invariant.upper ∙ sym c.loop-range.invariant.lower in
    record {
      lower = ap length lower ∙ length_push lows _ ∙ ap (λ n. n + 1) c.loop-range.invariant.lower;
      upper = ap length upper ∙ length_push highs _ ∙ ap (λ n. n + 1) c.loop-range.invariant.upper;
      made = ap₂ ranges lower upper ∙ push_ranges lows highs (unwrap_or r.0 (pos 0)) (unwrap_or r.1 (pos 0)) paired
          ∙ ap (λ (c : Bounds). c ++ closed r ∷ []) c.loop-range.invariant.made ∙ sym (map_more closed b i (None, None) c.loop-range-test.true);
    }
