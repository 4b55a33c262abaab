use Rattle.std.proofs.Common.{◌≡◌, ◌<◌, length, get_or, sym, ap, ◌∙◌, arith}
use Rattle.std.proofs.lemmas.List.{take_more_same, length-map, get_or-map}
use Rattle.sp_activity.specs.declared.trails.Past.{Past}
use Rattle.sp_activity.specs.Paths.{branches}
use Rattle.sp_activity.proofs.trails.shared_front.Goals as goal

pub loop-at-preserved : goal.loop-at-preserved
loop-at-preserved c =
    let in_trail : c.loop-at.at < length c.args.trail.now = omega arith in
    let in_path : c.loop-at.at < length c.args.path.now = omega arith in
    let alike : c.index-trail-at.result.branch ≡ c.index-path-at.result =
    ap (λ (p : Past). p.branch) c.index-trail-at.is ∙ c.is_same.ensures.0 c.if-not-is_same.false in
    let there : get_or (branches c.args.trail.now) c.loop-at.at c.index-path-at.result ≡ get_or c.args.path.now c.loop-at.at c.index-path-at.result =
    get_or-map (λ (p : Past). p.branch) c.args.trail.now c.loop-at.at c.index-trail-at.result c.index-path-at.result in_trail
    ∙ ap (λ (p : Past). p.branch) (sym c.index-trail-at.is) ∙ alike ∙ c.index-path-at.is in
    take_more_same (branches c.args.trail.now) c.args.path.now c.loop-at.at c.index-path-at.result (omega (arith, length-map c.args.trail.now (λ (p : Past). p.branch))) in_path c.loop-at.invariant there
