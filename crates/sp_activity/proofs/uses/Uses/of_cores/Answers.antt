use Rattle.std.proofs.Common.{◌≡◌, ◌<◌, ◌∷◌, [], pos, map, sym, ap, ◌∙◌, arith}
use Rattle.std.proofs.lemmas.List.{get_or_read, get_or-map, length-map}
use Rattle.sp_model.specs.Stated.{Core}
use Rattle.sp_activity.specs.Reasons.{core_at}
use Rattle.sp_activity.specs.Uses.{core_vars, vars_at}
use Rattle.sp_activity.proofs.UsesLemmas.{listed_one, listed_stop}
use Rattle.sp_activity.proofs.uses.Uses.of_cores.Goals as goal

pub add-requires : goal.add-requires
add-requires c =
    let item = get_or_read c.args.cores.now c.loop-at.at c.index-cores-at.result c.loop-at-test.true c.index-cores-at.is (0, pos 0, pos 0) in
    let known : (core_at c.args.cores.now c.loop-at.at).0 < c.args.count = c.requires.known c.loop-at.at (0, pos 0, pos 0) c.loop-at-test.true 0 0 (omega arith) in
    let var : c.index.result ≡ (core_at c.args.cores.now c.loop-at.at).0 = c.index.ensures ∙ ap (λ (x : Core). x.0) (sym c.index-cores-at.is ∙ item) in
    omega (arith, known, var, c.loop-at.invariant.long)

pub loop-at-preserved : goal.loop-at-preserved
loop-at-preserved c =
    let item = get_or_read c.args.cores.now c.loop-at.at c.index-cores-at.result c.loop-at-test.true c.index-cores-at.is (0, pos 0, pos 0) in
    let known : (core_at c.args.cores.now c.loop-at.at).0 < c.args.count = c.requires.known c.loop-at.at (0, pos 0, pos 0) c.loop-at-test.true 0 0 (omega arith) in
    let var : c.index.result ≡ (core_at c.args.cores.now c.loop-at.at).0 = c.index.ensures ∙ ap (λ (x : Core). x.0) (sym c.index-cores-at.is ∙ item) in
    let vars : vars_at (map core_vars c.args.cores.now) c.loop-at.at ≡ (core_at c.args.cores.now c.loop-at.at).0 ∷ [] = get_or-map core_vars c.args.cores.now c.loop-at.at (0, pos 0, pos 0) [] c.loop-at-test.true in
    listed_one c.args.count c.loop-at.at (map core_vars c.args.cores.now) (core_at c.args.cores.now c.loop-at.at).0 c.index.result c.loop-at.lists.items c.add.new.lists.items c.loop-at.invariant vars var known c.in_ok-add.ensures

pub returns : goal.returns
returns c =
    listed_stop c.args.count c.loop-at.at (map core_vars c.args.cores.now) c.loop-at.lists.items (omega (arith, c.loop-at-test.false, c.loop-at.auto.at-end, length-map c.args.cores.now core_vars)) c.loop-at.invariant
