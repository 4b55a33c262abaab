use Rattle.std.proofs.Common.{◌∙◌, rules, FitsSigned, to_z-of_z, arith}
use Rattle.std.specs.Int.{w128}
use Rattle.sp_populate.proofs.RoundLemmas.{above-next, fit-next, gathered-join}
use Rattle.sp_populate.proofs.best.+gather.Goals as goal

pub gather-requires : goal.gather-requires
gather-requires t c =
    let f : FitsSigned w128 c.between-next.result = search rules in
    let old = c.args.state.now in
    let mid = c.gather_to.new.state in
    let g = c.gather_to.ensures.run in
    let dec = c.decreases in
    let some = c.if-left-eq0.false in
    rw (to_z-of_z f) (
      omega (arith, dec, some),
      (
        g.run.proved ∙ c.requires.proved,
        (
          above-next old mid c.args.cut.now c.between-next.result c.args.most.now c.args.filters.now c.args.node_limit g c.requires.above c.between-next.ensures.above,
          (c.between-next.ensures.below, fit-next old mid c.args.most.now c.args.filters.now c.args.node_limit g c.requires.fit),
        ),
      ),
    )

pub returns-clause-run : goal.returns-clause-run
returns-clause-run t c =
    gathered-join c.extensions_last.ensures.joined c.args.state.now c.gather_to.new.state c.gather.new.state c.args.most.now c.args.filters.now c.args.node_limit
    c.gather_to.ensures.run c.gather.ensures.run
