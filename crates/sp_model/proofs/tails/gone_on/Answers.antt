use Rattle.std.proofs.Common.{Some, ap, sym, ◌∙◌, arith}
use Rattle.std.proofs.lemmas.Int.{ints}
use Rattle.sp_model.proofs.TailLemmas.{joins, joins_high, joins_low}
use Rattle.sp_model.proofs.tails.gone_on.Goals as goal

pub returns-then-greatest-sum-clause-value : goal.returns-then-greatest-sum-clause-value
returns-then-greatest-sum-clause-value c = sym (joins_high c.args.sum.now c.args.tail.now (omega (arith, ints)))

pub returns-then-sum-tail-clause-value : goal.returns-then-sum-tail-clause-value
returns-then-sum-tail-clause-value c = sym (joins_low c.args.sum.now c.args.tail.now (omega (arith, ints)))

pub returns-clause-value : goal.returns-clause-value
returns-clause-value c =
    ap Some (omega (arith, ints)) ∙ sym (joins c.args.sum.now c.args.tail.now record { high = omega (arith, ints); low = omega (arith, ints) })
