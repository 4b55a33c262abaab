use Rattle.std.proofs.Common.{arith}
use Rattle.sp_model.specs.Limits.{most_rows}
use Rattle.sp_model.specs.Rules.{IsRowLawful}
use Rattle.sp_model.proofs.RuleLemmas.{first_broken, first_past, one_more, all_lawful}
use Rattle.sp_model.proofs.rules.broken_row.Goals as goal

pub returns-then-k-ge-MOST_ROWS : goal.returns-then-k-ge-MOST_ROWS
returns-then-k-ge-MOST_ROWS c =
    first_past most_rows (IsRowLawful c.args.root.now) c.args.rows.now c.loop-k.k c.loop-k-test.true c.loop-k.invariant.few c.if-k-ge-MOST_ROWS.true c.loop-k.invariant.lawful

pub returns-then-not-is_row_lawful : goal.returns-then-not-is_row_lawful
returns-then-not-is_row_lawful c =
    first_broken most_rows (IsRowLawful c.args.root.now) c.args.rows.now c.loop-k.k c.index-rows-k.result c.loop-k-test.true c.index-rows-k.is c.loop-k.invariant.few c.loop-k.invariant.lawful (λ r. let h = c.is_row_lawful.ensures.1 r in cc)

pub loop-k-preserved : goal.loop-k-preserved
loop-k-preserved c =
    record {
      few = omega arith;
      lawful = one_more most_rows (IsRowLawful c.args.root.now) c.args.rows.now c.loop-k.k c.index-rows-k.result c.loop-k-test.true c.index-rows-k.is c.loop-k.invariant.lawful (c.is_row_lawful.ensures.0 c.if-not-is_row_lawful.false);
    }

pub returns : goal.returns
returns c =
    all_lawful most_rows (IsRowLawful c.args.root.now) c.args.rows.now c.loop-k.k c.loop-k-test.false c.loop-k.invariant.few c.loop-k.invariant.lawful
