use Rattle.std.proofs.Common.{◌∙◌, sym}
use Rattle.sp_pool.proofs.SweepLemmas.{unless_kept, unless_dropped, unless_none}
use Rattle.sp_pool.proofs.rankings.keep_listed.Goals as goal

pub returns-then-not-lists-clause-items : goal.returns-then-not-lists-clause-items
returns-then-not-lists-clause-items c = c.remove.ensures.items ∙ unless_dropped c.args.serials.now c.args.key c.args.line.now.items c.in-Some.member.now c.requires.apart c.in-Some.ensures (sym c.if-not-lists.ensures)

pub returns-else-not-lists-clause-items : goal.returns-else-not-lists-clause-items
returns-else-not-lists-clause-items c = sym (unless_kept c.args.serials.now c.args.key c.args.line.now.items c.in-Some.member.now c.requires.apart c.in-Some.ensures (sym c.if-not-lists.ensures))

pub returns-in_default-clause-items : goal.returns-in_default-clause-items
returns-in_default-clause-items c = unless_none c.args.serials.now c.args.key c.args.line.now.items c.in_default.ensures
