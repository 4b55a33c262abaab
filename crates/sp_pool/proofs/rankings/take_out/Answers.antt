-- The member's serial is among them.
use Rattle.sp_pool.proofs.SerialLemmas.{tally_out, out_none}
use Rattle.sp_pool.proofs.rankings.take_out.Goals as goal

pub returns-in-Some-clause-tally : goal.returns-in-Some-clause-tally
returns-in-Some-clause-tally c =
    tally_out c.args.line.now.items c.remove-in-Some.new.self.items c.args.serials.now.items c.remove.new.self.items c.args.key c.in-Some.member.now c.requires.tally c.requires.apart c.in-Some.ensures c.remove.ensures.items c.remove-in-Some.ensures.items

pub returns-in_default-clause-items : goal.returns-in_default-clause-items
returns-in_default-clause-items c = out_none c.args.key c.args.line.now.items c.in_default.ensures
