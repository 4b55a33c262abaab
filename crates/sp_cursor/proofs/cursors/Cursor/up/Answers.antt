use Rattle.std.proofs.Common.{refl}
use Rattle.sp_tree.specs.Splits.{box_at}
use Rattle.sp_cursor.proofs.CursorLemmas.{change-of, rises}
use Rattle.sp_cursor.proofs.cursors.Cursor.up.Goals as goal

pub set-requires-clause-change : goal.set-requires-clause-change
set-requires-clause-change c = (change-of c.args.model.now c.args.tree.now c.args.self.now c.pop.new.self.items c.in-Some.back c.requires.cursor c.in-Some.ensures.items).change

pub returns-in-Some-clause-cursor : goal.returns-in-Some-clause-cursor
returns-in-Some-clause-cursor c =
    let t = c.args.tree.now in
    rises c.args.model.now t c.args.self.now (record { hand = c.set.new.self; node = c.in-Some.back.node; backs = c.pop.new.self; path = c.args.self.now.path }) c.pop.new.self.items c.in-Some.back
    c.requires.cursor c.in-Some.ensures.items refl refl (c.set.ensures (box_at t.boxes c.args.self.now.node) c.requires.cursor.hand)

pub returns-in-Some-clause-less : goal.returns-in-Some-clause-less
returns-in-Some-clause-less c = (change-of c.args.model.now c.args.tree.now c.args.self.now c.pop.new.self.items c.in-Some.back c.requires.cursor c.in-Some.ensures.items).order
