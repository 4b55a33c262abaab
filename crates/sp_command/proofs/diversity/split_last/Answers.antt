-- The first colon from behind is the last one.
use Rattle.std.proofs.Common.{◌≡◌, ◌+◌, ◌-◌, ◌∙◌, ap, sym, arith, eq-eqb, drop, take, Some, None, List, ℕ}
use Rattle.sp_command_words.specs.Keywords.{Word}
use Rattle.sp_command.specs.Filters.{cut_last}
use Rattle.sp_command.proofs.CutLemmas.{cut_here}
use Rattle.sp_command.proofs.diversity.split_last.Goals as goal

pub returns-then-text-place-eq58 : goal.returns-then-text-place-eq58
returns-then-text-place-eq58 c =
    let back : c.loop-place.place - 1 + 1 ≡ c.loop-place.place = omega arith in
    let none : cut_last (drop (c.loop-place.place - 1 + 1) c.args.text.now) ≡ None = ap (λ n. cut_last (drop n c.args.text.now)) back ∙ c.loop-place.invariant.0 in
    cut_here c.args.text.now (c.loop-place.place - 1) (omega arith) (eq-eqb _ 58 c.if-text-place-eq58.true) none
    ∙ ap (λ (xs : List ℕ). Some (let p : Word × Word = (take (c.loop-place.place - 1) c.args.text.now, xs) in p)) (sym c.tail.ensures)
