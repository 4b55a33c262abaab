-- The place that the search by halves finds holds the serial.
use Rattle.std.proofs.Common.{◌≡◌, ap, subst, List, ℕ, ◌∷◌, true}
use Rattle.std.specs.List.{list_any}
use Rattle.std.specs.List.Sorted.{IsPermutation}
use Rattle.std.specs.Prelude.{◌==◌}
use Rattle.sp_pool.specs.InnerSerials.{Tally}
use Rattle.sp_pool.proofs.SerialLemmas.{rising_taken, taken_once, none_taken}
use Rattle.sp_pool.proofs.serials.Serials.remove.Goals as goal

pub invariant_of-self : goal.invariant_of-self
invariant_of-self c = rising_taken c.self.inside.sorted.items c.deref.result.now c.remove.new.self.items c.in-Ok.place c.args.serial c.self.invariant c.deref.ensures.value c.in-Ok.ensures.position c.remove.ensures.items

pub returns-in-Ok-clause-items : goal.returns-in-Ok-clause-items
returns-in-Ok-clause-items c =
    λ has.
    subst (λ (l : List ℕ). IsPermutation l (c.args.serial ∷ c.remove.new.self.items)) (ap (λ (t : Tally). t.items) c.self.view_is)
    (taken_once c.self.inside.sorted.items c.deref.result.now c.remove.new.self.items c.in-Ok.place c.args.serial c.self.invariant c.deref.ensures.value c.in-Ok.ensures.position c.remove.ensures.items)

pub returns-in_default-clause-items : goal.returns-in_default-clause-items
returns-in_default-clause-items c =
    subst (λ (l : List ℕ). list_any (λ listed. listed == c.args.serial) l ≡ true → IsPermutation l (c.args.serial ∷ l)) (ap (λ (t : Tally). t.items) c.self.view_is)
    (none_taken c.self.inside.sorted.items c.deref.result.now c.in_default.field-0 c.args.serial c.self.invariant c.deref.ensures.value c.in_default.ensures.position)
