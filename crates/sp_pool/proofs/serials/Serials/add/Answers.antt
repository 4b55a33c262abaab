-- The serial stands where the search by halves says.
use Rattle.std.proofs.Common.{◌<◌, ◌∙◌, ◌∷◌, ap, length, subst, List, ℕ, arith}
use Rattle.std.proofs.lemmas.Bool.{cond-true}
use Rattle.std.specs.List.Sorted.{IsPermutation}
use Rattle.std.specs.Vec.{vec_len, vec_capacity}
use Rattle.sp_pool.specs.InnerSerials.{Tally}
use Rattle.sp_pool.proofs.SerialLemmas.{rising_insert, put_in}
use Rattle.sp_pool.proofs.serials.Serials.add.Goals as goal

pub invariant_of-self : goal.invariant_of-self
invariant_of-self c =
    let held = ap (λ (t : Tally). length t.items) c.self.view_is in
    let stored = ap (λ (t : Tally). t.capacity) c.self.view_is in
    let shown = ap length c.deref.ensures.value in
    let room : vec_len c.self.inside.sorted < vec_capacity c.self.inside.sorted = let had = c.requires in let long = c.deref.ensures.len in omega arith in
    rising_insert c.self.inside.sorted.items c.deref.result.now c.insert.new.self.items c.place_of-place.result c.args.serial c.self.invariant c.deref.ensures.value c.place_of-place.ensures.within c.place_of-place.ensures.low c.place_of-place.ensures.high
    (c.insert.ensures.items ∙ cond-true _ _ _ (c.insert.ensures.succeeds room))

pub returns-clause-items : goal.returns-clause-items
returns-clause-items c =
    let held = ap (λ (t : Tally). length t.items) c.self.view_is in
    let stored = ap (λ (t : Tally). t.capacity) c.self.view_is in
    let shown = ap length c.deref.ensures.value in
    let room : vec_len c.self.inside.sorted < vec_capacity c.self.inside.sorted = let had = c.requires in let long = c.deref.ensures.len in omega arith in
    subst (λ (l : List ℕ). IsPermutation (c.args.serial ∷ l) c.insert.new.self.items) (ap (λ (t : Tally). t.items) c.self.view_is)
    (put_in c.self.inside.sorted.items c.insert.new.self.items c.place_of-place.result c.args.serial (c.insert.ensures.items ∙ cond-true _ _ _ (c.insert.ensures.succeeds room)))
