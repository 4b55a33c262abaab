use Rattle.std.proofs.Common.{ℕ, refl}
use Rattle.std.specs.Cmp.{unsigned_Decides, nat_eq_equiv}
use Rattle.std.proofs.lemmas.Map.Made.{hash_set_len-Decides}
use Rattle.std.proofs.lemmas.List.Folds.{map_fixed}
use Rattle.sp_lower.proofs.sets.are_distinct.Goals as goal

pub returns : goal.returns
returns c =
    let e = map_fixed (λ (v : ℕ). v) c.args.vars.now (λ k d l. refl) in
    let made = rw e at c.in_ok-places.ensures in
    let told = hash_set_len-Decides unsigned_Decides nat_eq_equiv c.args.vars.now c.in_ok-places.places made in
    rw c.len.ensures.len (λ h. told.0 h, λ p. told.1 p)
