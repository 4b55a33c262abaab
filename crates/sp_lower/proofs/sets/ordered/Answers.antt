use Rattle.std.proofs.Common.{◌≡◌, ◌≢◌, ◌∙◌, AllPairs, List, true, false, map, sym, ap, subst, ℕ}
use Rattle.std.specs.List.Sorted.{IsPermutation}
use Rattle.sp_scaling.specs.Scaling.{WrittenTerm}
use Rattle.sp_lower.specs.Sets.{members_of}
use Rattle.sp_lower.specs.InnerSets.{rises}
use Rattle.sp_lower.proofs.SetLemmas.{a_tie, no_tie, ordered_vars, tied_set, good_set, twin_set}
use Rattle.sp_lower.proofs.sets.ordered.Goals as goal

pub returns-then-not-rises : goal.returns-then-not-rises
returns-then-not-rises c =
    let ys = c.sort.new.members.items in
    let whole : c.in_ok-members.members.items ≡ c.args.set.now.members = c.in_ok-members.ensures.items ∙ c.as_slice.ensures in
    let same : IsPermutation c.args.set.now.members ys = rw whole at c.sort.ensures.same in
    let is : rises c.deref.result.now ≡ rises ys = ap rises c.deref.ensures.value in
    let down : rises ys ≡ false = cc (c.rises.ensures, is) in
    tied_set c.args.set.now (a_tie c.args.set.now.members ys same c.sort.ensures.ordered down)

pub returns-then-branch : goal.returns-then-branch
returns-then-branch c =
    let ys = c.sort.new.members.items in
    let whole : c.in_ok-members.members.items ≡ c.args.set.now.members = c.in_ok-members.ensures.items ∙ c.as_slice.ensures in
    let same : IsPermutation c.args.set.now.members ys = rw whole at c.sort.ensures.same in
    let is : rises c.deref.result.now ≡ rises ys = ap rises c.deref.ensures.value in
    let up : rises ys ≡ true = cc (c.rises.ensures, is) in
    let vars : c.in_ok-vars.vars.items ≡ members_of c.args.set.now =
    c.in_ok-vars.ensures ∙ (ap (λ (ms : List WrittenTerm). map (λ m. m.0) ms) c.deref-2.ensures.value ∙ sym (ordered_vars c.args.set.now.members ys same up)) in
    let seen : c.deref-3.result.now ≡ members_of c.args.set.now = c.deref-3.ensures.value ∙ vars in
    let apart : AllPairs (λ v w. v ≢ w) (members_of c.args.set.now) = subst (λ vs. AllPairs (λ (v : ℕ) w. v ≢ w) vs) seen (c.in_ok-are_distinct.ensures.0 c.if-branch.true) in
    (good_set c.args.set.now (no_tie c.args.set.now.members ys same up) apart, vars, apart)

pub returns : goal.returns
returns c =
    let ys = c.sort.new.members.items in
    let whole : c.in_ok-members.members.items ≡ c.args.set.now.members = c.in_ok-members.ensures.items ∙ c.as_slice.ensures in
    let same : IsPermutation c.args.set.now.members ys = rw whole at c.sort.ensures.same in
    let is : rises c.deref.result.now ≡ rises ys = ap rises c.deref.ensures.value in
    let up : rises ys ≡ true = cc (c.rises.ensures, is) in
    let vars : c.in_ok-vars.vars.items ≡ members_of c.args.set.now =
    c.in_ok-vars.ensures ∙ (ap (λ (ms : List WrittenTerm). map (λ m. m.0) ms) c.deref-2.ensures.value ∙ sym (ordered_vars c.args.set.now.members ys same up)) in
    let seen : c.deref-3.result.now ≡ members_of c.args.set.now = c.deref-3.ensures.value ∙ vars in
    twin_set c.args.set.now (λ apart. (
    let told = c.in_ok-are_distinct.ensures.1 (subst (λ vs. AllPairs (λ (v : ℕ) w. v ≢ w) vs) (sym seen) apart) in cc))
