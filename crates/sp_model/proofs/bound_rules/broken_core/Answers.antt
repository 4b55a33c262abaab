use Rattle.std.proofs.Common.{◌≡◌, ◌<◌, ◌≤◌, get_or, length, sym, ap, ◌∙◌, subst, arith}
use Rattle.sp_model.proofs.CoreLemmas.{no_cores, more_cores, rises_there, lawful_there, first_core, all_cores, at_default}
use Rattle.sp_model.specs.InnerRules.{core_at}
use Rattle.sp_model.specs.Rules.{IsCoreLawful}
use Rattle.sp_model.specs.Stated.{Core, stated_of}
use Rattle.sp_model.proofs.bound_rules.broken_core.Goals as goal

pub loop-place-init : goal.loop-place-init
loop-place-init c = no_cores (stated_of c.args.parts.now) c.args.parts.now.semi

pub returns-then-not-rises_at : goal.returns-then-not-rises_at
returns-then-not-rises_at c =
    let b = stated_of c.args.parts.now in
    let cores = c.args.parts.now.semi in
    let k = c.loop-place.place in
    let lt : k < length cores = rw c.as_slice-cores.ensures at c.loop-place-test.true in
    let told = rw c.as_slice-cores.ensures at c.rises_at.ensures in
    rw c.as_slice-cores.ensures
    (first_core b cores k _ lt (sym (ap (λ (x : Core). x.0) (at_default cores k _ lt))) c.loop-place.invariant
    (λ h. let t = told.1 (rises_there b cores k h lt) in cc))

pub returns-then-not-is_core_lawful : goal.returns-then-not-is_core_lawful
returns-then-not-is_core_lawful c =
    let b = stated_of c.args.parts.now in
    let cores = c.args.parts.now.semi in
    let k = c.loop-place.place in
    let lt : k < length cores = rw c.as_slice-cores.ensures at c.loop-place-test.true in
    let is = rw c.as_slice-cores.ensures at c.index-cores-place-in-loop-place.is in
    let e : c.index-cores-place-in-loop-place.result ≡ core_at cores k = is ∙ at_default cores k _ lt in
    rw c.as_slice-cores.ensures
    (first_core b cores k _ lt (sym (ap (λ (x : Core). x.0) (at_default cores k _ lt))) c.loop-place.invariant
    (λ h. let t = c.is_core_lawful.ensures.1 (subst (IsCoreLawful b) (sym e) (lawful_there b cores k h lt)) in cc))

pub loop-place-preserved : goal.loop-place-preserved
loop-place-preserved c =
    let b = stated_of c.args.parts.now in
    let cores = c.args.parts.now.semi in
    let k = c.loop-place.place in
    let lt : k < length cores = rw c.as_slice-cores.ensures at c.loop-place-test.true in
    let told = rw c.as_slice-cores.ensures at c.rises_at.ensures in
    let is = rw c.as_slice-cores.ensures at c.index-cores-place-in-loop-place.is in
    let e : c.index-cores-place-in-loop-place.result ≡ core_at cores k = is ∙ at_default cores k _ lt in
    more_cores b cores k c.loop-place.invariant lt (told.0 c.if-not-rises_at.false) (subst (IsCoreLawful b) e (c.is_core_lawful.ensures.0 c.if-not-is_core_lawful.false))

pub returns : goal.returns
returns c =
    let end : length c.args.parts.now.semi ≤ c.loop-place.place = rw c.as_slice-cores.ensures at c.loop-place-test.false in
    all_cores (stated_of c.args.parts.now) c.args.parts.now.semi c.loop-place.place end c.loop-place.invariant
