use Rattle.std.proofs.Common.{◌≡◌, ◌≢◌, Bool, false, IsTrue, ◌↔◌, pos, sym, ap, ◌∙◌, subst, arith}
use Rattle.std.proofs.lemmas.List.{drop_all}
use Rattle.sp_model.specs.Rounds.{terms_rise}
use Rattle.sp_model.specs.Rules.{AreTermsLawful}
use Rattle.sp_model.proofs.RuleLemmas.{rise_early, rise_unknown, rise_zero, rise_next, terms_tested}
use Rattle.sp_model.proofs.SumLemmas.{drop_item}
use Rattle.sp_model.proofs.terms.are_terms_lawful.Goals as goal

pub returns-then-var-next : goal.returns-then-var-next
returns-then-var-next c =
    let d = drop_item c.args.terms.now c.loop-term.term-index c.term-item.result c.loop-term-test.true c.term-item.is in
    let e = sym (rise_early c.args.count c.loop-term.next c.term-item.result _ (omega (arith, c.index-var.ensures))) ∙ (rw d at c.loop-term.invariant) in
    record { lawful = subst (λ b. IsTrue b ↔ AreTermsLawful c.args.count c.args.terms.now) (sym e) (terms_tested c.args.count c.args.terms.now); test = e }

pub returns-then-count-var : goal.returns-then-count-var
returns-then-count-var c =
    let d = drop_item c.args.terms.now c.loop-term.term-index c.term-item.result c.loop-term-test.true c.term-item.is in
    let e = sym (rise_unknown c.args.count c.loop-term.next c.term-item.result _ (omega (arith, c.index-var.ensures)) (omega (arith, c.index-var.ensures))) ∙ (rw d at c.loop-term.invariant) in
    record { lawful = subst (λ b. IsTrue b ↔ AreTermsLawful c.args.count c.args.terms.now) (sym e) (terms_tested c.args.count c.args.terms.now); test = e }

pub returns-then-is_zero : goal.returns-then-is_zero
returns-then-is_zero c =
    let d = drop_item c.args.terms.now c.loop-term.term-index c.term-item.result c.loop-term-test.true c.term-item.is in
    let z : c.term-item.result.1 ≡ pos 0 = c.is_zero.ensures.0 c.if-is_zero.true in
    let e = sym (rise_zero c.args.count c.loop-term.next c.term-item.result _ (omega (arith, c.index-var.ensures)) (omega (arith, c.index-var.ensures)) z) ∙ (rw d at c.loop-term.invariant) in
    record { lawful = subst (λ b. IsTrue b ↔ AreTermsLawful c.args.count c.args.terms.now) (sym e) (terms_tested c.args.count c.args.terms.now); test = e }

pub loop-term-preserved : goal.loop-term-preserved
loop-term-preserved c =
    let d = drop_item c.args.terms.now c.loop-term.term-index c.term-item.result c.loop-term-test.true c.term-item.is in
    let nonzero : c.term-item.result.1 ≢ pos 0 = λ z. let h = c.is_zero.ensures.1 z in cc in
    rw c.index-var.ensures
    (sym (rise_next c.args.count c.loop-term.next c.term-item.result _ (omega (arith, c.index-var.ensures)) (omega (arith, c.index-var.ensures)) nonzero) ∙ (rw d at c.loop-term.invariant))

pub returns : goal.returns
returns c =
    let d = drop_all c.loop-term.term-index c.args.terms.now c.loop-term-test.false in
    let e = rw d at c.loop-term.invariant in
    record { lawful = subst (λ b. IsTrue b ↔ AreTermsLawful c.args.count c.args.terms.now) (sym e) (terms_tested c.args.count c.args.terms.now); test = e }
