use Rattle.std.proofs.Common.{◌≡◌, sym, ◌∙◌}
use Rattle.sp_model.specs.Models.{constraints_hold}
use Rattle.sp_model.specs.Rules.{IsLawful}
use Rattle.sp_model.proofs.ModelLemmas.{feasible_from_test, test_from_feasible}
use Rattle.sp_model.proofs.models.Model.feasible.Goals as goal

pub returns-clause-exact : goal.returns-clause-exact
returns-clause-exact c =
    let t : c.do_all_hold.result ≡ constraints_hold c.args.self.now c.args.x.now = rw (← c.self.view_is, ← c.as_slice.ensures) c.do_all_hold.ensures in
    let lawful : IsLawful c.args.self.now = rw (← c.self.view_is) c.self.invariant.0 in
    (λ h. feasible_from_test c.args.self.now c.args.x.now lawful c.requires (sym t ∙ h), λ f. t ∙ test_from_feasible c.args.self.now c.args.x.now f)
