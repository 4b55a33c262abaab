use Rattle.std.proofs.Common.{◌≡◌, ◌<◌, ℕ, List, All, ap, length, subst, sym, ◌∙◌}
use Rattle.sp_model.specs.Models.{root_of}
use Rattle.sp_sums.specs.Ranges.{IsInside}
use Rattle.sp_dual.specs.Lists.{MultiplierList}
use Rattle.sp_bound.specs.declared.keeping.Owner.{Owner}
use Rattle.sp_bound.specs.Bounds.{AreRowsKnown}
use Rattle.sp_bound.specs.Closing.{IsClosing}
use Rattle.sp_bound.specs.KeptBounds.{bounds_of, lists_of, owner_at, threshold_of}
use Rattle.sp_bound.proofs.KeptLemmas.{asked_read, lists_known, ready_of, row_told}
use Rattle.sp_bound.proofs.kept.KeptBounds.closing.Goals as goal

pub returns-in-Some : goal.returns-in-Some
returns-in-Some c =
    let told = row_told (record { law = c.quotients_are_exact.ensures.ceiling }) c.args.model.now c.args.self.now c.in-Some.row c.parts-parts.ensures.lawful c.root-root.ensures.inside c.requires c.in-Some.ensures in
    let place : (owner_at c.args.self.now.owners c.in-Some.row).place ≡ (owner_at c.as_slice.result.now c.index.result).place = ap (λ (k : ℕ). (owner_at c.args.self.now.owners k).place) (sym c.index.ensures) ∙ ap (λ (os : List Owner). (owner_at os c.index.result).place) (sym c.as_slice.ensures) in
    subst (λ (k : ℕ). IsClosing c.args.model.now (bounds_of c.args.self.now) (threshold_of c.args.self.now) (lists_of c.args.self.now) k) place told

pub first_closing-requires-clause-places : goal.first_closing-requires-clause-places
first_closing-requires-clause-places c =
    subst (λ (ps : List ℕ). All (λ p. p < length c.as_slice-in-None.result.now) ps) (sym c.as_slice-in-None-2.ensures)
    (subst (λ (ls : List MultiplierList). All (λ p. p < length ls) c.args.self.now.asked) (sym c.as_slice-in-None.ensures.value) c.requires.covered.asked)

pub first_closing-requires-clause-known : goal.first_closing-requires-clause-known
first_closing-requires-clause-known c =
    subst (λ (ls : List MultiplierList). All (AreRowsKnown c.args.model.now) ls) (sym c.as_slice-in-None.ensures.value) (lists_known c.args.model.now (lists_of c.args.self.now) c.parts-parts.ensures.lawful c.requires.stated)

pub first_closing-requires-clause-inside : goal.first_closing-requires-clause-inside
first_closing-requires-clause-inside c =
    subst (IsInside (root_of c.args.model.now)) (sym c.bounds.ensures) (ready_of c.args.model.now c.args.self.now c.parts-parts.ensures.lawful c.root-root.ensures.inside c.requires).inside

pub returns-in-None : goal.returns-in-None
returns-in-None c =
    asked_read (record { law = c.quotients_are_exact.ensures.ceiling }) c.args.model.now c.args.self.now c.bounds.result.now c.as_slice-in-None.result.now c.as_slice-in-None-2.result.now c.first_closing.result c.parts-parts.ensures.lawful c.root-root.ensures.inside c.requires c.in-None.ensures c.bounds.ensures c.as_slice-in-None.ensures.value c.as_slice-in-None-2.ensures c.first_closing.ensures
