use Rattle.std.proofs.Common.{◌<◌, ◌↔◌, IsTrue, length, arith}
use Rattle.sp_model.specs.Rules.{IsMissingOr}
use Rattle.sp_model.specs.Stated.{widened}
use Rattle.sp_model.proofs.StatedLemmas.{length_stated, range_told}
use Rattle.sp_model.proofs.bound_rules.is_core_lawful.Goals as goal

pub returns-then-len-at : goal.returns-then-len-at
returns-then-len-at c = (λ e. cc, λ h. absurd (omega (arith, h.known, length_stated c.args.parts.now c.requires)))

pub returns : goal.returns
returns c =
    let m = c.args.parts.now in
    let core = c.args.core.now in
    let lt : core.0 < length m.lower = omega (arith, c.if-len-at.false, c.len.ensures, c.index-at.ensures) in
    let told = range_told m core.0 (λ r. IsTrue c.agrees.result ↔ (IsMissingOr (widened core).0 r.0 × IsMissingOr (widened core).1 r.1)) c.requires lt
    (rw (c.as_slice.ensures, c.as_slice-2.ensures, c.index-at.ensures) at c.agrees.ensures) in
    let small = c.is_core_small.ensures.0 c.if-not-is_core_small.false in (
      λ t.
          let p = told.0 t in
          record { known = omega (arith, length_stated m c.requires); least = small.0; greatest = small.1; lower = p.0; upper = p.1 },
      λ h. told.1 (h.lower, h.upper),
    )
