-- What refuses the parts of a draft that wasn't refused: an open variable, or want of memory alone.
use Rattle.std.proofs.Common.{◌≡◌, ℕ, ◌+◌, ◌<◌, ◌≤◌, List, length, take, ap, subst, ◌∙◌, sym, arith, inl, inr, AllPairs, Option, None, Some}
use Rattle.std.specs.Prelude.{Result, Err, IfSome}
use Rattle.std.proofs.lemmas.List.{get_or-take, length-take}
use Rattle.std.proofs.lemmas.List.Elements.{All-take}
use Rattle.std.proofs.lemmas.Slice.Zip.{length-zip}
use Rattle.sp_model.specs.declared.parts.ModelParts.{ModelParts}
use Rattle.sp_model.specs.declared.refusal.BuildRefusal.{BuildRefusal}
use Rattle.sp_model.specs.declared.refusal.BuildRefusal.TheVariants as build
use Rattle.sp_model.specs.Rules.{AreBoundsLawful, AreCoresLawful, IsCoreLawful, IsBoundsRefusal, IsFirstFault}
use Rattle.sp_model.specs.Stated.{Core, OpenBounds, stated_of}
use Rattle.sp_draft.specs.declared.drafts.Draft.{Draft}
use Rattle.sp_lower.specs.declared.refusals.LowerRefusal.{LowerRefusal}
use Rattle.sp_lower.specs.declared.refusals.LowerRefusal.TheVariants as refused
use Rattle.sp_lower.specs.Faults.{first_fault, set_fault}
use Rattle.sp_lower.specs.InnerLowering.{early_fault, late_fault, boxed_fault, box_fault, IsOpening, MakesModel, opened}
use Rattle.sp_lower.specs.Lowering.{outline, box_of, open_fault, refusal_of}
use Rattle.sp_model.specs.Rounds.{rounded}
use Rattle.sp_lower.proofs.LowerLemmas.{or_none, refusal_is}
use Rattle.sp_lower.proofs.StatedLemmas.{bounds_lawful}

-- ---- closing the box

pairs_front : (R : Core → Core → Type 0) (n : ℕ) (xs : List Core) → AllPairs R xs → AllPairs R (take n xs)
pairs_front R n xs h i j d less within =
    let long = length-take n xs in
    let first = get_or-take n xs i d (omega arith) in
    let second = get_or-take n xs j d (omega arith) in
    rw (first, second) (h i j d less (omega arith))

cores_front : (b : OpenBounds) (n : ℕ) (cs : List Core) → AreCoresLawful b cs → AreCoresLawful b (take n cs)
cores_front b n cs h = record { rising = pairs_front (λ c d. c.0 < d.0) n cs h.rising; each = All-take (IsCoreLawful b) n cs h.each }

-- lawful bounds are refused for want of memory or an open variable alone
pub opening : (m : ModelParts) (r : BuildRefusal) → AreBoundsLawful m → IsFirstFault m r → IsBoundsRefusal r → IsOpening r
opening m (build.Open j) h f e = tt
opening m build.NoMemory h f e = tt
opening m build.Variables h f e = absurd (f h.variables)
opening m (build.Bound j) h f e =
    let few : length (stated_of m) ≤ 2000 = omega (arith, length-zip m.lower m.upper, h.variables.few) in
    elim f.1 [
      | inl b ↦ absurd (b.broken (omega (arith, b.here)) (λ d. h.bounds j d b.here))
      | inr c ↦ absurd (c.first.broken (cores_front (stated_of m) (c.place + 1) m.semi h.cores))
    ]
opening m build.Objective h f e = absurd e
opening m (build.Row k) h f e = absurd e
opening m (build.Indicator k) h f e = absurd e
opening m (build.Sos k) h f e = absurd e

pub outline_lawful : (d : Draft) (m : ModelParts) → early_fault d ≡ None → m ≡ outline d → AreBoundsLawful m
outline_lawful d m early e = subst AreBoundsLawful (sym e) (bounds_lawful d early)

-- ---- building the model

pub memory_opening : (r : BuildRefusal) → r ≡ build.NoMemory → IsOpening r
memory_opening r e = subst IsOpening (sym e) tt

pub memory_refused : (r : BuildRefusal) (f : LowerRefusal) → r ≡ build.NoMemory → f ≡ opened r → f ≡ refused.NoMemory
memory_refused r f e h = h ∙ ap opened e

-- ---- what is left to look at

pub boxed_makes : (d : Draft) → (late_fault d ≡ None → MakesModel d) → first_fault open_fault 0 (rounded (outline d)) ≡ None → boxed_fault d ≡ None → MakesModel d
boxed_makes d h none boxed = h (or_none (first_fault open_fault 0 (rounded (outline d))) (boxed_fault d) none boxed)

pub sets_make : (d : Draft) → (boxed_fault d ≡ None → MakesModel d) → box_fault (box_of d) d ≡ None → first_fault set_fault 0 d.sos ≡ None → MakesModel d
sets_make d h none sets = h (or_none (box_fault (box_of d) d) (first_fault set_fault 0 d.sos) none sets)

pub late_makes : (d : Draft) → (refusal_of d ≡ None → MakesModel d) → early_fault d ≡ None → late_fault d ≡ None → MakesModel d
late_makes d h early late = h (refusal_is d ∙ or_none (early_fault d) (late_fault d) early late)

-- ---- what is refused without memory

pub early_known : (o : Option LowerRefusal) (f : LowerRefusal) (r : Result ModelParts LowerRefusal) → Some f ≡ o → r ≡ Err f → IfSome o (λ e. r ≡ Err e)
early_known None f r e h = cc
early_known (Some g) f r e h = cc

pub early_none : (o : Option LowerRefusal) (r : Result ModelParts LowerRefusal) → None ≡ o → IfSome o (λ e. r ≡ Err e)
early_none None r e = tt
early_none (Some g) r e = cc
