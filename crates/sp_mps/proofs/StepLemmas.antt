-- A step of a part is a step of the whole.
use Rattle.std.proofs.Common.{◌≡◌, ap}
use Rattle.std.specs.Prelude.{Option, Some, None, Result, Ok, Err}
use Rattle.sp_mps_words.specs.declared.faults.FaultKind.{FaultKind}
use Rattle.sp_mps_sections.specs.declared.line_faults.LineFault.{LineFault}
use Rattle.sp_mps_sections.specs.declared.line_faults.LineFault.TheVariants.{Refused, NoMemory}
use Rattle.sp_mps_sections.specs.Answers.{unless, Gives}

ok_inside : {S : Type 0} (a b : S) → (let x : Result S FaultKind = Ok a in x ≡ Ok b) → a ≡ b
ok_inside a b e = cc

pub lift : {T S U : Type 0} (put : S → U) (r : Result T LineFault) (new want : S) (o : Option FaultKind) → Gives r new (unless o want) → Gives r (put new) (unless o (put want))
lift put (Ok x) new want None e = ap (λ s. Ok (put s)) (ok_inside want new e)
lift put (Ok x) new want (Some kind) e = absurd (let f : Err kind ≡ Ok new = e in cc)
lift put (Err (Refused kind)) new want None e = absurd (let f : Ok want ≡ Err kind = e in cc)
lift put (Err (Refused kind)) new want (Some other) e = let f : Err other ≡ Err kind = e in cc
lift put (Err NoMemory) new want o e = tt
