-- How the answers of private calls stand for what is wanted.
use Rattle.std.specs.Prelude.{◌≡◌, List, ◌∷◌, Option, Some, None, Result, Ok, Err}
use Rattle.sp_mps_words.specs.declared.faults.FaultKind.{FaultKind}
use Rattle.sp_mps_sections.specs.Fronts.{listed}
use Rattle.sp_mps_sections.specs.declared.pairs.OneOrTwo.{OneOrTwo}

-- what a call that only reads gives, against the fault that is wanted and else the value
abbrev pub GivesValue : {X : Type 0} → Result X FaultKind → Option FaultKind → X → Type 0
GivesValue (Ok x) want is = (want ≡ None) × (x ≡ is)
GivesValue (Err kind) want is = want ≡ Some kind

abbrev pub one_or_two : {X : Type 0} → OneOrTwo X → List X
one_or_two xs = xs.first ∷ listed xs.second

-- what a call that reads one pair or two gives
abbrev pub GivesPair : {X : Type 0} → Result (OneOrTwo X) FaultKind → Option FaultKind → List X → Type 0
GivesPair (Ok xs) want is = (want ≡ None) × (one_or_two xs ≡ is)
GivesPair (Err kind) want is = want ≡ Some kind
