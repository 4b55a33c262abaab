-- What a step gives, against what is wanted.
use Rattle.std.specs.Prelude.{◌≡◌, Option, Some, None, Result, Ok, Err}
use Rattle.sp_draft.specs.declared.drafts.Draft.{Draft}
use Rattle.sp_lp.specs.declared.stops.Stop.{Stop}
use Rattle.sp_lp.specs.declared.stops.Stop.TheVariants.{Fault, Memory}

-- a fault where nothing is wanted, else what is wanted; want of memory may come at any time
abbrev pub Gives : {T S : Type 0} → Result T Stop → S → Option S → Type 0
Gives (Ok x) new want = want ≡ Some new
Gives (Err Fault) new want = want ≡ None
Gives (Err Memory) new want = Unit {0}

-- the same for the draft at the end
abbrev pub IsOutcome : Result Draft Stop → Option Draft → Type 0
IsOutcome (Ok draft) want = want ≡ Some draft
IsOutcome (Err Fault) want = want ≡ None
IsOutcome (Err Memory) want = Unit {0}
