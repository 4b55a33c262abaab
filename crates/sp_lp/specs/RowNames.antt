-- Names that are slices.
use Rattle.std.specs.Prelude.{ℕ, List, map}
use Rattle.std.specs.Borrow.{Bor}
use Rattle.sp_draft.specs.Names.{Name}

abbrev pub names_of : List (Bor (List ℕ)) → List Name
names_of keys = map (λ name. name.now) keys
