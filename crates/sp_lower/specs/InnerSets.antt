-- Whether members stand in strict order of weight.
use Rattle.std.specs.Prelude.{Bool, true, ◌&&◌, List, [], ◌∷◌, int_lt}
use Rattle.sp_scaling.specs.Scaling.{WrittenTerm}
use Rattle.sp_lower.specs.Sets.{weight_of}

-- each member is lighter than the next
abbrev pub rises : List WrittenTerm → Bool
rises [] = true
rises (m ∷ []) = true
rises (m ∷ n ∷ ms) = int_lt (weight_of m) (weight_of n) && rises (n ∷ ms)
