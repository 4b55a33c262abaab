-- The gap before a token, at the end of the bytes.
use Rattle.std.proofs.Common.{◌≡◌, ℕ, ◌≤◌, Bool, true, false, List, [], length, drop, refl, ◌∙◌}
use Rattle.std.proofs.lemmas.List.{at_drop_all}
use Rattle.sp_lp_tokens.specs.Gaps.{gap_length}

nothing : (comment : Bool) → gap_length comment [] ≡ 0
unfolding gap_length
nothing true = refl
nothing false = refl

-- nothing is left
pub gap_length-drop_all : (comment : Bool) (bytes : List ℕ) (i : ℕ) → length bytes ≤ i → gap_length comment (drop i bytes) ≡ 0
gap_length-drop_all comment bytes i h = at_drop_all (gap_length comment) bytes i h ∙ nothing comment
