-- The rounds keep the number of variables.
use Rattle.std.proofs.Common.{◌≡◌, ℕ, zero, suc, Bool, true, false, cond, List, [], ◌∷◌, ◌++◌, length, refl, ◌∙◌}
use Rattle.std.proofs.Math.ListN.{set, length-set}
use Rattle.sp_model.specs.declared.parts.ModelParts.{ModelParts}
use Rattle.sp_model.specs.declared.parts.Row.{Row}
use Rattle.sp_model.specs.Limits.{most_rounds}
use Rattle.sp_model.specs.Rounds.{takes_part, close_variable, close_along, close_row, round, rounds, rounded}
use Rattle.sp_model.specs.Stated.{OpenRange, OpenBounds, is_semi, stated_of}
use Rattle.sp_model.specs.Sums.{Term}

write_case : (a : Bool) (b : OpenBounds) (j : ℕ) (r : OpenRange) → length (cond a b (set b j r)) ≡ length b
write_case true b j r = refl
write_case false b j r = length-set b j r

along_length : (semi : ℕ → Bool) (row : Row) (b : OpenBounds) (before after : List Term) → length (close_along semi row b before after) ≡ length b
along_length semi row b before [] = refl
along_length semi row b before (t ∷ ts) =
    along_length semi row (close_variable semi row b t (before ++ ts)) (before ++ t ∷ []) ts ∙ write_case (semi t.0) b t.0 _

part_case : (p : Bool) (semi : ℕ → Bool) (row : Row) (b : OpenBounds) → length (cond p (close_along semi row b [] row.terms) b) ≡ length b
part_case true semi row b = along_length semi row b [] row.terms
part_case false semi row b = refl

round_length : (semi : ℕ → Bool) (rows : List Row) (b : OpenBounds) → length (round semi rows b) ≡ length b
round_length semi [] b = refl
round_length semi (row ∷ rows) b = round_length semi rows (close_row semi b row) ∙ part_case (takes_part (length b) row) semi row b

rounds_length : (semi : ℕ → Bool) (rows : List Row) (n : ℕ) (b : OpenBounds) → length (rounds semi rows n b) ≡ length b
unfolding rounds
rounds_length semi rows zero b = refl
rounds_length semi rows (suc n) b = rounds_length semi rows n (round semi rows b) ∙ round_length semi rows b

pub length_rounded : (m : ModelParts) → length (rounded m) ≡ length (stated_of m)
unfolding rounded
length_rounded m = rounds_length (is_semi m.semi) m.rows most_rounds (stated_of m)
