-- Rounds: one that changes nothing, and a step of a loop over them.
use Rattle.std.proofs.Common.{◌≡◌, ℕ, zero, suc, ◌+◌, ◌-◌, ◌<◌, ◌≤◌, Bool, true, false, cond, List, [], ◌∷◌, ◌++◌, fold, length, map, refl, sym, ap, ◌∙◌, arith}
use Rattle.std.proofs.Math.Path.{fun_ext}
use Rattle.std.proofs.lemmas.List.{length-map}
use Rattle.sp_model.specs.declared.parts.ModelParts.{ModelParts}
use Rattle.sp_model.specs.declared.parts.Row.{Row}
use Rattle.sp_model.specs.InnerRounds.{marked}
use Rattle.sp_model.specs.Limits.{most_rounds}
use Rattle.sp_model.specs.Rounds.{takes_part, close_variable, close_along, close_row, round, rounds, rounded, closed}
use Rattle.sp_model.specs.Models.{root_of}
use Rattle.sp_model.specs.Stated.{OpenBounds, is_semi, stated_of}
use Rattle.sp_model.specs.Sums.{Term}
use Rattle.sp_model.proofs.RowLemmas.{variable_length}
use Rattle.sp_model.proofs.StatedLemmas.{length_stated}

pub rounds_still : (semi : ℕ → Bool) (rows : List Row) (n : ℕ) (b : OpenBounds) → round semi rows b ≡ b → rounds semi rows n b ≡ b
unfolding rounds
rounds_still semi rows zero b h = refl
rounds_still semi rows (suc n) b h = ap (rounds semi rows n) h ∙ rounds_still semi rows n b h

pub rounds_next : (semi : ℕ → Bool) (rows : List Row) (n k : ℕ) (b : OpenBounds) → k ≡ suc n → rounds semi rows k b ≡ rounds semi rows n (round semi rows b)
unfolding rounds
rounds_next semi rows n k b e = ap (λ i. rounds semi rows i b) e

pub rounds_none : (semi : ℕ → Bool) (rows : List Row) (n : ℕ) (b : OpenBounds) → n ≡ 0 → rounds semi rows n b ≡ b
unfolding rounds
rounds_none semi rows n b e = ap (λ i. rounds semi rows i b) e

pub rounds_made : (m : ModelParts) (marks : List Bool) (rows : List Row) (b c : OpenBounds) → ((j : ℕ) → marked marks j ≡ is_semi m.semi j) → rows ≡ m.rows → b ≡ stated_of m → c ≡ rounds (marked marks) rows most_rounds b → c ≡ rounded m
unfolding rounded
rounds_made m marks rows b c same e f g =
    let s : marked marks ≡ is_semi m.semi = fun_ext same in
    g
    ∙ ap (λ (h : ℕ → Bool). rounds h rows most_rounds b) s
    ∙ ap (λ (rs : List Row). rounds (is_semi m.semi) rs most_rounds b) e
    ∙ ap (λ (d : OpenBounds). rounds (is_semi m.semi) m.rows most_rounds d) f

-- ---- each round keeps the number of variables

along_length : (semi : ℕ → Bool) (row : Row) (b : OpenBounds) (before after : List Term) → length (close_along semi row b before after) ≡ length b
along_length semi row b before [] = refl
along_length semi row b before (t ∷ ts) =
    along_length semi row (close_variable semi row b t (before ++ ts)) (before ++ t ∷ []) ts ∙ variable_length semi row b t (before ++ ts)

row_length : (semi : ℕ → Bool) (b : OpenBounds) (row : Row) → length (close_row semi b row) ≡ length b
row_length semi b row = part_case (takes_part (length b) row)
  where
    part_case : (p : Bool) → length (cond p (close_along semi row b [] row.terms) b) ≡ length b
    part_case true = along_length semi row b [] row.terms
    part_case false = refl

round_length : (semi : ℕ → Bool) (rows : List Row) (b : OpenBounds) → length (round semi rows b) ≡ length b
round_length semi [] b = refl
round_length semi (row ∷ rows) b = round_length semi rows (close_row semi b row) ∙ row_length semi b row

rounds_length : (semi : ℕ → Bool) (rows : List Row) (n : ℕ) (b : OpenBounds) → length (rounds semi rows n b) ≡ length b
unfolding rounds
rounds_length semi rows zero b = refl
rounds_length semi rows (suc n) b = rounds_length semi rows n (round semi rows b) ∙ round_length semi rows b

pub length_rounded : (m : ModelParts) → length (rounded m) ≡ length (stated_of m)
unfolding rounded
length_rounded m = rounds_length (is_semi m.semi) m.rows most_rounds (stated_of m)

pub root_is : (m : ModelParts) → root_of m ≡ map closed (rounded m)
unfolding root_of
root_is m = refl

pub length_root : (m : ModelParts) → length m.upper ≡ length m.lower → length (root_of m) ≡ length m.lower
length_root m e = ap length (root_is m) ∙ length-map (rounded m) closed ∙ length_rounded m ∙ length_stated m e
