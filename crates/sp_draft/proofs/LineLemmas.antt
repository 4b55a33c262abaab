-- What is left of the values of a line.
use Rattle.std.specs.Prelude.{ℤ, pos}
use Rattle.std.proofs.Common.{◌≡◌, ℕ, suc, ◌+◌, ◌<◌, ◌≤◌, List, [], ◌++◌, length, get_or, drop, sym, ap, add-one}
use Rattle.std.proofs.Math.Seq.{drop-cons}
use Rattle.std.proofs.lemmas.List.{at_drop_all}
use Rattle.sp_draft.specs.SolutionLines.{named_value, named_values}

-- one variable more
pub named_values_drop : (ns : List (List ℕ)) (xs : List ℤ) (i : ℕ) (n : List ℕ) → i < length ns → i < length xs → n ≡ get_or ns i n
    → named_values (drop i ns) (drop i xs) ≡ named_value n (get_or xs i (pos 0)) ++ named_values (drop (i + 1) ns) (drop (i + 1) xs)
named_values_drop ns xs i n h k e =
    rw (add-one, drop-cons ns i n h, drop-cons xs i (pos 0) k) (ap (λ m. named_value m (get_or xs i (pos 0)) ++ named_values (drop (suc i) ns) (drop (suc i) xs)) (sym e))

-- no variable is left
pub named_values_end : (ns : List (List ℕ)) (xs : List ℤ) (i : ℕ) → length ns ≤ i → named_values (drop i ns) (drop i xs) ≡ []
named_values_end ns xs i h = at_drop_all (λ left. named_values left (drop i xs)) ns i h
