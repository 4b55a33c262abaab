-- What a source and a sink in memory owe at each answer.
use Rattle.std.proofs.Common.{◌≡◌, ℕ, ◌+◌, List, ◌++◌, take, drop, Some, sym, ap, ◌∙◌}
use Rattle.std.proofs.lemmas.List.{take-append-drop, drop-drop}
use Rattle.sp_base.specs.Told.{prepend}
use Rattle.sp_base.proofs.ToldLemmas.{prepend-some}

-- what a read took stood in front of what is left
pub taken : (bytes left out : List ℕ) (at n : ℕ) → left ≡ drop at bytes → take n out ≡ take n left
    → Some left ≡ prepend (take n out) (Some (drop (at + n) bytes))
taken bytes left out at n is same =
    ap Some (sym (take-append-drop n left)
    ∙ ap (λ xs. xs ++ drop n left) (sym same)
    ∙ ap (λ xs. take n out ++ drop n xs) is
    ∙ ap (λ xs. take n out ++ xs) (drop-drop n at bytes))
    ∙ sym (prepend-some (take n out) (drop (at + n) bytes))
