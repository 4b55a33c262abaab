-- The first refusal of a list of items.
use Rattle.std.proofs.Common.{◌≡◌, ℕ, suc, ◌+◌, ◌<◌, List, ◌∷◌, length, get_or, drop, sym, ap, ◌∙◌, add-one, drop-cons, Option, None, Some, refl}
use Rattle.std.specs.Option.{option_or}
use Rattle.sp_lower.specs.declared.refusals.LowerRefusal.{LowerRefusal}
use Rattle.sp_lower.specs.Faults.{first_fault}

next_item : {X : Type 0} (xs : List X) (i : ℕ) (x : X) → i < length xs → x ≡ get_or xs i x → drop i xs ≡ x ∷ drop (i + 1) xs
next_item xs i x h e = rw add-one (drop-cons xs i x h ∙ ap (λ v. v ∷ drop (suc i) xs) (sym e))

or_none : (a b : Option LowerRefusal) → a ≡ None → option_or a b ≡ b
or_none None b h = refl
or_none (Some r) b h = cc

-- an item that isn't refused
pub fault_next : {X : Type 0} (fault : ℕ → X → Option LowerRefusal) (xs : List X) (i : ℕ) (x : X) → i < length xs → x ≡ get_or xs i x → fault i x ≡ None
    → first_fault fault (i + 1) (drop (i + 1) xs) ≡ first_fault fault i (drop i xs)
fault_next fault xs i x h e none =
    sym (ap (first_fault fault i) (next_item xs i x h e) ∙ (or_none (fault i x) (first_fault fault (suc i) (drop (i + 1) xs)) none ∙ ap (λ k. first_fault fault k (drop (i + 1) xs)) (sym (add-one i))))
