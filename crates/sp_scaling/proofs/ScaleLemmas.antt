-- The size of a sum in another order.
use Rattle.std.proofs.Common.{◌≡◌, ◌+◌, List, [], ◌∷◌, refl, sym, ap, ◌∙◌}
use Rattle.std.specs.Prelude.{ℕ, sum_by, unsigned_abs}
use Rattle.std.specs.List.Sorted.{IsPermutation}
use Rattle.std.proofs.lemmas.List.Sums.{sum_by-cons}
use Rattle.std.proofs.lemmas.List.Sorted.{sum_by-IsPermutation}
use Rattle.sp_model.specs.Sums.{Term}
use Rattle.sp_scaling.specs.Scaling.{size_of}

magnitude : Term → ℕ
magnitude t = unsigned_abs t.1

size_summed : (ts : List Term) → size_of ts ≡ sum_by magnitude ts
unfolding magnitude
size_summed [] = refl
size_summed (t ∷ ts) = ap (λ n. unsigned_abs t.1 + n) (size_summed ts) ∙ sym (sum_by-cons magnitude t ts)

-- the order of the terms doesn't matter
pub size_permuted : (xs ys : List Term) → IsPermutation xs ys → size_of ys ≡ size_of xs
size_permuted xs ys h = size_summed ys ∙ (sum_by-IsPermutation magnitude xs ys h ∙ sym (size_summed xs))
