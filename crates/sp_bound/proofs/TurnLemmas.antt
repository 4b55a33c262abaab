-- Lists that are gone over from the front, stated by what is left.
use Rattle.std.proofs.Common.{◌≡◌, ℕ, suc, ◌+◌, ◌<◌, ◌≤◌, Bool, cond, nat_eq, List, [], ◌∷◌, length, drop, get_or, All, subst, sym, ap, ◌∙◌, arith, add-one, drop-cons, pos}
use Rattle.std.proofs.lemmas.List.{drop_all}
use Rattle.sp_model.specs.Boxes.{Bounds, range_at}
use Rattle.sp_model.specs.Sums.{Term}
use Rattle.sp_bound.specs.Bounds.{Weight, coefficient_in}

pub next_item : {X : Type 0} (xs : List X) (i : ℕ) (x : X) → i < length xs → x ≡ get_or xs i x → drop i xs ≡ x ∷ drop (i + 1) xs
next_item xs i x h e = rw add-one (drop-cons xs i x h ∙ ap (λ v. v ∷ drop (suc i) xs) (sym e))

pub next_range : (b : Bounds) (j : ℕ) → j < length b → drop j b ≡ range_at b j ∷ drop (suc j) b
next_range b j h = drop-cons b j (pos 0, pos 0) h

pub coefficient-turn : (t : Term) (ts : List Term) (j : ℕ) (c : Bool) → nat_eq t.0 j ≡ c → coefficient_in (t ∷ ts) j ≡ cond c t.1 (coefficient_in ts j)
coefficient-turn t ts j c e = ap (λ p. cond p t.1 (coefficient_in ts j)) e

-- the same where the list that is gone over equals another
pub next_in : {X : Type 0} (xs ys : List X) (i : ℕ) (x : X) → xs ≡ ys → i < length xs → x ≡ get_or xs i x → drop i ys ≡ x ∷ drop (i + 1) ys
next_in {X} xs ys i x e l is = subst (λ (zs : List X). drop i zs ≡ x ∷ drop (i + 1) zs) e (next_item xs i x l is)

pub none_in : {X : Type 0} (xs ys : List X) (i : ℕ) → xs ≡ ys → length xs ≤ i → drop i ys ≡ []
none_in {X} xs ys i e l = subst (λ (zs : List X). drop i zs ≡ []) e (drop_all i xs l)

pub known_item : (ws es : List Weight) (i : ℕ) (w : Weight) (n : ℕ) → es ≡ ws → i < length es → w ≡ get_or es i w → All (λ (v : Weight). v.0 < n) ws → w.0 < n
known_item ws es i w n e l is h =
    let long : length es ≡ length ws = ap length e in
    let here : (get_or ws i w).0 < n = h i w (omega (arith, l, long)) in
    let same : w.0 ≡ (get_or ws i w).0 = ap (λ (v : Weight). v.0) (is ∙ ap (λ (xs : List Weight). get_or xs i w) e) in
    omega (arith, here, same)
