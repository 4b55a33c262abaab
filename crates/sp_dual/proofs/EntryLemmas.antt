-- Lists of entries that are told from the front.
use Rattle.std.proofs.Common.{◌≡◌, ◌≢◌, ℕ, zero, suc, ◌+◌, ◌<◌, ◌≤◌, List, [], ◌∷◌, length, drop, get_or, slice_index_or, ℤ, pos, refl, sym, ap, subst, ◌∙◌, arith, add-one, drop-cons}
use Rattle.sp_dual.specs.Lists.{Rises}

-- the entry past the end
abbrev pub no_entry : ℕ × ℤ
no_entry = (0, pos 0)

-- two lists of one length with the same entries at each place are one
pub same-everywhere : (xs ys : List (ℕ × ℤ)) → length xs ≡ length ys → ((k : ℕ) → k < length xs → slice_index_or xs k no_entry ≡ slice_index_or ys k no_entry) → xs ≡ ys
same-everywhere [] [] l h = refl
same-everywhere [] (y ∷ ys) l h = absurd (omega (arith, l))
same-everywhere (x ∷ xs) [] l h = absurd (omega (arith, l))
same-everywhere (x ∷ xs) (y ∷ ys) l h =
    let first : x ≡ y = h 0 (omega arith) in
    let rest = same-everywhere xs ys (omega (arith, l)) (λ k b. h (suc k) (omega (arith, b))) in
    rw (first, rest) refl

-- the entries that are left rise exactly where all do
pub record Turns (all : List (ℕ × ℤ)) (next : ℕ) (rest : List (ℕ × ℤ)) : Type 0 where
  pub there : Rises 0 all → Rises next rest
  pub back : Rises next rest → Rises 0 all

drop-item : (all : List (ℕ × ℤ)) (i : ℕ) (e : ℕ × ℤ) → i < length all → e ≡ get_or all i e → drop i all ≡ e ∷ drop (i + 1) all
drop-item all i e l is = rw add-one (drop-cons all i e l ∙ ap (λ x. x ∷ drop (suc i) all) (sym is))

pub turns-there : (all : List (ℕ × ℤ)) (next i : ℕ) (e : ℕ × ℤ) → i < length all → e ≡ get_or all i e → Turns all next (drop i all) → Rises 0 all → (next ≤ e.0) × (e.1 ≢ pos 0) × Rises (e.0 + 1) (drop (i + 1) all)
turns-there all next i e l is t w =
    subst (Rises next) (drop-item all i e l is) (t.there w)

pub turns-more : (all : List (ℕ × ℤ)) (next i : ℕ) (e : ℕ × ℤ) → i < length all → e ≡ get_or all i e → next ≤ e.0 → e.1 ≢ pos 0 → Turns all next (drop i all) → Turns all (e.0 + 1) (drop (i + 1) all)
turns-more all next i e l is a z t = record {
  there = λ w. (turns-there all next i e l is t w).2;
  back = λ r. t.back (subst (Rises next) (sym (drop-item all i e l is)) (a, z, r));
}

drop-all : (xs : List (ℕ × ℤ)) (i : ℕ) → length xs ≤ i → drop i xs ≡ []
drop-all [] zero h = refl
drop-all [] (suc i) h = refl
drop-all (x ∷ xs) zero h = absurd (omega (arith, h))
drop-all (x ∷ xs) (suc i) h = drop-all xs i (omega (arith, h))

pub turns-end : (all : List (ℕ × ℤ)) (next i : ℕ) → length all ≤ i → Turns all next (drop i all) → Rises 0 all
turns-end all next i l t = t.back (subst (Rises next) (sym (drop-all all i l)) tt)
