-- The rows of the draft, one after another.
use Rattle.std.proofs.Common.{◌≡◌, ◌≢◌, ℕ, ◌+◌, ◌<◌, ◌≤◌, suc, Bool, true, false, not, ◌&&◌, List, [], ◌∷◌, ◌++◌, length, map, filter, get_or, set, take, refl, ap, ◌∙◌, sym, arith}
use Rattle.std.specs.Prelude.{Option, Some, None, slice_get, All}
use Rattle.std.specs.List.{range_with_len}
use Rattle.std.proofs.lemmas.List.{map-append, append-nil, get_or-set_other, take_more}
use Rattle.std.proofs.lemmas.List.Elements.{filter-append}
use Rattle.std.proofs.lemmas.List.FromFn.{map-range_with_len_more, get_or-range_with_len, length-range_with_len}
use Rattle.std.proofs.lemmas.Option.{get_or_from_slice_get}
use Rattle.sp_draft.specs.Names.{Name, is_among}
use Rattle.sp_decimal.specs.DecimalFraction.{DecimalFraction}
use Rattle.sp_decimal.specs.declared.numerals.Numeral.{Numeral}
use Rattle.sp_draft.specs.Drafts.{WrittenTerm}
use Rattle.sp_draft.specs.declared.drafts.Sides.{Sides}
use Rattle.sp_mps_words.specs.declared.kinds.RowKind.{RowKind}
use Rattle.sp_mps_words.specs.declared.kinds.RowKind.TheVariants.{Free}
use Rattle.sp_mps.specs.Drafts.{sides_for, side_or_zero}
use Rattle.sp_mps.specs.inner.Tables.{row_of}
use Rattle.sp_draft.specs.declared.drafts.DraftRow.{DraftRow}

-- a row that isn't free is plain where its name is no indicator's
pub plain_is : (names indicators : List Name) (row : ℕ) (name : Name) (free : Bool) → slice_get names row ≡ Some name → free ≡ false → not (is_among indicators name) ≡ (not free && not (is_among indicators (get_or names row [])))
plain_is names indicators row name free g f =
    let n : get_or names row [] ≡ name = get_or_from_slice_get names row name [] g in
    rw (f, n) refl

map_same : (xs : List ℕ) → map (λ x. x) xs ≡ xs
map_same [] = refl
map_same (x ∷ xs) = ap (λ ys. x ∷ ys) (map_same xs)

range_more : (n : ℕ) → range_with_len 0 (n + 1) ≡ range_with_len 0 n ++ n ∷ []
range_more n = sym (map_same (range_with_len 0 (n + 1))) ∙ (map-range_with_len_more (λ x. x) 0 n n (omega arith) ∙ ap (λ xs. xs ++ n ∷ []) (map_same (range_with_len 0 n)))

-- the next row is one of them
pub with_next : {S : Type 0} (f : ℕ → S) (p : ℕ → Bool) (n : ℕ) (made : List S) (s : S) → p n ≡ true → made ≡ map f (filter p (range_with_len 0 n)) → s ≡ f n → made ++ s ∷ [] ≡ map f (filter p (range_with_len 0 (n + 1)))
with_next f p n made s t e h =
    let chosen : filter p (range_with_len 0 (n + 1)) ≡ filter p (range_with_len 0 n) ++ n ∷ [] = ap (filter p) (range_more n) ∙ (filter-append p (range_with_len 0 n) (n ∷ []) ∙ rw t refl) in
    ap (λ xs. xs ++ s ∷ []) e ∙ (ap (λ x. map f (filter p (range_with_len 0 n)) ++ x ∷ []) h ∙ (sym (map-append f (filter p (range_with_len 0 n)) (n ∷ [])) ∙ ap (map f) (sym chosen)))

-- the next row isn't
pub without_next : {S : Type 0} (f : ℕ → S) (p : ℕ → Bool) (n : ℕ) (made : List S) → p n ≡ false → made ≡ map f (filter p (range_with_len 0 n)) → made ≡ map f (filter p (range_with_len 0 (n + 1)))
without_next f p n made t e =
    let chosen : filter p (range_with_len 0 (n + 1)) ≡ filter p (range_with_len 0 n) = ap (filter p) (range_more n) ∙ (filter-append p (range_with_len 0 n) (n ∷ []) ∙ rw t (append-nil (filter p (range_with_len 0 n)))) in
    e ∙ ap (map f) (sym chosen)

-- what stands from the next place on stays
pub stays : {S : Type 0} (now first : List S) (n : ℕ) (d s : S) → ((k : ℕ) → n ≤ k → get_or now k d ≡ get_or first k d) → (k : ℕ) → n + 1 ≤ k → get_or (set now n s) k d ≡ get_or first k d
stays now first n d s h k le =
    let ne : k ≢ n = omega arith in
    get_or-set_other now n k s d ne ∙ h k (omega arith)

pub less : {S : Type 0} (now first : List S) (n : ℕ) (d : S) → ((k : ℕ) → n ≤ k → get_or now k d ≡ get_or first k d) → (k : ℕ) → n + 1 ≤ k → get_or now k d ≡ get_or first k d
less now first n d h k le = h k (omega arith)

-- one more of a list's items
pub next_of : {X Y : Type 0} (f : X → Y) (xs : List X) (i : ℕ) (x : X) (made : List Y) → i < length xs → get_or xs i x ≡ x → made ≡ map f (take i xs) → made ++ f x ∷ [] ≡ map f (take (i + 1) xs)
next_of f xs i x made lt e h =
    ap (λ ys. ys ++ f x ∷ []) h ∙ (sym (map-append f (take i xs) (x ∷ [])) ∙ ap (map f) (sym (take_more xs i x lt ∙ ap (λ y. take i xs ++ y ∷ []) e)))

pub same_on : {X Y : Type 0} (f g : X → Y) (xs : List X) → All (λ x. f x ≡ g x) xs → map f xs ≡ map g xs
same_on f g [] h = refl
same_on f g (x ∷ xs) h = (λ i. h 0 x (omega arith) i ∷ same_on f g xs (λ k d lt. h (suc k) d (omega (arith, lt))) i)

pub range_below : (n : ℕ) → All (λ r. r < n) (range_with_len 0 n)
range_below n = λ k d lt. rw (get_or-range_with_len 0 n k d (omega (arith, lt, length-range_with_len 0 n))) (omega (arith, lt, length-range_with_len 0 n))

-- the row made of the terms that are left and of what it is held to
pub row_is : (kinds : List RowKind) (first now : List (List WrittenTerm)) (sides : List (Option Numeral)) (ranges : List (Option DecimalFraction)) (row : ℕ) (held : Sides) → get_or now row [] ≡ get_or first row [] → held ≡ sides_for (get_or kinds row Free) (side_or_zero (get_or sides row None)) (get_or ranges row None) → (let x : DraftRow = record { terms = get_or now row []; sides = held } in x ≡ row_of kinds first sides ranges row)
row_is kinds first now sides ranges row held t h = λ i. record { terms = t i; sides = h i }
