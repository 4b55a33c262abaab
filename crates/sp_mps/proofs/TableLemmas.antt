-- Lists by place: what one more item adds at its place.
use Rattle.std.proofs.Common.{◌≡◌, ℕ, ◌+◌, ◌<◌, Bool, true, false, ◌==◌, List, [], ◌∷◌, ◌++◌, length, filter, map, get_or, set, take, refl, ap, ◌∙◌, sym, arith, eq-eqb}
use Rattle.std.specs.List.{range_with_len}
use Rattle.std.proofs.lemmas.Bool.{eqb-true}
use Rattle.std.proofs.lemmas.List.{append-nil, ext_get_or, length-set, get_or-set_other, take_more}
use Rattle.std.proofs.lemmas.List.Elements.{filter-append}
use Rattle.std.proofs.lemmas.List.FromFn.{get_or-map-range_with_len, length-map-range_with_len}
use Rattle.std.proofs.lemmas.Grind.{get_or-set_at}

-- the items at the place
abbrev pub items_at : {T : Type 0} → (T → ℕ) → List T → ℕ → List T
items_at place items r = filter (λ t. place t == r) items

-- what the items at each place make
abbrev pub table : {T S : Type 0} → ℕ → (T → ℕ) → (ℕ → List T → S) → List T → List S
table n place make items = map (λ r. make r (items_at place items r)) (range_with_len 0 n)

here : {T : Type 0} (place : T → ℕ) (items : List T) (t : T) (r : ℕ) → (place t == r) ≡ true → items_at place (items ++ t ∷ []) r ≡ items_at place items r ++ t ∷ []
here place items t r e = filter-append (λ x. place x == r) items (t ∷ []) ∙ rw e refl

elsewhere : {T : Type 0} (place : T → ℕ) (items : List T) (t : T) (r : ℕ) → (place t == r) ≡ false → items_at place (items ++ t ∷ []) r ≡ items_at place items r
elsewhere place items t r e = filter-append (λ x. place x == r) items (t ∷ []) ∙ rw e (append-nil (items_at place items r))

-- one more item changes what stands at its place
pub one_more : {T S : Type 0} (n : ℕ) (place : T → ℕ) (make : ℕ → List T → S) (add : S → T → S) (d : S) → ((r : ℕ) (xs : List T) (t : T) → make r (xs ++ t ∷ []) ≡ add (make r xs) t) → (items : List T) (t : T) → set (table n place make items) (place t) (add (get_or (table n place make items) (place t) d) t) ≡ table n place make (items ++ t ∷ [])
one_more {T = T} {S = S} n place make add d law items t = ext_get_or d _ _ (length-set (table n place make items) (place t) new ∙ (size items ∙ sym (size (items ++ t ∷ [])))) each
  where
    at : List T → ℕ → S
    at xs r = make r (items_at place xs r)

    new : S
    new = add (get_or (table n place make items) (place t) d) t

    size : (xs : List T) → length (table n place make xs) ≡ n
    size xs = length-map-range_with_len (λ r. make r (items_at place xs r)) 0 n

    value : (xs : List T) (i : ℕ) → i < n → get_or (table n place make xs) i d ≡ make i (items_at place xs i)
    value xs i lt = get_or-map-range_with_len (λ r. make r (items_at place xs r)) 0 n i i d lt (omega arith)

    differ : (i : ℕ) → (place t == i) ≡ false → i ≡ place t → ⊥
    differ i e p = let f : (place t == i) ≡ true = eq-eqb (place t) i (sym p) in cc

    by : (i : ℕ) (b : Bool) → (place t == i) ≡ b → i < n → get_or (set (table n place make items) (place t) new) i d ≡ get_or (table n place make (items ++ t ∷ [])) i d
    by i true e lt =
        let same : place t ≡ i = eqb-true (place t) i e in
        get_or-set_at (table n place make items) (place t) i new d (sym same) (omega (arith, size items, lt, same))
        ∙ (ap (λ s. add s t) (ap (λ k. get_or (table n place make items) k d) same ∙ value items i lt)
        ∙ (sym (law i (items_at place items i) t)
        ∙ (ap (make i) (sym (here place items t i e)) ∙ sym (value (items ++ t ∷ []) i lt))))
    by i false e lt =
        get_or-set_other (table n place make items) (place t) i new d (λ p. differ i e p)
        ∙ (value items i lt ∙ (ap (make i) (sym (elsewhere place items t i e)) ∙ sym (value (items ++ t ∷ []) i lt)))

    each : (i : ℕ) → i < length (set (table n place make items) (place t) new) → get_or (set (table n place make items) (place t) new) i d ≡ get_or (table n place make (items ++ t ∷ [])) i d
    each i lt = by i (place t == i) refl (omega (arith, lt, length-set (table n place make items) (place t) new, size items))

-- the next item of a list
pub next : {T S : Type 0} (n : ℕ) (place : T → ℕ) (make : ℕ → List T → S) (add : S → T → S) (d : S) → ((r : ℕ) (xs : List T) (t : T) → make r (xs ++ t ∷ []) ≡ add (make r xs) t) → (items : List T) (i : ℕ) (t : T) (now : List S) → i < length items → get_or items i t ≡ t → now ≡ table n place make (take i items) → set now (place t) (add (get_or now (place t) d) t) ≡ table n place make (take (i + 1) items)
next {T = T} {S = S} n place make add d law items i t now lt e h =
    ap (λ (xs : List S). set xs (place t) (add (get_or xs (place t) d) t)) h
    ∙ (one_more n place make add d law (take i items) t
    ∙ ap (table n place make) (sym (take_more items i t lt ∙ ap (λ x. take i items ++ x ∷ []) e)))
