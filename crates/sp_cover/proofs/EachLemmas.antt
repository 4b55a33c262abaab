-- What holds of each node, after one was changed.
use Rattle.std.proofs.Common.{◌≡◌, ℕ, zero, suc, ◌+◌, ◌<◌, ◌≤◌, ◌⊎◌, inl, inr, Bool, true, false, cond, List, [], ◌∷◌, map, length, slice_set, count_by, refl, ap, arith, le_of_suc-le-suc, not-suc-le-zero}
use Rattle.std.proofs.lemmas.List.Sums.{sum_by-set, sum_by-append}
use Rattle.sp_tree.specs.declared.nodes.Node.{Node}
use Rattle.sp_tree.specs.Laws.{Extends, HasMark}
use Rattle.sp_tree.specs.Trees.{TreeOf, node_at, open_node}

-- a mark on a node's path stays there
abbrev pub MarksLast : Type 0
MarksLast = (a b : TreeOf) → Extends a b → (i : ℕ) → i < length a.nodes → HasMark a.nodes i → HasMark b.nodes i

pub last-or : (i n : ℕ) → i < suc n → (i < n) ⊎ (i ≡ n)
last-or zero zero h = inr refl
last-or zero (suc n) h = inl (omega arith)
last-or (suc i) zero h = absurd (omega (arith, h))
last-or (suc i) (suc n) h = elim (last-or i n (le_of_suc-le-suc h)) [ inl k ↦ inl (omega (arith, k)) | inr e ↦ inr (ap suc e) ]

pub below-or : (i n : ℕ) → (i < n) ⊎ (n ≤ i)
below-or i zero = inr (omega arith)
below-or zero (suc n) = inl (omega arith)
below-or (suc i) (suc n) = elim (below-or i n) [ inl k ↦ inl (omega (arith, k)) | inr k ↦ inr (omega (arith, k)) ]

-- where one node is another and the facts of the others go on, the facts of all go on
pub each-set : (P Q : ℕ → Node → Type 0) (nodes : List Node) (id : ℕ) (n : Node) → ((i : ℕ) (m : Node) → P i m → Q i m) → Q id n
    → ((i : ℕ) → i < length nodes → P i (node_at nodes i)) → (i : ℕ) → i < length nodes → Q i (node_at (slice_set nodes id n) i)
each-set P Q [] id n f k h i l = absurd (not-suc-le-zero l)
each-set P Q (m ∷ nodes) zero n f k h zero l = k
each-set P Q (m ∷ nodes) zero n f k h (suc i) l = f (suc i) (node_at nodes i) (h (suc i) l)
each-set P Q (m ∷ nodes) (suc id) n f k h zero l = f 0 m (h 0 l)
each-set P Q (m ∷ nodes) (suc id) n f k h (suc i) l =
    each-set (λ j. P (suc j)) (λ j. Q (suc j)) nodes id n (λ j. f (suc j)) k (λ j j-in. h (suc j) (omega (arith, j-in))) i (le_of_suc-le-suc l)

-- the count after a write
pub count-set : (test : Node → Bool) (nodes : List Node) (id : ℕ) (n : Node) → id < length nodes
    → count_by test (slice_set nodes id n) + cond {A = ℕ} (test (node_at nodes id)) 1 0 ≡ count_by test nodes + cond {A = ℕ} (test n) 1 0
count-set test nodes id n h = sum_by-set (λ m. cond {A = ℕ} (test m) 1 0) nodes id n open_node h

pub count-cons : (test : Node → Bool) (m : Node) (nodes : List Node) → count_by test (m ∷ nodes) ≡ cond {A = ℕ} (test m) 1 0 + count_by test nodes
count-cons test m nodes = let e = sum_by-append (λ k. cond {A = ℕ} (test k) 1 0) (m ∷ []) nodes in omega (arith, e)

-- a count where none passes, and one where one passes
pub count-none : (test : Node → Bool) (nodes : List Node) → ((i : ℕ) → i < length nodes → test (node_at nodes i) ≡ false) → count_by test nodes ≡ 0
count-none test [] h = refl
count-none test (m ∷ nodes) h =
    let rest = count-none test nodes (λ i i-in. h (suc i) (omega (arith, i-in))) in
    let here : test m ≡ false = h 0 (omega arith) in
    let cons = count-cons test m nodes in
    let z : cond {A = ℕ} (test m) 1 0 ≡ 0 = rw here refl in
    omega (arith, rest, cons, z)

some-step : (test : Node → Bool) (m : Node) (nodes : List Node) (b : Bool) → test m ≡ b → 0 < cond {A = ℕ} b 1 0 + count_by test nodes
    → (0 < count_by test nodes → (i : ℕ) × (i < length nodes) × (test (node_at nodes i) ≡ true))
    → (i : ℕ) × (i < length (m ∷ nodes)) × (test (node_at (m ∷ nodes) i) ≡ true)
some-step test m nodes true is h rest = (0, omega arith, is)
some-step test m nodes false is h rest = let r = rest (omega (arith, h)) in let k = r.1 in (suc r.0, omega (arith, k), r.2)

pub count-some : (test : Node → Bool) (nodes : List Node) → 0 < count_by test nodes → (i : ℕ) × (i < length nodes) × (test (node_at nodes i) ≡ true)
count-some test [] h = absurd (not-suc-le-zero h)
count-some test (m ∷ nodes) h = some-step test m nodes (test m) refl (rw (← count-cons test m nodes) h) (count-some test nodes)

pub count-map : (test : Node → Bool) (f : Node → Node) → ((n : Node) → test (f n) ≡ test n) → (nodes : List Node) → count_by test (map f nodes) ≡ count_by test nodes
count-map test f h [] = refl
count-map test f h (m ∷ nodes) =
    let rest = count-map test f h nodes in
    let new = count-cons test (f m) (map f nodes) in
    let old = count-cons test m nodes in
    let new' = rw (h m) at new in
    omega (arith, rest, new', old)
