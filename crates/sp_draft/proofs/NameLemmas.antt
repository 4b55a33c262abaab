-- Names that are kept in an index set.
use Rattle.std.proofs.Common.{◌≡◌, ◌≢◌, ℕ, ◌+◌, Bool, true, false, not, ◌||◌, cond, List, [], ◌∷◌, ◌++◌, map, length, refl, ap, ◌∙◌, sym, AllPairs, None, Some, position}
use Rattle.std.specs.Prelude.{Vec, if◌then◌else◌, nat_lt}
use Rattle.std.specs.declared.alloc.Global.{Global}
use Rattle.std.specs.List.{list_any, prefix_len, position_or_len, IsDistinct, AllByRecursion}
use Rattle.std.specs.Str.{bytes_eq}
use Rattle.std.proofs.lemmas.List.{length-map}
use Rattle.std.proofs.lemmas.Slice.Eq.{bytes_eq-Decides}
use Rattle.std.proofs.lemmas.Map.Made.{AllPairs-from_IsDistinct}
use Rattle.indexmap.specs.IndexSet.{insert_key}
use Rattle.sp_draft.specs.Names.{is_among, find_name, place_of, with_name}

any-map : {X Y : Type 0} (f : X → Y) (p : Y → Bool) (xs : List X) → list_any p (map f xs) ≡ list_any (λ x. p (f x)) xs
any-map f p [] = refl
any-map f p (x ∷ xs) = ap (λ b. p (f x) || b) (any-map f p xs)

map-push : {X Y : Type 0} (f : X → Y) (xs : List X) (x : X) → map f (xs ++ x ∷ []) ≡ map f xs ++ f x ∷ []
map-push f [] x = refl
map-push f (y ∷ ys) x = ap (λ v. f y ∷ v) (map-push f ys x)

map-choice : {X Y : Type 0} (f : X → Y) (b : Bool) (xs : List X) (x : X) → map f (if b then xs else xs ++ x ∷ []) ≡ (if b then map f xs else map f xs ++ f x ∷ [])
map-choice f true xs x = refl
map-choice f false xs x = map-push f xs x

-- the bytes of a key
abbrev pub key_bytes : Vec ℕ Global → List ℕ
key_bytes v = v.items

-- the names of the keys of a set
abbrev pub names_of : List (Vec ℕ Global) → List (List ℕ)
names_of ks = map key_bytes ks

-- the names of a set after an insert
pub names-insert : (ks : List (Vec ℕ Global)) (k : Vec ℕ Global) → names_of (insert_key (λ x y. bytes_eq x.items y.items) ks k) ≡ with_name (names_of ks) k.items
names-insert ks k =
    map-choice key_bytes (list_any (λ y. bytes_eq k.items y.items) ks) ks k
    ∙ ap (λ b. if b then names_of ks else names_of ks ++ k.items ∷ []) (sym (any-map key_bytes (bytes_eq k.items) ks))

prefix-map : {X Y : Type 0} (f : X → Y) (p : Y → Bool) (xs : List X) → prefix_len p (map f xs) ≡ prefix_len (λ x. p (f x)) xs
prefix-map f p [] = refl
prefix-map f p (x ∷ xs) = ap (λ n. cond (p (f x)) (1 + n) 0) (prefix-map f p xs)

-- the place of a name in a set
pub names-place : (ks : List (Vec ℕ Global)) (name : List ℕ) → position_or_len (λ y. bytes_eq name y.items) ks ≡ place_of (names_of ks) name
names-place ks name = sym (prefix-map key_bytes (λ y. not (bytes_eq name y)) ks)

-- the place of a name in a set, if it is there
pub names-find : (ks : List (Vec ℕ Global)) (name : List ℕ) → position (λ y. bytes_eq name y.items) ks ≡ find_name (names_of ks) name
names-find ks name =
    ap (λ n. cond (nat_lt n (length ks)) (Some n) None) (names-place ks name)
    ∙ ap (λ m. cond (nat_lt (place_of (names_of ks) name) m) (Some (place_of (names_of ks) name)) None) (sym (length-map ks key_bytes))

-- whether a name is in a set
pub names-contain : (ks : List (Vec ℕ Global)) (name : List ℕ) → list_any (λ y. bytes_eq name y.items) ks ≡ is_among (names_of ks) name
names-contain ks name = sym (any-map key_bytes (bytes_eq name) ks)

apart-map : (k : Vec ℕ Global) (ks : List (Vec ℕ Global)) → AllByRecursion (λ y. bytes_eq k.items y.items ≡ false) ks → AllByRecursion (λ y. bytes_eq k.items y ≡ false) (names_of ks)
apart-map k [] h = h
apart-map k (x ∷ ks) h = (h.0, apart-map k ks h.1)

distinct-map : (ks : List (Vec ℕ Global)) → IsDistinct (λ x y. bytes_eq x.items y.items) ks → IsDistinct bytes_eq (names_of ks)
unfolding IsDistinct
distinct-map [] h = h
distinct-map (k ∷ ks) h = (apart-map k ks h.0, distinct-map ks h.1)

-- the names of a set are distinct
pub names-distinct : (ks : List (Vec ℕ Global)) → IsDistinct (λ x y. bytes_eq x.items y.items) ks → AllPairs (λ v w. v ≢ w) (names_of ks)
names-distinct ks h = AllPairs-from_IsDistinct bytes_eq-Decides (names_of ks) (distinct-map ks h)

-- adding a name that is there changes nothing
pub names-known : (ks : List (Vec ℕ Global)) (name : List ℕ) → true ≡ list_any (λ y. bytes_eq name y.items) ks → names_of ks ≡ with_name (names_of ks) name
names-known ks name h = ap (λ b. if b then names_of ks else names_of ks ++ name ∷ []) (h ∙ names-contain ks name)

choice-some : (b : Bool) (m n : ℕ) → Some n ≡ cond b (Some m) None → n ≡ m
choice-some true m n h = cc
choice-some false m n h = cc

-- the place of a name that is found
pub names-found : (ks : List (Vec ℕ Global)) (name : List ℕ) (n : ℕ) → Some n ≡ position (λ y. bytes_eq name y.items) ks → n ≡ place_of (names_of ks) name
names-found ks name n h =
    choice-some (nat_lt (position_or_len (λ y. bytes_eq name y.items) ks) (length ks)) _ n h ∙ names-place ks name
