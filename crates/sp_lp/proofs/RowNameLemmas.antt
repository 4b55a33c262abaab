-- Names of rows that are kept in an index set.
use Rattle.std.proofs.Common.{◌≡◌, ℕ, Bool, true, false, not, ◌||◌, List, [], ◌∷◌, ◌++◌, refl, ap, ◌∙◌, Bor}
use Rattle.std.specs.Prelude.{if◌then◌else◌}
use Rattle.std.specs.List.{list_any}
use Rattle.std.specs.Str.{bytes_eq}
use Rattle.indexmap.specs.IndexSet.{insert_key}
use Rattle.sp_draft.specs.Names.{Name, is_among, with_name}
use Rattle.sp_lp.specs.RowNames.{names_of}

map-push : (ks : List (Bor (List ℕ))) (k : Bor (List ℕ)) → names_of (ks ++ k ∷ []) ≡ names_of ks ++ k.now ∷ []
map-push [] k = refl
map-push (x ∷ ks) k = ap (λ v. x.now ∷ v) (map-push ks k)

put_by : (b : Bool) (ks : List (Bor (List ℕ))) (k : Bor (List ℕ)) → names_of (if b then ks else ks ++ k ∷ []) ≡ (if b then names_of ks else names_of ks ++ k.now ∷ [])
put_by true ks k = refl
put_by false ks k = map-push ks k

-- whether a name is in a set
pub has_name : (ks : List (Bor (List ℕ))) (name : Name) → list_any (λ y. bytes_eq name y.now) ks ≡ is_among (names_of ks) name
has_name [] name = refl
has_name (k ∷ ks) name = ap (λ b. bytes_eq name k.now || b) (has_name ks name)

-- whether a name is new in a set
pub new_name : (ks : List (Bor (List ℕ))) (name : Name) → not (list_any (λ y. bytes_eq name y.now) ks) ≡ not (is_among (names_of ks) name)
new_name ks name = ap not (has_name ks name)

-- the names of a set after an insert
pub names_put : (ks : List (Bor (List ℕ))) (k : Bor (List ℕ)) → names_of (insert_key (λ x y. bytes_eq x.now y.now) ks k) ≡ with_name (names_of ks) k.now
names_put ks k =
    put_by (list_any (λ y. bytes_eq k.now y.now) ks) ks k
    ∙ ap (λ b. if b then names_of ks else names_of ks ++ k.now ∷ []) (has_name ks k.now)
