-- The files of a list of entries, by the first entry of each name.
use Rattle.std.proofs.Common.{◌≡◌, ℕ, zero, suc, ◌+◌, ◌<◌, ◌≤◌, Bool, true, false, cond, not, nat_lt, List, [], ◌∷◌, ◌++◌, length, get_or, set, map, Option, None, Some, refl, sym, ap, ◌∙◌, arith}
use Rattle.std.specs.Prelude.{Vec}
use Rattle.std.specs.declared.alloc.Global.{Global}
use Rattle.std.specs.List.{position, position_or_len}
use Rattle.std.specs.Str.{bytes_eq}
use Rattle.std.specs.Ordering.{nat_cmp}
use Rattle.std.specs.Cmp.Lexicographic.{slice_cmp, nat_list_cmp_total}
use Rattle.std.specs.FinMap as finite
use Rattle.std.proofs.lemmas.Bool.Decides.{nat_tests}
use Rattle.std.proofs.lemmas.List.{map-append}
use Rattle.std.proofs.lemmas.List.Quantifiers.{position-Some}
use Rattle.std.proofs.lemmas.Map.Text.{is_eq-slice_cmp}
use Rattle.std.proofs.lemmas.Slice.Eq.{bytes_eq-Decides}
use Rattle.sp_base.specs.Memory.{files_of}
use Rattle.sp_base.specs.Shelf.{file, with_file}

abbrev Entry : Type 0
Entry = List ℕ × Vec ℕ Global

-- the test by which an entry is found
abbrev pub is_named : List ℕ → Entry → Bool
is_named name entry = bytes_eq name entry.0

-- the bytes of the first entry of this name
abbrev first : List ℕ → List Entry → Option (List ℕ)
first name [] = None
first name (e ∷ es) = cond (bytes_eq name e.0) (Some e.1.items) (first name es)

find-first : (name : List ℕ) (es : List Entry) → finite.find (slice_cmp nat_cmp) name (map (λ e. (e.0, e.1.items)) es) ≡ first name es
find-first name [] = refl
find-first name (e ∷ es) =
    ap (λ b. cond b (Some e.1.items) (finite.find (slice_cmp nat_cmp) name (map (λ e. (e.0, e.1.items)) es))) (is_eq-slice_cmp name e.0)
    ∙ ap (λ rest. cond (bytes_eq name e.0) (Some e.1.items) rest) (find-first name es)

file-first : (es : List Entry) (name : List ℕ) → file (files_of es) name ≡ first name es
file-first es name = finite.get-from_entries nat_list_cmp_total (map (λ e. (e.0, e.1.items)) es) name ∙ find-first name es

first_at : (name : List ℕ) (es : List Entry) (i : ℕ) (d : Entry) → i < length es → is_named name (get_or es i d) ≡ true
    → ((k : ℕ) → k < i → is_named name (get_or es k d) ≡ false) → first name es ≡ Some ((get_or es i d).1.items)
first_at name [] i d below is before = absurd (omega arith)
first_at name (e ∷ es) zero d below is before = ap (λ b. cond b (Some e.1.items) (first name es)) is
first_at name (e ∷ es) (suc i) d below is before =
    ap (λ b. cond b (Some e.1.items) (first name es)) (before 0 (omega arith))
    ∙ first_at name es i d (omega arith) is (λ k h. before (suc k) (omega arith))

nowhere : (n m : ℕ) → cond (nat_lt n m) (Some n) None ≡ None → m ≤ n
nowhere n m e = grind (arith, nat_tests)

first_nowhere : (name : List ℕ) (es : List Entry) → length es ≤ position_or_len (is_named name) es → first name es ≡ None
first_nowhere name [] h = refl
first_nowhere name (e ∷ es) h =
    elim (bytes_eq name e.0) as (λ b. length (e ∷ es) ≤ cond (not b) (1 + position_or_len (is_named name) es) 0 → cond b (Some e.1.items) (first name es) ≡ None) [
      | true ↦ λ h. absurd (omega arith)
      | false ↦ λ h. first_nowhere name es (omega arith)
    ] h

-- the place of the first entry of a name has the file of that name
pub file_at : (es : List Entry) (name : List ℕ) (i : ℕ) (d : Entry) → position (is_named name) es ≡ Some i → file (files_of es) name ≡ Some ((get_or es i d).1.items)
file_at es name i d at =
    let facts : (i < length es) × (is_named name (get_or es i d) ≡ true) × ((k : ℕ) → k < i → is_named name (get_or es k d) ≡ false) = position-Some (is_named name) es i d at in
    file-first es name ∙ first_at name es i d facts.0 facts.1 facts.2

-- where no entry has the name, there is no such file
pub file_nowhere : (es : List Entry) (name : List ℕ) → position (is_named name) es ≡ None → file (files_of es) name ≡ None
file_nowhere es name none = file-first es name ∙ first_nowhere name es (nowhere _ _ none)

shadowed : (b : Bool) (x y z : Option (List ℕ)) → cond b x z ≡ cond b x (cond b y z)
shadowed true x y z = refl
shadowed false x y z = refl

swapped : (a b : Bool) (x y z : Option (List ℕ)) → (a ≡ true → b ≡ true → ⊥) → cond a x (cond b y z) ≡ cond b y (cond a x z)
swapped true true x y z apart = absurd (apart refl refl)
swapped true false x y z apart = refl
swapped false b x y z apart = refl

not_both : (q name key : List ℕ) → bytes_eq name key ≡ false → bytes_eq q key ≡ true → bytes_eq q name ≡ true → ⊥
not_both q name key apart one other =
    let same_key : q ≡ key = (bytes_eq-Decides q key).0 one in
    let same_name : q ≡ name = (bytes_eq-Decides q name).0 other in
    let met : bytes_eq name key ≡ true = (bytes_eq-Decides name key).1 (sym same_name ∙ same_key) in
    cc

first_set : (q name : List ℕ) (es : List Entry) (i : ℕ) (d : Entry) (v : Vec ℕ Global) → i < length es → is_named name (get_or es i d) ≡ true
    → ((k : ℕ) → k < i → is_named name (get_or es k d) ≡ false)
    → first q (set es i ((get_or es i d).0, v)) ≡ cond (bytes_eq q name) (Some v.items) (first q es)
first_set q name [] i d v below is before = absurd (omega arith)
first_set q name (e ∷ es) zero d v below is before =
    let same : name ≡ e.0 = (bytes_eq-Decides name e.0).0 is in
    shadowed (bytes_eq q e.0) (Some v.items) (Some e.1.items) (first q es)
    ∙ ap (λ key. cond (bytes_eq q key) (Some v.items) (first q (e ∷ es))) (sym same)
first_set q name (e ∷ es) (suc i) d v below is before =
    ap (λ rest. cond (bytes_eq q e.0) (Some e.1.items) rest) (first_set q name es i d v (omega arith) is (λ k h. before (suc k) (omega arith)))
    ∙ swapped (bytes_eq q e.0) (bytes_eq q name) (Some e.1.items) (Some v.items) (first q es) (not_both q name e.0 (before 0 (omega arith)))

with_file-first : (es : List Entry) (name bytes q : List ℕ) → file (with_file (files_of es) name bytes) q ≡ cond (bytes_eq q name) (Some bytes) (first q es)
with_file-first es name bytes q =
    finite.get-insert nat_list_cmp_total (files_of es) name bytes q
    ∙ ap (λ b. cond b (Some bytes) (file (files_of es) q)) (is_eq-slice_cmp q name)
    ∙ ap (λ rest. cond (bytes_eq q name) (Some bytes) rest) (file-first es q)

-- new bytes at the place of the first entry of a name set the file of that name
pub files_of_set : (es : List Entry) (name : List ℕ) (i : ℕ) (d : Entry) (v : Vec ℕ Global) → position (is_named name) es ≡ Some i
    → files_of (set es i ((get_or es i d).0, v)) ≡ with_file (files_of es) name v.items
files_of_set es name i d v at =
    let facts : (i < length es) × (is_named name (get_or es i d) ≡ true) × ((k : ℕ) → k < i → is_named name (get_or es k d) ≡ false) = position-Some (is_named name) es i d at in
    finite.same_map nat_list_cmp_total (finite.slice_cmp-IsAntisymmetric finite.nat_cmp-IsAntisymmetric) _ _
    (λ q. file-first _ q ∙ first_set q name es i d v facts.0 facts.1 facts.2 ∙ sym (with_file-first es name v.items q))

-- an entry of a new name at the end sets the file of that name
pub files_of_push : (es : List Entry) (name : List ℕ) (v : Vec ℕ Global) → position (is_named name) es ≡ None
    → files_of (es ++ (name, v) ∷ []) ≡ with_file (files_of es) name v.items
files_of_push es name v none =
    ap finite.from_entries (map-append (λ e. (e.0, e.1.items)) es ((name, v) ∷ []))
    ∙ finite.from_entries_push nat_list_cmp_total (finite.slice_cmp-IsAntisymmetric finite.nat_cmp-IsAntisymmetric) _ name v.items
    (find-first name es ∙ first_nowhere name es (nowhere _ _ none))
