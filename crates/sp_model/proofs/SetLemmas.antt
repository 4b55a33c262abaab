-- A special ordered set's values, told by those that are left: how many aren't zero, and whether two neighbours aren't.
use Rattle.std.proofs.Common.{◌≡◌, ℕ, ◌+◌, ◌<◌, ◌≤◌, Bool, true, false, ◌&&◌, ◌||◌, cond, List, [], ◌∷◌, length, get_or, drop, map, ℤ, refl, sym, ap, ◌∙◌, subst, count_by, arith}
use Rattle.std.proofs.lemmas.List.{drop_all}
use Rattle.std.proofs.lemmas.List.Sums.{sum_by-cons}
use mir.Val.{bool_byte}
use Rattle.sp_model.specs.Boxes.{coordinate}
use Rattle.sp_model.specs.Models.{is_nonzero, has_neighbours}
use Rattle.sp_model.proofs.SumLemmas.{drop_item}

-- whether two neighbours aren't zero, where the value before the first one isn't zero as last says
abbrev pub touches : Bool → List ℤ → Bool
touches last [] = false
touches last (v ∷ vs) = (last && is_nonzero v) || touches (is_nonzero v) vs

touches_is : (v : ℤ) (vs : List ℤ) → touches (is_nonzero v) vs ≡ has_neighbours (v ∷ vs)
touches_is v [] = refl
touches_is v (w ∷ vs) = ap (λ b. (is_nonzero v && is_nonzero w) || b) (touches_is w vs)

touches_start : (vs : List ℤ) → touches false vs ≡ has_neighbours vs
touches_start [] = refl
touches_start (v ∷ vs) = touches_is v vs

pub record SetTurns (all : List ℤ) (count : ℕ) (last touching : Bool) (rest : List ℤ) : Type 0 where
  pub counted : count + count_by is_nonzero rest ≡ count_by is_nonzero all
  pub touched : (touching || touches last rest) ≡ has_neighbours all

pub set_start : (all : List ℤ) → SetTurns all 0 false false all
set_start all = record { counted = omega arith; touched = touches_start all }

or_assoc : (a b c : Bool) → ((a || b) || c) ≡ (a || (b || c))
or_assoc true b c = refl
or_assoc false b c = refl

count_more : (count rest whole : ℕ) (b : Bool) → count + (cond b 1 0 + rest) ≡ whole → (count + bool_byte b) + rest ≡ whole
count_more count rest whole true h = omega arith
count_more count rest whole false h = omega arith

byte_small : (b : Bool) → bool_byte b ≤ 1
byte_small true = omega arith
byte_small false = omega arith

pub count_few : (count i n : ℕ) (b : Bool) → n ≡ bool_byte b → count ≤ i → count + n ≤ i + 1
count_few count i n b e h = omega (arith, byte_small b)

-- the next value
set_next : (all : List ℤ) (count : ℕ) (last touching : Bool) (v : ℤ) (vs : List ℤ) → SetTurns all count last touching (v ∷ vs) → SetTurns all (count + bool_byte (is_nonzero v)) (is_nonzero v) (touching || (last && is_nonzero v)) vs
set_next all count last touching v vs h = record {
  counted = count_more count (count_by is_nonzero vs) (count_by is_nonzero all) (is_nonzero v) (ap (λ n. count + n) (sym (sum_by-cons (λ w. cond (is_nonzero w) 1 0) v vs)) ∙ h.counted);
  touched = or_assoc touching (last && is_nonzero v) (touches (is_nonzero v) vs) ∙ h.touched;
}

-- the next member
pub set_turn : (all x : List ℤ) (vars : List ℕ) (i v count n : ℕ) (last touching b : Bool) → i < length vars → v ≡ get_or vars i v → b ≡ is_nonzero (coordinate x v) → n ≡ bool_byte b → SetTurns all count last touching (map (coordinate x) (drop i vars)) → SetTurns all (count + n) b (touching || (last && b)) (map (coordinate x) (drop (i + 1) vars))
set_turn all x vars i v count n last touching b l e p q h =
    let d = ap (map (coordinate x)) (drop_item vars i v l e) in
    let next = set_next all count last touching (coordinate x v) (map (coordinate x) (drop (i + 1) vars)) (subst (SetTurns all count last touching) d h) in
    rw (q, p) next

or_false : (b : Bool) → (b || false) ≡ b
or_false true = refl
or_false false = refl

-- past the last member
set_end : (all : List ℤ) (count : ℕ) (last touching : Bool) → SetTurns all count last touching [] → (count ≡ count_by is_nonzero all) × (touching ≡ has_neighbours all)
set_end all count last touching h = (omega (arith, h.counted), sym (or_false touching) ∙ h.touched)

pub set_done : (all x : List ℤ) (vars : List ℕ) (i count : ℕ) (last touching : Bool) → length vars ≤ i → SetTurns all count last touching (map (coordinate x) (drop i vars)) → (count ≡ count_by is_nonzero all) × (touching ≡ has_neighbours all)
set_done all x vars i count last touching l h =
    set_end all count last touching (subst (SetTurns all count last touching) (ap (map (coordinate x)) (drop_all i vars l)) h)
