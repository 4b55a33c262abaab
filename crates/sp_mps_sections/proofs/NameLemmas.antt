-- What a name's place says.
use Rattle.std.proofs.Common.{◌≡◌, ℕ, ◌+◌, ◌<◌, ◌≤◌, Bool, true, false, not, ◌||◌, cond, List, [], ◌∷◌, length, refl, sym, subst, arith}
use Rattle.std.specs.Prelude.{Option, Some, None, MatchOption}
use Rattle.std.specs.Str.{bytes_eq}
use Rattle.std.proofs.lemmas.Bool.{lt-ltb, le-ltb}
use Rattle.sp_draft.specs.Names.{Name, is_among, place_of, find_name}

place_step : (b : Bool) (p n : ℕ) → (b ≡ false → p < n) → cond (not b) (1 + p) 0 < 1 + n
place_step true p n h = omega arith
place_step false p n h = let l : p < n = h refl in omega (arith, l)

among_step : (b c : Bool) → (b || c) ≡ true → b ≡ false → c ≡ true
among_step true c e f = cc
among_step false c e f = e

-- the place of a name that is there lies among the names
place_within : (names : List Name) (name : Name) → is_among names name ≡ true → place_of names name < length names
place_within [] name e = cc
place_within (x ∷ xs) name e =
    let l = place_step (bytes_eq name x) (place_of xs name) (length xs) (λ f. place_within xs name (among_step (bytes_eq name x) (is_among xs name) e f)) in
    omega (arith, l)

past_step : (b c : Bool) (p n : ℕ) → (b || c) ≡ false → (c ≡ false → n ≤ p) → 1 + n ≤ cond (not b) (1 + p) 0
past_step true c p n e h = absurd (let f : true ≡ false = e in cc)
past_step false c p n e h = let l : n ≤ p = h e in omega (arith, l)

place_past : (names : List Name) (name : Name) → is_among names name ≡ false → length names ≤ place_of names name
place_past [] name e = omega arith
place_past (x ∷ xs) name e =
    let l = past_step (bytes_eq name x) (is_among xs name) (place_of xs name) (length xs) e (λ f. place_past xs name f) in
    omega (arith, l)

there : (names : List Name) (name : Name) → is_among names name ≡ true → find_name names name ≡ Some (place_of names name)
there names name e = rw (lt-ltb (place_of names name) (length names) (place_within names name e)) refl

absent : (names : List Name) (name : Name) → is_among names name ≡ false → find_name names name ≡ None
absent names name e = rw (le-ltb (place_of names name) (length names) (place_past names name e)) refl

Says : List Name → Name → Option ℕ → Type 0
Says names name r = MatchOption r (is_among names name ≡ false) (λ p. (is_among names name ≡ true) × (p ≡ place_of names name))

says : (names : List Name) (name : Name) (b : Bool) → is_among names name ≡ b → Says names name (find_name names name)
unfolding Says
says names name true e = let P : Option ℕ → Type 0 = Says names name in subst P (sym (there names name e)) (e, refl)
says names name false e = let P : Option ℕ → Type 0 = Says names name in subst P (sym (absent names name e)) e

pub found : (names : List Name) (name : Name) (r : Option ℕ) → r ≡ find_name names name → MatchOption r (is_among names name ≡ false) (λ p. (is_among names name ≡ true) × (p ≡ place_of names name))
unfolding Says
found names name r e = let P : Option ℕ → Type 0 = Says names name in subst P (sym e) (says names name (is_among names name) refl)
