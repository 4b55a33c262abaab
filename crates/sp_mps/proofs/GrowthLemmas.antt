-- How lists of names grow.
use Rattle.std.proofs.Common.{◌≡◌, ℕ, ◌+◌, ◌<◌, ◌≤◌, Bool, true, false, ◌||◌, List, [], ◌∷◌, ◌++◌, length, refl, arith}
use Rattle.std.specs.Prelude.{Some, None, if◌then◌else◌, cond, not}
use Rattle.std.specs.Str.{bytes_eq}
use Rattle.std.proofs.lemmas.List.{length-append}
use Rattle.sp_draft.specs.Names.{Name, is_among, with_name, place_of}
use Rattle.sp_mps_words.specs.declared.faults.FaultKind.TheVariants.{UnknownName, DuplicateName}
use Rattle.sp_mps_sections.specs.Faults.{fault_if, name_fault, declared_fault}
use Rattle.sp_mps.proofs.SectionLemmas.{behind}

among_step : (b c : Bool) → (b || c) ≡ true → b ≡ false → c ≡ true
among_step true c e f = cc
among_step false c e f = e

within_step : (b : Bool) (p n : ℕ) → (b ≡ false → p < n) → cond (not b) (1 + p) 0 < 1 + n
within_step true p n h = omega arith
within_step false p n h = let l : p < n = h refl in omega (arith, l)

-- the place of a name that is there lies among the names
place_within : (names : List Name) (name : Name) → is_among names name ≡ true → place_of names name < length names
place_within [] name e = cc
place_within (x ∷ xs) name e =
    let l = within_step (bytes_eq name x) (place_of xs name) (length xs) (λ f. place_within xs name (among_step (bytes_eq name x) (is_among xs name) e f)) in
    omega (arith, l)

pub grows : (names : List Name) (name : Name) → length names ≤ length (with_name names name)
grows names name = by (is_among names name)
  where
    by : (b : Bool) → length names ≤ length (if b then names else names ++ name ∷ [])
    by true = omega arith
    by false = omega (arith, length-append names (name ∷ []))

pub grows_little : (names : List Name) (name : Name) → length (with_name names name) ≤ length names + 1
grows_little names name = by (is_among names name)
  where
    by : (b : Bool) → length (if b then names else names ++ name ∷ []) ≤ length names + 1
    by true = omega arith
    by false = omega (arith, length-append names (name ∷ []))

place_step : (b : Bool) (p n : ℕ) → p ≤ n → cond (not b) (1 + p) 0 ≤ 1 + n
place_step true p n h = omega arith
place_step false p n h = omega arith

place_most : (names : List Name) (name : Name) → place_of names name ≤ length names
place_most [] name = omega arith
place_most (x ∷ xs) name = let l = place_step (bytes_eq name x) (place_of xs name) (length xs) (place_most xs name) in omega (arith, l)

-- the place of a name that is added
pub place_added : (names : List Name) (name : Name) → place_of names name < length (with_name names name)
place_added names name = by (is_among names name) refl
  where
    by : (b : Bool) → is_among names name ≡ b → place_of names name < length (if b then names else names ++ name ∷ [])
    by true e = place_within names name e
    by false e = let l = place_most names name in omega (arith, l, length-append names (name ∷ []))

-- a new name makes the list longer
pub grows_by_new : (names : List Name) (name : Name) → fault_if (is_among names name) DuplicateName ≡ None → length names < length (with_name names name)
grows_by_new names name e = by (is_among names name) e
  where
    by : (b : Bool) → fault_if b DuplicateName ≡ None → length names < length (if b then names else names ++ name ∷ [])
    by true e = absurd (let f : Some DuplicateName ≡ None = e in cc)
    by false e = omega (arith, length-append names (name ∷ []))

-- the place of a declared name
pub declared_within : (names : List Name) (name : Name) → declared_fault names name ≡ None → place_of names name < length names
declared_within names name e =
    place_within names name (by (is_among names name) (behind (name_fault name) (if is_among names name then None else Some UnknownName) e))
  where
    by : (b : Bool) → (if b then None else Some UnknownName) ≡ None → b ≡ true
    by true e = refl
    by false e = absurd (let f : Some UnknownName ≡ None = e in cc)
