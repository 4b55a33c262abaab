-- Names as numbers, and where names stand once another is put at the end.
use Rattle.std.proofs.Common.{◌≡◌, ℕ, suc, ◌+◌, ◌*◌, ◌<◌, ◌≤◌, ◌^◌, Bool, true, false, not, cond, eqb, List, [], ◌∷◌, ◌++◌, length, drop, refl, ap, ◌∙◌, sym, None, Some, arith}
use Rattle.std.specs.Prelude.{nat_lt, All}
use Rattle.std.specs.List.{position_or_len}
use Rattle.std.specs.Str.{bytes_eq}
use Rattle.std.proofs.Math.Nat.{pow-suc, pow-le-pow_right}
use Rattle.std.proofs.lemmas.Bool.Decides.{nat_tests}
use Rattle.std.proofs.lemmas.List.{length-append, length-drop}
use Rattle.std.proofs.lemmas.List.Elements.{All-head, All-tail, All-weaker}
use Rattle.std.proofs.lemmas.List.Folds.{position_or_len_push}
use Rattle.std.proofs.lemmas.List.Sums.{prefix_len-le-length}
use Rattle.std.proofs.lemmas.Slice.Eq.{bytes_eq-Decides}
use Rattle.sp_draft.specs.Names.{Name, is_among, find_name, place_of, with_name}
use Rattle.sp_lp.specs.InnerGuesses.{IsByte, key_of, IsGuessOf, IsTrueOf, AreTrueOf}
use Rattle.sp_lp.proofs.FoundLemmas.{any_found}

-- no name has the number 0
pub key_some : (name : Name) → 1 ≤ key_of name
key_some [] = omega arith
key_some (b ∷ bs) = let h : 1 ≤ key_of bs = key_some bs in omega arith

-- names with one number are one name
pub key_same : (v w : Name) → All IsByte v → All IsByte w → key_of v ≡ key_of w → v ≡ w
key_same [] [] p q e = refl
key_same [] (b ∷ bs) p q e = absurd (let h : 1 ≤ key_of bs = key_some bs in omega arith)
key_same (a ∷ as') [] p q e = absurd (let h : 1 ≤ key_of as' = key_some as' in omega arith)
key_same (a ∷ as') (b ∷ bs) p q e =
    let f : a < 256 = All-head IsByte a as' p in
    let g : b < 256 = All-head IsByte b bs q in
    let same : a ≡ b = omega arith in
    let rest : key_of as' ≡ key_of bs = omega arith in
    let tails : as' ≡ bs = key_same as' bs (All-tail IsByte a as' p) (All-tail IsByte b bs q) rest in
    cc

-- a short name has a small number
key_bound : (name : Name) → All IsByte name → key_of name + 1 ≤ 2 * 256 ^ length name
key_bound [] p = omega arith
key_bound (b ∷ bs) p =
    let f : b < 256 = All-head IsByte b bs p in
    let h : key_of bs + 1 ≤ 2 * 256 ^ length bs = key_bound bs (All-tail IsByte b bs p) in
    let e : 256 ^ suc (length bs) ≡ 256 ^ length bs * 256 = pow-suc 256 (length bs) in
    omega arith

-- what is left of a name of at most twelve bytes has a number below 2^97
pub key_fits : (name : Name) (place key : ℕ) → key ≡ key_of (drop place name) → All IsByte (drop place name) → length name ≤ 12 → key < 2 ^ 97
key_fits name place key e p few =
    let rest : List ℕ = drop place name in
    let short : length rest ≤ 12 = omega (arith, length-drop place name) in
    let h : key_of rest + 1 ≤ 2 * 256 ^ length rest = key_bound rest p in
    let g : 256 ^ length rest ≤ 256 ^ 12 = pow-le-pow_right (omega arith) short in
    omega arith

-- behind a first byte, its number has room for a byte more
pub key_small : (name : Name) (place key : ℕ) → key ≡ key_of (drop place name) → All IsByte (drop place name) → length name ≤ 12 → 0 < place → key < 2 ^ 89
key_small name place key e p few some =
    let rest : List ℕ = drop place name in
    let short : length rest ≤ 11 = omega (arith, length-drop place name) in
    let h : key_of rest + 1 ≤ 2 * 256 ^ length rest = key_bound rest p in
    let g : 256 ^ length rest ≤ 256 ^ 11 = pow-le-pow_right (omega arith) short in
    omega arith

some_of : (b : Bool) (m n : ℕ) → cond b (Some m) None ≡ Some n → (b ≡ true) × (m ≡ n)
some_of true m n e = (refl, cc)
some_of false m n e = absurd (cc)

place_kept : (p : Name → Bool) (names : List Name) (new : Name) → position_or_len p names < length names → position_or_len p (names ++ new ∷ []) ≡ position_or_len p names
place_kept p names new h =
    let e : eqb (position_or_len p names) (length names) ≡ false = grind (arith, nat_tests) in
    position_or_len_push p names new ∙ rw e refl

found_kept : (names : List Name) (new name : Name) (place : ℕ) → find_name names name ≡ Some place → find_name (names ++ new ∷ []) name ≡ Some place
found_kept names new name place e =
    let is = some_of (nat_lt (place_of names name) (length names)) (place_of names name) place e in
    let within : place_of names name < length names = grind (arith, nat_tests) in
    let longer : nat_lt (place_of names name) (length (names ++ new ∷ [])) ≡ true = rw (length-append) (grind (arith, nat_tests)) in
    rw (place_kept (bytes_eq name) names new within, longer) (ap Some is.1)

-- where a name was found, it is found once another is added
kept_by : (names : List Name) (new name : Name) (place : ℕ) (b : Bool) → is_among names new ≡ b → find_name names name ≡ Some place → find_name (with_name names new) name ≡ Some place
kept_by names new name place true e h = rw e h
kept_by names new name place false e h = rw e (found_kept names new name place h)

-- what is true of the names is true of them and another
pub true_of_more : (names : List Name) (new : Name) (guesses : List ℕ) → AreTrueOf names guesses → AreTrueOf (with_name names new) guesses
true_of_more names new guesses h =
    All-weaker (IsTrueOf names) (IsTrueOf (with_name names new)) (λ guess here name place bytes is. kept_by names new name place (is_among names new) refl (here name place bytes is)) guesses h

itself : (name : Name) → bytes_eq name name ≡ true
itself name = (bytes_eq-Decides name name).1 refl

put_by : (names : List Name) (name : Name) (b : Bool) → is_among names name ≡ b → find_name (with_name names name) name ≡ Some (place_of names name)
put_by names name true e =
    let there : nat_lt (place_of names name) (length names) ≡ true = any_found (bytes_eq name) names ∙ e in
    rw (e, there) refl
put_by names name false e =
    let past : nat_lt (place_of names name) (length names) ≡ false = any_found (bytes_eq name) names ∙ e in
    let within : place_of names name ≤ length names = prefix_len-le-length (λ x. not (bytes_eq name x)) names in
    let last : eqb (place_of names name) (length names) ≡ true = grind (arith, nat_tests) in
    let is : place_of names name ≡ length names = grind (arith, nat_tests) in
    let place : position_or_len (bytes_eq name) (names ++ name ∷ []) ≡ length names = position_or_len_push (bytes_eq name) names name ∙ rw (last, itself name) (omega arith) in
    let longer : nat_lt (length names) (length (names ++ name ∷ [])) ≡ true = rw (length-append) (grind (arith, nat_tests)) in
    rw (e, place, longer) (ap Some (sym is))

-- a name that was added is found
pub found_put : (names : List Name) (name : Name) → find_name (with_name names name) name ≡ Some (place_of names name)
found_put names name = put_by names name (is_among names name) refl

-- 0 is a guess of no name
pub free_true : (names : List Name) → IsTrueOf names 0
free_true names name place bytes is = absurd (let h : 1 ≤ key_of name = key_some name in let sum : 0 ≡ key_of name * 2 ^ 31 + place = is.sum in omega arith)

-- a name and where it is found
pub noted : (names : List Name) (name : Name) (key place guess : ℕ) → All IsByte name → key ≡ key_of name → IsGuessOf key place guess → find_name names name ≡ Some place → IsTrueOf names guess
noted names name key place guess bytes e g h other there those is =
    let a : place < 2 ^ 31 = g.small in
    let b : there < 2 ^ 31 = is.small in
    let f : guess ≡ key * 2 ^ 31 + place = g.sum in
    let i : guess ≡ key_of other * 2 ^ 31 + there = is.sum in
    let keys : key_of other ≡ key_of name = omega arith in
    let places : place ≡ there = omega arith in
    let same : other ≡ name = key_same other name those bytes keys in
    ap (find_name names) same ∙ (h ∙ ap Some places)
