-- A value has one text in the printed form.
use Rattle.std.proofs.Common.{◌≡◌, ◌≢◌, ℕ, suc, ◌+◌, ◌*◌, ◌^◌, ◌<◌, Bool, true, false, ◌==◌, leb, List, [], ◌∷◌, ◌++◌, length, get_or, refl, sym, ap, ◌∙◌, arith}
use Rattle.std.specs.List.{list_all, list_any, position_or_len, before_first, after_first}
use Rattle.std.specs.Char.{is_ascii_digit}
use Rattle.std.specs.Fmt.{sign_text}
use Rattle.std.proofs.lemmas.Bool.Decides.{nat_tests}
use Rattle.std.proofs.lemmas.List.{append-nil}
use Rattle.std.proofs.lemmas.List.Sums.{split_at_first, passes_at_first}
use Rattle.std.proofs.lemmas.Nat.{same_from_place}
use Rattle.std.proofs.Math.Nat.{add-mul, mul_assoc, mul_comm, mul-lt-mul_of_pos_right}
use Rattle.sp_decimal.specs.Grammar.{value_of, some_digits, has_minus, unsigned, is_point, whole_part, fraction_part, top, bottom}
use Rattle.sp_decimal.specs.Printing.{with_point, whole_of, behind_of, IsNormalForm, HaveOneValue}
use Rattle.sp_decimal.proofs.OneValueLemmas.{value_of-lt, same_whole, same_behind}
use Rattle.sp_decimal.proofs.PlainTextLemmas.{AreDigits, plain, top-plain, bottom-plain}
use Rattle.sp_decimal.proofs.PointPlaceLemmas.{and_left, and_right, before_first-none, after_first-none}
use Rattle.sp_decimal.proofs.PowerLemmas.{power-positive}

-- a text is its sign and the rest
not_plus : (b : ℕ) → b ≢ 43 → (b == 43) ≡ false
not_plus b h = grind (arith, nat_tests)

is_minus : (b : ℕ) → (b == 45) ≡ true → b ≡ 45
is_minus b h = grind (arith, nat_tests)

sign-unsigned : (a : List ℕ) → get_or a 0 0 ≢ 43 → sign_text (has_minus a) ++ unsigned a ≡ a
sign-unsigned [] h = refl
sign-unsigned (b ∷ rest) h = go (b == 45) refl
  where
    go : (m : Bool) → (b == 45) ≡ m → sign_text (b == 45) ++ unsigned (b ∷ rest) ≡ b ∷ rest
    go true e = rw (is_minus b e) refl
    go false e = rw (not_plus b h, e) refl

-- a text is what stands before its first point, and what stands behind it
position-some : (p : ℕ → Bool) (xs : List ℕ) → list_any p xs ≡ true → position_or_len p xs < length xs
position-some p [] h = absurd (cc)
position-some p (x ∷ xs) h = go (p x) refl (position-some p xs)
  where
    go : (b : Bool) → p x ≡ b → (list_any p xs ≡ true → position_or_len p xs < length xs) → position_or_len p (x ∷ xs) < suc (length xs)
    go true e more = rw e (omega arith)
    go false e more = let later = rw e at h in rw e (omega (arith, more later))

is_the_point : (b : ℕ) → is_point b ≡ true → b ≡ 46
is_the_point b h = grind (arith, nat_tests)

some_behind : (ds : List ℕ) → ds ≢ [] → with_point ds ≡ 46 ∷ ds
some_behind [] h = absurd (h refl)
some_behind (d ∷ ds) h = refl

plain-parts : (u : List ℕ) → (list_any is_point u ≡ true → fraction_part u ≢ []) → plain (whole_part u) (fraction_part u) ≡ u
unfolding whole_part fraction_part
plain-parts u behind = go (list_any is_point u) refl
  where
    go : (b : Bool) → list_any is_point u ≡ b → before_first is_point u ++ with_point (after_first is_point u) ≡ u
    go true e =
        let less = position-some is_point u e in
        let dot = is_the_point (get_or u (position_or_len is_point u) 0) (passes_at_first is_point u 0 less) in
        rw (some_behind (after_first is_point u) (behind e)) (sym (split_at_first is_point u 0 less ∙ ap (λ b. before_first is_point u ++ b ∷ after_first is_point u) dot))
    go false e = rw (before_first-none is_point u e, after_first-none is_point u e) (append-nil u)

normal-digits : (a : List ℕ) → IsNormalForm a → AreDigits (whole_of a) (behind_of a)
normal-digits a n = record {
  some = at_least_one (whole_of a) n.whole;
  whole = and_right (leb 1 (length (whole_of a))) (list_all is_ascii_digit (whole_of a)) n.whole;
  behind = n.behind;
}
  where
    at_least_one : (w : List ℕ) → some_digits w ≡ true → 0 < length w
    at_least_one w e = let one = and_left (leb 1 (length w)) (list_all is_ascii_digit w) e in grind (arith, nat_tests)

normal-plain : (a : List ℕ) → IsNormalForm a → plain (whole_of a) (behind_of a) ≡ unsigned a
normal-plain a n = plain-parts (unsigned a) n.point

top-normal : (a : List ℕ) → IsNormalForm a → top (unsigned a) ≡ value_of (whole_of a) * 10 ^ length (behind_of a) + value_of (behind_of a)
top-normal a n = ap top (sym (normal-plain a n)) ∙ top-plain (whole_of a) (behind_of a) (normal-digits a n)

bottom-normal : (a : List ℕ) → IsNormalForm a → bottom (unsigned a) ≡ 10 ^ length (behind_of a)
bottom-normal a n = ap bottom (sym (normal-plain a n)) ∙ bottom-plain (whole_of a) (behind_of a) (normal-digits a n)

-- equal sums of units and parts have equal units and equal parts
same_parts : (v p w q A B : ℕ) → p < A → q < B → 0 < A → 0 < B → (v * A + p) * B ≡ (w * B + q) * A → (v ≡ w) × (p * B ≡ q * A)
same_parts v p w q A B less other a b e =
    let left : (v * A + p) * B ≡ v * (A * B) + p * B = add-mul (v * A) p B ∙ ap (λ n. n + p * B) (mul_assoc v A B) in
    let right : (w * B + q) * A ≡ w * (A * B) + q * A = add-mul (w * B) q A ∙ ap (λ n. n + q * A) (mul_assoc w B A ∙ ap (λ n. w * n) (mul_comm B A)) in
    let turned : q * A < A * B = rw (mul_comm A B) (mul-lt-mul_of_pos_right other a) in
    same_from_place v (p * B) w (q * A) (A * B) (mul-lt-mul_of_pos_right less b) turned (sym left ∙ e ∙ right)

pub one_form : (a b : List ℕ) → IsNormalForm a → IsNormalForm b → HaveOneValue a b → a ≡ b
one_form a b n m e =
    let d = normal-digits a n in
    let f = normal-digits b m in
    let value : (value_of (whole_of a) * 10 ^ length (behind_of a) + value_of (behind_of a)) * 10 ^ length (behind_of b)
    ≡ (value_of (whole_of b) * 10 ^ length (behind_of b) + value_of (behind_of b)) * 10 ^ length (behind_of a)
    = rw (← top-normal a n, ← top-normal b m, ← bottom-normal a n, ← bottom-normal b m) e.value in
    let both = same_parts (value_of (whole_of a)) (value_of (behind_of a)) (value_of (whole_of b)) (value_of (behind_of b)) (10 ^ length (behind_of a)) (10 ^ length (behind_of b))
    (value_of-lt (behind_of a) d.behind) (value_of-lt (behind_of b) f.behind) (power-positive (length (behind_of a))) (power-positive (length (behind_of b))) value in
    let whole = same_whole (whole_of a) (whole_of b) d.whole f.whole d.some f.some n.first m.first both.0 in
    let behind = same_behind (behind_of a) (behind_of b) d.behind f.behind n.last m.last both.1 in
    let rest : unsigned a ≡ unsigned b = sym (normal-plain a n) ∙ rw (whole, behind) (normal-plain b m) in
    sym (sign-unsigned a n.no_plus) ∙ rw (e.sign, rest) (sign-unsigned b m.no_plus)
