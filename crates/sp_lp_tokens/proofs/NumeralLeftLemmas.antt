-- What may follow at each place of a numeral.
use Rattle.std.proofs.Common.{◌≡◌, ℕ, ◌+◌, suc, ◌≤◌, Bool, true, false, not, ◌&&◌, ◌||◌, List, [], ◌∷◌, ◌++◌, length, refl, subst, ◌∙◌, Option, Some, None, arith}
use Rattle.std.specs.List.{list_all, list_any, before_first, after_first}
use Rattle.std.specs.Char.{is_ascii_digit}
use Rattle.std.specs.Prelude.{if◌then◌else◌, nat_le, ◌==◌}
use Rattle.std.proofs.lemmas.Bool.{and_parts, leb-true, eqb-true, or_from, or_parts, ne_eqb, le-leb}
use Rattle.sp_decimal.specs.Grammar.{some_digits, is_sign, is_point, is_exponent_letter, unsigned, mantissa, exponent, whole_part, fraction_part, is_mantissa, is_plain_numeral}
use Rattle.sp_lp_tokens.specs.declared.numeral_places.Place.{Place}
use Rattle.sp_lp_tokens.specs.declared.numeral_places.Place.TheVariants.{Start, Whole, Point, Fraction, Letter, Sign, Power}
use Rattle.sp_lp_tokens.specs.InnerNumeralPlaces.{place_after, ends_numeral}
use Rattle.sp_lp_tokens.specs.Texts.{is_number}

one_more : (n : ℕ) → 1 + n ≡ suc n
one_more n = omega arith

two_more : (n : ℕ) → 1 + n + 1 ≡ suc (n + 1)
two_more n = omega arith

before-no : (p : ℕ → Bool) (b : ℕ) (rest : List ℕ) → p b ≡ false → before_first p (b ∷ rest) ≡ b ∷ before_first p rest
before-no p b rest e = rw (e, one_more) refl

before-yes : (p : ℕ → Bool) (b : ℕ) (rest : List ℕ) → p b ≡ true → before_first p (b ∷ rest) ≡ []
before-yes p b rest e = rw e refl

after-no : (p : ℕ → Bool) (b : ℕ) (rest : List ℕ) → p b ≡ false → after_first p (b ∷ rest) ≡ after_first p rest
after-no p b rest e = rw (e, two_more) refl

after-yes : (p : ℕ → Bool) (b : ℕ) (rest : List ℕ) → p b ≡ true → after_first p (b ∷ rest) ≡ rest
after-yes p b rest e = rw e refl

-- no exponent, or one with digits
abbrev pub power_left : List ℕ → Bool
power_left rest = not (list_any is_exponent_letter rest) || some_digits (unsigned (exponent rest))

mantissa-no : (b : ℕ) (rest : List ℕ) → is_exponent_letter b ≡ false → mantissa (b ∷ rest) ≡ b ∷ mantissa rest
unfolding mantissa
mantissa-no b rest e = before-no is_exponent_letter b rest e

mantissa-yes : (b : ℕ) (rest : List ℕ) → is_exponent_letter b ≡ true → mantissa (b ∷ rest) ≡ []
unfolding mantissa
mantissa-yes b rest e = before-yes is_exponent_letter b rest e

power-no : (b : ℕ) (rest : List ℕ) → is_exponent_letter b ≡ false → power_left (b ∷ rest) ≡ power_left rest
unfolding exponent
power-no b rest e = rw (after-no is_exponent_letter b rest e, e) refl

power-yes : (b : ℕ) (rest : List ℕ) → is_exponent_letter b ≡ true → power_left (b ∷ rest) ≡ some_digits (unsigned rest)
unfolding exponent
power-yes b rest e = rw (after-yes is_exponent_letter b rest e, e) refl

whole-no : (b : ℕ) (m : List ℕ) → is_point b ≡ false → whole_part (b ∷ m) ≡ b ∷ whole_part m
unfolding whole_part
whole-no b m e = before-no is_point b m e

whole-yes : (b : ℕ) (m : List ℕ) → is_point b ≡ true → whole_part (b ∷ m) ≡ []
unfolding whole_part
whole-yes b m e = before-yes is_point b m e

fraction-no : (b : ℕ) (m : List ℕ) → is_point b ≡ false → fraction_part (b ∷ m) ≡ fraction_part m
unfolding fraction_part
fraction-no b m e = after-no is_point b m e

fraction-yes : (b : ℕ) (m : List ℕ) → is_point b ≡ true → fraction_part (b ∷ m) ≡ m
unfolding fraction_part
fraction-yes b m e = after-yes is_point b m e

-- the bytes of a mantissa without its full stop
abbrev pub all_but_point : List ℕ → List ℕ
all_but_point m = whole_part m ++ fraction_part m

but-point-no : (b : ℕ) (m : List ℕ) → is_point b ≡ false → all_but_point (b ∷ m) ≡ b ∷ all_but_point m
but-point-no b m e = rw (whole-no b m e, fraction-no b m e) refl

but-point-yes : (b : ℕ) (m : List ℕ) → is_point b ≡ true → all_but_point (b ∷ m) ≡ m
but-point-yes b m e = rw (whole-yes b m e, fraction-yes b m e) refl

-- the texts that make a numeral of what stands before the place
abbrev pub left : Place → List ℕ → Bool
left Start rest = is_number rest
left Whole rest = list_all is_ascii_digit (all_but_point (mantissa rest)) && power_left rest
left Point rest = some_digits (mantissa rest) && power_left rest
left Fraction rest = list_all is_ascii_digit (mantissa rest) && power_left rest
left Letter rest = some_digits (unsigned rest)
left Sign rest = some_digits rest
left Power rest = list_all is_ascii_digit rest

start_is : (rest : List ℕ) → left Start rest ≡ (some_digits (all_but_point (mantissa rest)) && power_left rest)
unfolding is_plain_numeral is_mantissa
start_is rest = refl

-- which bytes a digit is not
digit_bounds : (b : ℕ) → is_ascii_digit b ≡ true → (48 ≤ b) × (b ≤ 57)
digit_bounds b e = let a = and_parts (nat_le 48 b) (nat_le b 57) e in (leb-true 48 b a.0, leb-true b 57 a.1)

digit_no_letter : (b : ℕ) → is_ascii_digit b ≡ true → is_exponent_letter b ≡ false
digit_no_letter b e =
    let d = digit_bounds b e in
    or_from (b == 69) (b == 101) (ne_eqb b 69 (λ q. absurd (omega (arith, d.0, d.1)))) (ne_eqb b 101 (λ q. absurd (omega (arith, d.0, d.1))))

digit_no_point : (b : ℕ) → is_ascii_digit b ≡ true → is_point b ≡ false
digit_no_point b e = let d = digit_bounds b e in ne_eqb b 46 (λ q. absurd (omega (arith, d.0, d.1)))

digit_no_sign : (b : ℕ) → is_ascii_digit b ≡ true → is_sign b ≡ false
digit_no_sign b e =
    let d = digit_bounds b e in
    or_from (b == 43) (b == 45) (ne_eqb b 43 (λ q. absurd (omega (arith, d.0, d.1)))) (ne_eqb b 45 (λ q. absurd (omega (arith, d.0, d.1))))

point_no_letter : (b : ℕ) → is_point b ≡ true → is_exponent_letter b ≡ false
point_no_letter b e = let q : b ≡ 46 = eqb-true b 46 e in rw q refl

but-point-nil : all_but_point [] ≡ []
unfolding whole_part fraction_part
but-point-nil = refl

some-more : (b : ℕ) (rest : List ℕ) → some_digits (b ∷ rest) ≡ (is_ascii_digit b && list_all is_ascii_digit rest)
some-more b rest = let one : nat_le 1 (suc (length rest)) ≡ true = le-leb 1 (suc (length rest)) (omega arith) in rw one refl

either : {A : Type 0} (x : Bool) → (x ≡ true → A) → (x ≡ false → A) → A
either true f g = f refl
either false f g = g refl

start_digit : (b : ℕ) → is_ascii_digit b ≡ true → (rest : List ℕ) → left Start (b ∷ rest) ≡ left Whole rest
start_digit b d rest = start_is (b ∷ rest) ∙ rw (mantissa-no b rest (digit_no_letter b d), power-no b rest (digit_no_letter b d), but-point-no b (mantissa rest) (digit_no_point b d), some-more, d) refl

start_point : (b : ℕ) → is_point b ≡ true → (rest : List ℕ) → left Start (b ∷ rest) ≡ left Point rest
start_point b p rest = start_is (b ∷ rest) ∙ rw (mantissa-no b rest (point_no_letter b p), power-no b rest (point_no_letter b p), but-point-yes b (mantissa rest) p) refl

start_none : (b : ℕ) → is_ascii_digit b ≡ false → is_point b ≡ false → (rest : List ℕ) → left Start (b ∷ rest) ≡ false
start_none b d p rest =
    start_is (b ∷ rest) ∙ either (is_exponent_letter b) (λ e. rw (mantissa-yes b rest e, but-point-nil) refl) (λ e. rw (mantissa-no b rest e, but-point-no b (mantissa rest) p, some-more, d) refl)

whole_digit : (b : ℕ) → is_ascii_digit b ≡ true → (rest : List ℕ) → left Whole (b ∷ rest) ≡ left Whole rest
whole_digit b d rest = rw (mantissa-no b rest (digit_no_letter b d), power-no b rest (digit_no_letter b d), but-point-no b (mantissa rest) (digit_no_point b d), d) refl

whole_point : (b : ℕ) → is_point b ≡ true → (rest : List ℕ) → left Whole (b ∷ rest) ≡ left Fraction rest
whole_point b p rest = rw (mantissa-no b rest (point_no_letter b p), power-no b rest (point_no_letter b p), but-point-yes b (mantissa rest) p) refl

whole_letter : (b : ℕ) → is_exponent_letter b ≡ true → (rest : List ℕ) → left Whole (b ∷ rest) ≡ left Letter rest
whole_letter b e rest = rw (mantissa-yes b rest e, power-yes b rest e, but-point-nil) refl

whole_none : (b : ℕ) → is_ascii_digit b ≡ false → is_point b ≡ false → is_exponent_letter b ≡ false → (rest : List ℕ) → left Whole (b ∷ rest) ≡ false
whole_none b d p e rest = rw (mantissa-no b rest e, but-point-no b (mantissa rest) p, d) refl

point_digit : (b : ℕ) → is_ascii_digit b ≡ true → (rest : List ℕ) → left Point (b ∷ rest) ≡ left Fraction rest
point_digit b d rest = rw (mantissa-no b rest (digit_no_letter b d), power-no b rest (digit_no_letter b d), some-more, d) refl

point_none : (b : ℕ) → is_ascii_digit b ≡ false → (rest : List ℕ) → left Point (b ∷ rest) ≡ false
point_none b d rest = either (is_exponent_letter b) (λ e. rw (mantissa-yes b rest e) refl) (λ e. rw (mantissa-no b rest e, some-more, d) refl)

fraction_digit : (b : ℕ) → is_ascii_digit b ≡ true → (rest : List ℕ) → left Fraction (b ∷ rest) ≡ left Fraction rest
fraction_digit b d rest = rw (mantissa-no b rest (digit_no_letter b d), power-no b rest (digit_no_letter b d), d) refl

fraction_letter : (b : ℕ) → is_exponent_letter b ≡ true → (rest : List ℕ) → left Fraction (b ∷ rest) ≡ left Letter rest
fraction_letter b e rest = rw (mantissa-yes b rest e, power-yes b rest e) refl

fraction_none : (b : ℕ) → is_ascii_digit b ≡ false → is_exponent_letter b ≡ false → (rest : List ℕ) → left Fraction (b ∷ rest) ≡ false
fraction_none b d e rest = rw (mantissa-no b rest e, d) refl

letter_digit : (b : ℕ) → is_ascii_digit b ≡ true → (rest : List ℕ) → left Letter (b ∷ rest) ≡ left Power rest
letter_digit b d rest = rw (digit_no_sign b d, some-more, d) refl

letter_sign : (b : ℕ) → is_sign b ≡ true → (rest : List ℕ) → left Letter (b ∷ rest) ≡ left Sign rest
letter_sign b s rest = rw s refl

letter_none : (b : ℕ) → is_ascii_digit b ≡ false → is_sign b ≡ false → (rest : List ℕ) → left Letter (b ∷ rest) ≡ false
letter_none b d s rest = rw (s, some-more, d) refl

sign_digit : (b : ℕ) → is_ascii_digit b ≡ true → (rest : List ℕ) → left Sign (b ∷ rest) ≡ left Power rest
sign_digit b d rest = rw (some-more, d) refl

sign_none : (b : ℕ) → is_ascii_digit b ≡ false → (rest : List ℕ) → left Sign (b ∷ rest) ≡ false
sign_none b d rest = rw (some-more, d) refl

power_digit : (b : ℕ) → is_ascii_digit b ≡ true → (rest : List ℕ) → left Power (b ∷ rest) ≡ left Power rest
power_digit b d rest = rw d refl

power_none : (b : ℕ) → is_ascii_digit b ≡ false → (rest : List ℕ) → left Power (b ∷ rest) ≡ false
power_none b d rest = rw d refl

-- one byte more: nothing may follow, or what follows goes on from the next place
abbrev pub Continues : Place → ℕ → Option Place → Type 0
Continues place b None = (rest : List ℕ) → left place (b ∷ rest) ≡ false
Continues place b (Some next) = (rest : List ℕ) → left place (b ∷ rest) ≡ left next rest

pick : (P : Option Place → Type 0) (b : Bool) (x y : Option Place) → (b ≡ true → P x) → (b ≡ false → P y) → P (if b then x else y)
pick P true x y f g = f refl
pick P false x y f g = g refl

pub place_continues : (place : Place) (b : ℕ) → Continues place b (place_after place b)
place_continues Start b = pick (Continues Start b) (is_ascii_digit b) (Some Whole) _ (start_digit b) (λ d. pick (Continues Start b) (is_point b) (Some Point) None (start_point b) (λ p. start_none b d p))
place_continues Whole b =
    pick (Continues Whole b) (is_ascii_digit b) (Some Whole) _ (whole_digit b) (λ d.
    pick (Continues Whole b) (is_point b) (Some Fraction) _ (whole_point b) (λ p.
    pick (Continues Whole b) (is_exponent_letter b) (Some Letter) None (whole_letter b) (λ e. whole_none b d p e)))
place_continues Point b = pick (Continues Point b) (is_ascii_digit b) (Some Fraction) None (point_digit b) (λ d. point_none b d)
place_continues Fraction b =
    pick (Continues Fraction b) (is_ascii_digit b) (Some Fraction) _ (fraction_digit b) (λ d.
    pick (Continues Fraction b) (is_exponent_letter b) (Some Letter) None (fraction_letter b) (λ e. fraction_none b d e))
place_continues Letter b =
    pick (Continues Letter b) (is_ascii_digit b) (Some Power) _ (letter_digit b) (λ d.
    pick (Continues Letter b) (is_sign b) (Some Sign) None (letter_sign b) (λ s. letter_none b d s))
place_continues Sign b = pick (Continues Sign b) (is_ascii_digit b) (Some Power) None (sign_digit b) (λ d. sign_none b d)
place_continues Power b = pick (Continues Power b) (is_ascii_digit b) (Some Power) None (power_digit b) (λ d. power_none b d)

pub no_place : (place : Place) (b : ℕ) → place_after place b ≡ None → Continues place b None
no_place place b e = subst (Continues place b) e (place_continues place b)

pub next_place : (place next : Place) (b : ℕ) → place_after place b ≡ Some next → Continues place b (Some next)
next_place place next b e = subst (Continues place b) e (place_continues place b)

-- nothing need follow where a numeral ends
pub left-nil : (place : Place) → left place [] ≡ ends_numeral place
unfolding is_plain_numeral is_mantissa mantissa exponent whole_part fraction_part
left-nil Start = refl
left-nil Whole = refl
left-nil Point = refl
left-nil Fraction = refl
left-nil Letter = refl
left-nil Sign = refl
left-nil Power = refl

-- no number begins with another byte
pub no_number_from : (b : ℕ) (more : List ℕ) → (is_ascii_digit b || is_point b) ≡ false → is_number (b ∷ more) ≡ false
no_number_from b more h = let e = or_parts (is_ascii_digit b) (is_point b) h in start_none b e.0 e.1 more
