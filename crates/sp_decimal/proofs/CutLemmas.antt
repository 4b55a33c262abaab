-- A text that begins with a mantissa, cut at the exponent's letter and at the full stop.
use Rattle.std.proofs.Common.{◌≡◌, ℕ, suc, ◌+◌, Bool, true, false, not, cond, leb, ◌&&◌, ◌||◌, inl, inr, List, [], ◌∷◌, ◌++◌, length, Some, None, is_some, refl, sym, ap, ◌∙◌, arith, add-one}
use Rattle.std.proofs.lemmas.List.{append-nil, append_assoc}
use Rattle.std.proofs.lemmas.List.Folds.{list_all-append}
use Rattle.std.proofs.lemmas.Bool.Decides.{nat_tests}
use Rattle.std.specs.List.{list_all, list_any, position_or_len, before_first, after_first}
use Rattle.std.specs.Char.{is_ascii_digit}
use Rattle.sp_decimal.specs.Grammar.{is_point, is_exponent_letter, some_digits, unsigned, mantissa, exponent, whole_part, fraction_part, is_mantissa, is_plain_numeral}
use Rattle.sp_decimal.proofs.DigitRunLemmas.{both}
use Rattle.sp_decimal.specs.InnerParts.{BeginsWith, power_behind, IsCut}

one_more : (n : ℕ) → 1 + n ≡ suc n
one_more n = omega arith

no_or : (a b : Bool) → (a || b) ≡ false → (a ≡ false) × (b ≡ false)
no_or true b e = absurd (cc)
no_or false b e = (refl, e)

-- a first element that the test passes over
before-past : (p : ℕ → Bool) (x : ℕ) (xs : List ℕ) → p x ≡ false → before_first p (x ∷ xs) ≡ x ∷ before_first p xs
before-past p x xs e = rw (e, one_more (position_or_len p xs)) refl

after-past : (p : ℕ → Bool) (x : ℕ) (xs : List ℕ) → p x ≡ false → after_first p (x ∷ xs) ≡ after_first p xs
after-past p x xs e = rw (e, one_more (position_or_len p xs), add-one, add-one) refl

-- a first element at which it stops
before-at : (p : ℕ → Bool) (x : ℕ) (xs : List ℕ) → p x ≡ true → before_first p (x ∷ xs) ≡ []
before-at p x xs e = rw e refl

after-at : (p : ℕ → Bool) (x : ℕ) (xs : List ℕ) → p x ≡ true → after_first p (x ∷ xs) ≡ xs
after-at p x xs e = rw e refl

-- elements that the test passes over
before-skip : (p : ℕ → Bool) (xs ys : List ℕ) → list_any p xs ≡ false → before_first p (xs ++ ys) ≡ xs ++ before_first p ys
before-skip p [] ys h = refl
before-skip p (x ∷ xs) ys h = let both = no_or (p x) (list_any p xs) h in before-past p x (xs ++ ys) both.0 ∙ ap (λ zs. x ∷ zs) (before-skip p xs ys both.1)

after-skip : (p : ℕ → Bool) (xs ys : List ℕ) → list_any p xs ≡ false → after_first p (xs ++ ys) ≡ after_first p ys
after-skip p [] ys h = refl
after-skip p (x ∷ xs) ys h = let both = no_or (p x) (list_any p xs) h in after-past p x (xs ++ ys) both.0 ∙ after-skip p xs ys both.1

any-skip : (p : ℕ → Bool) (xs ys : List ℕ) → list_any p xs ≡ false → list_any p (xs ++ ys) ≡ list_any p ys
any-skip p [] ys h = refl
any-skip p (x ∷ xs) ys h = let both = no_or (p x) (list_any p xs) h in rw both.0 (any-skip p xs ys both.1)

-- no digit passes the test
digits-none : (p : ℕ → Bool) → ((b : ℕ) → is_ascii_digit b ≡ true → p b ≡ false) → (xs : List ℕ) → list_all is_ascii_digit xs ≡ true → list_any p xs ≡ false
digits-none p h [] e = refl
digits-none p h (x ∷ xs) e = let parts = both (is_ascii_digit x) (list_all is_ascii_digit xs) e in rw (h x parts.0, digits-none p h xs parts.1) refl

digit-no_letter : (b : ℕ) → is_ascii_digit b ≡ true → is_exponent_letter b ≡ false
digit-no_letter b h = grind (arith, nat_tests)

digit-no_point : (b : ℕ) → is_ascii_digit b ≡ true → is_point b ≡ false
digit-no_point b h = grind (arith, nat_tests)

and_false : (a : Bool) → (a && false) ≡ false
and_false true = refl
and_false false = refl

and_true : (a : Bool) → (a && true) ≡ a
and_true true = refl
and_true false = refl

-- what is no digit spoils the digits around it
spoilt : (xs : List ℕ) (b : ℕ) (ys : List ℕ) → is_ascii_digit b ≡ false → list_all is_ascii_digit (xs ++ b ∷ ys) ≡ false
spoilt [] b ys e = rw e refl
spoilt (x ∷ xs) b ys e = rw (spoilt xs b ys e) (and_false (is_ascii_digit x))

spoilt-digits : (xs : List ℕ) (b : ℕ) (ys zs : List ℕ) → is_ascii_digit b ≡ false → zs ≡ xs ++ b ∷ ys → some_digits zs ≡ false
spoilt-digits xs b ys zs e same = rw (same, spoilt xs b ys e) (and_false (leb 1 (length (xs ++ b ∷ ys))))

-- digits are some where there is one
some_digits-of : (xs ys : List ℕ) → list_all is_ascii_digit xs ≡ true → list_all is_ascii_digit ys ≡ true → some_digits (xs ++ ys) ≡ leb 1 (length (xs ++ ys))
some_digits-of xs ys h k = rw (list_all-append is_ascii_digit xs ys, h, k) (and_true (leb 1 (length (xs ++ ys))))

no_letter : (xs : List ℕ) → list_all is_ascii_digit xs ≡ true → list_any is_exponent_letter xs ≡ false
no_letter xs h = digits-none is_exponent_letter digit-no_letter xs h

no_point : (xs : List ℕ) → list_all is_ascii_digit xs ≡ true → list_any is_point xs ≡ false
no_point xs h = digits-none is_point digit-no_point xs h

-- what stands before the rest has no letter of an exponent
record Cuts (text head rest : List ℕ) : Type 0 where
  before : mantissa text ≡ head ++ before_first is_exponent_letter rest
  behind : exponent text ≡ after_first is_exponent_letter rest
  letters : list_any is_exponent_letter text ≡ list_any is_exponent_letter rest

cuts-from : (text head rest : List ℕ) → text ≡ head ++ rest → list_any is_exponent_letter head ≡ false → Cuts text head rest
unfolding mantissa exponent
cuts-from text head rest e h = rw e (record {
  before = before-skip is_exponent_letter head rest h;
  behind = after-skip is_exponent_letter head rest h;
  letters = any-skip is_exponent_letter head rest h;
})

-- the digits and the full stop before the rest
head-letters : (w f : List ℕ) → list_all is_ascii_digit w ≡ true → list_all is_ascii_digit f ≡ true → list_any is_exponent_letter (w ++ 46 ∷ f) ≡ false
head-letters w f h k = any-skip is_exponent_letter w (46 ∷ f) (no_letter w h) ∙ no_letter f k

-- a mantissa with digits alone, and one with a full stop
whole-alone : (w m : List ℕ) → list_all is_ascii_digit w ≡ true → whole_part (w ++ m) ≡ w ++ before_first is_point m
unfolding whole_part
whole-alone w m h = before-skip is_point w m (no_point w h)

fraction-alone : (w m : List ℕ) → list_all is_ascii_digit w ≡ true → fraction_part (w ++ m) ≡ after_first is_point m
unfolding fraction_part
fraction-alone w m h = after-skip is_point w m (no_point w h)

whole-pointed : (w f m : List ℕ) → list_all is_ascii_digit w ≡ true → whole_part ((w ++ 46 ∷ f) ++ m) ≡ w
whole-pointed w f m h = rw append_assoc (whole-alone w (46 ∷ (f ++ m)) h ∙ append-nil w)

fraction-pointed : (w f m : List ℕ) → list_all is_ascii_digit w ≡ true → fraction_part ((w ++ 46 ∷ f) ++ m) ≡ f ++ m
fraction-pointed w f m h = rw append_assoc (fraction-alone w (46 ∷ (f ++ m)) h)

-- the parts, where nothing stands between the mantissa and the letter or the end
cut-alone : (t w r : List ℕ) → t ≡ w ++ r → list_all is_ascii_digit w ≡ true → before_first is_exponent_letter r ≡ [] → IsCut t w [] (after_first is_exponent_letter r)
cut-alone t w r e h none =
    let c = cuts-from t w r e (no_letter w h) in
    let m : mantissa t ≡ w ++ [] = c.before ∙ ap (λ x. w ++ x) none in record {
      before_point = rw (m, whole-alone w [] h) (sym (append-nil w));
      behind_point = rw (m, fraction-alone w [] h) refl;
      behind_letter = sym c.behind;
    }

cut-pointed : (t w f r : List ℕ) → t ≡ w ++ (46 ∷ (f ++ r)) → list_all is_ascii_digit w ≡ true → list_all is_ascii_digit f ≡ true → before_first is_exponent_letter r ≡ []
    → IsCut t w f (after_first is_exponent_letter r)
cut-pointed t w f r e h k none =
    let c = cuts-from t (w ++ 46 ∷ f) r (e ∙ sym (append_assoc w (46 ∷ f) r)) (head-letters w f h k) in
    let m : mantissa t ≡ (w ++ 46 ∷ f) ++ [] = c.before ∙ ap (λ x. (w ++ 46 ∷ f) ++ x) none in record {
      before_point = rw m (sym (whole-pointed w f [] h));
      behind_point = rw m (sym (fraction-pointed w f [] h ∙ append-nil f));
      behind_letter = sym c.behind;
    }

cut-clean : (t w f r : List ℕ) → BeginsWith t w f r → before_first is_exponent_letter r ≡ [] → IsCut t w f (after_first is_exponent_letter r)
cut-clean t w f r b none = elim b.joined [
  | inl alone ↦ rw alone.1 (cut-alone t w r alone.0 b.all_whole none)
  | inr pointed ↦ cut-pointed t w f r pointed b.all_whole b.all_fraction none
]

letters-of : (t w f r : List ℕ) → BeginsWith t w f r → list_any is_exponent_letter t ≡ list_any is_exponent_letter r
letters-of t w f r b = elim b.joined [
  | inl alone ↦ (cuts-from t w r alone.0 (no_letter w b.all_whole)).letters
  | inr pointed ↦ (cuts-from t (w ++ 46 ∷ f) r (pointed ∙ sym (append_assoc w (46 ∷ f) r)) (head-letters w f b.all_whole b.all_fraction)).letters
]

-- no mantissa, where something else stands there
spoilt-alone : (t w q : List ℕ) (b : ℕ) → t ≡ w ++ (b ∷ q) → list_all is_ascii_digit w ≡ true → is_ascii_digit b ≡ false → is_point b ≡ false → is_exponent_letter b ≡ false → is_mantissa (mantissa t) ≡ false
unfolding is_mantissa
spoilt-alone t w q b e h digit point letter =
    let c = cuts-from t w (b ∷ q) e (no_letter w h) in
    let m : mantissa t ≡ w ++ (b ∷ before_first is_exponent_letter q) = c.before ∙ ap (λ x. w ++ x) (before-past is_exponent_letter b q letter) in
    let m' = before_first is_exponent_letter q in
    let whole : whole_part (mantissa t) ≡ w ++ (b ∷ before_first is_point m') = rw m (whole-alone w (b ∷ m') h ∙ ap (λ x. w ++ x) (before-past is_point b m' point)) in
    spoilt-digits w b (before_first is_point m' ++ fraction_part (mantissa t)) (whole_part (mantissa t) ++ fraction_part (mantissa t)) digit
    (ap (λ x. x ++ fraction_part (mantissa t)) whole ∙ append_assoc w (b ∷ before_first is_point m') (fraction_part (mantissa t)))

spoilt-pointed : (t w f q : List ℕ) (b : ℕ) → t ≡ w ++ (46 ∷ (f ++ (b ∷ q))) → list_all is_ascii_digit w ≡ true → list_all is_ascii_digit f ≡ true → is_ascii_digit b ≡ false → is_exponent_letter b ≡ false
    → is_mantissa (mantissa t) ≡ false
unfolding is_mantissa
spoilt-pointed t w f q b e h k digit letter =
    let c = cuts-from t (w ++ 46 ∷ f) (b ∷ q) (e ∙ sym (append_assoc w (46 ∷ f) (b ∷ q))) (head-letters w f h k) in
    let m' = before_first is_exponent_letter q in
    let m : mantissa t ≡ (w ++ 46 ∷ f) ++ (b ∷ m') = c.before ∙ ap (λ x. (w ++ 46 ∷ f) ++ x) (before-past is_exponent_letter b q letter) in
    let fraction : fraction_part (mantissa t) ≡ f ++ (b ∷ m') = rw m (fraction-pointed w f (b ∷ m') h) in
    let whole : whole_part (mantissa t) ≡ w = rw m (whole-pointed w f (b ∷ m') h) in
    spoilt-digits (w ++ f) b m' (whole_part (mantissa t) ++ fraction_part (mantissa t)) digit
    (rw (whole, fraction) (sym (append_assoc w f (b ∷ m'))))

pub cut-spoilt : (t w f q : List ℕ) (b : ℕ) → BeginsWith t w f (b ∷ q) → is_exponent_letter b ≡ false → is_mantissa (mantissa t) ≡ false
cut-spoilt t w f q b h letter = elim h.joined [
  | inl alone ↦ spoilt-alone t w q b alone.0 h.all_whole h.ends alone.2 letter
  | inr pointed ↦ spoilt-pointed t w f q b pointed h.all_whole h.all_fraction h.ends letter
]

-- a mantissa is some digits, where the letter or the end follows it
mantissa-clean : (t w f p : List ℕ) → IsCut t w f p → list_all is_ascii_digit w ≡ true → list_all is_ascii_digit f ≡ true → is_mantissa (mantissa t) ≡ leb 1 (length (w ++ f))
unfolding is_mantissa
mantissa-clean t w f p c h k = rw (← c.before_point, ← c.behind_point) (some_digits-of w f h k)

is_some-if : (b : Bool) (p : List ℕ) → is_some (cond b (Some p) None) ≡ b
is_some-if true p = refl
is_some-if false p = refl

plain-letter : (t w f q : List ℕ) (b : ℕ) (letter : Bool) → is_exponent_letter b ≡ letter → BeginsWith t w f (b ∷ q)
    → is_plain_numeral t ≡ (leb 1 (length (w ++ f)) && is_some (cond (letter && some_digits (unsigned q)) (Some q) None))
unfolding is_plain_numeral
plain-letter t w f q b true e h =
    let c = cut-clean t w f (b ∷ q) h (before-at is_exponent_letter b q e) in
    let p : exponent t ≡ q = sym c.behind_letter ∙ after-at is_exponent_letter b q e in
    let letters : list_any is_exponent_letter t ≡ true = letters-of t w f (b ∷ q) h ∙ ap (λ x. x || list_any is_exponent_letter q) e in
    rw (mantissa-clean t w f (after_first is_exponent_letter (b ∷ q)) c h.all_whole h.all_fraction, letters, p, is_some-if (some_digits (unsigned q)) q) refl
plain-letter t w f q b false e h = rw (cut-spoilt t w f q b h e) (sym (and_false (leb 1 (length (w ++ f)))))

pub plain-by_parts : (t w f r : List ℕ) → BeginsWith t w f r → is_plain_numeral t ≡ (leb 1 (length (w ++ f)) && is_some (power_behind r))
unfolding is_plain_numeral
plain-by_parts t w f [] h =
    let c = cut-clean t w f [] h refl in
    rw (mantissa-clean t w f [] c h.all_whole h.all_fraction, letters-of t w f [] h) refl
plain-by_parts t w f (b ∷ q) h = plain-letter t w f q b (is_exponent_letter b) refl h

-- and the parts are those of the numeral
power-letter : (b : ℕ) (q p : List ℕ) (letter some : Bool) → is_exponent_letter b ≡ letter → cond (letter && some) (Some q) None ≡ Some p → (before_first is_exponent_letter (b ∷ q) ≡ []) × (after_first is_exponent_letter (b ∷ q) ≡ p)
power-letter b q p true true e h = (before-at is_exponent_letter b q e, after-at is_exponent_letter b q e ∙ cc)
power-letter b q p true false e h = absurd (cc)
power-letter b q p false some e h = absurd (cc)

power-cuts : (r p : List ℕ) → power_behind r ≡ Some p → (before_first is_exponent_letter r ≡ []) × (after_first is_exponent_letter r ≡ p)
power-cuts [] p h = (refl, cc)
power-cuts (b ∷ q) p h = power-letter b q p (is_exponent_letter b) (some_digits (unsigned q)) refl h

pub cut-by_parts : (t w f r p : List ℕ) → BeginsWith t w f r → power_behind r ≡ Some p → IsCut t w f p
cut-by_parts t w f r p b h = let e = power-cuts r p h in rw (← e.1) (cut-clean t w f r b e.0)

-- the digits of an exponent
power-letter-digits : (q p : List ℕ) (letter some : Bool) → some_digits (unsigned q) ≡ some → cond (letter && some) (Some q) None ≡ Some p → list_all is_ascii_digit (unsigned p) ≡ true
power-letter-digits q p true true e h =
    let same : q ≡ p = cc in rw (← same) ((both (leb 1 (length (unsigned q))) (list_all is_ascii_digit (unsigned q)) e).1)
power-letter-digits q p true false e h = absurd (cc)
power-letter-digits q p false some e h = absurd (cc)

pub power-digits : (r p : List ℕ) → power_behind r ≡ Some p → list_all is_ascii_digit (unsigned p) ≡ true
power-digits [] p h = let same : [] ≡ p = cc in rw (← same) refl
power-digits (b ∷ q) p h = power-letter-digits q p (is_exponent_letter b) (some_digits (unsigned q)) refl h

-- the three ways in which a text is cut or not
pub plain-none : (t w f r : List ℕ) (none : Bool) → BeginsWith t w f r → not none ≡ leb 1 (length (w ++ f)) → none ≡ true → false ≡ is_plain_numeral t
plain-none t w f r none b e h = sym (plain-by_parts t w f r b ∙ rw (← e, h) refl)

pub plain-cut : (t w f r p : List ℕ) (none : Bool) → BeginsWith t w f r → not none ≡ leb 1 (length (w ++ f)) → none ≡ false → Some p ≡ power_behind r → true ≡ is_plain_numeral t
plain-cut t w f r p none b e h k = sym (plain-by_parts t w f r b ∙ rw (← e, h, ← k) refl)

pub plain-bad : (t w f r : List ℕ) → BeginsWith t w f r → None ≡ power_behind r → false ≡ is_plain_numeral t
plain-bad t w f r b k = sym (plain-by_parts t w f r b ∙ rw (← k) (and_false (leb 1 (length (w ++ f)))))
