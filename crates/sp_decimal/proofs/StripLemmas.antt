-- The digits of a numeral, without the zeros around them.
use Rattle.std.proofs.Common.{◌≡◌, ◌≢◌, ℕ, zero, suc, ◌+◌, ◌-◌, ◌*◌, ◌%◌, ◌^◌, ◌<◌, ◌≤◌, true, List, [], ◌∷◌, length, refl, sym, ap, ◌∙◌, arith}
use Rattle.std.proofs.Math.Nat.{pow-suc, mul-le-mul_right, le_of_mul-le-mul_right, one-le-pow}
use Rattle.std.proofs.lemmas.Nat.{pow-add}
use Rattle.std.specs.List.{list_all}
use Rattle.std.specs.Char.{is_ascii_digit}
use Rattle.sp_decimal.specs.Grammar.{value_of}
use Rattle.sp_decimal.specs.InnerSignificands.{number_of, IsSignificand, IsFrontTrimmed, IsBackTrimmed, IsStripped}
use Rattle.sp_decimal.proofs.DigitValueLemmas.{value-lt}

pub power-parts : (n i j : ℕ) → n ≡ i + j → 10 ^ n ≡ 10 ^ i * 10 ^ j
power-parts n i j e = ap (λ k. 10 ^ k) e ∙ pow-add 10 i j

zero_more : (n : ℕ) → n + 0 ≡ n
zero_more n = omega arith

-- a number of digits without the zeros behind them
pub front-shorter : (h s m n k : ℕ) → m ≡ n + k → 10 ^ m ≤ 10 * h → h ≡ s * 10 ^ k → 10 ^ n ≤ 10 * s
front-shorter h s m n k e le v =
    let p : 10 ^ m ≡ 10 ^ n * 10 ^ k = power-parts m n k e in
    let q : 10 ^ n * 10 ^ k ≤ 10 * s * 10 ^ k = omega (arith, p, le, v) in
    le_of_mul-le-mul_right {k = 10 ^ k} q (one-le-pow k 10 (omega arith))

-- nothing but zeros behind the full stop
strip-whole-value : (w f h s lf lh ls : ℕ) → f ≡ 0 → h ≡ w → h ≡ s * 10 ^ (lh - ls) → w * 10 ^ lf + f ≡ (s * 10 ^ 0 + 0) * 10 ^ (lf + (lh - ls))
strip-whole-value w f h s lf lh ls e g v =
    let p : 10 ^ (lf + (lh - ls)) ≡ 10 ^ lf * 10 ^ (lh - ls) = pow-add 10 lf (lh - ls) in
    let q : w ≡ s * 10 ^ (lh - ls) = sym g ∙ v in
    rw (p, q) (omega arith)

pub strip-whole : (whole fraction head tail short : List ℕ) → IsFrontTrimmed whole head → IsBackTrimmed fraction tail → length tail ≡ 0 → IsBackTrimmed head short
    → IsStripped whole fraction short tail (length fraction + (length head - length short))
strip-whole whole fraction head (x ∷ xs) short h t e s = absurd (omega arith)
strip-whole whole fraction head [] short h t e s =
    let none : value_of fraction ≡ 0 = t.value ∙ omega arith in
    record {
      value = strip-whole-value (value_of whole) (value_of fraction) (value_of head) (value_of short) (length fraction) (length head) (length short) none h.value s.value;
      head_digits = s.all;
      tail_digits = refl;
      significand = λ some. record {
        first = let le = front-shorter (value_of head) (value_of short) (length head) (length short) (length head - length short) (let l = s.shorter in omega arith) (h.first (let l = s.shorter in omega arith)) s.value in
            rw (zero_more (length short)) (omega (arith, le));
        fits = rw (zero_more (length short)) (omega (arith, value-lt short s.all));
        last = λ z. s.last (omega arith) (omega arith);
      };
      few = let l = h.shorter in omega arith;
    }

-- nothing but zeros before it
strip-fraction-value : (w f k t lf lk z : ℕ) → 0 ≡ w → f ≡ t * 10 ^ z → k ≡ t → w * 10 ^ lf + f ≡ (0 * 10 ^ lk + k) * 10 ^ z
strip-fraction-value w f k t lf lk z none e g = rw (← none, e, g) (omega arith)

zero_before : (n : ℕ) → 0 + n ≡ n
zero_before n = omega arith

pub strip-fraction : (whole fraction head tail kept : List ℕ) → IsFrontTrimmed whole head → IsBackTrimmed fraction tail → 0 < length tail → length head ≡ 0 → IsFrontTrimmed tail kept
    → IsStripped whole fraction head kept (length fraction - length tail)
strip-fraction whole fraction (x ∷ xs) tail kept h t some e k = absurd (omega arith)
strip-fraction whole fraction [] tail kept h t some e k =
    record {
      value = strip-fraction-value (value_of whole) (value_of fraction) (value_of kept) (value_of tail) (length fraction) (length kept) (length fraction - length tail) h.value t.value k.value;
      head_digits = refl;
      tail_digits = k.all;
      significand = λ other. record {
        first = rw (zero_before (length kept)) (omega (arith, k.first (omega arith)));
        fits = rw (zero_before (length kept)) (omega (arith, value-lt kept k.all));
        last = λ z. t.last some (omega (arith, k.value));
      };
      few = omega arith;
    }

-- another digit on both sides
strip-both-value : (w f h t lf lt : ℕ) → lt ≤ lf → h ≡ w → f ≡ t * 10 ^ (lf - lt) → w * 10 ^ lf + f ≡ (h * 10 ^ lt + t) * 10 ^ (lf - lt)
strip-both-value w f h t lf lt le g e = rw (power-parts lf lt (lf - lt) (omega arith), g, e) (omega arith)

joined-first : (h t m n : ℕ) → 10 ^ m ≤ 10 * h → 10 ^ (m + n) ≤ 10 * (h * 10 ^ n + t)
joined-first h t m n le =
    let p : 10 ^ m * 10 ^ n ≤ 10 * h * 10 ^ n = mul-le-mul_right (10 ^ n) le in
    omega (arith, p, pow-add 10 m n)

joined-fits : (h t m n : ℕ) → h < 10 ^ m → t < 10 ^ n → h * 10 ^ n + t < 10 ^ (m + n)
joined-fits h t m n k l =
    let p : (h + 1) * 10 ^ n ≤ 10 ^ m * 10 ^ n = mul-le-mul_right (10 ^ n) (omega arith) in
    omega (arith, p, pow-add 10 m n)

pub number-lt : (hs ts : List ℕ) → list_all is_ascii_digit hs ≡ true → list_all is_ascii_digit ts ≡ true → number_of hs ts < 10 ^ (length hs + length ts)
number-lt hs ts h t = joined-fits (value_of hs) (value_of ts) (length hs) (length ts) (value-lt hs h) (value-lt ts t)

joined-last : (h t n : ℕ) → 0 < n → t % 10 ≢ 0 → (h * 10 ^ n + t) % 10 ≢ 0
joined-last h t zero pos ne z = absurd (omega arith)
joined-last h t (suc n) pos ne z = ne (let p : h * 10 ^ suc n ≡ h * (10 ^ n * 10) = ap (λ k. h * k) (pow-suc 10 n) in omega (arith, p))

pub joined-significand : (hs ts : List ℕ) → list_all is_ascii_digit hs ≡ true → list_all is_ascii_digit ts ≡ true → 0 < length ts → 10 ^ length hs ≤ 10 * value_of hs → value_of ts % 10 ≢ 0
    → IsSignificand (number_of hs ts) (length hs + length ts)
joined-significand hs ts h t some first last = record {
  first = joined-first (value_of hs) (value_of ts) (length hs) (length ts) first;
  fits = joined-fits (value_of hs) (value_of ts) (length hs) (length ts) (value-lt hs h) (value-lt ts t);
  last = joined-last (value_of hs) (value_of ts) (length ts) some last;
}

pub strip-both : (whole fraction head tail : List ℕ) → IsFrontTrimmed whole head → IsBackTrimmed fraction tail → 0 < length tail → 0 < length head
    → IsStripped whole fraction head tail (length fraction - length tail)
strip-both whole fraction head tail h t some more =
    record {
      value = strip-both-value (value_of whole) (value_of fraction) (value_of head) (value_of tail) (length fraction) (length tail) t.shorter h.value t.value;
      head_digits = h.all;
      tail_digits = t.all;
      significand = λ other. joined-significand head tail h.all t.all some (h.first more) (t.last some);
      few = omega arith;
    }
