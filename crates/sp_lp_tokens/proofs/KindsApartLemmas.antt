-- No text is of two kinds, so the longest token is the longest of its kind.
use Rattle.std.proofs.Common.{◌≡◌, ℕ, suc, zero, ◌<◌, ◌≤◌, Bool, true, false, not, ◌||◌, List, [], ◌∷◌, length, take, refl, sym, subst, ◌∙◌, ⊎_elim, arith}
use Rattle.std.specs.Prelude.{◌==◌}
use Rattle.std.specs.List.{list_all, list_any}
use Rattle.std.specs.Char.{is_ascii_digit}
use Rattle.std.proofs.lemmas.Bool.{false≢true, eqb-true, and_parts, or_cases, not-true, cases_Bool, false_from_ne_true}
use Rattle.sp_decimal.specs.Grammar.{is_point}
use Rattle.sp_lp_tokens.specs.Longest.{IsLongest}
use Rattle.sp_lp_tokens.specs.Texts.{begins_name, is_name_byte, is_name, is_number, is_symbol, is_token_text}
use Rattle.sp_lp_tokens.proofs.LongestLemmas.{NoFront, longest_first, longest_second, longest_third}
use Rattle.sp_lp_tokens.proofs.NumeralLeftLemmas.{no_number_from}
use Rattle.sp_lp_tokens.proofs.SymbolFrontsLemmas.{begins_symbol, no_symbol_from}

-- a digit or a full stop
abbrev pub begins_number : ℕ → Bool
begins_number b = is_ascii_digit b || is_point b

not_both : (x : Bool) → x ≡ false → x ≡ true → ⊥
not_both x f t = false≢true (sym f ∙ t)

-- what holds of each of some bytes holds of one of them
one_of : (test : ℕ → Bool) (b : ℕ) (xs : List ℕ) → list_any (λ x. b == x) xs ≡ true → list_all test xs ≡ true → test b ≡ true
one_of test b [] h a = absurd (false≢true h)
one_of test b (x ∷ xs) h a =
    let each = and_parts (test x) (list_all test xs) a in
    ⊎_elim (λ e. subst (λ v. test v ≡ true) (sym (eqb-true b x e)) each.0) (λ e. one_of test b xs e each.1) (or_cases (b == x) (list_any (λ x. b == x) xs) h)

-- a first byte tells the kind
symbol_no_name : (b : ℕ) → begins_symbol b ≡ true → begins_name b ≡ false
symbol_no_name b h = not-true (begins_name b) (one_of (λ v. not (begins_name v)) b (43 ∷ 45 ∷ 58 ∷ 60 ∷ 61 ∷ 62 ∷ 91 ∷ 93 ∷ 42 ∷ 94 ∷ 47 ∷ []) h refl)

symbol_no_number : (b : ℕ) → begins_symbol b ≡ true → begins_number b ≡ false
symbol_no_number b h = not-true (begins_number b) (one_of (λ v. not (begins_number v)) b (43 ∷ 45 ∷ 58 ∷ 60 ∷ 61 ∷ 62 ∷ 91 ∷ 93 ∷ 42 ∷ 94 ∷ 47 ∷ []) h refl)

name_no_number : (b : ℕ) → begins_name b ≡ true → begins_number b ≡ false
name_no_number b h = not-true (begins_number b) ((and_parts (is_name_byte b) (not (begins_number b)) h).1)

name_no_symbol : (b : ℕ) → begins_name b ≡ true → begins_symbol b ≡ false
name_no_symbol b h = false_from_ne_true (begins_symbol b) (λ e. not_both (begins_name b) (symbol_no_name b e) h)

number_no_name : (b : ℕ) → begins_number b ≡ true → begins_name b ≡ false
number_no_name b h = false_from_ne_true (begins_name b) (λ e. not_both (begins_number b) (name_no_number b e) h)

number_no_symbol : (b : ℕ) → begins_number b ≡ true → begins_symbol b ≡ false
number_no_symbol b h = false_from_ne_true (begins_symbol b) (λ e. not_both (begins_number b) (symbol_no_number b e) h)

-- which first byte each kind has
pub name_begins : (b : ℕ) (more : List ℕ) → is_name (b ∷ more) ≡ true → begins_name b ≡ true
name_begins b more h = (and_parts (begins_name b) (list_all is_name_byte more) h).0

pub number_begins : (b : ℕ) (more : List ℕ) → is_number (b ∷ more) ≡ true → begins_number b ≡ true
number_begins b more h = ⊎_elim (λ e. e) (λ e. absurd (not_both (is_number (b ∷ more)) (no_number_from b more e) h)) (cases_Bool (begins_number b))

pub symbol_begins : (b : ℕ) (more : List ℕ) → is_symbol (b ∷ more) ≡ true → begins_symbol b ≡ true
symbol_begins b more h = ⊎_elim (λ e. e) (λ e. absurd (not_both (is_symbol (b ∷ more)) (no_symbol_from b more e) h)) (cases_Bool (begins_symbol b))

no_name_from : (b : ℕ) (more : List ℕ) → begins_name b ≡ false → is_name (b ∷ more) ≡ false
no_name_from b more e = rw e refl

-- no text is of two kinds
pub name_is_no_number : (text : List ℕ) → is_name text ≡ true → is_number text ≡ false
name_is_no_number [] h = absurd (false≢true h)
name_is_no_number (b ∷ more) h = no_number_from b more (name_no_number b (name_begins b more h))

pub name_is_no_symbol : (text : List ℕ) → is_name text ≡ true → is_symbol text ≡ false
name_is_no_symbol [] h = absurd (false≢true h)
name_is_no_symbol (b ∷ more) h = no_symbol_from b more (name_no_symbol b (name_begins b more h))

pub number_is_no_symbol : (text : List ℕ) → is_number text ≡ true → is_symbol text ≡ false
number_is_no_symbol [] h = refl
number_is_no_symbol (b ∷ more) h = no_symbol_from b more (number_no_symbol b (number_begins b more h))

-- what no text from a byte on is, no front of such a text is
from_first : (test : List ℕ → Bool) (b : ℕ) (rest : List ℕ) → ((more : List ℕ) → test (b ∷ more) ≡ false) → NoFront test (b ∷ rest)
from_first test b rest n zero l w = absurd (omega arith)
from_first test b rest n (suc k) l w = n (take k rest)

-- a longest front that isn't empty passes, and begins as the text does
begins : (test : List ℕ → Bool) (first : ℕ → Bool) → ((b : ℕ) (more : List ℕ) → test (b ∷ more) ≡ true → first b ≡ true) → (b : ℕ) (rest : List ℕ) (n : ℕ) → IsLongest test (b ∷ rest) n → 0 < n → first b ≡ true
begins test first f b rest zero h l = absurd (omega arith)
begins test first f b rest (suc n) h l = f b (take n rest) (h.passes l)

nothing : {A : Type 0} (test : List ℕ → Bool) (n : ℕ) → IsLongest test [] n → 0 < n → A
nothing test n h l = let w : n ≤ length {A = ℕ} [] = h.within in absurd (omega arith)

-- the longest name is the longest token, and so for the other kinds
pub longest_name : (bytes : List ℕ) (n : ℕ) → IsLongest is_name bytes n → 0 < n → IsLongest is_token_text bytes n
longest_name [] n h l = nothing is_name n h l
longest_name (b ∷ rest) n h l =
    let e : begins_name b ≡ true = begins is_name begins_name name_begins b rest n h l in
    longest_first is_name is_number is_symbol (b ∷ rest) n h
    (from_first is_number b rest (λ more. no_number_from b more (name_no_number b e)))
    (from_first is_symbol b rest (λ more. no_symbol_from b more (name_no_symbol b e)))

pub longest_number : (bytes : List ℕ) (n : ℕ) → IsLongest is_number bytes n → 0 < n → IsLongest is_token_text bytes n
longest_number [] n h l = nothing is_number n h l
longest_number (b ∷ rest) n h l =
    let e : begins_number b ≡ true = begins is_number begins_number number_begins b rest n h l in
    longest_second is_name is_number is_symbol (b ∷ rest) n h
    (from_first is_name b rest (λ more. no_name_from b more (number_no_name b e)))
    (from_first is_symbol b rest (λ more. no_symbol_from b more (number_no_symbol b e)))

pub longest_symbol : (bytes : List ℕ) (n : ℕ) → IsLongest is_symbol bytes n → 0 < n → IsLongest is_token_text bytes n
longest_symbol [] n h l = nothing is_symbol n h l
longest_symbol (b ∷ rest) n h l =
    let e : begins_symbol b ≡ true = begins is_symbol begins_symbol symbol_begins b rest n h l in
    longest_third is_name is_number is_symbol (b ∷ rest) n h
    (from_first is_name b rest (λ more. no_name_from b more (symbol_no_name b e)))
    (from_first is_number b rest (λ more. no_number_from b more (symbol_no_number b e)))

-- where no front is of any kind, none is a token
pub no_token : (bytes : List ℕ) → IsLongest is_name bytes 0 → IsLongest is_number bytes 0 → IsLongest is_symbol bytes 0 → IsLongest is_token_text bytes 0
no_token bytes a b c = longest_first is_name is_number is_symbol bytes 0 a b.longest c.longest
