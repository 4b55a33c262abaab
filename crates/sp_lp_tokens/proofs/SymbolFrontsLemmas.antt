-- The longest front that is a symbol, from the bytes that a text begins with.
use Rattle.std.proofs.Common.{◌≡◌, ℕ, ◌-◌, suc, zero, ◌<◌, ◌≤◌, Bool, true, false, ◌||◌, List, [], ◌∷◌, length, take, drop, get_or, refl, arith}
use Rattle.std.specs.List.{list_any}
use Rattle.std.specs.Option.{IfSome, IfNone}
use Rattle.std.specs.Prelude.{if◌then◌else◌, ◌==◌, Option, Some, None}
use Rattle.std.proofs.Common.{subst, sym, ap, ◌∙◌}
use Rattle.std.proofs.lemmas.List.{take_rest}
use Rattle.std.proofs.lemmas.Bool.{eqb-true, false≢true, or_parts}
use Rattle.sp_lp_tokens.specs.declared.symbols.Symbol.{Symbol}
use Rattle.sp_lp_tokens.specs.declared.symbols.Symbol.TheVariants.{Plus, Minus, Colon, DoubleColon, Less, LessEqual, EqualLess, Greater, GreaterEqual, EqualGreater, Equal, Arrow, DoubleArrow, LeftBracket, RightBracket, Star, Caret, Slash}
use Rattle.sp_lp_tokens.specs.InnerSymbolHeads.{begins_with, begins_with_arrow, less_symbol, equal_symbol, symbol_from}
use Rattle.sp_lp_tokens.specs.Longest.{IsLongest}
use Rattle.sp_lp_tokens.specs.Texts.{is_symbol, spelling}

-- one byte, which no second one makes longer
pub one_byte : (a : ℕ) (rest : List ℕ) → is_symbol (a ∷ []) ≡ true → ((c : ℕ) (left : List ℕ) (j : ℕ) → rest ≡ c ∷ left → is_symbol (a ∷ c ∷ take j left) ≡ false) → IsLongest is_symbol (a ∷ rest) 1
one_byte a rest y n = record {
  within = omega arith;
  passes = λ l. y;
  longest = λ k l w. longer rest k n l w;
} where
  longer : (rest : List ℕ) (k : ℕ) → ((c : ℕ) (left : List ℕ) (j : ℕ) → rest ≡ c ∷ left → is_symbol (a ∷ c ∷ take j left) ≡ false) → 1 < k → k ≤ length (a ∷ rest) → is_symbol (take k (a ∷ rest)) ≡ false
  longer rest zero n l w = absurd (omega arith)
  longer rest (suc zero) n l w = absurd (omega arith)
  longer [] (suc (suc k)) n l w = absurd (omega arith)
  longer (c ∷ left) (suc (suc k)) n l w = n c left k refl

pub two_bytes : (a b : ℕ) (rest : List ℕ) → is_symbol (a ∷ b ∷ []) ≡ true → ((c : ℕ) (more : List ℕ) → is_symbol (a ∷ b ∷ c ∷ more) ≡ false) → IsLongest is_symbol (a ∷ b ∷ rest) 2
two_bytes a b rest y n = record {
  within = omega arith;
  passes = λ l. y;
  longest = λ k l w. longer rest k l w;
} where
  longer : (rest : List ℕ) (k : ℕ) → 2 < k → k ≤ length (a ∷ b ∷ rest) → is_symbol (take k (a ∷ b ∷ rest)) ≡ false
  longer rest zero l w = absurd (omega arith)
  longer rest (suc zero) l w = absurd (omega arith)
  longer rest (suc (suc zero)) l w = absurd (omega arith)
  longer [] (suc (suc (suc k))) l w = absurd (omega arith)
  longer (c ∷ left) (suc (suc (suc k))) l w = n c (take k left)

pub three_bytes : (a b d : ℕ) (rest : List ℕ) → is_symbol (a ∷ b ∷ d ∷ []) ≡ true → ((c : ℕ) (more : List ℕ) → is_symbol (a ∷ b ∷ d ∷ c ∷ more) ≡ false) → IsLongest is_symbol (a ∷ b ∷ d ∷ rest) 3
three_bytes a b d rest y n = record {
  within = omega arith;
  passes = λ l. y;
  longest = λ k l w. longer rest k l w;
} where
  longer : (rest : List ℕ) (k : ℕ) → 3 < k → k ≤ length (a ∷ b ∷ d ∷ rest) → is_symbol (take k (a ∷ b ∷ d ∷ rest)) ≡ false
  longer rest zero l w = absurd (omega arith)
  longer rest (suc zero) l w = absurd (omega arith)
  longer rest (suc (suc zero)) l w = absurd (omega arith)
  longer rest (suc (suc (suc zero))) l w = absurd (omega arith)
  longer [] (suc (suc (suc (suc k)))) l w = absurd (omega arith)
  longer (c ∷ left) (suc (suc (suc (suc k)))) l w = n c (take k left)

-- the symbol is the longest that the text begins with, or the text begins with none
abbrev pub IsHeadSymbol : List ℕ → Option Symbol → Type 0
IsHeadSymbol bytes None = IsLongest is_symbol bytes 0
IsHeadSymbol bytes (Some s) = (take (length (spelling s)) bytes ≡ spelling s) × IsLongest is_symbol bytes (length (spelling s))

pick : {A : Type 0} (P : A → Type 0) (b : Bool) (x y : A) → (b ≡ true → P x) → (b ≡ false → P y) → P (if b then x else y)
pick P true x y f g = f refl
pick P false x y f g = g refl

at : (P : ℕ → Type 0) (a b : ℕ) → P a → (b == a) ≡ true → P b
at P a b h e = subst P (sym (eqb-true b a e)) h

-- the text begins with the byte, or its first byte is another
with : (P : List ℕ → Type 0) (text : List ℕ) (a : ℕ) → ((rest : List ℕ) → P (a ∷ rest)) → begins_with text a ≡ true → P text
with P [] a h e = absurd (false≢true e)
with P (b ∷ rest) a h e = at (λ v. P (v ∷ rest)) a b (h rest) e

single : (a : ℕ) (rest : List ℕ) (s : Symbol) → spelling s ≡ a ∷ [] → is_symbol (a ∷ []) ≡ true → ((c : ℕ) (left : List ℕ) (j : ℕ) → rest ≡ c ∷ left → is_symbol (a ∷ c ∷ take j left) ≡ false) → IsHeadSymbol (a ∷ rest) (Some s)
single a rest s q y n = rw q (refl, one_byte a rest y n)

double : (a b : ℕ) (rest : List ℕ) (s : Symbol) → spelling s ≡ a ∷ b ∷ [] → is_symbol (a ∷ b ∷ []) ≡ true → ((c : ℕ) (more : List ℕ) → is_symbol (a ∷ b ∷ c ∷ more) ≡ false) → IsHeadSymbol (a ∷ b ∷ rest) (Some s)
double a b rest s q y n = rw q (refl, two_bytes a b rest y n)

apart : (rest : List ℕ) (a c : ℕ) (left : List ℕ) → begins_with rest a ≡ false → rest ≡ c ∷ left → (c == a) ≡ false
apart rest a c left n e = sym (ap (λ v. begins_with v a) e) ∙ n

minus_head : (rest : List ℕ) → IsHeadSymbol (45 ∷ rest) (Some (if begins_with rest 62 then Arrow else Minus))
minus_head rest =
    pick (λ s. IsHeadSymbol (45 ∷ rest) (Some s)) (begins_with rest 62) Arrow Minus
    (λ e. with (λ v. IsHeadSymbol (45 ∷ v) (Some Arrow)) rest 62 (λ v. double 45 62 v Arrow refl refl (λ c more. refl)) e)
    (λ n. single 45 rest Minus refl refl (λ c left j q. rw (apart rest 62 c left n q) refl))

colon_head : (rest : List ℕ) → IsHeadSymbol (58 ∷ rest) (Some (if begins_with rest 58 then DoubleColon else Colon))
colon_head rest =
    pick (λ s. IsHeadSymbol (58 ∷ rest) (Some s)) (begins_with rest 58) DoubleColon Colon
    (λ e. with (λ v. IsHeadSymbol (58 ∷ v) (Some DoubleColon)) rest 58 (λ v. double 58 58 v DoubleColon refl refl (λ c more. refl)) e)
    (λ n. single 58 rest Colon refl refl (λ c left j q. rw (apart rest 58 c left n q) refl))

greater_head : (rest : List ℕ) → IsHeadSymbol (62 ∷ rest) (Some (if begins_with rest 61 then GreaterEqual else Greater))
greater_head rest =
    pick (λ s. IsHeadSymbol (62 ∷ rest) (Some s)) (begins_with rest 61) GreaterEqual Greater
    (λ e. with (λ v. IsHeadSymbol (62 ∷ v) (Some GreaterEqual)) rest 61 (λ v. double 62 61 v GreaterEqual refl refl (λ c more. refl)) e)
    (λ n. single 62 rest Greater refl refl (λ c left j q. rw (apart rest 61 c left n q) refl))

equal_head : (rest : List ℕ) → IsHeadSymbol (61 ∷ rest) (Some (equal_symbol rest))
equal_head rest =
    let P : Symbol → Type 0 = λ s. IsHeadSymbol (61 ∷ rest) (Some s) in
    pick P (begins_with rest 60) EqualLess _
    (λ e. with (λ v. IsHeadSymbol (61 ∷ v) (Some EqualLess)) rest 60 (λ v. double 61 60 v EqualLess refl refl (λ c more. refl)) e)
    (λ m. pick P (begins_with rest 62) EqualGreater Equal
    (λ e. with (λ v. IsHeadSymbol (61 ∷ v) (Some EqualGreater)) rest 62 (λ v. double 61 62 v EqualGreater refl refl (λ c more. refl)) e)
    (λ n. single 61 rest Equal refl refl (λ c left j q. rw (apart rest 60 c left m q, apart rest 62 c left n q) refl)))

with_arrow : (P : List ℕ → Type 0) (text : List ℕ) → ((rest : List ℕ) → P (45 ∷ 62 ∷ rest)) → begins_with_arrow text ≡ true → P text
with_arrow P [] h e = absurd (false≢true e)
with_arrow P (b ∷ rest) h e = by (b == 45) refl e where
  by : (x : Bool) → (b == 45) ≡ x → (if x then begins_with rest 62 else false) ≡ true → P (b ∷ rest)
  by true y g = at (λ v. P (v ∷ rest)) 45 b (with (λ v. P (45 ∷ v)) rest 62 h g) y
  by false y g = absurd (false≢true g)

-- behind `<-` no greater sign, or behind `<` neither `=` nor `->`
less_minus_only : (left : List ℕ) (j : ℕ) → begins_with left 62 ≡ false → is_symbol (60 ∷ 45 ∷ take j left) ≡ false
less_minus_only left zero h = refl
less_minus_only [] (suc j) h = refl
less_minus_only (d ∷ left) (suc j) h = rw h refl

less_only : (c : ℕ) (left : List ℕ) (j : ℕ) → (c == 61) ≡ false → begins_with_arrow (c ∷ left) ≡ false → is_symbol (60 ∷ c ∷ take j left) ≡ false
less_only c left j m h = by (c == 45) refl where
  by : (x : Bool) → (c == 45) ≡ x → is_symbol (60 ∷ c ∷ take j left) ≡ false
  by true y = at (λ v. begins_with_arrow (v ∷ left) ≡ false → is_symbol (60 ∷ v ∷ take j left) ≡ false) 45 c (less_minus_only left j) y h
  by false y = rw (m, y) refl

less_head : (rest : List ℕ) → IsHeadSymbol (60 ∷ rest) (Some (less_symbol rest))
less_head rest =
    let P : Symbol → Type 0 = λ s. IsHeadSymbol (60 ∷ rest) (Some s) in
    pick P (begins_with rest 61) LessEqual _
    (λ e. with (λ v. IsHeadSymbol (60 ∷ v) (Some LessEqual)) rest 61 (λ v. double 60 61 v LessEqual refl refl (λ c more. refl)) e)
    (λ m. pick P (begins_with_arrow rest) DoubleArrow Less
    (λ e. with_arrow (λ v. IsHeadSymbol (60 ∷ v) (Some DoubleArrow)) rest (λ v. (refl, three_bytes 60 45 62 v refl (λ c more. refl))) e)
    (λ n. single 60 rest Less refl refl (λ c left j q. less_only c left j (apart rest 61 c left m q) (sym (ap begins_with_arrow q) ∙ n))))

no_head : (b : ℕ) (rest : List ℕ) → ((more : List ℕ) → is_symbol (b ∷ more) ≡ false) → IsHeadSymbol (b ∷ rest) None
no_head b rest n = record {
  within = omega arith;
  passes = λ l. absurd (omega arith);
  longest = λ k l w. longer k l;
} where
  longer : (k : ℕ) → 0 < k → is_symbol (take k (b ∷ rest)) ≡ false
  longer zero l = absurd (omega arith)
  longer (suc k) l = n (take k rest)

pub symbol_head : (first : ℕ) (rest : List ℕ) → IsHeadSymbol (first ∷ rest) (symbol_from first rest)
unfolding symbol_from
symbol_head first rest =
    let P : Option Symbol → Type 0 = IsHeadSymbol (first ∷ rest) in
    pick P (first == 43) (Some Plus) _ (at (λ v. IsHeadSymbol (v ∷ rest) (Some Plus)) 43 first (single 43 rest Plus refl refl (λ c left j q. refl))) (λ e1.
    pick P (first == 45) (Some (if begins_with rest 62 then Arrow else Minus)) _ (at (λ v. IsHeadSymbol (v ∷ rest) (Some (if begins_with rest 62 then Arrow else Minus))) 45 first (minus_head rest)) (λ e2.
    pick P (first == 58) (Some (if begins_with rest 58 then DoubleColon else Colon)) _ (at (λ v. IsHeadSymbol (v ∷ rest) (Some (if begins_with rest 58 then DoubleColon else Colon))) 58 first (colon_head rest)) (λ e3.
    pick P (first == 60) (Some (less_symbol rest)) _ (at (λ v. IsHeadSymbol (v ∷ rest) (Some (less_symbol rest))) 60 first (less_head rest)) (λ e4.
    pick P (first == 61) (Some (equal_symbol rest)) _ (at (λ v. IsHeadSymbol (v ∷ rest) (Some (equal_symbol rest))) 61 first (equal_head rest)) (λ e5.
    pick P (first == 62) (Some (if begins_with rest 61 then GreaterEqual else Greater)) _ (at (λ v. IsHeadSymbol (v ∷ rest) (Some (if begins_with rest 61 then GreaterEqual else Greater))) 62 first (greater_head rest)) (λ e6.
    pick P (first == 91) (Some LeftBracket) _ (at (λ v. IsHeadSymbol (v ∷ rest) (Some LeftBracket)) 91 first (single 91 rest LeftBracket refl refl (λ c left j q. refl))) (λ e7.
    pick P (first == 93) (Some RightBracket) _ (at (λ v. IsHeadSymbol (v ∷ rest) (Some RightBracket)) 93 first (single 93 rest RightBracket refl refl (λ c left j q. refl))) (λ e8.
    pick P (first == 42) (Some Star) _ (at (λ v. IsHeadSymbol (v ∷ rest) (Some Star)) 42 first (single 42 rest Star refl refl (λ c left j q. refl))) (λ e9.
    pick P (first == 94) (Some Caret) _ (at (λ v. IsHeadSymbol (v ∷ rest) (Some Caret)) 94 first (single 94 rest Caret refl refl (λ c left j q. refl))) (λ e10.
    pick P (first == 47) (Some Slash) None (at (λ v. IsHeadSymbol (v ∷ rest) (Some Slash)) 47 first (single 47 rest Slash refl refl (λ c left j q. refl))) (λ e11.
    no_head first rest (λ more. rw (e1, e2, e3, e4, e5, e6, e7, e8, e9, e10, e11) refl))))))))))))

pub symbol_found : (bytes : List ℕ) (r : Option Symbol) → 1 ≤ length bytes → r ≡ symbol_from (get_or bytes 0 0) (take (length bytes - 1) (drop 1 bytes)) → IsHeadSymbol bytes r
symbol_found [] r l e = absurd (omega arith)
symbol_found (b ∷ rest) r l e =
    let all : take (length (b ∷ rest) - 1) rest ≡ rest = take_rest (b ∷ rest) 1 in
    subst (IsHeadSymbol (b ∷ rest)) (sym (e ∙ ap (symbol_from b) all)) (symbol_head b rest)

-- the same, clause by clause
pub head_none : (bytes : List ℕ) (r : Option Symbol) → IsHeadSymbol bytes r → IfNone r (IsLongest is_symbol bytes 0)
head_none bytes None h = h
head_none bytes (Some s) h = tt

pub head_spelled : (bytes : List ℕ) (r : Option Symbol) → IsHeadSymbol bytes r → IfSome r (λ s. take (length (spelling s)) bytes ≡ spelling s)
head_spelled bytes None h = tt
head_spelled bytes (Some s) h = h.0

pub head_longest : (bytes : List ℕ) (r : Option Symbol) → IsHeadSymbol bytes r → IfSome r (λ s. IsLongest is_symbol bytes (length (spelling s)))
head_longest bytes None h = tt
head_longest bytes (Some s) h = h.1

-- the first bytes of symbols
abbrev pub begins_symbol : ℕ → Bool
begins_symbol b = list_any (λ first. b == first) (43 ∷ 45 ∷ 58 ∷ 60 ∷ 61 ∷ 62 ∷ 91 ∷ 93 ∷ 42 ∷ 94 ∷ 47 ∷ [])

none_of : (b a : ℕ) (more : Bool) → ((b == a) || more) ≡ false → ((b == a) ≡ false) × (more ≡ false)
none_of b a more h = or_parts (b == a) more h

-- no symbol begins with another byte
pub no_symbol_from : (b : ℕ) (more : List ℕ) → begins_symbol b ≡ false → is_symbol (b ∷ more) ≡ false
no_symbol_from b more h =
    let h1 = none_of b 43 _ h in
    let h2 = none_of b 45 _ h1.1 in
    let h3 = none_of b 58 _ h2.1 in
    let h4 = none_of b 60 _ h3.1 in
    let h5 = none_of b 61 _ h4.1 in
    let h6 = none_of b 62 _ h5.1 in
    let h7 = none_of b 91 _ h6.1 in
    let h8 = none_of b 93 _ h7.1 in
    let h9 = none_of b 42 _ h8.1 in
    let h10 = none_of b 94 _ h9.1 in
    let h11 = none_of b 47 _ h10.1 in
    rw (h1.0, h2.0, h3.0, h4.0, h5.0, h6.0, h7.0, h8.0, h9.0, h10.0, h11.0) refl
