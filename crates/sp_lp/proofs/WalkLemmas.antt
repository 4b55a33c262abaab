-- One more token.
use Rattle.std.proofs.lemmas.List.{take_more}
use Rattle.std.proofs.lemmas.Bool.Decides.{nat_tests}
use Rattle.std.proofs.Common.{get_or, zero, ◌≡◌, ℕ, suc, ◌+◌, ◌<◌, Bool, true, false, ◌==◌, List, [], ◌∷◌, ◌++◌, length, take, Option, Some, None, refl, ap, sym, ◌∙◌, arith}
use Rattle.std.specs.Prelude.{option_and_then}
use Rattle.sp_lp_tokens.specs.declared.token_types.Token.{Token}
use Rattle.sp_lp_tokens.specs.SeenTokens.{SeenToken, seen, all_seen}
use Rattle.sp_lp_tokens.specs.Rests.{whole, AreLeft}
use Rattle.sp_lp_tokens.specs.Tokens.{AreTokens, Complete}
use Rattle.std.proofs.Common.{add-one}
use Rattle.std.proofs.lemmas.List.{length-map}
use Rattle.sp_lp.specs.Walks.{IsStop}
use Rattle.sp_lp_grammar.specs.Lexemes.{mark_of}
use Rattle.sp_lp_grammar.specs.InnerCursor.{Cursor, origin, take_mark, walk, first_behind, line_behind}

-- what the law on joined lists says
abbrev pub Joins : Type 0
Joins = (a b : List SeenToken) (c : Cursor) → walk true 0 origin a ≡ Some c → walk true 0 origin (a ++ b) ≡ walk (first_behind true a) (line_behind 0 a) c b

one_walk : (line : ℕ) (o : Option Cursor) → option_and_then (λ n. walk false line n []) o ≡ o
unfolding walk
one_walk line None = refl
one_walk line (Some c) = refl

walk_one : (first : Bool) (before : ℕ) (c : Cursor) (t : SeenToken) → walk first before c (t ∷ []) ≡ take_mark c (mark_of first before t)
unfolding walk
walk_one first before c t = one_walk t.line (take_mark c (mark_of first before t))

pub pushed : Joins → (a : List SeenToken) (t : SeenToken) (c : Cursor) (first : Bool) (before : ℕ) → walk true 0 origin a ≡ Some c → first_behind true a ≡ first → line_behind 0 a ≡ before
    → walk true 0 origin (a ++ t ∷ []) ≡ take_mark c (mark_of first before t)
pushed joins a t c first before e f g = joins a (t ∷ []) c e ∙ rw (f, g) (walk_one first before c t)

pub first_pushed : (a : List SeenToken) (t : SeenToken) → first_behind true (a ++ t ∷ []) ≡ false
first_pushed [] t = refl
first_pushed (u ∷ us) t = refl

pub line_pushed : (a : List SeenToken) (t : SeenToken) (before : ℕ) → line_behind before (a ++ t ∷ []) ≡ t.line
line_pushed [] t before = refl
line_pushed (u ∷ us) t before = line_pushed us t u.line

map_pushed : (source : List ℕ) (ts : List Token) (t : Token) → all_seen source (ts ++ t ∷ []) ≡ all_seen source ts ++ seen source t ∷ []
map_pushed source [] t = refl
map_pushed source (u ∷ us) t = ap (λ v. seen source u ∷ v) (map_pushed source us t)

pub seen_take : (source : List ℕ) (ts : List Token) (i : ℕ) → take i (all_seen source ts) ≡ all_seen source (take i ts)
seen_take source ts zero = refl
seen_take source [] (suc i) = refl
seen_take source (t ∷ ts) (suc i) = ap (λ v. seen source t ∷ v) (seen_take source ts i)

pub seen_more : (source : List ℕ) (ts : List Token) (i : ℕ) (t : Token) → i < length ts → t ≡ get_or ts i t → all_seen source (take (i + 1) ts) ≡ all_seen source (take i ts) ++ seen source t ∷ []
seen_more source ts i t lt e = ap (all_seen source) (take_more ts i t lt ∙ ap (λ x. take i ts ++ x ∷ []) (sym e)) ∙ map_pushed source (take i ts) t

no_zero : (i : ℕ) → false ≡ (i + 1 == 0)
no_zero i = grind (arith, nat_tests)

-- one more token is read
pub read_more : Joins → (source : List ℕ) (ts : List Token) (i : ℕ) (t : Token) (c : Cursor) (first : Bool) (before : ℕ) → i < length ts → t ≡ get_or ts i t
    → walk true 0 origin (all_seen source (take i ts)) ≡ Some c → first_behind true (all_seen source (take i ts)) ≡ first → line_behind 0 (all_seen source (take i ts)) ≡ before
    → walk true 0 origin (all_seen source (take (i + 1) ts)) ≡ take_mark c (mark_of first before (seen source t))
read_more joins source ts i t c first before lt at e f g =
    ap (walk true 0 origin) (seen_more source ts i t lt at) ∙ pushed joins (all_seen source (take i ts)) (seen source t) c first before e f g

pub first_more : (source : List ℕ) (ts : List Token) (i : ℕ) (t : Token) → i < length ts → t ≡ get_or ts i t → first_behind true (all_seen source (take (i + 1) ts)) ≡ (i + 1 == 0)
first_more source ts i t lt at = ap (first_behind true) (seen_more source ts i t lt at) ∙ (first_pushed (all_seen source (take i ts)) (seen source t) ∙ no_zero i)

pub line_more : (source : List ℕ) (ts : List Token) (i : ℕ) (t : Token) → i < length ts → t ≡ get_or ts i t → line_behind 0 (all_seen source (take (i + 1) ts)) ≡ t.line
line_more source ts i t lt at = ap (line_behind 0) (seen_more source ts i t lt at) ∙ line_pushed (all_seen source (take i ts)) (seen source t) 0

pub nothing_read : walk true 0 origin [] ≡ Some origin
unfolding walk
nothing_read = refl

-- where the next token can't stand
pub is_stop : (source : List ℕ) (ts : List Token) (i : ℕ) (c : Cursor) → i < length ts → walk true 0 origin (all_seen source (take i ts)) ≡ Some c → walk true 0 origin (all_seen source (take (i + 1) ts)) ≡ None → IsStop (all_seen source ts) i
is_stop source ts i c lt e f = record {
  within = rw (length-map ts (seen source)) lt;
  cursor = c;
  before = ap (walk true 0 origin) (seen_take source ts i) ∙ e;
  through = rw (← add-one i) (ap (walk true 0 origin) (seen_take source ts (i + 1)) ∙ f);
}

-- with no token left, the reader stands where it stands
pub walk_none : (first : Bool) (before : ℕ) (c : Cursor) → walk first before c [] ≡ Some c
unfolding walk
walk_none first before c = refl

-- a token, and those behind it
pub walk_on : (first : Bool) (before : ℕ) (c n : Cursor) (t : SeenToken) (ts : List SeenToken) → take_mark c (mark_of first before t) ≡ Some n → walk first before c (t ∷ ts) ≡ walk false t.line n ts
unfolding walk
walk_on first before c n t ts e = rw e refl

-- all tokens of a file are left before the first one is taken
pub whole_left : (source : List ℕ) (ts : List Token) → AreLeft source whole ts Complete → AreTokens source ts
unfolding AreLeft
whole_left source ts h = h
