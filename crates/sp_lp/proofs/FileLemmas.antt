-- Each file has one answer.
use Rattle.std.proofs.Common.{IfOk, IfErr, true, false, Bool, ◌≡◌, ℕ, suc, ◌<◌, List, [], ◌∷◌, length, take, Option, Some, None, refl, ap, sym, ◌∙◌, subst, arith, ◌⊎◌, inl, inr, Result, Ok, Err}
use Rattle.std.specs.Prelude.{option_and_then}
use Rattle.sp_draft.specs.declared.drafts.Draft.{Draft}
use Rattle.sp_draft.specs.declared.read_refusals.ReadRefusal.{ReadRefusal}
use Rattle.sp_draft.specs.declared.read_refusals.ReadRefusal.TheVariants as refusals
use Rattle.sp_lp_tokens.specs.declared.token_types.Token.{Token}
use Rattle.sp_lp_tokens.specs.declared.token_types.TokenKindFault.{TokenKindFault}
use Rattle.sp_lp_tokens.specs.Tokens.{AreTokens, Ending, Complete, Faulty, TokensFrom, IsFirstFault}
use Rattle.sp_lp_tokens.specs.SeenTokens.{SeenToken, all_seen}
use Rattle.sp_lp_grammar.specs.Lexemes.{mark_of}
use Rattle.sp_lp_grammar.specs.Reads.{Lp, LpOf, IsFaultPlace}
use Rattle.sp_lp_grammar.specs.InnerCursor.{Cursor, origin, take_mark, walk, ended_at}
use Rattle.sp_lp.specs.Refusals.{IsRefusalAt, IsListRefusal, refusal_of, IsRefused}
use Rattle.sp_lp.specs.InnerKinds.{fault_kind}
use Rattle.sp_lp.specs.InnerAnswers.{refusal_by}
use Rattle.sp_lp.specs.Walks.{outcome_at}
use Rattle.sp_lp.proofs.KindLemmas.{one_refusal}
use Rattle.sp_lp.proofs.OtherLemmas.{turn, stopped, nothing_left}
use Rattle.sp_lp.proofs.PlaceLemmas.{Laws, OneList, not_both, stop_place, end_place, list_refusal}

-- what the laws on drafts and on places of faults say
pub record OneEach : Type 0 where
  pub lists : OneList
  pub draft : (ts : List SeenToken) (d e : Draft) → Lp ts d → Lp ts e → d ≡ e
  pub place : (ts : List SeenToken) (i k : ℕ) → IsFaultPlace ts i → IsFaultPlace ts k → i ≡ k

same_list : OneEach → (bytes : List ℕ) (a b : List Token) → AreTokens bytes a → AreTokens bytes b → a ≡ b
same_list one bytes a b s t = (one.lists bytes a b Complete Complete s t).0

pub one_draft : OneEach → (bytes : List ℕ) (c d : Draft) → LpOf bytes c → LpOf bytes d → c ≡ d
one_draft one bytes c d g h = one.draft (all_seen bytes h.tokens) c d (subst (λ ts. Lp (all_seen bytes ts) c) (same_list one bytes g.tokens h.tokens g.are_tokens h.are_tokens) g.says) h.says

one_at : OneEach → (ts : List SeenToken) (q r : ReadRefusal) → IsListRefusal ts q → IsListRefusal ts r → q ≡ r
one_at one ts q r g h = one_refusal ts h.place q r (subst (λ p. IsRefusalAt ts p q) (one.place ts g.place h.place g.is_place h.is_place) g.is_refusal) h.is_refusal

same_fault : (i k : ℕ) (a b : TokenKindFault) → ◌≡◌ {A = Ending} (Faulty i a) (Faulty k b) → refusal_of a i ≡ refusal_of b k
same_fault i k a b e =
    let f : i ≡ k = cc in
    let g : a ≡ b = cc in
    rw (f, g) refl

one_fault : OneEach → (bytes : List ℕ) (i k : ℕ) (a b : TokenKindFault) → IsFirstFault bytes i a → IsFirstFault bytes k b → refusal_of a i ≡ refusal_of b k
one_fault one bytes i k a b s t = same_fault i k a b (one.lists bytes s.0 t.0 (Faulty i a) (Faulty k b) s.1 t.1).1

no_list : OneEach → (bytes : List ℕ) (line : ℕ) (kind : TokenKindFault) (list : List Token) → IsFirstFault bytes line kind → AreTokens bytes list → ⊥
no_list one bytes line kind list f t = not_both line kind (one.lists bytes list f.0 Complete (Faulty line kind) t f.1).1

pub one_answer : OneEach → (bytes : List ℕ) (q r : ReadRefusal) → IsRefused bytes q → IsRefused bytes r → q ≡ r
one_answer one bytes q r (inl g) (inl h) = g.refusal_is ∙ (one_fault one bytes g.line h.line g.kind h.kind g.is_fault h.is_fault ∙ sym h.refusal_is)
one_answer one bytes q r (inl g) (inr h) = absurd (no_list one bytes g.line g.kind h.list g.is_fault h.are_tokens)
one_answer one bytes q r (inr g) (inl h) = absurd (no_list one bytes h.line h.kind g.list h.is_fault g.are_tokens)
one_answer one bytes q r (inr g) (inr h) =
    one_at one (all_seen bytes h.list) q r (subst (λ ts. IsListRefusal (all_seen bytes ts) q) (same_list one bytes g.list h.list g.are_tokens h.are_tokens) g.is_refusal) h.is_refusal

pub not_draft : OneEach → (bytes : List ℕ) (d : Draft) (r : ReadRefusal) → LpOf bytes d → IsRefused bytes r → ⊥
not_draft one bytes d r g (inl h) = no_list one bytes h.line h.kind g.tokens h.is_fault g.are_tokens
not_draft one bytes d r g (inr h) =
    h.is_refusal.is_place.none d (subst (λ ts. Lp (all_seen bytes ts) d) (same_list one bytes g.tokens h.list g.are_tokens h.are_tokens) g.says)

-- the refusal of the bytes is the answer
pub first_of : (bytes : List ℕ) → ((q r : ReadRefusal) → IsRefused bytes q → IsRefused bytes r → q ≡ r) → ((d : Draft) (r : ReadRefusal) → LpOf bytes d → IsRefused bytes r → ⊥)
    → (result : Result Draft ReadRefusal) → IfOk result (LpOf bytes) → IfErr result (λ e. (e ≡ refusals.NoMemory) ⊎ IsRefused bytes e)
    → (r : ReadRefusal) → IsRefused bytes r → (result ≡ Err r) ⊎ (result ≡ Err refusals.NoMemory)
first_of bytes one apart (Ok d) g h r k = absurd (apart d r g k)
first_of bytes one apart (Err e) g (inl m) r k = inr (ap Err m)
first_of bytes one apart (Err e) g (inr h) r k = inl (ap Err (one e r h k))

-- where a walk stops
record Halt (first : Bool) (before : ℕ) (c : Cursor) (ts : List SeenToken) : Type 0 where
  place : ℕ
  within : place < length ts
  cursor : Cursor
  before_it : walk first before c (take place ts) ≡ Some cursor
  through_it : walk first before c (take (suc place) ts) ≡ None

halt_by : (first : Bool) (before : ℕ) (c : Cursor) (t : SeenToken) (ts : List SeenToken) (o : Option Cursor) → take_mark c (mark_of first before t) ≡ o
    → option_and_then (λ n. walk false t.line n ts) o ≡ None → ((n : Cursor) → walk false t.line n ts ≡ None → Halt false t.line n ts) → Halt first before c (t ∷ ts)
halt_by first before c t ts None e f h = record { place = 0; within = omega arith; cursor = c; before_it = nothing_left first before c; through_it = stopped first before c t [] e }
halt_by first before c t ts (Some n) e f h =
    let s : Halt false t.line n ts = h n f in
    record {
      place = suc s.place;
      within = let w : s.place < length ts = s.within in omega arith;
      cursor = s.cursor;
      before_it = turn first before c n t (take s.place ts) e ∙ s.before_it;
      through_it = turn first before c n t (take (suc s.place) ts) e ∙ s.through_it;
    }

halt : (first : Bool) (before : ℕ) (c : Cursor) (ts : List SeenToken) → walk first before c ts ≡ None → Halt first before c ts
unfolding walk
halt first before c [] e = absurd (cc)
halt first before c (t ∷ ts) e = halt_by first before c t ts (take_mark c (mark_of first before t)) refl e (λ n f. halt false t.line n ts f)

abbrev pub Answer : List ℕ → Type 0
Answer bytes = ((d : Draft) × LpOf bytes d) ⊎ ((r : ReadRefusal) × IsRefused bytes r)

refused_list : Laws → (bytes : List ℕ) (list : List Token) (place : ℕ) → AreTokens bytes list → IsFaultPlace (all_seen bytes list) place → Answer bytes
refused_list laws bytes list place t f = inr (refusal_by (fault_kind (all_seen bytes list) place) list place, inr (record { list = list; are_tokens = t; is_refusal = list_refusal laws bytes list place f }))

ended_list : Laws → (bytes : List ℕ) (list : List Token) → AreTokens bytes list → (c : Cursor) → walk true 0 origin (all_seen bytes list) ≡ Some c → (o : Option Draft) → ended_at c ≡ o → Answer bytes
unfolding outcome_at
ended_list laws bytes list t c e None f = refused_list laws bytes list (length list) t (end_place laws bytes list (record { cursor = c; read = e; outcome = f }))
ended_list laws bytes list t c e (Some d) f = inl (d, record { tokens = list; are_tokens = t; says = laws.accepted (all_seen bytes list) c d e f })

walked_list : Laws → (bytes : List ℕ) (list : List Token) → AreTokens bytes list → (o : Option Cursor) → walk true 0 origin (all_seen bytes list) ≡ o → Answer bytes
walked_list laws bytes list t None e =
    let h : Halt true 0 origin (all_seen bytes list) = halt true 0 origin (all_seen bytes list) e in
    refused_list laws bytes list h.place t (stop_place laws (all_seen bytes list) h.place (record { within = h.within; cursor = h.cursor; before = h.before_it; through = h.through_it }))
walked_list laws bytes list t (Some c) e = ended_list laws bytes list t c e (ended_at c) refl

pub some_answer : Laws → (bytes : List ℕ) (list : List Token) (ending : Ending) → TokensFrom bytes 0 0 list ending → Answer bytes
some_answer laws bytes list Complete t = walked_list laws bytes list t (walk true 0 origin (all_seen bytes list)) refl
some_answer laws bytes list (Faulty line kind) t = inr (refusal_of kind line, inl (record { line = line; kind = kind; is_fault = (list, t); refusal_is = refl }))
