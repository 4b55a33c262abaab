-- The place of the fault, where the reader stops or the file isn't at its end.
use Rattle.std.proofs.Common.{true, ◌≡◌, ℕ, suc, ◌<◌, ◌≤◌, List, length, take, Some, None, refl, ap, sym, subst, arith, ◌⊎◌, inl, inr, Result, Ok, Err, IfOk, IfErr}
use Rattle.std.proofs.lemmas.List.{take_all, length-map}
use Rattle.sp_draft.specs.declared.drafts.Draft.{Draft}
use Rattle.sp_draft.specs.declared.read_refusals.ReadRefusal.{ReadRefusal}
use Rattle.sp_draft.specs.declared.read_refusals.ReadRefusal.TheVariants.{NoMemory}
use Rattle.sp_lp_tokens.specs.declared.token_types.Token.{Token}
use Rattle.sp_lp_tokens.specs.declared.token_types.TokenKindFault.{TokenKindFault}
use Rattle.sp_lp_tokens.specs.Tokens.{AreTokens, Ending, Complete, Faulty, TokensFrom, IsFirstFault}
use Rattle.sp_lp_tokens.specs.SeenTokens.{SeenToken, seen, all_seen}
use Rattle.sp_lp_grammar.specs.Reads.{Lp, LpOf, Begins, IsFaultPlace}
use Rattle.sp_lp_grammar.specs.InnerCursor.{Cursor, origin, walk, ended_at}
use Rattle.sp_lp.specs.Refusals.{IsListRefusal, refusal_of, IsRefused}
use Rattle.sp_lp.specs.InnerKinds.{fault_kind}
use Rattle.sp_lp.specs.InnerAnswers.{refusal_by, IsOnlyAnswer}
use Rattle.sp_lp.proofs.KindLemmas.{Readers, refusal_is}
use Rattle.sp_lp.specs.Walks.{IsStop, IsReading, IsReadingOf, IsUnfinished, outcome_at}

-- what the laws on readers, on fronts and on drafts say
pub record Laws : Type 0 where
  pub accepted : (ts : List SeenToken) (c : Cursor) (d : Draft) → walk true 0 origin ts ≡ Some c → ended_at c ≡ Some d → Lp ts d
  pub unfinished : (ts : List SeenToken) (c : Cursor) (d : Draft) → walk true 0 origin ts ≡ Some c → ended_at c ≡ None → Lp ts d → ⊥
  pub begun : (ts : List SeenToken) (c : Cursor) → walk true 0 origin ts ≡ Some c → Begins ts
  pub refused : (ts : List SeenToken) → walk true 0 origin ts ≡ None → Begins ts → ⊥
  pub front : (ts : List SeenToken) (d : Draft) (i : ℕ) → Lp ts d → Begins (take i ts)
  pub one : (ts : List SeenToken) (d e : Draft) → Lp ts d → Lp ts e → d ≡ e

pub found_draft : Laws → (ts : List SeenToken) (d : Draft) → IsReading ts d → Lp ts d
unfolding outcome_at
found_draft laws ts d h = laws.accepted ts h.cursor d h.read h.outcome

pub only_draft : Laws → (ts : List SeenToken) (d : Draft) → IsReading ts d → IsOnlyAnswer ts (Ok d)
only_draft laws ts d h = λ e g. inl (ap Ok (laws.one ts d e (found_draft laws ts d h) g))

not_at : Laws → (ts : List SeenToken) (place : ℕ) → IsStop ts place → (d : Draft) → Lp ts d → ⊥
not_at laws ts place s d h = laws.refused (take (suc place) ts) s.through (laws.front ts d (suc place) h)

pub only_at : Laws → (ts : List SeenToken) (place : ℕ) (r : ReadRefusal) → IsStop ts place → IsOnlyAnswer ts (Err r)
only_at laws ts place r s = λ d h. absurd (not_at laws ts place s d h)

readers_of : Laws → Readers
readers_of laws = record { begun = laws.begun; refused = laws.refused }

-- the refusal at the place of the fault
pub list_refusal : Laws → (source : List ℕ) (list : List Token) (place : ℕ) → IsFaultPlace (all_seen source list) place → IsListRefusal (all_seen source list) (refusal_by (fault_kind (all_seen source list) place) list place)
list_refusal laws source list place f = record { place = place; is_place = f; is_refusal = refusal_is (readers_of laws) source list place }

pub place_refused : Laws → (source : List ℕ) (list : List Token) (place : ℕ) (r : ReadRefusal) → IsFaultPlace (all_seen source list) place
    → (r ≡ NoMemory) ⊎ (r ≡ refusal_by (fault_kind (all_seen source list) place) list place) → (r ≡ NoMemory) ⊎ IsListRefusal (all_seen source list) r
place_refused laws source list place r f (inl e) = inl e
place_refused laws source list place r f (inr e) = inr (subst (IsListRefusal (all_seen source list)) (sym e) (list_refusal laws source list place f))

pub stop_place : Laws → (ts : List SeenToken) (place : ℕ) → IsStop ts place → IsFaultPlace ts place
stop_place laws ts place s = record {
  within = let w : place < length ts = s.within in omega arith;
  before = laws.begun (take place ts) s.cursor s.before;
  through = λ lt b. laws.refused (take (suc place) ts) s.through b;
  none = not_at laws ts place s;
}

pub refused_at : Laws → (source : List ℕ) (list : List Token) (place : ℕ) (r : ReadRefusal) → IsStop (all_seen source list) place
    → (r ≡ NoMemory) ⊎ (r ≡ refusal_by (fault_kind (all_seen source list) place) list place) → (r ≡ NoMemory) ⊎ IsListRefusal (all_seen source list) r
refused_at laws source list place r s h = place_refused laws source list place r (stop_place laws (all_seen source list) place s) h

pub stop_within : (source : List ℕ) (list : List Token) (place : ℕ) → IsStop (all_seen source list) place → place ≤ length list
stop_within source list place s = let n : length (all_seen source list) ≡ length list = length-map list (seen source) in let w : place < length (all_seen source list) = s.within in omega arith

pub only_end : Laws → (ts : List SeenToken) (r : ReadRefusal) → IsUnfinished ts → IsOnlyAnswer ts (Err r)
unfolding outcome_at
only_end laws ts r u = λ d h. absurd (laws.unfinished ts u.cursor d u.read u.outcome h)

not_less : (n : ℕ) → n < n → ⊥
not_less n h = omega arith

pub end_place : Laws → (source : List ℕ) (list : List Token) → IsUnfinished (all_seen source list) → IsFaultPlace (all_seen source list) (length list)
unfolding outcome_at
end_place laws source list u =
    let n : length (all_seen source list) ≡ length list = length-map list (seen source) in
    let whole : take (length list) (all_seen source list) ≡ all_seen source list = take_all (length list) (all_seen source list) (omega arith) in
    record {
      within = omega arith;
      before = subst Begins (sym whole) (laws.begun (all_seen source list) u.cursor u.read);
      through = λ lt b. not_less (length list) (subst (λ k. length list < k) n lt);
      none = λ d g. laws.unfinished (all_seen source list) u.cursor d u.read u.outcome g;
    }

pub refused_end : Laws → (source : List ℕ) (list : List Token) (r : ReadRefusal) → IsUnfinished (all_seen source list)
    → (r ≡ NoMemory) ⊎ (r ≡ refusal_by (fault_kind (all_seen source list) (length list)) list (length list)) → (r ≡ NoMemory) ⊎ IsListRefusal (all_seen source list) r
refused_end laws source list r u h = place_refused laws source list (length list) r (end_place laws source list u) h

pub only_memory : (ts : List SeenToken) → IsOnlyAnswer ts (Err NoMemory)
only_memory ts = λ d h. inr refl

-- the answer for the bytes from that for their tokens
pub ok_of : (bytes : List ℕ) (list : List Token) → AreTokens bytes list → (r : Result Draft ReadRefusal) → IfOk r (Lp (all_seen bytes list)) → IfOk r (LpOf bytes)
ok_of bytes list t (Ok d) h = record { tokens = list; are_tokens = t; says = h }
ok_of bytes list t (Err e) h = tt

-- what the law on tokens says
abbrev pub OneList : Type 0
OneList = (source : List ℕ) (ts us : List Token) (a b : Ending) → TokensFrom source 0 0 ts a → TokensFrom source 0 0 us b → (ts ≡ us) × (a ≡ b)

pub only_of : OneList → (bytes : List ℕ) (list : List Token) → AreTokens bytes list → (r : Result Draft ReadRefusal) → IsOnlyAnswer (all_seen bytes list) r → (d : Draft) → LpOf bytes d → (r ≡ Ok d) ⊎ (r ≡ Err NoMemory)
only_of one bytes list t r h = λ d g. h d (subst (λ ts. Lp (all_seen bytes ts) d) (one bytes g.tokens list Complete Complete g.are_tokens t).0 g.says)

pub refused_of : (bytes : List ℕ) (list : List Token) → AreTokens bytes list → (r : Result Draft ReadRefusal) → IfErr r (λ e. (e ≡ NoMemory) ⊎ IsListRefusal (all_seen bytes list) e) → IfErr r (λ e. (e ≡ NoMemory) ⊎ IsRefused bytes e)
refused_of bytes list t (Ok d) h = tt
refused_of bytes list t (Err e) (inl h) = inl h
refused_of bytes list t (Err e) (inr h) = inr (inr (record { list = list; are_tokens = t; is_refusal = h }))

pub not_both : (line : ℕ) (kind : TokenKindFault) → ◌≡◌ {A = Ending} Complete (Faulty line kind) → ⊥
not_both line kind e = cc

pub no_tokens : OneList → (bytes : List ℕ) (line : ℕ) (kind : TokenKindFault) → IsFirstFault bytes line kind → (r : ReadRefusal) → (d : Draft) → LpOf bytes d → ◌⊎◌ (◌≡◌ {A = Result Draft ReadRefusal} (Err r) (Ok d)) (◌≡◌ {A = Result Draft ReadRefusal} (Err r) (Err NoMemory))
no_tokens one bytes line kind f r = λ d g. absurd (not_both line kind (one bytes g.tokens f.0 Complete (Faulty line kind) g.are_tokens f.1).1)

pub token_refused : (bytes : List ℕ) (line : ℕ) (kind : TokenKindFault) (r : ReadRefusal) → IsFirstFault bytes line kind → r ≡ refusal_of kind line → (r ≡ NoMemory) ⊎ IsRefused bytes r
token_refused bytes line kind r f e = inr (inl (record { line = line; kind = kind; is_fault = f; refusal_is = e }))

-- the answer of a file that is read as its tokens come
pub read_says : Laws → (bytes : List ℕ) (d : Draft) → IsReadingOf bytes d → LpOf bytes d
read_says laws bytes d h = record { tokens = h.tokens; are_tokens = h.are_tokens; says = found_draft laws (all_seen bytes h.tokens) d h.reading }

pub read_only : Laws → OneList → (bytes : List ℕ) (d : Draft) → IsReadingOf bytes d → (e : Draft) → LpOf bytes e → ◌⊎◌ (◌≡◌ {A = Result Draft ReadRefusal} (Ok d) (Ok e)) (◌≡◌ {A = Result Draft ReadRefusal} (Ok d) (Err NoMemory))
read_only laws one bytes d h = only_of one bytes h.tokens h.are_tokens (Ok d) (only_draft laws (all_seen bytes h.tokens) d h.reading)
