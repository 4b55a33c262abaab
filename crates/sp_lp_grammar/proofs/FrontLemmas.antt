-- The tokens that an accepted list begins with.
use Rattle.std.proofs.Common.{◌<◌, ◌≤◌, length, take, drop, arith, ◌≡◌, ℕ, suc, Bool, true, false, List, [], ◌∷◌, ◌++◌, Option, Some, None, refl, ap, sym, ◌∙◌, subst}
use Rattle.std.proofs.lemmas.List.{take-append-drop, take-append-le, take-take, length-take-le}
use Rattle.std.specs.Prelude.{option_and_then}
use Rattle.sp_draft.specs.declared.drafts.Draft.{Draft}
use Rattle.sp_lp_tokens.specs.SeenTokens.{SeenToken}
use Rattle.sp_lp_grammar.specs.Lexemes.{mark_of, marks, lexemes}
use Rattle.sp_lp_grammar.specs.Reads.{Lp, Begins, IsFaultPlace}
use Rattle.sp_lp_grammar.specs.InnerMachine.{start}
use Rattle.sp_lp_grammar.specs.InnerCursor.{Cursor, origin, take_mark, walk, ended_at, first_behind, line_behind}
use Rattle.sp_lp_grammar.proofs.BackLemmas.{run_back}
use Rattle.sp_lp_grammar.proofs.CompleteLemmas.{says_go}
use Rattle.sp_lp_grammar.proofs.LexLemmas.{reads, walk_reads, walk_runs}

-- the draft that the cursor reads
abbrev pub draft_read : List SeenToken → Option Draft
draft_read ts = option_and_then ended_at (walk true 0 origin ts)

pub read_is : (ts : List SeenToken) (d : Draft) → draft_read ts ≡ Some d → Lp ts d
read_is ts d e = run_back d (lexemes ts) start (sym (walk_runs ts) ∙ e)

pub is_read : (ts : List SeenToken) (d : Draft) → Lp ts d → draft_read ts ≡ Some d
is_read ts d h = walk_runs ts ∙ says_go d (lexemes ts) h

some_same : (d e : Draft) → Some d ≡ Some e → d ≡ e
some_same d e h = cc

pub none_some : (d : Draft) → ◌≡◌ {A = Option Draft} None (Some d) → ⊥
none_some d h = cc

pub one_draft : (ts : List SeenToken) (d e : Draft) → Lp ts d → Lp ts e → d ≡ e
one_draft ts d e a b = some_same d e (sym (is_read ts d a) ∙ is_read ts e b)

walk_step : (before : ℕ) (a b : List SeenToken) (o : Option Cursor) → ((c : Cursor) → walk false before c (a ++ b) ≡ option_and_then (λ n. walk false (line_behind before a) n b) (walk false before c a))
    → option_and_then (λ n. walk false before n (a ++ b)) o ≡ option_and_then (λ n. walk false (line_behind before a) n b) (option_and_then (λ n. walk false before n a) o)
walk_step before a b None h = refl
walk_step before a b (Some c) h = h c

later_append : (a b : List SeenToken) (before : ℕ) (c : Cursor) → walk false before c (a ++ b) ≡ option_and_then (λ n. walk false (line_behind before a) n b) (walk false before c a)
unfolding walk
later_append [] b before c = refl
later_append (t ∷ ts) b before c = walk_step t.line ts b (take_mark c (mark_of false before t)) (λ n. later_append ts b t.line n)

pub walk_append : (a b : List SeenToken) (first : Bool) (before : ℕ) (c : Cursor) → walk first before c (a ++ b) ≡ option_and_then (λ n. walk (first_behind first a) (line_behind before a) n b) (walk first before c a)
unfolding walk
walk_append [] b first before c = refl
walk_append (t ∷ ts) b first before c = walk_step t.line ts b (take_mark c (mark_of first before t)) (λ n. later_append ts b t.line n)

-- what is refused begins no accepted list
pub refused_front : (front : List SeenToken) → walk true 0 origin front ≡ None → Begins front → ⊥
refused_front front e h = none_some h.draft
    (sym (ap (option_and_then ended_at) (walk_append front h.more true 0 origin ∙ ap (λ o. option_and_then (λ n. walk (first_behind true front) (line_behind 0 front) n h.more) o) e)) ∙ is_read (front ++ h.more) h.draft h.reads)

-- what can be completed begins one
pub front_completed : (front : List SeenToken) (c : Cursor) (tail : List SeenToken) (d : Draft) → walk true 0 origin front ≡ Some c
    → reads c (marks (first_behind true front) (line_behind 0 front) tail) ≡ Some d → Begins front
front_completed front c tail d e r = record {
  more = tail;
  draft = d;
  reads = read_is (front ++ tail) d
      (ap (option_and_then ended_at) (walk_append front tail true 0 origin ∙ ap (λ o. option_and_then (λ n. walk (first_behind true front) (line_behind 0 front) n tail) o) e)
      ∙ (walk_reads tail (first_behind true front) (line_behind 0 front) c ∙ r));
}

front_same : (ts more : List SeenToken) (i k : ℕ) → i ≤ k → k ≤ length ts → take i (take k ts ++ more) ≡ take i ts
front_same ts more i k e f =
    let n : length (take k ts) ≡ k = length-take-le k ts f in
    let g : i ≤ length (take k ts) = omega arith in
    rw (take-append-le i (take k ts) more g) (take-take i k ts e)

-- each front of an accepted list begins one, and each front of what begins one
pub accepted_front : (ts : List SeenToken) (d : Draft) (i : ℕ) → Lp ts d → Begins (take i ts)
accepted_front ts d i h = record { more = drop i ts; draft = d; reads = subst (λ v. Lp v d) (sym (take-append-drop i ts)) h }

pub front_front : (ts : List SeenToken) (i k : ℕ) → i ≤ k → k ≤ length ts → Begins (take k ts) → Begins (take i ts)
front_front ts i k e l h =
    let f : take i (take k ts ++ h.more) ≡ take i ts = front_same ts h.more i k e l in
    subst Begins f (accepted_front (take k ts ++ h.more) h.draft i h.reads)

pub ended_is : (ts : List SeenToken) (c : Cursor) (d : Draft) → walk true 0 origin ts ≡ Some c → ended_at c ≡ Some d → Lp ts d
ended_is ts c d e f = read_is ts d (ap (option_and_then ended_at) e ∙ f)

pub unended_is : (ts : List SeenToken) (c : Cursor) (d : Draft) → walk true 0 origin ts ≡ Some c → ended_at c ≡ None → Lp ts d → ⊥
unended_is ts c d e f h = none_some d (sym (ap (option_and_then ended_at) e ∙ f) ∙ is_read ts d h)

pub walk_joined : (a b : List SeenToken) (c : Cursor) → walk true 0 origin a ≡ Some c → walk true 0 origin (a ++ b) ≡ walk (first_behind true a) (line_behind 0 a) c b
walk_joined a b c e = walk_append a b true 0 origin ∙ ap (option_and_then (λ n. walk (first_behind true a) (line_behind 0 a) n b)) e

either : (i k : ℕ) → (i < k → ⊥) → (k < i → ⊥) → i ≡ k
either i k a b = omega arith

-- one place of the fault is not before another
not_before : (ts : List SeenToken) (i k : ℕ) → IsFaultPlace ts i → IsFaultPlace ts k → i < k → ⊥
not_before ts i k a b lt =
    let w : k ≤ length ts = b.within in
    a.through (omega arith) (front_front ts (suc i) k (omega arith) w b.before)

pub one_place : (ts : List SeenToken) (i k : ℕ) → IsFaultPlace ts i → IsFaultPlace ts k → i ≡ k
one_place ts i k a b = either i k (not_before ts i k a b) (not_before ts k i b a)
