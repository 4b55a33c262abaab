-- A file has one answer.
use Prim.Native.Nat.{zero, suc}
use Rattle.std.proofs.Common.{◌≡◌, ◌≢◌, ℕ, ◌+◌, ◌<◌, ◌≤◌, ◌∙◌, refl, sym, ap, List, length, take, max, below_more, ◌⊎◌, inl, inr, arith}
use Rattle.std.specs.Prelude.{Result, Ok, Err}
use Rattle.sp_draft.specs.declared.drafts.Draft.{Draft}
use Rattle.sp_draft.specs.declared.read_refusals.ReadRefusal.{ReadRefusal}
use Rattle.sp_draft.specs.declared.read_refusals.ReadRefusal.TheVariants.{NoMemory}
use Rattle.sp_mps_words.specs.declared.faults.FaultKind.{FaultKind}
use Rattle.sp_mps_words.specs.declared.faults.FaultKind.TheVariants.{Syntax}
use Rattle.sp_mps_words.specs.Lines.{Line}
use Rattle.sp_mps.specs.Drafts.{draft_of}
use Rattle.sp_mps.specs.Facts.{facts}
use Rattle.sp_mps.specs.Verdicts.{Verdict, Goes, Ends, Fails, verdict, IsFirst, IsOpen, IsFault, IsDraft, IsRefused, refusal_of}
use Rattle.sp_mps.specs.declared.reader.Reader.{Reader}
use Rattle.sp_mps.specs.inner.Reads.{IsRead}

first_unique : (ls : List Line) (n m : ℕ) (v w : Verdict) → v ≢ Goes → w ≢ Goes → IsFirst ls n v → IsFirst ls m w → (n ≡ m) × (v ≡ w)
first_unique ls n m v w nv nw a b =
    let e : n ≡ m = places in
    (e, sym a.here ∙ (ap (verdict ls) e ∙ b.here))
  where
    low : n < m → ⊥
    low h = nv (sym a.here ∙ b.before n h)

    high : m < n → ⊥
    high h = nw (sym b.here ∙ a.before m h)

    places : n ≡ m
    places = omega (arith, low, high)

open_first : (ls : List Line) (kind : FaultKind) (line n : ℕ) (v : Verdict) → v ≢ Goes → IsOpen ls kind line → IsFirst ls n v → ⊥
open_first ls kind line n v nv a b = nv (sym b.here ∙ a.all n b.within)

ends_stop : Ends ≢ Goes
ends_stop e = cc

fails_stop : (kind : FaultKind) → Fails kind ≢ Goes
fails_stop kind e = cc

same_kind : (a b : FaultKind) → Fails a ≡ Fails b → a ≡ b
same_kind a b e = cc

pub one_draft : (ls : List Line) (a b : Draft) → IsDraft ls a → IsDraft ls b → a ≡ b
one_draft ls a b g h =
    let e = first_unique ls g.place h.place Ends Ends ends_stop ends_stop g.first h.first in
    g.means ∙ (ap (λ n. draft_of (facts (take (n + 1) ls))) e.0 ∙ sym h.means)

one_fault : (ls : List Line) (j k : FaultKind) (m n : ℕ) → IsFault ls j m → IsFault ls k n → (j ≡ k) × (m ≡ n)
one_fault ls j k m n (inl g) (inl h) =
    let e = first_unique ls g.place h.place (Fails j) (Fails k) (fails_stop j) (fails_stop k) g.first h.first in
    (same_kind j k e.1, g.line_is ∙ (ap (λ p. p + 1) e.0 ∙ sym h.line_is))
one_fault ls j k m n (inl g) (inr h) = absurd (open_first ls k n g.place (Fails j) (fails_stop j) h g.first)
one_fault ls j k m n (inr g) (inl h) = absurd (open_first ls j m h.place (Fails k) (fails_stop k) g h.first)
one_fault ls j k m n (inr g) (inr h) = (g.kind_is ∙ sym h.kind_is, g.line_is ∙ sym h.line_is)

pub one_refusal : (ls : List Line) (q r : ReadRefusal) → IsRefused ls q → IsRefused ls r → q ≡ r
one_refusal ls q r g h =
    let e = one_fault ls g.kind h.kind g.line h.line g.fault h.fault in
    g.is ∙ ((λ i. refusal_of (e.0 i) (e.1 i)) ∙ sym h.is)

not_fault : (ls : List Line) (d : Draft) (kind : FaultKind) (line : ℕ) → IsDraft ls d → IsFault ls kind line → ⊥
not_fault ls d kind line g (inl h) = apart (first_unique ls g.place h.place Ends (Fails kind) ends_stop (fails_stop kind) g.first h.first)
  where
    apart : (g.place ≡ h.place) × (Ends ≡ Fails kind) → ⊥
    apart e = let f = e.1 in cc
not_fault ls d kind line g (inr h) = open_first ls kind line g.place Ends ends_stop h g.first

pub apart : (ls : List Line) (d : Draft) (r : ReadRefusal) → IsDraft ls d → IsRefused ls r → ⊥
apart ls d r g h = not_fault ls d h.kind h.line g h.fault

pub is_draft : (ls : List Line) (s : Reader) (d : Draft) → d ≡ draft_of s → IsRead ls s → IsDraft ls d
is_draft ls s d e h = record { place = h.place; first = h.first; means = e ∙ ap draft_of h.state }

-- a refusal leaves no draft, and is the one that the lines give
pub only_refused : (ls : List Line) (r : ReadRefusal) (d : Draft) → (r ≡ NoMemory) ⊎ IsRefused ls r → IsDraft ls d → (let x : Result Draft ReadRefusal = Err r in (x ≡ Ok d) ⊎ (x ≡ Err NoMemory))
only_refused ls r d (inl e) g = inr (ap Err e)
only_refused ls r d (inr h) g = absurd (apart ls d r g h)

pub first_refused : (ls : List Line) (q r : ReadRefusal) → (q ≡ NoMemory) ⊎ IsRefused ls q → IsRefused ls r → (let x : Result Draft ReadRefusal = Err q in (x ≡ Err r) ⊎ (x ≡ Err NoMemory))
first_refused ls q r (inl e) g = inr (ap Err e)
first_refused ls q r (inr h) g = inl (ap Err (one_refusal ls q r h g))

-- the file has a draft, or is refused for something
abbrev pub IsAnswered : List Line → Type 0
IsAnswered ls = ((d : Draft) × IsDraft ls d) ⊎ ((r : ReadRefusal) × IsRefused ls r)

-- where the file goes on behind each line before the place, the verdict there answers it, or it goes on
decide : (ls : List Line) (n : ℕ) (v : Verdict) → n < length ls → verdict ls n ≡ v → ((i : ℕ) → i < n → verdict ls i ≡ Goes) → ((i : ℕ) → i < suc n → verdict ls i ≡ Goes) ⊎ IsAnswered ls
decide ls n Goes h e goes =
    let more : (i : ℕ) → i < n + 1 → verdict ls i ≡ Goes = below_more _ _ goes e in
    inl (λ i lt. more i (omega (arith, lt)))
decide ls n Ends h e goes = inr (inl (draft_of (facts (take (n + 1) ls)), record { place = n; first = record { within = h; before = goes; here = e }; means = refl }))
decide ls n (Fails kind) h e goes = inr (inr (
  refusal_of kind (n + 1),
  record {
    kind = kind;
    line = n + 1;
    fault = inl (record { place = n; first = record { within = h; before = goes; here = e }; line_is = refl });
    is = refl;
  },
))

seek : (ls : List Line) (n : ℕ) → n ≤ length ls → ((i : ℕ) → i < n → verdict ls i ≡ Goes) ⊎ IsAnswered ls
seek ls zero h = inl (λ i lt. absurd (omega (arith, lt)))
seek ls (suc n) h = on (seek ls n (omega (arith, h)))
  where
    on : ((i : ℕ) → i < n → verdict ls i ≡ Goes) ⊎ IsAnswered ls → ((i : ℕ) → i < suc n → verdict ls i ≡ Goes) ⊎ IsAnswered ls
    on (inl goes) = decide ls n (verdict ls n) (omega (arith, h)) refl goes
    on (inr a) = inr a

pub some_answer : (ls : List Line) → IsAnswered ls
some_answer ls = by (seek ls (length ls) (omega arith))
  where
    by : ((i : ℕ) → i < length ls → verdict ls i ≡ Goes) ⊎ IsAnswered ls → IsAnswered ls
    by (inl goes) = inr (
      refusal_of Syntax (max 1 (length ls)),
      record {
        kind = Syntax;
        line = max 1 (length ls);
        fault = inr (record { all = goes; kind_is = refl; line_is = refl });
        is = refl;
      },
    )
    by (inr a) = a
