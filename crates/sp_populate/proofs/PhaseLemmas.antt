-- What a run leaves, from what its two phases leave.
use Rattle.std.proofs.Common.{◌≡◌, ℕ, zero, suc, ◌<◌, Bool, true, false, if◌then◌else◌, Option, None, Some, List, [], ◌∷◌, ◌++◌, take, drop, length, slice_index_or, AllPairs, Ordering, Less, Equal, Greater, is_eq, int_cmp, ℤ, ◌≤ℤ◌, ◌<ℤ◌, refl, sym, ap, ◌∙◌, arith, append_assoc}
use Rattle.std.specs.Cmp.{int_ranks}
use Rattle.std.specs.Ordering.{int_eq}
use Rattle.std.proofs.lemmas.Bool.{false≢true}
use Rattle.std.proofs.lemmas.Int.{ints}
use Rattle.std.proofs.Math.Seq.{drop-append_seam, take-append_seam}
use Rattle.sp_model.specs.declared.gaps.Gaps.{Gaps}
use Rattle.sp_list.specs.declared.found.Found.{Found}
use Rattle.sp_filter.specs.Held.{FilterList}
use Rattle.sp_cover.specs.Cover.{IsBest, IsLeastFound, no_found}
use Rattle.sp_search.specs.States.{IsState, StateOf, with_search}
use Rattle.sp_search.specs.Runs.{IsRun}
use Rattle.sp_populate.specs.Complete.{cut_under}
use Rattle.sp_populate.specs.Ends.{IsPopulated, first_of, found_before, improved}
use Rattle.sp_populate.specs.InnerEnds.{IsLater}
use Rattle.sp_populate.proofs.CollectLemmas.{Joined, size-joined}

-- ---- where phase two begins

abbrev pub AreFalling : List Found → Type 0
AreFalling found = AllPairs (λ f g. g.value <ℤ f.value) found

compared-same : (a b : ℤ) (o : Ordering) → int_cmp a b ≡ o → a ≡ b → is_eq o ≡ true
compared-same a b Less is e = let h = rw is at (int_ranks a b) in absurd (omega (arith, ints, h, e))
compared-same a b Equal is e = refl
compared-same a b Greater is e = let h = rw is at (int_ranks a b) in absurd (omega (arith, ints, h, e))

same-compared : (a b : ℤ) (o : Ordering) → int_cmp a b ≡ o → is_eq o ≡ true → a ≡ b
same-compared a b Less is e = cc
same-compared a b Equal is e = rw is at (int_ranks a b)
same-compared a b Greater is e = cc

falling-rest : (f : Found) (found : List Found) → AreFalling (f ∷ found) → AreFalling found
falling-rest f found h i j d lt j-in = h (suc i) (suc j) d (omega (arith, lt)) (omega (arith, j-in))

-- with the place where the value is reached
least-from : (f : Found) (found : List Found) (v : ℤ) → int_eq f.value v ≡ false → IsLeastFound (f ∷ found) v → (k : ℕ) → k < length (f ∷ found)
    → (slice_index_or (f ∷ found) k no_found).value ≡ v → IsLeastFound found v
least-from f found v not h zero k-in is = let e : int_eq f.value v ≡ true = compared-same f.value v (int_cmp f.value v) refl is in absurd (false≢true (sym not ∙ e))
least-from f found v not h (suc k) k-in is = record {
  reached = (k, omega (arith, k-in), is);
  least = λ i i-in. h.least (suc i) (omega (arith, i-in));
}

least-rest : (f : Found) (found : List Found) (v : ℤ) → int_eq f.value v ≡ false → IsLeastFound (f ∷ found) v → IsLeastFound found v
least-rest f found v not h = least-from f found v not h h.reached.0 h.reached.1 h.reached.2

-- the least value stands last among falling values
one-only : (f : Found) (found : List Found) (v : ℤ) → int_eq f.value v ≡ true → AreFalling (f ∷ found) → IsLeastFound (f ∷ found) v → found ≡ []
one-only f [] v same falls h = refl
one-only f (g ∷ found) v same falls h =
    let less : g.value <ℤ f.value = falls 0 1 no_found (omega arith) (omega arith) in
    let least : v ≤ℤ g.value = h.least 1 (omega arith) in
    let is : f.value ≡ v = same-compared f.value v (int_cmp f.value v) refl same in
    absurd (omega (arith, ints, less, least, is))

first-step : (f : Found) (found more : List Found) (v : ℤ) (b : Bool) → int_eq f.value v ≡ b → AreFalling (f ∷ found) → IsLeastFound (f ∷ found) v
    → (IsLeastFound found v → first_of v (found ++ more) ≡ length found) → (if b then 1 else suc (first_of v (found ++ more))) ≡ suc (length found)
first-step f found more v true e falls h rest = let none = ap length (one-only f found v e falls h) in omega (arith, none)
first-step f found more v false e falls h rest = ap suc (rest (least-rest f found v e h))

first-falling : (found more : List Found) (v : ℤ) → AreFalling found → IsLeastFound found v → first_of v (found ++ more) ≡ length found
first-falling [] more v falls h = let k = h.reached.1 in absurd (omega (arith, k))
first-falling (f ∷ found) more v falls h =
    first-step f found more v (int_eq f.value v) refl falls h (λ least. first-falling found more v (falling-rest f found falls) least)

improved-is : (found more : List Found) (best : Option ℤ) → AreFalling found → IsBest found best → improved best (found ++ more) ≡ length found
improved-is found more None falls h = sym (ap length h)
improved-is found more (Some v) falls h = first-falling found more v falls h

before-is : (proved : Bool) (old mid more : List Found) (best : Option ℤ) → (proved ≡ true → mid ≡ old) → (proved ≡ false → AreFalling mid) → IsBest mid best
    → (if proved then length old else improved best (mid ++ more)) ≡ length mid
before-is true old mid more best same falls h = sym (ap length (same refl))
before-is false old mid more best same falls h = improved-is mid more best (falls refl) h

-- ---- the whole run

-- what phase one leaves
pub record IsImproved (old mid : StateOf) (limit : ℕ) : Type 0 where
  pub run : IsRun old mid limit
  pub same : old.search.proved ≡ true → mid ≡ old
  pub before : IsState old
  pub after : IsState mid

mid-falls : (old mid : StateOf) (limit : ℕ) → IsImproved old mid limit → old.search.proved ≡ false → AreFalling mid.search.found
mid-falls old mid limit h e = h.run.found.falls (h.before.search.falling e)

pub phase-two : (old mid new : StateOf) (cut : ℤ) (fs : FilterList) (limit : ℕ) → IsImproved old mid limit → IsLater mid new cut fs limit → found_before old new ≡ length mid.search.found
phase-two old mid new cut fs limit h k =
    rw (k.best, k.grows) (before-is old.search.proved old.search.found mid.search.found k.more mid.search.best (λ e. ap (λ s. s.search.found) (h.same e))
    (mid-falls old mid limit h) h.after.search.best)

pub cut-stays : (mid new : StateOf) (gaps : Gaps) → new ≡ with_search mid new.search → new.search.best ≡ mid.search.best → cut_under gaps new ≡ cut_under gaps mid
cut-stays mid new gaps rest best = rw (best, ap (λ s. s.model) rest) refl

pub populated : Joined → (old mid new : StateOf) (gaps : Gaps) (fs : FilterList) (limit : ℕ) → IsImproved old mid limit → IsLater mid new (cut_under gaps mid) fs limit
    → IsPopulated old new gaps fs limit
populated join old mid new gaps fs limit h k =
    let begins = phase-two old mid new (cut_under gaps mid) fs limit h k in
    let one = h.run.found in
    let taken : take (found_before old new) new.search.found ≡ mid.search.found = rw (begins, k.grows) (take-append_seam mid.search.found k.more) in
    let dropped : drop (found_before old new) new.search.found ≡ k.more = rw (begins, k.grows) (drop-append_seam mid.search.found k.more) in
    record {
      rest = k.rest ∙ ap (λ s. with_search s new.search) h.run.rest;
      extends = join old.search.tree mid.search.tree new.search.tree h.run.extends k.extends;
      size = size-joined (length old.search.tree.nodes) (length mid.search.tree.nodes) (length new.search.tree.nodes) limit h.run.size k.size;
      found = record {
        more = one.more ++ k.more;
        grows = k.grows ∙ ap (λ g. g ++ k.more) one.grows ∙ append_assoc old.search.found one.more k.more;
        falls = λ e. rw taken (mid-falls old mid limit h e);
        wanted = λ e. rw (dropped, cut-stays mid new gaps k.rest k.best) k.wanted;
      };
    }
