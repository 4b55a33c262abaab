-- Filters that are added or removed leave the others as they are.
use Rattle.std.proofs.Common.{◌≡◌, ℕ, zero, suc, ◌<◌, Bool, true, false, if◌then◌else◌, not, ◌==◌, Option, None, Some, IfSome, List, [], ◌∷◌, ◌++◌, filter, All, AllPairs, refl, sym, ap, arith}
use Rattle.std.specs.Str.{bytes_eq}
use Rattle.std.proofs.lemmas.Bool.{cond_both, eqb-true}
use Rattle.std.proofs.lemmas.List.Elements.{All-append, All-filter, All-head, All-tail}
use Rattle.sp_model.specs.declared.parts.ModelParts.{ModelParts}
use Rattle.sp_filter.specs.declared.drafting.FilterDraft.{FilterDraft}
use Rattle.sp_filter.specs.declared.holding.Held.{Held}
use Rattle.sp_filter.specs.declared.kinds.Filter.{Filter}
use Rattle.sp_filter.specs.Filters.{Fits}
use Rattle.sp_filter.specs.Held.{FilterList, IsOrderly, filter_of, with_filter, without_filter}
use Rattle.sp_filter.specs.Lowering.{lowered}
use Rattle.sp_tree.specs.Trees.{TreeOf}
use Rattle.sp_cover.specs.Cover.{AreScreened}
use Rattle.sp_cover.specs.Moves.{AreLater}
use Rattle.sp_search.specs.States.{AreFit, IsCovered, StateOf}

-- ---- one more

other-id : (h : Held) (f : ℕ) (b : Bool) → (h.id == f) ≡ b → (h.id ≡ f → ⊥) → (if b then Some h.filter else None) ≡ None
other-id h f true e apart = absurd (apart (eqb-true h.id f e))
other-id h f false e apart = refl

filter-more : (hs : List Held) (h : Held) (f : ℕ) → (h.id ≡ f → ⊥) → filter_of (hs ++ (h ∷ [])) f ≡ filter_of hs f
filter-more [] h f apart = other-id h f (h.id == f) refl apart
filter-more (g ∷ hs) h f apart = ap (λ o. if g.id == f then Some g.filter else o) (filter-more hs h f apart)

some-of : (o p : Option Filter) → o ≡ p → IfSome o (λ x. p ≡ Some x)
some-of None p e = tt
some-of (Some x) p e = sym e

pub added-later : (fs : FilterList) (name : List ℕ) (d : FilterDraft) → AreLater fs (with_filter fs name d)
added-later fs name d = record {
  next = omega arith;
  held = λ f below.
      some-of (filter_of (with_filter fs name d).held f) (filter_of fs.held f)
      (filter-more fs.held (record { id = fs.next; name = name; filter = lowered d }) f (λ e. absurd (omega (arith, below, e))));
}

-- ---- one less

abbrev AreRising : List Held → Type 0
AreRising hs = AllPairs (λ h k. h.id < k.id) hs

after-first : (h : Held) (hs : List Held) → AreRising (h ∷ hs) → All (λ k. h.id < k.id) hs
after-first h hs rising = λ i d i-in. rising 0 (suc i) d (omega arith) (omega (arith, i-in))

rising-rest : (h : Held) (hs : List Held) → AreRising (h ∷ hs) → AreRising hs
rising-rest h hs rising i j d lt j-in = rising (suc i) (suc j) d (omega (arith, lt)) (omega (arith, j-in))

none-step : (k : Held) (f : ℕ) (o : Option Filter) (b : Bool) → (k.id == f) ≡ b → f < k.id → o ≡ None → (if b then Some k.filter else o) ≡ None
none-step k f o true e less none = let same = eqb-true k.id f e in absurd (omega (arith, less, same))
none-step k f o false e less none = none

none-of : (hs : List Held) (f : ℕ) → All (λ k. f < k.id) hs → filter_of hs f ≡ None
none-of [] f all = refl
none-of (k ∷ hs) f all =
    none-step k f (filter_of hs f) (k.id == f) refl (All-head (λ k. f < k.id) k hs all) (none-of hs f (All-tail (λ k. f < k.id) k hs all))

with-first : (h : Held) (o p : Option Filter) (b : Bool) → IfSome o (λ x. p ≡ Some x) → IfSome (if b then Some h.filter else o) (λ x. (if b then Some h.filter else p) ≡ Some x)
with-first h o p true rest = refl
with-first h o p false rest = rest

if-none : (o p : Option Filter) → o ≡ None → IfSome o (λ x. p ≡ Some x)
if-none None p e = tt
if-none (Some x) p e = cc

without-first : (h : Held) (o p : Option Filter) (b : Bool) → (b ≡ true → o ≡ None) → IfSome o (λ x. p ≡ Some x) → IfSome o (λ x. (if b then Some h.filter else p) ≡ Some x)
without-first h o p true none rest = if-none o (Some h.filter) (none refl)
without-first h o p false none rest = rest

after-id : (h : Held) (hs : List Held) (f : ℕ) → AreRising (h ∷ hs) → (h.id == f) ≡ true → All (λ k. f < k.id) hs
after-id h hs f rising e = let same : h.id ≡ f = eqb-true h.id f e in rw (← same) (after-first h hs rising)

kept-of : (p : Held → Bool) (hs : List Held) (f : ℕ) → AreRising hs → IfSome (filter_of (filter p hs) f) (λ x. filter_of hs f ≡ Some x)
kept-of p [] f rising = tt
kept-of p (h ∷ hs) f rising =
    let rest = kept-of p hs f (rising-rest h hs rising) in
    cond_both (p h) (h ∷ filter p hs) (filter p hs) (λ l. IfSome (filter_of l f) (λ x. filter_of (h ∷ hs) f ≡ Some x))
    (λ passes. with-first h (filter_of (filter p hs) f) (filter_of hs f) (h.id == f) rest)
    (λ fails. without-first h (filter_of (filter p hs) f) (filter_of hs f) (h.id == f)
    (λ e. none-of (filter p hs) f (All-filter p (λ k. f < k.id) hs (after-id h hs f rising e))) rest)

pub removed-later : (fs : FilterList) (name : List ℕ) → IsOrderly fs → AreLater fs (without_filter fs name)
removed-later fs name h = record {
  next = omega arith;
  held = λ f below. kept-of (λ k. not (bytes_eq k.name name)) fs.held f h.rising;
}

-- ---- the cover, and filters for the model

abbrev pub Screens : Type 0
Screens = (old new : FilterList) (t : TreeOf) → AreLater old new → AreScreened old t → AreScreened new t

pub still-covered : Screens → (old new : FilterList) (s : StateOf) → AreLater old new → IsCovered old s → IsCovered new s
still-covered last old new s later h = record { search = h.search; screened = last old new s.search.tree later h.screened; ended = h.ended }

one-fits : (m : ModelParts) (h : Held) → Fits m h.filter → All (λ k. Fits m k.filter) (h ∷ [])
one-fits m h fits zero d i = fits
one-fits m h fits (suc k) d i = absurd (omega (arith, i))

pub added-fit : (m : ModelParts) (fs : FilterList) (name : List ℕ) (d : FilterDraft) → AreFit m fs → Fits m (lowered d) → AreFit m (with_filter fs name d)
added-fit m fs name d h fits = record {
  each = All-append (λ k. Fits m k.filter) fs.held _ h.each (one-fits m (record { id = fs.next; name = name; filter = lowered d }) fits);
}

pub removed-fit : (m : ModelParts) (fs : FilterList) (name : List ℕ) → AreFit m fs → AreFit m (without_filter fs name)
removed-fit m fs name h = record { each = All-filter (λ k. not (bytes_eq k.name name)) (λ k. Fits m k.filter) fs.held h.each }
