-- What keeps the list of held filters in order.
use Rattle.std.proofs.Common.{◌≡◌, ◌≢◌, ℕ, suc, ◌+◌, ◌<◌, ◌≤◌, Bool, true, false, not, ◌||◌, cond, refl, List, [], ◌∷◌, ◌++◌, length, filter, get_or, All, AllPairs, inl, inr, arith, sym, ap, ◌∙◌, length-append}
use Rattle.std.specs.List.{list_any}
use Rattle.std.specs.Str.{bytes_eq}
use Rattle.std.proofs.lemmas.Bool.Decides.{not_from_Decides}
use Rattle.std.proofs.lemmas.List.Elements.{All-filter, All-push, All-weaker, All-nil, All-cons}
use Rattle.std.proofs.lemmas.List.Kept.{AllPairs-filter}
use Rattle.std.proofs.lemmas.List.Filters.{length-filter_both}
use Rattle.std.proofs.lemmas.List.Quantifiers.{all_pairs_push}
use Rattle.std.proofs.lemmas.Slice.Eq.{bytes_eq-Decides}
use Rattle.sp_model.specs.declared.parts.ModelParts.{ModelParts}
use Rattle.sp_filter.specs.declared.drafting.FilterDraft.{FilterDraft}
use Rattle.sp_filter.specs.declared.holding.Held.{Held}
use Rattle.sp_filter.specs.declared.refusals.FilterRefusal.{FilterRefusal}
use Rattle.sp_filter.specs.declared.refusals.FilterRefusal.TheVariants.{NameTaken, TooMany, NegativeWeight, Wide, NoMemory}
use Rattle.sp_filter.specs.Held.{FilterList, IsOrderly, HasRoom, CanAdd, IsFirstRefusal, is_taken}

shorter : {X : Type 0} (p : X → Bool) (xs : List X) → length (filter p xs) ≤ length xs
shorter p xs = omega (arith, length-filter_both p (λ x. not (p x)) (λ x. refl) xs)

-- without some of the filters
pub orderly_filtered : (s : FilterList) (p : Held → Bool) → IsOrderly s → IsOrderly (record { held = filter p s.held; next = s.next })
orderly_filtered s p h = record {
  few = omega (arith, shorter p s.held, h.few);
  fresh = All-filter p (λ (k : Held). k.id < s.next) s.held h.fresh;
  rising = AllPairs-filter (λ (k l : Held). k.id < l.id) p s.held h.rising;
  distinct = AllPairs-filter (λ (k l : Held). k.name ≢ l.name) p s.held h.distinct;
}

neither : (p q : Bool) → (p || q) ≡ false → (p ≡ false) × (q ≡ false)
neither true q h = cc
neither false q h = (refl, h)

unlike : (xs ys : List ℕ) → bytes_eq xs ys ≡ false → xs ≢ ys
unlike xs ys h = not_from_Decides (bytes_eq xs ys) (bytes_eq-Decides xs ys) h

-- a name that isn't taken is no filter's
untaken : (hs : List Held) (name : List ℕ) → is_taken hs name ≡ false → All (λ (h : Held). h.name ≢ name) hs
untaken [] name e = All-nil (λ (h : Held). h.name ≢ name)
untaken (h ∷ hs) name e =
    let both = neither (bytes_eq h.name name) (is_taken hs name) e in
    All-cons (λ (k : Held). k.name ≢ name) h hs (unlike h.name name both.0) (untaken hs name both.1)

-- with one more filter, of a name that isn't taken
pub orderly_with : (s : FilterList) (h : Held) → IsOrderly s → HasRoom s → is_taken s.held h.name ≡ false → h.id ≡ s.next → IsOrderly (record { held = s.held ++ h ∷ []; next = s.next + 1 })
orderly_with s h o r free e = record {
  few = omega (arith, length-append s.held (h ∷ []), r.few);
  fresh = All-push (λ (k : Held). k.id < s.next + 1) s.held h (All-weaker (λ (k : Held). k.id < s.next) (λ (k : Held). k.id < s.next + 1) (λ k b. omega arith) s.held o.fresh) (omega arith);
  rising = all_pairs_push (λ (k l : Held). k.id < l.id) s.held h o.rising (λ k d i. rw e (o.fresh k d i));
  distinct = all_pairs_push (λ (k l : Held). k.name ≢ l.name) s.held h o.distinct (λ k d i. untaken s.held h.name free k d i);
}

-- nothing but want of memory refuses a draft that can be added
pub no_refusal : (s : FilterList) (m : ModelParts) (name : List ℕ) (d : FilterDraft) (why : FilterRefusal) → CanAdd s m name d → IsFirstRefusal s m name d why → why ≡ NoMemory
no_refusal s m name d NameTaken c f = let g = c.free in let clash : false ≡ true = sym g ∙ f in cc
no_refusal s m name d TooMany c f = absurd (f.1 c.room)
no_refusal s m name d NegativeWeight c f = absurd (f.2 c.weights)
no_refusal s m name d Wide c f = absurd (f.3 c.narrow)
no_refusal s m name d NoMemory c f = refl
