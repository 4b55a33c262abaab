-- No token holds a line feed.
use Rattle.std.proofs.Common.{◌≡◌, ℕ, Bool, true, false, cond, List, [], ◌∷◌, refl, ap, sym, ◌∙◌, zero-add}
use Rattle.std.specs.Prelude.{count_by, None, Some, Option}
use Rattle.std.specs.List.{list_all}
use Rattle.std.proofs.lemmas.Bool.{both_ways, eqb-true, false_from_ne_true, and_parts}
use Rattle.std.proofs.lemmas.List.Sums.{sum_by-cons}
use Rattle.sp_lp_tokens.specs.declared.numeral_places.Place.{Place}
use Rattle.sp_lp_tokens.specs.declared.numeral_places.Place.TheVariants.{Start, Whole, Point, Fraction, Letter, Sign, Power}
use Rattle.sp_lp_tokens.specs.declared.symbols.Symbol.{Symbol}
use Rattle.sp_lp_tokens.specs.declared.symbols.Symbol.TheVariants.{Plus}
use Rattle.sp_lp_tokens.specs.Gaps.{is_feed}
use Rattle.sp_lp_tokens.specs.InnerNumeralPlaces.{place_after}
use Rattle.sp_lp_tokens.specs.Texts.{is_name, begins_name, is_name_byte, is_number, spelling}
use Rattle.sp_lp_tokens.proofs.NumeralLeftLemmas.{left, Continues, place_continues}

-- a byte that passes a test which a line feed fails is none
not_feed : (p : ℕ → Bool) (b : ℕ) → p 10 ≡ false → p b ≡ true → is_feed b ≡ false
not_feed p b none h = false_from_ne_true _ (λ e. both_ways (p 10) none (ap p (sym (eqb-true b 10 e)) ∙ h))

no_feed-cons : (b : ℕ) (bs : List ℕ) → is_feed b ≡ false → count_by is_feed bs ≡ 0 → count_by is_feed (b ∷ bs) ≡ 0
no_feed-cons b bs here rest = sum_by-cons (λ c. cond (is_feed c) 1 0) b bs ∙ rw here (zero-add (count_by is_feed bs) ∙ rest)

no_feed_in_bytes : (text : List ℕ) → list_all is_name_byte text ≡ true → count_by is_feed text ≡ 0
no_feed_in_bytes [] h = refl
no_feed_in_bytes (b ∷ bs) h =
    let parts = and_parts (is_name_byte b) (list_all is_name_byte bs) h in
    no_feed-cons b bs (not_feed is_name_byte b refl parts.0) (no_feed_in_bytes bs parts.1)

pub no_feed_in_name : (text : List ℕ) → is_name text ≡ true → count_by is_feed text ≡ 0
no_feed_in_name [] h = refl
no_feed_in_name (b ∷ bs) h =
    let parts = and_parts (begins_name b) (list_all is_name_byte bs) h in
    no_feed-cons b bs (not_feed begins_name b refl parts.0) (no_feed_in_bytes bs parts.1)

no_place_behind : (place : Place) → place_after place 10 ≡ None
no_place_behind Start = refl
no_place_behind Whole = refl
no_place_behind Point = refl
no_place_behind Fraction = refl
no_place_behind Letter = refl
no_place_behind Sign = refl
no_place_behind Power = refl

not_feed_before : (place : Place) (b : ℕ) (next : Place) → place_after place b ≡ Some next → is_feed b ≡ false
not_feed_before place b next e =
    false_from_ne_true _ (λ f. let clash : None ≡ Some next = sym (no_place_behind place) ∙ (ap (place_after place) (sym (eqb-true b 10 f)) ∙ e) in cc)

no_feed_left : (place : Place) (text : List ℕ) → left place text ≡ true → count_by is_feed text ≡ 0
no_feed_left place [] h = refl
no_feed_left place (b ∷ bs) h = by (place_after place b) refl (place_continues place b) (λ next. no_feed_left next bs)
  where
    by : (o : Option Place) → place_after place b ≡ o → Continues place b o → ((next : Place) → left next bs ≡ true → count_by is_feed bs ≡ 0) → count_by is_feed (b ∷ bs) ≡ 0
    by None e more ih = absurd (both_ways _ (more bs) h)
    by (Some next) e more ih = no_feed-cons b bs (not_feed_before place b next e) (ih next (sym (more bs) ∙ h))

pub no_feed_in_number : (text : List ℕ) → is_number text ≡ true → count_by is_feed text ≡ 0
no_feed_in_number text h = no_feed_left Start text h

pub no_feed_in_symbol : (s : Symbol) → count_by is_feed (spelling s) ≡ 0
no_feed_in_symbol Plus = refl
no_feed_in_symbol s = refl
