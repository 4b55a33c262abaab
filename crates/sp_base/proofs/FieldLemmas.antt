-- The first field of a line, and the fields behind it.
use Rattle.std.proofs.Common.{◌≡◌, ◌≢◌, ℕ, ◌+◌, ◌-◌, ◌<◌, suc, Bool, true, false, not, ◌==◌, List, [], ◌∷◌, refl, ap, ◌∙◌, sym, subst, inl, inr, length, filter, take, drop, get_or, drop-cons, length-drop, add-one, arith}
use Rattle.std.proofs.Math.Nat.{eq-or-lt_of_le}
use Rattle.std.proofs.lemmas.List.{take_all, drop_all}
use Rattle.std.specs.List.{All, slice_split, position_or_len, prefix_len, before_first, after_first}
use Rattle.std.proofs.lemmas.List.Splits.{slice_split_none, slice_split_first}
use Rattle.std.proofs.lemmas.List.Sums.{fails_before_first, passes_at_first, prefix_len-le-length}
use Rattle.sp_base.specs.Fields.{is_blank, is_filled, fields}

either : {A : Type 0} (b : Bool) → (b ≡ true → A) → (b ≡ false → A) → A
either true f g = f refl
either false f g = g refl

-- a blank in front is of no account
blank_goes : (b : ℕ) (bs : List ℕ) → is_blank b ≡ true → fields (b ∷ bs) ≡ fields bs
blank_goes b bs e = rw e refl

one_more : (n : ℕ) → 1 + n ≡ suc n
one_more n = omega arith

blank_counts : (b : ℕ) (bs : List ℕ) → is_blank b ≡ true → drop (prefix_len is_blank (b ∷ bs)) (b ∷ bs) ≡ drop (prefix_len is_blank bs) bs
blank_counts b bs e = rw (e, one_more) refl

other_counts : (b : ℕ) (bs : List ℕ) → is_blank b ≡ false → drop (prefix_len is_blank (b ∷ bs)) (b ∷ bs) ≡ b ∷ bs
other_counts b bs e = rw e refl

-- the blanks in front are of no account
pub blanks_go : (text : List ℕ) → fields (drop (prefix_len is_blank text) text) ≡ fields text
blanks_go [] = refl
blanks_go (b ∷ bs) = either (is_blank b)
    (λ e. ap fields (blank_counts b bs e) ∙ (blanks_go bs ∙ sym (blank_goes b bs e)))
    (λ e. ap fields (other_counts b bs e))

-- what is left behind them begins with a field, where it isn't empty
data BeginsFilled : List ℕ → Type 0 where
  Nothing : BeginsFilled []
  Filled : (b : ℕ) (bs : List ℕ) → is_blank b ≡ false → BeginsFilled (b ∷ bs)

begins : (text : List ℕ) → BeginsFilled (drop (prefix_len is_blank text) text)
begins [] = Nothing
begins (b ∷ bs) = either (is_blank b)
    (λ e. let P : List ℕ → Type 0 = BeginsFilled in subst P (sym (blank_counts b bs e)) (begins bs))
    (λ e. let P : List ℕ → Type 0 = BeginsFilled in subst P (sym (other_counts b bs e)) (Filled b bs e))

-- the piece before the first blank, if there is one, isn't empty
filled_before : (b : ℕ) (bs : List ℕ) → is_blank b ≡ false → is_filled (before_first is_blank (b ∷ bs)) ≡ true
filled_before b bs e = rw (e, one_more) (filled (before_first is_blank bs))
  where
    filled : (xs : List ℕ) → is_filled (b ∷ xs) ≡ true
    filled xs = grind arith

keep : (word : List ℕ) (words : List (List ℕ)) → is_filled word ≡ true → filter is_filled (word ∷ words) ≡ word ∷ filter is_filled words
keep word words e = rw e refl

-- what stands from the first blank on, as that blank and what is behind it
at_blank : (text : List ℕ) → position_or_len is_blank text < length text → fields (drop (position_or_len is_blank text) text) ≡ fields (after_first is_blank text)
at_blank text h =
    let d : drop (position_or_len is_blank text) text ≡ get_or text (position_or_len is_blank text) 0 ∷ after_first is_blank text = rw (drop-cons text (position_or_len is_blank text) 0 h, add-one) refl in
    ap fields d ∙ blank_goes (get_or text (position_or_len is_blank text) 0) (after_first is_blank text) (passes_at_first is_blank text 0 h)

cut_first : (text : List ℕ) → BeginsFilled text → text ≢ [] → is_filled (before_first is_blank text) ≡ true
cut_first _ Nothing ne = absurd (ne refl)
cut_first _ (Filled b bs e) ne = filled_before b bs e

-- the field is the text before the first blank, if there is one
parted : (text : List ℕ) → is_filled (before_first is_blank text) ≡ true → fields text ≡ before_first is_blank text ∷ fields (drop (position_or_len is_blank text) text)
parted text f =
    elim (eq-or-lt_of_le (prefix_len-le-length (λ b. not (is_blank b)) text)) [
      | inl e ↦ alone e
      | inr h ↦ ap (filter is_filled) (slice_split_first is_blank text 0 h)
          ∙ (keep (before_first is_blank text) (slice_split is_blank (after_first is_blank text)) f
          ∙ ap (λ words. before_first is_blank text ∷ words) (sym (at_blank text h)))
    ]
  where
    alone : position_or_len is_blank text ≡ length text → fields text ≡ before_first is_blank text ∷ fields (drop (position_or_len is_blank text) text)
    alone e =
        let none : All (λ b. is_blank b ≡ false) text = λ k d lt. fails_before_first is_blank text k d (omega (arith, e, lt)) in
        let whole : before_first is_blank text ≡ text = take_all (position_or_len is_blank text) text (omega (arith, e)) in
        let nothing : drop (position_or_len is_blank text) text ≡ [] = drop_all (position_or_len is_blank text) text (omega (arith, e)) in
        ap (filter is_filled) (slice_split_none is_blank text none)
        ∙ (ap (λ word. filter is_filled (word ∷ [])) (sym whole)
        ∙ (keep (before_first is_blank text) [] f
        ∙ ap (λ rest. before_first is_blank text ∷ fields rest) (sym nothing)))

filled_text : (text : List ℕ) → (length text == 0) ≡ false → text ≢ []
filled_text text e h = let f : (length text == 0) ≡ true = ap (λ (t : List ℕ). length t == 0) h in cc

-- behind the blanks in front nothing is left
pub no_field : (text inner : List ℕ) → inner ≡ drop (prefix_len is_blank text) text → (length inner == 0) ≡ true → fields text ≡ []
no_field text inner d e =
    let f : fields text ≡ fields inner = sym (ap fields d ∙ blanks_go text) in
    f ∙ none inner e
  where
    none : (xs : List ℕ) → (length xs == 0) ≡ true → fields xs ≡ []
    none [] h = refl
    none (x ∷ xs) h = absurd (grind arith)

-- behind the blanks in front stands the first field
pub one_field : (text inner : List ℕ) → inner ≡ drop (prefix_len is_blank text) text → (length inner == 0) ≡ false → fields text ≡ take (position_or_len is_blank inner) inner ∷ fields (drop (position_or_len is_blank inner) inner)
one_field text inner d e =
    let f : fields text ≡ fields inner = sym (ap fields d ∙ blanks_go text) in
    let P : List ℕ → Type 0 = BeginsFilled in
    f ∙ parted inner (cut_first inner (subst P (sym d) (begins text)) (filled_text inner e))

-- the rest is shorter
pub shorter : (text inner : List ℕ) → inner ≡ drop (prefix_len is_blank text) text → (length inner == 0) ≡ false → length (drop (position_or_len is_blank inner) inner) < length text
shorter text inner d e =
    let P : List ℕ → Type 0 = BeginsFilled in
    let some : 0 < position_or_len is_blank inner = counts inner (subst P (sym d) (begins text)) (filled_text inner e) in
    let left : length inner ≡ length text - prefix_len is_blank text = ap length d ∙ length-drop (prefix_len is_blank text) text in
    let there : length inner ≢ 0 = λ h. nothing_left inner h (filled_text inner e) in
    omega (arith, some, left, there, length-drop (position_or_len is_blank inner) inner)
  where
    counts : (xs : List ℕ) → BeginsFilled xs → xs ≢ [] → 0 < position_or_len is_blank xs
    counts _ Nothing ne = absurd (ne refl)
    counts _ (Filled b bs f) ne = rw f (omega arith)

    nothing_left : (xs : List ℕ) → length xs ≡ 0 → xs ≢ [] → ⊥
    nothing_left [] h ne = ne refl
    nothing_left (x ∷ xs) h ne = omega (arith, h)
