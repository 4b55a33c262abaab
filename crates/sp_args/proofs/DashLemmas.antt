-- The value `-`, which `clap` takes and a reading does not, is the text of no value.
use Rattle.sp_model.specs.declared.gaps.Gap.{Gap}
use Rattle.sp_model.specs.declared.gaps.Gap.TheVariants.{Of, Unlimited}
use Rattle.sp_decimal.specs.Grammar.{is_plain_numeral, is_mantissa, whole_part, mantissa, fraction_part}
use Rattle.sp_decimal.specs.Numerals.{numeral}
use Rattle.sp_args.specs.Values.{gap_of, nodes_of}
use Rattle.sp_args.specs.declared.requests.Request.{Request}
use Rattle.sp_args.specs.Words.{Word, gap_or, nodes_or}
use Rattle.sp_args.specs.InnerReading.{request_for}
use Rattle.std.proofs.Common.{◌≡◌, ◌∙◌, ◌||◌, ℕ, Bool, cond, true, false, not, refl, sym, ap, subst, List, [], ◌∷◌, ◌++◌, Option, Some, None, true≢false}
use Rattle.std.specs.Prelude.{◌==◌, option_and_then, option_map, find}
use Rattle.std.proofs.lemmas.Bool.{eqb-true}
use Rattle.sp_args.specs.InnerReading as form
use Rattle.sp_args.specs.Words.{Key, absgap, relgap, nodes, file, Uses, has_dash, has_use, same_key, text_at}
use Rattle.sp_args.specs.InnerReading.{Form, Texts, and_then, files_from, form_of, is_plain, option_form, request_of, request_at, texts_at, uses_from, wide_texts, with_use, word_form}
use Rattle.sp_args.proofs.OptionLemmas.{option_key}
use Rattle.sp_args.proofs.ClapLemmas.{Agrees, agree}

abbrev wide : Word → Bool
wide w = is_plain (form_of w)

abbrev narrow : Word → Bool
narrow w = not (has_dash w)

abbrev judged : Option Uses → Option Request
judged o = option_and_then request_at (option_map texts_at o)

abbrev dash : Word
dash = 45 ∷ []

-- ---- what is given stays given

same_self : (k : Key) → same_key k k ≡ true
same_self absgap = refl
same_self relgap = refl
same_self nodes = refl
same_self file = refl

text_kept : (k : Key) (x : Word) (seen more : Uses) → text_at k seen ≡ Some x → text_at k (seen ++ more) ≡ Some x
text_kept k x [] more e = cc
text_kept k x (u ∷ us) more e = go (same_key u.0 k) e (text_kept k x us more)
  where
    go : (b : Bool) → option_map (λ (w : Key × Word). w.1) (cond b (Some u) (find (λ w. same_key w.0 k) us)) ≡ Some x
        → (text_at k us ≡ Some x → text_at k (us ++ more) ≡ Some x)
        → option_map (λ (w : Key × Word). w.1) (cond b (Some u) (find (λ w. same_key w.0 k) (us ++ more))) ≡ Some x
    go true e h = e
    go false e h = h e

text_new : (k : Key) (x : Word) (seen : Uses) → has_use k seen ≡ false → text_at k (seen ++ (k, x) ∷ []) ≡ Some x
text_new k x [] e = rw (same_self k) refl
text_new k x (u ∷ us) e = go (same_key u.0 k) e (text_new k x us)
  where
    go : (b : Bool) → (b || has_use k us) ≡ false → (has_use k us ≡ false → text_at k (us ++ (k, x) ∷ []) ≡ Some x)
        → option_map (λ (w : Key × Word). w.1) (cond b (Some u) (find (λ w. same_key w.0 k) (us ++ (k, x) ∷ []))) ≡ Some x
    go true e h = absurd (true≢false e)
    go false e h = h e

-- k has this text, or there are no uses
abbrev Has : Key → Word → Option Uses → Type 0
Has k x None = Unit {0}
Has k x (Some seen) = text_at k seen ≡ Some x

module _ (k : Key) (x : Word) where
  has_more : (j : Key) (v : Word) (seen : Uses) → Has k x (Some seen) → Has k x (with_use j v seen)
  has_more j v seen h = go (has_use j seen)
    where
      go : (b : Bool) → Has k x (cond b None (Some (seen ++ (j, v) ∷ [])))
      go true = tt
      go false = text_kept k x seen ((j, v) ∷ []) h

  has_next : (o : Option Uses) (next : Uses → Option Uses) → Has k x o → ((seen : Uses) → Has k x (Some seen) → Has k x (next seen)) → Has k x (and_then o next)
  has_next None next h n = tt
  has_next (Some seen) next h n = n seen h

  has_files : (ws : List Word) (seen : Uses) → Has k x (Some seen) → Has k x (files_from seen ws)
  has_files [] seen h = h
  has_files (w ∷ ws) seen h = has_next (with_use file w seen) (λ s. files_from s ws) (has_more file w seen h) (λ s. has_files ws s)

  has_word : (f : Form) (w : Word) (ws : List Word) (seen : Uses) → Has k x (Some seen)
      → ((wants : Option Key) (s : Uses) → Has k x (Some s) → Has k x (uses_from wide ws wants s)) → Has k x (word_form f w seen (files_from seen ws) (uses_from wide ws))
  has_word form.dashes w ws seen h n = has_files ws seen h
  has_word (form.option j None) w ws seen h n = n (Some j) seen h
  has_word (form.option j (Some v)) w ws seen h n = has_next (with_use j v seen) (uses_from wide ws None) (has_more j v seen h) (n None)
  has_word form.plain w ws seen h n = has_next (with_use file w seen) (uses_from wide ws None) (has_more file w seen h) (n None)
  has_word form.other w ws seen h n = tt

  has_value : (b : Bool) (j : Key) (w : Word) (seen : Uses) → Has k x (Some seen) → Has k x (cond b (with_use j w seen) None)
  has_value true j w seen h = has_more j w seen h
  has_value false j w seen h = tt

  has_all : (ws : List Word) (wants : Option Key) (seen : Uses) → Has k x (Some seen) → Has k x (uses_from wide ws wants seen)
  unfolding uses_from
  has_all [] None seen h = h
  has_all [] (Some j) seen h = tt
  has_all (w ∷ ws) None seen h = has_word (form_of w) w ws seen h (has_all ws)
  has_all (w ∷ ws) (Some j) seen h = has_next (cond (wide w) (with_use j w seen) None) (uses_from wide ws None) (has_value (wide w) j w seen h) (has_all ws None)

-- ---- `-` is no value

no_gap : gap_of dash ≡ None
unfolding gap_of numeral is_plain_numeral is_mantissa whole_part mantissa fraction_part
no_gap = refl

no_limit : nodes_of dash ≡ None
unfolding nodes_of
no_limit = refl

no_second : (abs : Option Gap) (limit : Option ℕ) (name : Option Word) → request_for abs None limit name ≡ None
no_second None limit name = refl
no_second (Some g) limit name = refl

no_third : (abs rel : Option Gap) (name : Option Word) → request_for abs rel None name ≡ None
no_third None rel name = refl
no_third (Some g) None name = refl
no_third (Some g) (Some h) name = refl

unasked : (k : Key) (seen : Uses) → same_key k file ≡ false → text_at k seen ≡ Some dash → request_at (texts_at seen) ≡ None
unfolding request_at
unasked absgap seen o e =
    let t = texts_at seen in
    ap (λ (g : Option Gap). request_for g (gap_or Unlimited t.relgap) (nodes_or t.nodes) t.file) (ap (gap_or (Of 0 0)) e ∙ no_gap)
unasked relgap seen o e =
    let t = texts_at seen in
    ap (λ (g : Option Gap). request_for (gap_or (Of 0 0) t.absgap) g (nodes_or t.nodes) t.file) (ap (gap_or Unlimited) e ∙ no_gap)
    ∙ no_second (gap_or (Of 0 0) t.absgap) (nodes_or t.nodes) t.file
unasked nodes seen o e =
    let t = texts_at seen in
    ap (λ (n : Option ℕ). request_for (gap_or (Of 0 0) t.absgap) (gap_or Unlimited t.relgap) n t.file) (ap nodes_or e ∙ no_limit)
    ∙ no_third (gap_or (Of 0 0) t.absgap) (gap_or Unlimited t.relgap) t.file
unasked file seen o e = absurd (true≢false o)

spoiled : (k : Key) (o : Option Uses) → same_key k file ≡ false → Has k dash o → judged o ≡ None
spoiled k None o h = refl
spoiled k (Some seen) o h = unasked k seen o h

-- ---- both readings

-- a word that clap takes as a value and that has a dash is `-`
only_dash : (w : Word) → wide w ≡ true → narrow w ≡ false → w ≡ dash
only_dash [] a b = absurd (true≢false b)
only_dash (x ∷ []) a b = go (x == 45) refl b
  where
    go : (c : Bool) → (x == 45) ≡ c → not c ≡ false → x ∷ [] ≡ dash
    go true e b = ap (λ (n : ℕ). n ∷ []) (eqb-true x 45 e)
    go false e b = absurd (true≢false b)
only_dash (x ∷ y ∷ ys) a b = go (x == 45) (y == 45) a b
  where
    not_long : (o : Option Key) (v : Option Word) → is_plain (option_form o v) ≡ true → x ∷ y ∷ ys ≡ dash
    not_long None v e = absurd (true≢false (sym e))
    not_long (Some k) v e = absurd (true≢false (sym e))

    long : (zs : Word) → is_plain (form.long_form zs) ≡ true → x ∷ y ∷ ys ≡ dash
    long [] e = absurd (true≢false (sym e))
    long (z ∷ zs) e = not_long _ _ e

    go : (c d : Bool) → is_plain (cond c (cond d (form.long_form ys) form.other) form.plain) ≡ true → not c ≡ false → x ∷ y ∷ ys ≡ dash
    go true true a b = long ys a
    go true false a b = absurd (true≢false (sym a))
    go false d a b = absurd (true≢false b)

-- what has no dash is plain
no_dash : (w : Word) → narrow w ≡ true → wide w ≡ true
no_dash [] a = refl
no_dash (x ∷ xs) a = go (x == 45) a
  where
    go : (c : Bool) → not c ≡ true → is_plain (cond c (form.dash_form xs) form.plain) ≡ true
    go true a = absurd (true≢false (sym a))
    go false a = refl

abbrev IsNoFile : Option Key → Type 0
IsNoFile None = Unit {0}
IsNoFile (Some k) = same_key k file ≡ false

judged_next : (o : Option Uses) (f g : Uses → Option Uses) → ((s : Uses) → judged (f s) ≡ judged (g s)) → judged (and_then o f) ≡ judged (and_then o g)
judged_next None f g h = refl
judged_next (Some s) f g h = h s

judged_value : (b c : Bool) (w : Word) (k : Key) (seen : Uses) (ws : List Word) → narrow w ≡ b → wide w ≡ c → same_key k file ≡ false
    → ((s : Uses) → judged (uses_from narrow ws None s) ≡ judged (uses_from wide ws None s))
    → judged (and_then (cond b (with_use k w seen) None) (uses_from narrow ws None)) ≡ judged (and_then (cond c (with_use k w seen) None) (uses_from wide ws None))
judged_value true true w k seen ws n v o h = judged_next (with_use k w seen) _ _ h
judged_value true false w k seen ws n v o h = absurd (true≢false (sym (no_dash w n) ∙ v))
judged_value false false w k seen ws n v o h = refl
judged_value false true w k seen ws n v o h = sym (spoiled k _ o (has_next k dash (with_use k w seen) (uses_from wide ws None)
    (subst (λ (x : Word). Has k dash (with_use k x seen)) (sym (only_dash w v n)) (go (has_use k seen) refl)) (λ s t. has_all k dash ws None s t)))
  where
    go : (b : Bool) → has_use k seen ≡ b → Has k dash (cond b None (Some (seen ++ (k, dash) ∷ [])))
    go true e = tt
    go false e = text_new k dash seen e

judged_word : (f : Form) (w : Word) (ws : List Word) (seen : Uses) → ((j : Key) (v : Option Word) → f ≡ form.option j v → same_key j file ≡ false)
    → ((wants : Option Key) (s : Uses) → IsNoFile wants → judged (uses_from narrow ws wants s) ≡ judged (uses_from wide ws wants s))
    → judged (word_form f w seen (files_from seen ws) (uses_from narrow ws)) ≡ judged (word_form f w seen (files_from seen ws) (uses_from wide ws))
judged_word form.dashes w ws seen o h = refl
judged_word (form.option k None) w ws seen o h = h (Some k) seen (o k None refl)
judged_word (form.option k (Some v)) w ws seen o h = judged_next (with_use k v seen) _ _ (λ s. h None s tt)
judged_word form.plain w ws seen o h = judged_next (with_use file w seen) _ _ (λ s. h None s tt)
judged_word form.other w ws seen o h = refl

option_no_file : (w : Word) (j : Key) (v : Option Word) → form_of w ≡ form.option j v → same_key j file ≡ false
option_no_file w j v e =
    let agreed : Agrees w (form.option j v) = subst (Agrees w) e (agree w) in
    option_key agreed.1.0 j agreed.1.2

judged_all : (ws : List Word) (wants : Option Key) (seen : Uses) → IsNoFile wants → judged (uses_from narrow ws wants seen) ≡ judged (uses_from wide ws wants seen)
unfolding uses_from
judged_all [] None seen o = refl
judged_all [] (Some k) seen o = refl
judged_all (w ∷ ws) None seen o = judged_word (form_of w) w ws seen (option_no_file w) (judged_all ws)
judged_all (w ∷ ws) (Some k) seen o = judged_value (narrow w) (wide w) w k seen ws refl refl o (λ s. judged_all ws None s tt)

pub request_is : (words : List Word) → request_of words ≡ option_and_then request_at (wide_texts words)
request_is words = judged_all words None [] tt
