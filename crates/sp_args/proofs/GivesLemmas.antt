-- What the words give is what is told from the left, in both directions.
use Rattle.std.proofs.Common.{◌≡◌, ◌∙◌, ◌&&◌, ◌||◌, ◌⊎◌, inl, inr, ℕ, Bool, cond, codes, true, false, not, zero, suc, refl, sym, ap, ap₂, subst, List, [], ◌∷◌, ◌++◌, map, Option, Some, None, true≢false, arith, append-nil}
use Rattle.std.specs.Prelude.{◌==◌, option_and_then, option_map, drop, Result, Ok, Err, MatchResult}
use Rattle.std.specs.List.{All, list_any, before_first, after_first}
use Rattle.std.specs.Str.{IsUtf8, bytes_eq}
use Rattle.std.proofs.lemmas.Bool.{eqb-true}
use Rattle.std.proofs.lemmas.Bool.Decides.{nat_tests}
use Rattle.std.proofs.lemmas.Grind.{common_steps}
use Rattle.std.proofs.lemmas.List.{append_assoc}
use Rattle.std.proofs.lemmas.Option.{none-some, same_Some}
use Rattle.std.proofs.lemmas.Slice.Eq.{bytes_eq-Decides}
use Rattle.std.proofs.Math.Bool.{and-false}
use Rattle.clap.proofs.CutLemmas.{Lacks, list_any-Lacks, list_any-at, before_first-Lacks, before_first-at, after_first-at}
use Rattle.sp_model.specs.declared.gaps.Gap.{Gap}
use Rattle.sp_model.specs.declared.gaps.Gap.TheVariants.{Of, Unlimited}
use Rattle.sp_args.specs.declared.requests.Request.{Request}
use Rattle.sp_args.specs.declared.requests.WordsRefusal.{WordsRefusal}
use Rattle.sp_args.specs.declared.requests.WordsRefusal.TheVariants as refusal
use Rattle.sp_args.specs.Words.{Word, Key, absgap, relgap, nodes, file, same_key, key_of, has_dash, dashes, may_be_file, Uses, Gives, has_use, is_once, text_at, gap_or, nodes_or}
use Rattle.sp_args.specs.Words as words
use Rattle.sp_args.specs.Requests.{IsReading, IsNoReading}
use Rattle.sp_args.specs.InnerReading.{with_use, and_then, Form, option_form, long_form, dash_form, form_of, files_from, word_form, uses_from, Texts, texts_at, request_for, request_at, request_of}
use Rattle.sp_args.specs.InnerReading as form
use Rattle.sp_args.proofs.OptionLemmas.{or_true}
use Rattle.sp_args.proofs.ClapLemmas.{has_use-more}

-- ---- a word, cut at its first `=`

lacks_nil : Lacks 61 []
lacks_nil i lt = absurd (omega arith)

lacks_more : (x : ℕ) (xs : Word) → (x == 61) ≡ false → Lacks 61 xs → Lacks 61 (x ∷ xs)
lacks_more x xs ne h zero lt = grind (arith, nat_tests, common_steps)
lacks_more x xs ne h (suc i) lt = h i (grind (arith, common_steps))

abbrev IsCut : Word → Type 0
IsCut xs = Lacks 61 xs ⊎ ((a : Word) × ((b : Word) × Lacks 61 a × (xs ≡ a ++ 61 ∷ b)))

cut : (xs : Word) → IsCut xs
cut [] = inl lacks_nil
cut (x ∷ xs) = go (x == 61) refl (cut xs)
  where
    go : (t : Bool) → (x == 61) ≡ t → IsCut xs → IsCut (x ∷ xs)
    go true e rest = inr ([], (xs, lacks_nil, ap (λ (n : ℕ). n ∷ xs) (eqb-true x 61 e)))
    go false e (inl h) = inl (lacks_more x xs e h)
    go false e (inr (a, (b, h, is))) = inr (x ∷ a, (b, lacks_more x a e h, ap (λ (l : Word). x ∷ l) is))

abbrev cut_form : Word → Form
cut_form xs = option_form (key_of (before_first (λ y. y == 61) xs)) (cond (list_any (λ y. y == 61) xs) (Some (after_first (λ y. y == 61) xs)) None)

whole_form : (a : Word) → Lacks 61 a → cut_form a ≡ option_form (key_of a) None
whole_form a h =
    let before = before_first-Lacks 61 a h in
    let none = list_any-Lacks 61 a h in
    λ i. option_form (key_of (before i)) (cond (none i) (Some (after_first (λ y. y == 61) a)) None)

parted_form : (a b : Word) → Lacks 61 a → cut_form (a ++ 61 ∷ b) ≡ option_form (key_of a) (Some b)
parted_form a b h =
    let before = before_first-at 61 a b h in
    let some = list_any-at 61 a b in
    let after = after_first-at 61 a b h in
    λ i. option_form (key_of (before i)) (cond (some i) (Some (after i)) None)

-- ---- the look of a word tells the word

abbrev Shaped : Word → Form → Type 0
Shaped w form.dashes = w ≡ dashes
Shaped w (form.option k None) = (name : Word) × (key_of name ≡ Some k) × (w ≡ dashes ++ name)
Shaped w (form.option k (Some v)) = (name : Word) × (key_of name ≡ Some k) × (w ≡ dashes ++ name ++ 61 ∷ v)
Shaped w form.plain = may_be_file w ≡ true
Shaped w form.other = Unit {0}

whole_shaped : (name w : Word) (o : Option Key) → key_of name ≡ o → w ≡ dashes ++ name → Shaped w (option_form o None)
whole_shaped name w None e is = tt
whole_shaped name w (Some k) e is = (name, e, is)

parted_shaped : (name v w : Word) (o : Option Key) → key_of name ≡ o → w ≡ dashes ++ name ++ 61 ∷ v → Shaped w (option_form o (Some v))
parted_shaped name v w None e is = tt
parted_shaped name v w (Some k) e is = (name, e, is)

cut_shaped : (xs w : Word) → w ≡ dashes ++ xs → IsCut xs → Shaped w (cut_form xs)
cut_shaped xs w is (inl h) = subst (Shaped w) (sym (whole_form xs h)) (whole_shaped xs w (key_of xs) refl is)
cut_shaped xs w is (inr (a, (b, h, e))) =
    let form_is : cut_form xs ≡ option_form (key_of a) (Some b) = ap cut_form e ∙ parted_form a b h in
    subst (Shaped w) (sym form_is) (parted_shaped a b w (key_of a) refl (is ∙ ap (λ (l : Word). dashes ++ l) e))

long_shaped : (xs w : Word) → w ≡ dashes ++ xs → Shaped w (long_form xs)
long_shaped [] w is = is
long_shaped (z ∷ zs) w is = cut_shaped (z ∷ zs) w is (cut (z ∷ zs))

shaped : (w : Word) → Shaped w (form_of w)
shaped [] = refl
shaped (x ∷ []) = go (x == 45)
  where
    go : (a : Bool) → Shaped (x ∷ []) (cond a form.plain form.plain)
    go true = refl
    go false = refl
shaped (x ∷ y ∷ ys) = go (x == 45) (y == 45) refl refl
  where
    go : (a b : Bool) → (x == 45) ≡ a → (y == 45) ≡ b → Shaped (x ∷ y ∷ ys) (cond a (cond b (long_form ys) form.other) form.plain)
    go true true e f = long_shaped ys (x ∷ y ∷ ys) (ap₂ (λ (m n : ℕ). m ∷ n ∷ ys) (eqb-true x 45 e) (eqb-true y 45 f))
    go true false e f = tt
    go false b e f = rw e refl

-- ---- a word tells its look

pub same : (xs ys : Word) → bytes_eq xs ys ≡ true → ys ≡ xs
same xs ys e = sym ((bytes_eq-Decides xs ys).0 e)

key_lacks : (name : Word) (k : Key) → key_of name ≡ Some k → list_any (λ x. x == 61) name ≡ false
key_lacks name k e = go (bytes_eq (codes "absgap") name) (bytes_eq (codes "relgap") name) (bytes_eq (codes "nodes") name) refl refl refl e
  where
    go : (a r n : Bool) → bytes_eq (codes "absgap") name ≡ a → bytes_eq (codes "relgap") name ≡ r → bytes_eq (codes "nodes") name ≡ n
        → cond a (Some absgap) (cond r (Some relgap) (cond n (Some nodes) None)) ≡ Some k → list_any (λ x. x == 61) name ≡ false
    go true r n ea er en e = ap (list_any (λ x. x == 61)) (same (codes "absgap") name ea)
    go false true n ea er en e = ap (list_any (λ x. x == 61)) (same (codes "relgap") name er)
    go false false true ea er en e = ap (list_any (λ x. x == 61)) (same (codes "nodes") name en)
    go false false false ea er en e = absurd (none-some k e)

lacks : (xs : Word) → list_any (λ x. x == 61) xs ≡ false → Lacks 61 xs
lacks xs e = go (cut xs)
  where
    go : IsCut xs → Lacks 61 xs
    go (inl h) = h
    go (inr (a, (b, h, is))) = absurd (true≢false (sym (list_any-at 61 a b) ∙ ap (list_any (λ x. x == 61)) (sym is) ∙ e))

whole_is : (name : Word) (k : Key) → key_of name ≡ Some k → form_of (dashes ++ name) ≡ form.option k None
whole_is [] k e = absurd (none-some k e)
whole_is (z ∷ zs) k e = whole_form (z ∷ zs) (lacks (z ∷ zs) (key_lacks (z ∷ zs) k e)) ∙ ap (λ (o : Option Key). option_form o None) e

parted_is : (name v : Word) (k : Key) → key_of name ≡ Some k → form_of (dashes ++ name ++ 61 ∷ v) ≡ form.option k (Some v)
parted_is [] v k e = absurd (none-some k e)
parted_is (z ∷ zs) v k e = parted_form (z ∷ zs) v (lacks (z ∷ zs) (key_lacks (z ∷ zs) k e)) ∙ ap (λ (o : Option Key). option_form o (Some v)) e

file_is : (w : Word) → may_be_file w ≡ true → form_of w ≡ form.plain
file_is [] e = refl
file_is (x ∷ []) e = go (x == 45)
  where
    go : (a : Bool) → cond a form.plain form.plain ≡ form.plain
    go true = refl
    go false = refl
file_is (x ∷ y ∷ ys) e = go (x == 45) e
  where
    go : (a : Bool) → not a ≡ true → cond a (dash_form (y ∷ ys)) form.plain ≡ form.plain
    go true e = absurd (true≢false (sym e))
    go false e = refl

-- ---- what is given, one after the other

abbrev narrow : Word → Bool
narrow w = not (has_dash w)

abbrev add_all : Uses → Uses → Option Uses
add_all seen [] = Some seen
add_all seen (u ∷ us) = and_then (with_use u.0 u.1 seen) (λ s. add_all s us)

abbrev to_file : Word → Key × Word
to_file w = (file, w)

same_next : (o : Option Uses) (f g : Uses → Option Uses) → ((s : Uses) → f s ≡ g s) → and_then o f ≡ and_then o g
same_next None f g h = refl
same_next (Some s) f g h = h s

taken : (o : Option Uses) (next : Uses → Option Uses) (out : Uses) → and_then o next ≡ Some out → (s : Uses) × (o ≡ Some s) × (next s ≡ Some out)
taken None next out e = absurd (none-some out e)
taken (Some s) next out e = (s, refl, e)

files_are : (ws : List Word) (seen : Uses) → files_from seen ws ≡ add_all seen (map to_file ws)
files_are [] seen = refl
files_are (w ∷ ws) seen = same_next (with_use file w seen) (λ s. files_from s ws) (λ s. add_all s (map to_file ws)) (λ s. files_are ws s)

told : (w : Word) (ws : List Word) (f : Form) (seen : Uses) → form_of w ≡ f → uses_from narrow (w ∷ ws) None seen ≡ word_form f w seen (files_from seen ws) (uses_from narrow ws)
unfolding uses_from
told w ws f seen e = ap (λ (g : Form). word_form g w seen (files_from seen ws) (uses_from narrow ws)) e

told_value : (v : Word) (ws : List Word) (k : Key) (seen : Uses) → has_dash v ≡ false → uses_from narrow (v ∷ ws) (Some k) seen ≡ and_then (with_use k v seen) (uses_from narrow ws None)
unfolding uses_from
told_value v ws k seen e = ap (λ (b : Bool). and_then (cond (not b) (with_use k v seen) None) (uses_from narrow ws None)) e

told_end : (seen : Uses) → uses_from narrow [] None seen ≡ Some seen
unfolding uses_from
told_end seen = refl

complete : (ws : List Word) (us : Uses) → Gives ws us → (seen : Uses) → uses_from narrow ws None seen ≡ add_all seen us
complete ws us words.nothing seen = told_end seen
complete ws us (words.joined name {value = v} {key = k} {words = rest} {uses = more} e g) seen =
    told (dashes ++ name ++ 61 ∷ v) rest (form.option k (Some v)) seen (parted_is name v k e) ∙ same_next (with_use k v seen) (uses_from narrow rest None) (λ s. add_all s more) (complete rest more g)
complete ws us (words.apart name {value = v} {key = k} {words = rest} {uses = more} e d g) seen =
    told (dashes ++ name) (v ∷ rest) (form.option k None) seen (whole_is name k e) ∙ told_value v rest k seen d
    ∙ same_next (with_use k v seen) (uses_from narrow rest None) (λ s. add_all s more) (complete rest more g)
complete ws us (words.named {word = w} {words = rest} {uses = more} e g) seen =
    told w rest form.plain seen (file_is w e) ∙ same_next (with_use file w seen) (uses_from narrow rest None) (λ s. add_all s more) (complete rest more g)
complete ws us (words.all_named {words = rest}) seen = told dashes rest form.dashes seen refl ∙ files_are rest seen

abbrev Told : List Word → Option Key → Uses → Uses → Type 0
Told ws None seen out = (us : Uses) × Gives ws us × (add_all seen us ≡ Some out)
Told ws (Some k) seen out = (v : Word) × (rest : List Word) × (us : Uses) × (ws ≡ v ∷ rest) × (has_dash v ≡ false) × Gives rest us × (and_then (with_use k v seen) (λ s. add_all s us) ≡ Some out)

module _ (w : Word) (ws : List Word) (out : Uses) (rest : (wants : Option Key) (s : Uses) → uses_from narrow ws wants s ≡ Some out → Told ws wants s out) where
  value_told : (k : Key) (v : Word) (seen : Uses) → and_then (with_use k v seen) (uses_from narrow ws None) ≡ Some out
      → (us : Uses) × Gives ws us × (and_then (with_use k v seen) (λ s. add_all s us) ≡ Some out)
  value_told k v seen e =
      let t = taken (with_use k v seen) (uses_from narrow ws None) out e in
      let r = rest None t.0 t.2 in
      (r.0, r.1, ap (λ (o : Option Uses). and_then o (λ s. add_all s r.0)) t.1 ∙ r.2)

  word_told : (f : Form) (seen : Uses) → Shaped w f → word_form f w seen (files_from seen ws) (uses_from narrow ws) ≡ Some out → Told (w ∷ ws) None seen out
  word_told form.dashes seen is e =
      (map to_file ws, subst (λ (x : Word). Gives (x ∷ ws) (map to_file ws)) (sym is) words.all_named, sym (files_are ws seen) ∙ e)
  word_told (form.option k None) seen (name, key, is) e =
      let r = rest (Some k) seen e in
      let made : Gives ((dashes ++ name) ∷ r.0 ∷ r.1) ((k, r.0) ∷ r.2) = words.apart name key r.4 r.5 in
      ((k, r.0) ∷ r.2, subst (λ (l : List Word). Gives l ((k, r.0) ∷ r.2)) (sym (ap₂ (λ (x : Word) (l : List Word). x ∷ l) is r.3)) made, r.6)
  word_told (form.option k (Some v)) seen (name, key, is) e =
      let r = value_told k v seen e in
      let made : Gives ((dashes ++ name ++ 61 ∷ v) ∷ ws) ((k, v) ∷ r.0) = words.joined name key r.1 in
      ((k, v) ∷ r.0, subst (λ (x : Word). Gives (x ∷ ws) ((k, v) ∷ r.0)) (sym is) made, r.2)
  word_told form.plain seen is e =
      let r = value_told file w seen e in
      ((file, w) ∷ r.0, words.named is r.1, r.2)
  word_told form.other seen is e = absurd (none-some out e)

  wanted_told : (b : Bool) (k : Key) (seen : Uses) → has_dash w ≡ b → and_then (cond (not b) (with_use k w seen) None) (uses_from narrow ws None) ≡ Some out → Told (w ∷ ws) (Some k) seen out
  wanted_told true k seen d e = absurd (none-some out e)
  wanted_told false k seen d e =
      let r = value_told k w seen e in
      (w, ws, r.0, refl, d, r.1, r.2)

sound : (ws : List Word) (wants : Option Key) (seen out : Uses) → uses_from narrow ws wants seen ≡ Some out → Told ws wants seen out
unfolding uses_from
sound [] None seen out e = ([], words.nothing, e)
sound [] (Some k) seen out e = absurd (none-some out e)
sound (w ∷ ws) None seen out e = word_told w ws out (λ wants s. sound ws wants s out) (form_of w) seen (shaped w) e
sound (w ∷ ws) (Some k) seen out e = wanted_told w ws out (λ wants s. sound ws wants s out) (has_dash w) k seen refl e

-- ---- nothing is given twice

same_sym : (j k : Key) → same_key j k ≡ same_key k j
same_sym absgap absgap = refl
same_sym absgap relgap = refl
same_sym absgap nodes = refl
same_sym absgap file = refl
same_sym relgap absgap = refl
same_sym relgap relgap = refl
same_sym relgap nodes = refl
same_sym relgap file = refl
same_sym nodes absgap = refl
same_sym nodes relgap = refl
same_sym nodes nodes = refl
same_sym nodes file = refl
same_sym file absgap = refl
same_sym file relgap = refl
same_sym file nodes = refl
same_sym file file = refl

has_there : (j k : Key) (v : Word) (xs us : Uses) → same_key k j ≡ true → has_use j (xs ++ (k, v) ∷ us) ≡ true
has_there j k v [] us e = ap (λ (b : Bool). b || has_use j us) e
has_there j k v (x ∷ xs) us e = ap (λ (b : Bool). same_key x.0 j || b) (has_there j k v xs us e) ∙ or_true (same_key x.0 j)

repeats : (k : Key) (v : Word) (seen us : Uses) → has_use k seen ≡ true → is_once (seen ++ (k, v) ∷ us) ≡ false
repeats k v [] us e = absurd (true≢false (sym e))
repeats k v (x ∷ xs) us e = go (same_key x.0 k) refl e (repeats k v xs us)
  where
    go : (b : Bool) → same_key x.0 k ≡ b → (b || has_use k xs) ≡ true → (has_use k xs ≡ true → is_once (xs ++ (k, v) ∷ us) ≡ false)
        → (not (has_use x.0 (xs ++ (k, v) ∷ us)) && is_once (xs ++ (k, v) ∷ us)) ≡ false
    go true s e h = ap (λ (b : Bool). not b && is_once (xs ++ (k, v) ∷ us)) (has_there x.0 k v xs us (same_sym k x.0 ∙ s))
    go false s e h = ap (λ (b : Bool). not (has_use x.0 (xs ++ (k, v) ∷ us)) && b) (h e) ∙ and-false (not (has_use x.0 (xs ++ (k, v) ∷ us)))

fresh : (k : Key) (v : Word) (seen : Uses) → has_use k seen ≡ false → is_once seen ≡ true → is_once (seen ++ (k, v) ∷ []) ≡ true
fresh k v [] e o = refl
fresh k v (x ∷ xs) e o = go (same_key x.0 k) (has_use x.0 xs) refl refl e o (fresh k v xs)
  where
    go : (b c : Bool) → same_key x.0 k ≡ b → has_use x.0 xs ≡ c → (b || has_use k xs) ≡ false → (not c && is_once xs) ≡ true
        → (has_use k xs ≡ false → is_once xs ≡ true → is_once (xs ++ (k, v) ∷ []) ≡ true)
        → (not (has_use x.0 (xs ++ (k, v) ∷ [])) && is_once (xs ++ (k, v) ∷ [])) ≡ true
    go true c s d e o h = absurd (true≢false e)
    go false true s d e o h = absurd (true≢false (sym o))
    go false false s d e o h =
        let none : has_use x.0 (xs ++ (k, v) ∷ []) ≡ false = has_use-more x.0 k v xs ∙ ap₂ (λ (a b : Bool). a || b) d (same_sym k x.0 ∙ s) in
        ap₂ (λ (a b : Bool). not a && b) none (h e o)

once_is : (us seen : Uses) → is_once seen ≡ true → add_all seen us ≡ cond (is_once (seen ++ us)) (Some (seen ++ us)) None
once_is [] seen o =
    let same_list : seen ++ [] ≡ seen = append-nil seen in
    sym (ap (λ (l : Uses). cond (is_once l) (Some l) None) same_list ∙ ap (λ (b : Bool). cond b (Some seen) None) o)
once_is (u ∷ us) seen o = go (has_use u.0 seen) refl (once_is us)
  where
    go : (b : Bool) → has_use u.0 seen ≡ b → ((s : Uses) → is_once s ≡ true → add_all s us ≡ cond (is_once (s ++ us)) (Some (s ++ us)) None)
        → and_then (cond b None (Some (seen ++ (u.0, u.1) ∷ []))) (λ s. add_all s us) ≡ cond (is_once (seen ++ u ∷ us)) (Some (seen ++ u ∷ us)) None
    go true e h = sym (ap (λ (b : Bool). cond b (Some (seen ++ u ∷ us)) None) (repeats u.0 u.1 seen us e))
    go false e h =
        let joined : (seen ++ u ∷ []) ++ us ≡ seen ++ u ∷ us = append_assoc seen (u ∷ []) us in
        h (seen ++ u ∷ []) (fresh u.0 u.1 seen e o) ∙ ap (λ (l : Uses). cond (is_once l) (Some l) None) joined

abbrev IsAll : Uses → Uses → Type 0
IsAll us out = (us ≡ out) × (is_once us ≡ true)

all_once : (us out : Uses) → add_all [] us ≡ Some out → IsAll us out
all_once us out e = go (is_once us) refl (sym (once_is us [] refl) ∙ e)
  where
    go : (b : Bool) → is_once us ≡ b → cond b (Some us) None ≡ Some out → IsAll us out
    go true o e = (same_Some us out e, o)
    go false o e = absurd (none-some out e)

-- ---- the reading

record Parts (abs rel : Option Gap) (limit : Option ℕ) (name : Option Word) (r : Request) : Type 0 where
  abs_is : abs ≡ Some r.gaps.abs
  rel_is : rel ≡ Some r.gaps.rel
  limit_is : limit ≡ Some r.nodes
  name_is : name ≡ Some r.file

parts : (abs rel : Option Gap) (limit : Option ℕ) (name : Option Word) (r : Request) → request_for abs rel limit name ≡ Some r → Parts abs rel limit name r
parts None rel limit name r e = absurd (none-some r e)
parts (Some a) None limit name r e = absurd (none-some r e)
parts (Some a) (Some b) None name r e = absurd (none-some r e)
parts (Some a) (Some b) (Some n) None r e = absurd (none-some r e)
parts (Some a) (Some b) (Some n) (Some f) r e =
    let is = same_Some (record { gaps = record { abs = a; rel = b }; nodes = n; file = f }) r e in
    record { abs_is = λ i. Some (is i).gaps.abs; rel_is = λ i. Some (is i).gaps.rel; limit_is = λ i. Some (is i).nodes; name_is = λ i. Some (is i).file }

from_uses : (ws : List Word) (r : Request) → All IsUtf8 ws → (o : Option Uses) → uses_from narrow ws None [] ≡ o → option_and_then request_at (option_map texts_at o) ≡ Some r → IsReading ws r
unfolding request_at
from_uses ws r u None o e = absurd (none-some r e)
from_uses ws r u (Some out) o e =
    let told = sound ws None [] out o in
    let us = told.0 in
    let all = all_once us out told.2 in
    let t = texts_at us in
    let asked : request_at t ≡ Some r = ap (λ (l : Uses). request_at (texts_at l)) all.0 ∙ e in
    let p = parts (gap_or (Of 0 0) t.absgap) (gap_or Unlimited t.relgap) (nodes_or t.nodes) t.file r asked in
    record { texts = u; uses = us; gives = told.1; once = all.1; abs = p.abs_is; rel = p.rel_is; limit = p.limit_is; named = p.name_is }

-- what is told from the left is a reading
pub is_reading : (ws : List Word) (r : Request) → All IsUtf8 ws → request_of ws ≡ Some r → IsReading ws r
is_reading ws r u e = from_uses ws r u (uses_from narrow ws None []) refl e

-- a reading is what is told from the left
pub is_told : (ws : List Word) (r : Request) → IsReading ws r → request_of ws ≡ Some r
unfolding request_at
is_told ws r h =
    let all : uses_from narrow ws None [] ≡ Some h.uses =
    complete ws h.uses h.gives [] ∙ once_is h.uses [] refl ∙ ap (λ (b : Bool). cond b (Some h.uses) None) h.once in
    ap (λ (o : Option Uses). option_and_then request_at (option_map texts_at o)) all ∙ λ i. request_for (h.abs i) (h.rel i) (h.limit i) (h.named i)

pub is_no_reading : (ws : List Word) → request_of ws ≡ None → IsNoReading ws
is_no_reading ws e r h = none-some r (sym e ∙ is_told ws r h)

pub one_reading : (ws : List Word) (r s : Request) → IsReading ws r → IsReading ws s → r ≡ s
one_reading ws r s h k = same_Some r s (sym (is_told ws r h) ∙ is_told ws s k)

-- the reading of the words behind a name
pub read_as : (name : Word) (ws all : List Word) (result : Result Request WordsRefusal) → all ≡ name ∷ ws → All IsUtf8 all
    → MatchResult result (λ r. request_of (drop 1 all) ≡ Some r) (λ why. (why ≡ refusal.NoMemory) ⊎ (request_of (drop 1 all) ≡ None))
    → MatchResult result (IsReading ws) (λ why. (why ≡ refusal.NoMemory) ⊎ IsNoReading ws)
read_as name ws all (Ok r) is u e = is_reading ws r texts (ap (λ (l : List Word). request_of (drop 1 l)) (sym is) ∙ e)
  where
    texts : All IsUtf8 ws
    texts k d lt = (subst (All IsUtf8) is u) (suc k) d (omega (arith, lt))
read_as name ws all (Err why) is u (inl m) = inl m
read_as name ws all (Err why) is u (inr none) = inr (is_no_reading ws (ap (λ (l : List Word). request_of (drop 1 l)) (sym is) ∙ none))

pub no_texts : (ws : List Word) → (All IsUtf8 ws → ⊥) → IsNoReading ws
no_texts ws h r reading = h reading.texts
