-- The walk of `clap` over the words gives what the reading gives.
use Rattle.std.proofs.Common.{◌≡◌, ◌∙◌, ◌&&◌, ◌||◌, ◌⊎◌, inl, inr, ℕ, Bool, cond, codes, true, false, suc, refl, sym, ap, ap₂, subst, List, [], ◌∷◌, ◌++◌, drop, Option, Some, None, is_some, arith}
use Rattle.std.specs.Prelude.{option_map, slice_get}
use Rattle.std.specs.List.{All, fold, AllByRecursion, before_first}
use Rattle.std.specs.Option.{option_map_or}
use Rattle.std.specs.Str.{IsUtf8, bytes_eq, chars}
use Rattle.std.proofs.lemmas.Str.{encodes-chars}
use Rattle.clap.specs.Lexer.{long_of, name_and_value, short_of}
use Rattle.clap.specs.Walk.{Held, first_of, rows_after, subcommand_met, positional, reacted, value, Row, Rule, Text, Waiting, idle, option, Walk, arg_by_index, arg_by_long, finished, is_pending, nothing_held, positional_held, pushed, used_by_id, settled, to_positional, used, walk, walked}
use Rattle.clap.specs.Simple.{names_of, App, entered, matches_of}
use Rattle.clap.specs.Kinds.{IsAmong, Kinds, or_else}
use Rattle.clap.specs.Faults.{built_fault, check_fault, stray_fault, defaults_fault, entered_fault, fault_of, level_fault, positional_fault, settle_fault, use_fault, turn_fault, word_fault, step_fault, repeat_fault, walk_fault, flags_fault}
use Rattle.sp_args.specs.InnerCommand.{solpool}
use Rattle.sp_args.specs.Words.{Key, absgap, relgap, text_at, same_key, nodes, file, Uses, has_use, key_of}
use Rattle.sp_args.specs.InnerReading.{wide_texts, texts_at, long_form, option_form, and_then, files_from, form_of, Form, uses_from, is_plain, with_use, word_form}
use Rattle.sp_args.proofs.OptionLemmas.{first_is, first_of_is, second_is, finished_is, id_is, id_of, long_is, no_check, no_defaults, no_short, none_fault, one_fault, rows, rule_for, rule_full, stray_is, option_key, rule_id, rule_next, rule_one, rule_single, rule_takes, rule_trails, shape, again, built_is, table, used_row, has_row_is}
use Rattle.sp_args.specs.InnerReading as form
use Rattle.std.specs.Prelude.{◌==◌}
use Rattle.std.proofs.lemmas.Bool.{eqb-true}
use Rattle.std.specs.Str.{encode_utf8_all}
use Rattle.std.specs.Char.{encode_utf8}
use Rattle.std.proofs.Math.Bool.{and-false}
use Rattle.sp_args.proofs.OptionLemmas.{or_assoc, or_false, or_true}
use Rattle.clap.specs.declared.error.kind.ErrorKind.{ErrorKind}
use Rattle.clap.specs.declared.error.kind.ErrorKind.TheVariants as kind

-- ---- faults

abbrev pub IsFault : Kinds → Type 0
IsFault [] = ⊥
IsFault (k ∷ ks) = Unit {0}

first_fault : (a b : Kinds) → IsFault a → IsFault (or_else a b)
first_fault [] b h = absurd h
first_fault (k ∷ ks) b h = h

later_fault : (a b : Kinds) → IsFault b → IsFault (or_else a b)
later_fault [] b h = h
later_fault (k ∷ ks) b h = tt

-- ---- what is held

-- what is held comes to these uses, or to a use that fails
abbrev pub Comes : Held → Option Uses → Type 0
Comes h None = IsFault (settle_fault table again h)
Comes h (Some seen) = (settle_fault table again h ≡ []) × ((settled table h).rows ≡ rows seen)

abbrev pub Settles : Held → Option Uses → Type 0
Settles h out = (h.skip ≡ 0) × Comes h out

-- the walk's faults and rows are what the reading says
abbrev pub Meets : Option Uses → Kinds → List Row → Type 0
Meets None faults found = IsFault faults
Meets (Some seen) faults found = (faults ≡ []) × (found ≡ rows seen)

walk_at : Held → Waiting → ℕ → Bool → Walk
walk_at h waiting position trailing = record { held = h; waiting = waiting; position = position; is_trailing = trailing; stopped = None }

end_fault : Held → Kinds
end_fault h = or_else (settle_fault table again h) (or_else (defaults_fault (settled table h).rows table) (check_fault shape (finished table h) false))

end_meets : (h : Held) (out : Option Uses) → Settles h out → Meets out (end_fault h) (finished table h)
unfolding end_fault
end_meets h None s = first_fault _ _ s.1
end_meets h (Some seen) s = (
  ap₂ or_else s.1.0 (ap₂ or_else (no_defaults (settled table h).rows) (no_check (finished table h))),
  finished_is h ∙ s.1.1,
)

-- held, with these values of k pending
abbrev with_pending : Held → Key → List Text → Held
with_pending h k vs = record (settled table h) { pending = Some (id_of k, vs) }

-- a use of k with one value, after what is held
used_fault : (h : Held) (k : Key) (v : Text) (seen : Uses) → (settled table h).rows ≡ rows seen
    → use_fault again (rule_for k) (v ∷ []) (settled table h).rows ≡ cond (has_use k seen) (kind.ArgumentConflict ∷ []) []
used_fault h k v seen e = one_fault k v (settled table h).rows ∙ ap (repeat_fault false (id_of k)) e
    ∙ ap (λ (b : Bool). cond (b && true) (kind.ArgumentConflict ∷ []) []) (has_row_is k seen) ∙ go (has_use k seen)
  where
    go : (b : Bool) → cond (b && true) (kind.ArgumentConflict ∷ []) [] ≡ cond b (kind.ArgumentConflict ∷ []) []
    go true = refl
    go false = refl

pending_fault : (h : Held) (k : Key) (vs : List Text) → settle_fault table again (with_pending h k vs) ≡ use_fault again (rule_for k) vs (settled table h).rows
pending_fault h k vs = ap (λ (o : Option Rule). option_map_or (λ a. use_fault again a vs (settled table h).rows) o []) (id_is k)

pending_rows : (h : Held) (k : Key) (vs : List Text) → (settled table (with_pending h k vs)).rows ≡ used (rule_for k) vs (settled table h).rows
pending_rows h k vs = ap (λ (o : Option Rule). used_by_id o vs (settled table h).rows) (id_is k)

-- one value of k is pending after what is held
pending_comes : (h : Held) (k : Key) (v : Text) (seen : Uses) → Settles h (Some seen) → Settles (with_pending h k (v ∷ [])) (with_use k v seen)
pending_comes h k v seen s = (s.0, go (has_use k seen) refl)
  where
    go : (b : Bool) → has_use k seen ≡ b → Comes (with_pending h k (v ∷ [])) (cond b None (Some (seen ++ (k, v) ∷ [])))
    go true e = subst IsFault (sym (pending_fault h k (v ∷ []) ∙ used_fault h k v seen s.1.1 ∙ ap (λ (b : Bool). cond b (kind.ArgumentConflict ∷ []) []) e)) tt
    go false e = (
      pending_fault h k (v ∷ []) ∙ used_fault h k v seen s.1.1 ∙ ap (λ (b : Bool). cond b (kind.ArgumentConflict ∷ []) []) e,
      pending_rows h k (v ∷ []) ∙ ap (used (rule_for k) (v ∷ [])) s.1.1 ∙ used_row k v seen e,
    )

-- an option waits for its value after what is held
waiting_fails : (h : Held) (k : Key) → IsFault (settle_fault table again (with_pending h k []))
waiting_fails h k = subst IsFault (sym (pending_fault h k [] ∙ none_fault k (settled table h).rows)) tt

positional_is : (h : Held) (w : Text) → positional_held table (rule_for file) w h ≡ with_pending h file (w ∷ [])
positional_is h w = ap (λ (b : Bool). pushed (rule_for file).id w (cond (is_pending (rule_for file) h.pending && b) h (settled table h))) (rule_one file)
    ∙ ap (λ (b : Bool). pushed (rule_for file).id w (cond b h (settled table h))) (and-false (is_pending (rule_for file) h.pending))
    ∙ ap (λ (i : Text). pushed i w (settled table h)) (rule_id file)

-- ---- words

abbrev pub dash_dash : Text
dash_dash = 45 ∷ 45 ∷ []

-- the look of a word, as `clap` sees it
abbrev pub Agrees : Text → Form → Type 0
Agrees w form.dashes = bytes_eq w dash_dash ≡ true
Agrees w (form.option k v) = (bytes_eq w dash_dash ≡ false) × ((name : Text) × (long_of w ≡ Some (name, v)) × (key_of name ≡ Some k))
Agrees w form.plain = (bytes_eq w dash_dash ≡ false) × (long_of w ≡ None) × (short_of w ≡ None)
Agrees w form.other = (bytes_eq w dash_dash ≡ false) × (((name : Text) × ((v : Option Text) × (long_of w ≡ Some (name, v)) × (key_of name ≡ None)))
    ⊎ ((x : ℕ) × ((xs : Text) × (w ≡ 45 ∷ x ∷ xs) × (long_of w ≡ None) × (short_of w ≡ Some (x ∷ xs)))))

keyed : (w name : Text) (v : Option Text) (o : Option Key) → bytes_eq w dash_dash ≡ false → long_of w ≡ Some (name, v) → key_of name ≡ o → Agrees w (option_form o v)
keyed w name v None b l e = (b, inl (name, (v, l, e)))
keyed w name v (Some k) b l e = (b, (name, l, e))

plain_from : (w : Text) → form_of w ≡ form.plain → bytes_eq w dash_dash ≡ false → long_of w ≡ None → short_of w ≡ None → Agrees w (form_of w)
plain_from w f b l s = subst (Agrees w) (sym f) (b, l, s)

other_from : (x : ℕ) (w xs : Text) → form_of w ≡ form.other → bytes_eq w dash_dash ≡ false → w ≡ 45 ∷ x ∷ xs → long_of w ≡ None → short_of w ≡ Some (x ∷ xs) → Agrees w (form_of w)
other_from x w xs f b e l s = subst (Agrees w) (sym f) (b, inr (x, (xs, e, l, s)))

pub agree : (w : Text) → Agrees w (form_of w)
agree [] = (refl, refl, refl)
agree (x ∷ []) = go (x == 45) refl
  where
    go : (a : Bool) → (x == 45) ≡ a → Agrees (x ∷ []) (form_of (x ∷ []))
    go true e = plain_from (x ∷ []) (rw e refl) (rw e refl) (rw e refl) (rw e refl)
    go false e = plain_from (x ∷ []) (rw e refl) (rw e refl) (rw e refl) (rw e refl)
agree (x ∷ y ∷ []) = go (x == 45) (y == 45) refl refl
  where
    go : (a b : Bool) → (x == 45) ≡ a → (y == 45) ≡ b → Agrees (x ∷ y ∷ []) (form_of (x ∷ y ∷ []))
    go true true e f =
        let form_is : form_of (x ∷ y ∷ []) ≡ form.dashes = rw (e, f) refl in
        let same : bytes_eq (x ∷ y ∷ []) dash_dash ≡ true = rw (e, f) refl in
        subst (Agrees (x ∷ y ∷ [])) (sym form_is) same
    go true false e f =
        let w_is : x ≡ 45 = eqb-true x 45 e in
        other_from y (x ∷ y ∷ []) [] (rw (e, f) refl) (rw (e, f) refl) (ap (λ (n : ℕ). n ∷ y ∷ []) w_is) (rw (e, f) refl) (rw (e, f) refl)
    go false b e f = plain_from (x ∷ y ∷ []) (rw e refl) (rw e refl) (rw e refl) (rw e refl)
agree (x ∷ y ∷ z ∷ zs) = go (x == 45) (y == 45) refl refl
  where
    go : (a b : Bool) → (x == 45) ≡ a → (y == 45) ≡ b → Agrees (x ∷ y ∷ z ∷ zs) (form_of (x ∷ y ∷ z ∷ zs))
    go true true e f =
        let name = before_first (λ c. c == 61) (z ∷ zs) in
        let form_is : form_of (x ∷ y ∷ z ∷ zs) ≡ long_form (z ∷ zs) = rw (e, f) refl in
        let long_at : long_of (x ∷ y ∷ z ∷ zs) ≡ Some (name_and_value (z ∷ zs)) = rw (e, f) refl in
        let apart : bytes_eq (x ∷ y ∷ z ∷ zs) dash_dash ≡ false = rw (e, f) refl in
        subst (Agrees (x ∷ y ∷ z ∷ zs)) (sym form_is) (keyed (x ∷ y ∷ z ∷ zs) name (name_and_value (z ∷ zs)).1 (key_of name) apart long_at refl)
    go true false e f =
        let w_is : x ≡ 45 = eqb-true x 45 e in
        other_from y (x ∷ y ∷ z ∷ zs) (z ∷ zs) (rw (e, f) refl) (rw (e, f) refl) (ap (λ (n : ℕ). n ∷ y ∷ z ∷ zs) w_is) (rw (e, f) refl) (rw (e, f) refl)
    go false b e f = plain_from (x ∷ y ∷ z ∷ zs) (rw e refl) (rw e refl) (rw e refl) (rw e refl)

-- text that begins with a dash and goes on has a character after it
short_char : (x : ℕ) (xs : Text) → IsUtf8 (45 ∷ x ∷ xs) → (c : ℕ) × (slice_get (chars (x ∷ xs)) 0 ≡ Some c)
unfolding chars encode_utf8
short_char x xs u = go (chars (x ∷ xs)) refl
  where
    go : (cs : List ℕ) → chars (x ∷ xs) ≡ cs → (c : ℕ) × (slice_get (chars (x ∷ xs)) 0 ≡ Some c)
    go [] e =
        let whole : chars (45 ∷ x ∷ xs) ≡ 45 ∷ chars (x ∷ xs) = refl in
        let back : encode_utf8_all (45 ∷ []) ≡ 45 ∷ x ∷ xs = ap encode_utf8_all (sym (whole ∙ ap (λ (l : List ℕ). 45 ∷ l) e)) ∙ encodes-chars (45 ∷ x ∷ xs) u in
        cc
    go (c ∷ cs) e = (c, ap (λ (l : List ℕ). slice_get l 0) e)

-- ---- one word

no_sub : (waiting : Waiting) (w : Text) → subcommand_met [] waiting w ≡ None
no_sub idle w = refl
no_sub (option id) w = refl
no_sub positional w = refl

module _ (h : Held) (waiting : Waiting) (position : ℕ) (w : Text) where
  abbrev at_word : Walk
  at_word = walk_at h waiting position false

  dashes_pass : bytes_eq w dash_dash ≡ true → turn_fault shape [] at_word w ≡ []
  unfolding walk_at
  dashes_pass b = rw (no_sub waiting w, b) refl

  dashes_walk : bytes_eq w dash_dash ≡ true → walked table [] at_word w ≡ walk_at h waiting position true
  unfolding walk_at walked
  dashes_walk b = rw (no_sub waiting w, b) refl

  long_fails : (name : Text) (v : Option Text) → bytes_eq w dash_dash ≡ false → long_of w ≡ Some (name, v) → key_of name ≡ None → IsFault (turn_fault shape [] at_word w)
  unfolding walk_at
  long_fails name v b l k =
      let none : arg_by_long table name ≡ None = long_is name ∙ ap (option_map rule_for) k in
      let it : word_fault shape [] false waiting w h ≡ kind.UnknownArgument ∷ [] = rw (no_sub waiting w, b, l, none) refl in
      first_fault (word_fault shape [] false waiting w h) _ (subst IsFault (sym it) tt)

  short_fails : (x : ℕ) (xs : Text) → bytes_eq w dash_dash ≡ false → long_of w ≡ None → short_of w ≡ Some (x ∷ xs) → w ≡ 45 ∷ x ∷ xs → IsUtf8 w → h.skip ≡ 0
      → IsFault (turn_fault shape [] at_word w)
  unfolding walk_at flags_fault
  short_fails x xs b l s is u skip =
      let char = short_char x xs (subst IsUtf8 is u) in
      let it : word_fault shape [] false waiting w h ≡ kind.UnknownArgument ∷ [] = rw (no_sub waiting w, b, l, s, skip, char.1, no_short char.0) refl in
      first_fault (word_fault shape [] false waiting w h) _ (subst IsFault (sym it) tt)

  module _ (name : Text) (k : Key) (b : bytes_eq w dash_dash ≡ false) (e : key_of name ≡ Some k) where
    found : arg_by_long table name ≡ Some (rule_for k)
    found = long_is name ∙ ap (option_map rule_for) e

    option_pass : long_of w ≡ Some (name, None) → turn_fault shape [] at_word w ≡ or_else (settle_fault table again h) []
    unfolding walk_at
    option_pass l = rw (no_sub waiting w, b, l, found, rule_takes k) refl

    option_walk : long_of w ≡ Some (name, None) → walked table [] at_word w ≡ walk_at (with_pending h k []) (option (id_of k)) position false
    unfolding walk_at walked
    option_walk l = rw (no_sub waiting w, b, l, found, rule_takes k, rule_id k) refl

    value_pass : (v : Text) → long_of w ≡ Some (name, Some v)
        → turn_fault shape [] at_word w ≡ or_else (or_else (settle_fault table again h) (use_fault again (rule_for k) (v ∷ []) (settled table h).rows)) []
    unfolding walk_at
    value_pass v l = rw (no_sub waiting w, b, l, found, rule_takes k) refl

    value_walk : (v : Text) → long_of w ≡ Some (name, Some v) → walked table [] at_word w ≡ walk_at (reacted table (rule_for k) (v ∷ []) h) idle position false
    unfolding walk_at walked
    value_walk v l = rw (no_sub waiting w, b, l, found, rule_takes k) refl

module _ (h : Held) (position : ℕ) (w : Text) (b : bytes_eq w dash_dash ≡ false) (l : long_of w ≡ None) (s : short_of w ≡ None) where
  plain_pass : turn_fault shape [] (walk_at h idle position false) w ≡ step_fault shape position h value
  unfolding walk_at
  plain_pass = rw (b, l, s) refl

  plain_walk : walked table [] (walk_at h idle position false) w ≡ to_positional table (arg_by_index table position) w (walk_at h idle position false) h
  unfolding walk_at walked
  plain_walk = rw (b, l, s) refl

  taken_pass : (k : Key) → turn_fault shape [] (walk_at (with_pending h k []) (option (id_of k)) position false) w ≡ []
  unfolding walk_at
  taken_pass k = rw (b, l, s) refl

  taken_walk : (k : Key) → walked table [] (walk_at (with_pending h k []) (option (id_of k)) position false) w ≡ walk_at (with_pending h k (w ∷ [])) idle position false
  unfolding walk_at walked
  taken_walk k = rw (b, l, s, id_is k, rule_full k w) refl

-- ---- the next position

abbrev place : Uses → ℕ
place seen = cond (has_use file seen) 2 1

abbrev Placed : Option Uses → ℕ → Type 0
Placed None position = (position ≡ 1) ⊎ (position ≡ 2)
Placed (Some seen) position = position ≡ place seen

pub has_use-more : (j k : Key) (v : Text) (seen : Uses) → has_use j (seen ++ (k, v) ∷ []) ≡ (has_use j seen || same_key k j)
has_use-more j k v [] = or_false (same_key k j)
has_use-more j k v (u ∷ us) = ap (λ (b : Bool). same_key u.0 j || b) (has_use-more j k v us) ∙ or_assoc (same_key u.0 j) (has_use j us) (same_key k j)

-- an option leaves the place as it is
option_placed : (k : Key) (v : Text) (seen : Uses) (position : ℕ) → same_key k file ≡ false → position ≡ place seen → Placed (with_use k v seen) position
option_placed k v seen position o e = go (has_use k seen)
  where
    one_or_two : (b : Bool) → position ≡ cond b 2 1 → (position ≡ 1) ⊎ (position ≡ 2)
    one_or_two true e = inr e
    one_or_two false e = inl e

    go : (b : Bool) → Placed (cond b None (Some (seen ++ (k, v) ∷ []))) position
    go true = one_or_two (has_use file seen) e
    go false = e ∙ ap (λ (b : Bool). cond b 2 1) (sym (has_use-more file k v seen ∙ ap (λ (b : Bool). has_use file seen || b) o ∙ or_false (has_use file seen)))

-- FILE moves it to 2
file_placed : (v : Text) (seen : Uses) → Placed (with_use file v seen) 2
file_placed v seen = go (has_use file seen)
  where
    go : (b : Bool) → Placed (cond b None (Some (seen ++ (file, v) ∷ []))) 2
    go true = inr refl
    go false = ap (λ (b : Bool). cond b 2 1) (sym (has_use-more file file v seen ∙ or_true (has_use file seen)))

-- ---- all the words

abbrev end_of : Walk → List Text → Held
end_of at words = (fold (walked table []) at words).held

total : Walk → List Text → Kinds
total at words = or_else (walk_fault shape [] at words) (end_fault (end_of at words))

final : Walk → List Text → List Row
final at words = finished table (end_of at words)

or_else-assoc : (a b c : Kinds) → or_else (or_else a b) c ≡ or_else a (or_else b c)
or_else-assoc [] b c = refl
or_else-assoc (k ∷ ks) b c = refl

total_more : (at : Walk) (w : Text) (ws : List Text) → total at (w ∷ ws) ≡ or_else (turn_fault shape [] at w) (total (walked table [] at w) ws)
unfolding total walk_fault
total_more at w ws = or_else-assoc (turn_fault shape [] at w) (walk_fault shape [] (walked table [] at w) ws) (end_fault (end_of (walked table [] at w) ws))

fails_here : (at : Walk) (w : Text) (ws : List Text) → IsFault (turn_fault shape [] at w) → IsFault (total at (w ∷ ws))
fails_here at w ws h = subst IsFault (sym (total_more at w ws)) (first_fault _ _ h)

goes_on : (out : Option Uses) (at after : Walk) (w : Text) (ws : List Text) → turn_fault shape [] at w ≡ [] → walked table [] at w ≡ after
    → Meets out (total after ws) (final after ws) → Meets out (total at (w ∷ ws)) (final at (w ∷ ws))
unfolding final
goes_on out at after w ws pass walk m =
    let same : total at (w ∷ ws) ≡ total after ws = total_more at w ws ∙ ap₂ (λ (f : Kinds) (v : Walk). or_else f (total v ws)) pass walk in
    let rows_same : final at (w ∷ ws) ≡ final after ws = ap (λ (v : Walk). finished table (end_of v ws)) walk in
    subst (λ (f : Kinds). Meets out f (final at (w ∷ ws))) (sym same) (subst (Meets out (total after ws)) (sym rows_same) m)

-- ---- a word that goes to FILE

-- what is held after the word, at the place 1
abbrev file_after : Held → Text → Bool → Walk
file_after h w trailing = walk_at (with_pending h file (w ∷ [])) idle 2 trailing

to_file : (h : Held) (waiting : Waiting) (trailing : Bool) (w : Text) → to_positional table (arg_by_index table 1) w (walk_at h waiting 1 trailing) h ≡ file_after h w trailing
unfolding walk_at
to_file h waiting trailing w =
    let trails : (trailing || (rule_for file).trailing_var_arg) ≡ trailing = ap (λ (b : Bool). trailing || b) (rule_trails file) ∙ or_false trailing in
    let same : to_positional table (Some (rule_for file)) w (walk_at h waiting 1 trailing) h ≡ file_after h w trailing =
    λ i. record { held = positional_is h w i; waiting = cond (rule_single file i) positional idle; position = rule_next file i; is_trailing = trails i; stopped = None } in
    ap (λ (o : Option Rule). to_positional table o w (walk_at h waiting 1 trailing) h) first_is ∙ same

file_fault : (h : Held) → step_fault shape 1 h value ≡ settle_fault table again h
file_fault h = ap (λ (o : Option Rule). option_map_or (λ a. positional_fault table again a h) o (stray_fault shape)) first_is
    ∙ ap (λ (b : Bool). cond (is_pending (rule_for file) h.pending && b) [] (settle_fault table again h)) (rule_one file)
    ∙ ap (λ (b : Bool). cond b [] (settle_fault table again h)) (and-false (is_pending (rule_for file) h.pending))

no_second : (h : Held) → step_fault shape 2 h value ≡ kind.UnknownArgument ∷ []
no_second h = rw second_is stray_is

module _ (h : Held) (waiting : Waiting) (position : ℕ) (trailing : Bool) (w : Text) (ws : List Text) (next : Uses → Option Uses)
    (pass : turn_fault shape [] (walk_at h waiting position trailing) w ≡ step_fault shape position h value)
    (walk_is : walked table [] (walk_at h waiting position trailing) w ≡ to_positional table (arg_by_index table position) w (walk_at h waiting position trailing) h) where
  abbrev here : Walk
  here = walk_at h waiting position trailing

  -- a word that is to be FILE
  file_turn : (out : Option Uses) → Settles h out → Placed out position
      → ((after : Option Uses) → Settles (with_pending h file (w ∷ [])) after → Placed after 2 → Meets (and_then after next) (total (file_after h w trailing) ws) (final (file_after h w trailing) ws))
      → Meets (and_then (and_then out (with_use file w)) next) (total here (w ∷ ws)) (final here (w ∷ ws))
  file_turn None s placed rest = fails_here here w ws (elim placed [
    | inl e ↦ subst IsFault (sym (pass ∙ ap (λ (p : ℕ). step_fault shape p h value) e ∙ file_fault h)) s.1
    | inr e ↦ subst IsFault (sym (pass ∙ ap (λ (p : ℕ). step_fault shape p h value) e ∙ no_second h)) tt
  ])
  file_turn (Some seen) s placed rest = go (has_use file seen) refl
    where
      go : (b : Bool) → has_use file seen ≡ b → Meets (and_then (with_use file w seen) next) (total here (w ∷ ws)) (final here (w ∷ ws))
      go true e =
          let bad : position ≡ 2 = placed ∙ ap (λ (b : Bool). cond b 2 1) e in
          let none : with_use file w seen ≡ None = ap (λ (b : Bool). cond b None (Some (seen ++ (file, w) ∷ []))) e in
          subst (λ (o : Option Uses). Meets (and_then o next) (total here (w ∷ ws)) (final here (w ∷ ws))) (sym none)
          (fails_here here w ws (subst IsFault (sym (pass ∙ ap (λ (p : ℕ). step_fault shape p h value) bad ∙ no_second h)) tt))
      go false e =
          let first : position ≡ 1 = placed ∙ ap (λ (b : Bool). cond b 2 1) e in
          goes_on (and_then (with_use file w seen) next) here (file_after h w trailing) w ws
          (pass ∙ ap (λ (p : ℕ). step_fault shape p h value) first ∙ file_fault h ∙ s.1.0)
          (walk_is ∙ ap (λ (p : ℕ). to_positional table (arg_by_index table p) w (walk_at h waiting p trailing) h) first ∙ to_file h waiting trailing w)
          (rest (with_use file w seen) (pending_comes h file w seen s) (file_placed w seen))

-- ---- no word is left

end_total : (h : Held) (waiting : Waiting) (position : ℕ) (trailing : Bool) → total (walk_at h waiting position trailing) [] ≡ end_fault h
unfolding total walk_at walk_fault
end_total h waiting position trailing = refl

end_final : (h : Held) (waiting : Waiting) (position : ℕ) (trailing : Bool) → final (walk_at h waiting position trailing) [] ≡ finished table h
unfolding final walk_at
end_final h waiting position trailing = refl

at_end : (h : Held) (waiting : Waiting) (position : ℕ) (trailing : Bool) (out : Option Uses) → Settles h out
    → Meets out (total (walk_at h waiting position trailing) []) (final (walk_at h waiting position trailing) [])
at_end h waiting position trailing out s =
    subst (λ (f : Kinds). Meets out f (final (walk_at h waiting position trailing) [])) (sym (end_total h waiting position trailing))
    (subst (Meets out (end_fault h)) (sym (end_final h waiting position trailing)) (end_meets h out s))

-- ---- after `--`

trailing_pass : (h : Held) (waiting : Waiting) (position : ℕ) (w : Text) → turn_fault shape [] (walk_at h waiting position true) w ≡ step_fault shape position h value
unfolding walk_at
trailing_pass h waiting position w = refl

trailing_walk : (h : Held) (waiting : Waiting) (position : ℕ) (w : Text)
    → walked table [] (walk_at h waiting position true) w ≡ to_positional table (arg_by_index table position) w (walk_at h waiting position true) h
unfolding walk_at walked
trailing_walk h waiting position w = refl

all_files : (ws : List Text) (h : Held) (waiting : Waiting) (position : ℕ) (out : Option Uses) → Settles h out → Placed out position
    → Meets (and_then out (λ s. files_from s ws)) (total (walk_at h waiting position true) ws) (final (walk_at h waiting position true) ws)
all_files [] h waiting position None s p = at_end h waiting position true None s
all_files [] h waiting position (Some seen) s p = at_end h waiting position true (Some seen) s
all_files (w ∷ ws) h waiting position None s p =
    file_turn h waiting position true w ws (λ s. files_from s ws) (trailing_pass h waiting position w) (trailing_walk h waiting position w) None s p
    (λ after t q. all_files ws (with_pending h file (w ∷ [])) idle 2 after t q)
all_files (w ∷ ws) h waiting position (Some seen) s p =
    file_turn h waiting position true w ws (λ s. files_from s ws) (trailing_pass h waiting position w) (trailing_walk h waiting position w) (Some seen) s p
    (λ after t q. all_files ws (with_pending h file (w ∷ [])) idle 2 after t q)

-- ---- all words

abbrev wide : Text → Bool
wide w = is_plain (form_of w)

abbrev Reads : List Text → Type 0
Reads ws = (h : Held) (position : ℕ) (out : Option Uses) → Settles h out → Placed out position
    → Meets (and_then out (uses_from wide ws None)) (total (walk_at h idle position false) ws) (final (walk_at h idle position false) ws)

abbrev waiting_walk : Held → ℕ → Key → Walk
waiting_walk h position k = walk_at (with_pending h k []) (option (id_of k)) position false

abbrev Waits : List Text → Type 0
Waits ws = (h : Held) (position : ℕ) (k : Key) (seen : Uses) → Settles h (Some seen) → same_key k file ≡ false → position ≡ place seen
    → Meets (uses_from wide ws (Some k) seen) (total (waiting_walk h position k) ws) (final (waiting_walk h position k) ws)

other_fails : (h : Held) (waiting : Waiting) (position : ℕ) (w : Text) → IsUtf8 w → h.skip ≡ 0 → Agrees w form.other → IsFault (turn_fault shape [] (walk_at h waiting position false) w)
other_fails h waiting position w u skip (b, inl (name, (v, l, e))) = long_fails h waiting position w name v b l e
other_fails h waiting position w u skip (b, inr (x, (xs, is, l, s))) = short_fails h waiting position w x xs b l s is u skip

reacted_comes : (h : Held) (k : Key) (v : Text) (seen : Uses) → Settles h (Some seen) → has_use k seen ≡ false → Settles (reacted table (rule_for k) (v ∷ []) h) (with_use k v seen)
reacted_comes h k v seen s e =
    let is : with_use k v seen ≡ Some (seen ++ (k, v) ∷ []) = ap (λ (b : Bool). cond b None (Some (seen ++ (k, v) ∷ []))) e in
    subst (Settles (reacted table (rule_for k) (v ∷ []) h)) (sym is) (s.0, (refl, ap (used (rule_for k) (v ∷ [])) s.1.1 ∙ used_row k v seen e))

module _ (w : Text) (ws : List Text) (u : IsUtf8 w) (reads : Reads ws) (waits : Waits ws) where
  abbrev result : Form → Uses → Option Uses
  result f seen = word_form f w seen (files_from seen ws) (uses_from wide ws)

  abbrev ReadsAs : Form → Type 0
  ReadsAs f = (h : Held) (position : ℕ) (out : Option Uses) → Settles h out → Placed out position
      → Meets (and_then out (result f)) (total (walk_at h idle position false) (w ∷ ws)) (final (walk_at h idle position false) (w ∷ ws))

  reads_none : (f : Form) → Agrees w f → (h : Held) (position : ℕ) → Settles h None → Placed None position
      → IsFault (total (walk_at h idle position false) (w ∷ ws))
  reads_none form.dashes a h position s p =
      goes_on None (walk_at h idle position false) (walk_at h idle position true) w ws (dashes_pass h idle position w a) (dashes_walk h idle position w a) (all_files ws h idle position None s p)
  reads_none (form.option k None) a h position s p =
      fails_here _ w ws (subst IsFault (sym (option_pass h idle position w a.1.0 k a.0 a.1.2 a.1.1)) (first_fault _ [] s.1))
  reads_none (form.option k (Some v)) a h position s p =
      fails_here _ w ws (subst IsFault (sym (value_pass h idle position w a.1.0 k a.0 a.1.2 v a.1.1)) (first_fault _ [] (first_fault _ _ s.1)))
  reads_none form.plain a h position s p =
      file_turn h idle position false w ws (uses_from wide ws None) (plain_pass h position w a.0 a.1 a.2) (plain_walk h position w a.0 a.1 a.2) None s p (λ after t q. reads (with_pending h file (w ∷ [])) 2 after t q)
  reads_none form.other a h position s p = fails_here _ w ws (other_fails h idle position w u s.0 a)

  valued : (k : Key) (v : Text) → Agrees w (form.option k (Some v)) → (h : Held) (position : ℕ) (seen : Uses) → Settles h (Some seen) → position ≡ place seen
      → Meets (and_then (with_use k v seen) (uses_from wide ws None)) (total (walk_at h idle position false) (w ∷ ws)) (final (walk_at h idle position false) (w ∷ ws))
  valued k v a h position seen s p = go (has_use k seen) refl
    where
      turn : turn_fault shape [] (walk_at h idle position false) w ≡ or_else (or_else (settle_fault table again h) (cond (has_use k seen) (kind.ArgumentConflict ∷ []) [])) []
      turn = value_pass h idle position w a.1.0 k a.0 a.1.2 v a.1.1 ∙ ap (λ (f : Kinds). or_else (or_else (settle_fault table again h) f) []) (used_fault h k v seen s.1.1)

      go : (b : Bool) → has_use k seen ≡ b → Meets (and_then (with_use k v seen) (uses_from wide ws None)) (total (walk_at h idle position false) (w ∷ ws)) (final (walk_at h idle position false) (w ∷ ws))
      go true e =
          let none : with_use k v seen ≡ None = ap (λ (b : Bool). cond b None (Some (seen ++ (k, v) ∷ []))) e in
          subst (λ (o : Option Uses). Meets (and_then o (uses_from wide ws None)) (total (walk_at h idle position false) (w ∷ ws)) (final (walk_at h idle position false) (w ∷ ws))) (sym none)
          (fails_here _ w ws (subst IsFault (sym (turn ∙ ap (λ (b : Bool). or_else (or_else (settle_fault table again h) (cond b (kind.ArgumentConflict ∷ []) [])) []) e))
          (first_fault _ [] (later_fault (settle_fault table again h) (kind.ArgumentConflict ∷ []) tt))))
      go false e =
          goes_on (and_then (with_use k v seen) (uses_from wide ws None)) (walk_at h idle position false) (walk_at (reacted table (rule_for k) (v ∷ []) h) idle position false) w ws
          (turn ∙ ap₂ (λ (f : Kinds) (b : Bool). or_else (or_else f (cond b (kind.ArgumentConflict ∷ []) [])) []) s.1.0 e)
          (value_walk h idle position w a.1.0 k a.0 a.1.2 v a.1.1)
          (reads (reacted table (rule_for k) (v ∷ []) h) position (with_use k v seen) (reacted_comes h k v seen s e) (option_placed k v seen position (option_key a.1.0 k a.1.2) p))

  reads_as : (f : Form) → Agrees w f → ReadsAs f
  reads_as f a h position None s p = reads_none f a h position s p
  reads_as form.dashes a h position (Some seen) s p =
      goes_on (files_from seen ws) (walk_at h idle position false) (walk_at h idle position true) w ws (dashes_pass h idle position w a) (dashes_walk h idle position w a) (all_files ws h idle position (Some seen) s p)
  reads_as (form.option k None) a h position (Some seen) s p =
      goes_on (uses_from wide ws (Some k) seen) (walk_at h idle position false) (waiting_walk h position k) w ws
      (option_pass h idle position w a.1.0 k a.0 a.1.2 a.1.1 ∙ ap (λ (f : Kinds). or_else f []) s.1.0)
      (option_walk h idle position w a.1.0 k a.0 a.1.2 a.1.1)
      (waits h position k seen s (option_key a.1.0 k a.1.2) p)
  reads_as (form.option k (Some v)) a h position (Some seen) s p = valued k v a h position seen s p
  reads_as form.plain a h position (Some seen) s p =
      file_turn h idle position false w ws (uses_from wide ws None) (plain_pass h position w a.0 a.1 a.2) (plain_walk h position w a.0 a.1 a.2) (Some seen) s p (λ after t q. reads (with_pending h file (w ∷ [])) 2 after t q)
  reads_as form.other a h position (Some seen) s p = fails_here _ w ws (other_fails h idle position w u s.0 a)

  waits_as : (f : Form) → Agrees w f → (h : Held) (position : ℕ) (k : Key) (seen : Uses) → Settles h (Some seen) → same_key k file ≡ false → position ≡ place seen
      → Meets (and_then (cond (is_plain f) (with_use k w seen) None) (uses_from wide ws None)) (total (waiting_walk h position k) (w ∷ ws)) (final (waiting_walk h position k) (w ∷ ws))
  waits_as form.dashes a h position k seen s o p =
      goes_on None (waiting_walk h position k) (walk_at (with_pending h k []) (option (id_of k)) position true) w ws
      (dashes_pass (with_pending h k []) (option (id_of k)) position w a) (dashes_walk (with_pending h k []) (option (id_of k)) position w a)
      (all_files ws (with_pending h k []) (option (id_of k)) position None (s.0, waiting_fails h k) (one_or_two (has_use file seen) p))
    where
      one_or_two : (b : Bool) → position ≡ cond b 2 1 → (position ≡ 1) ⊎ (position ≡ 2)
      one_or_two true e = inr e
      one_or_two false e = inl e
  waits_as (form.option j None) a h position k seen s o p =
      fails_here _ w ws (subst IsFault (sym (option_pass (with_pending h k []) (option (id_of k)) position w a.1.0 j a.0 a.1.2 a.1.1)) (first_fault _ [] (waiting_fails h k)))
  waits_as (form.option j (Some v)) a h position k seen s o p =
      fails_here _ w ws (subst IsFault (sym (value_pass (with_pending h k []) (option (id_of k)) position w a.1.0 j a.0 a.1.2 v a.1.1)) (first_fault _ [] (first_fault _ _ (waiting_fails h k))))
  waits_as form.plain a h position k seen s o p =
      goes_on (and_then (with_use k w seen) (uses_from wide ws None)) (waiting_walk h position k) (walk_at (with_pending h k (w ∷ [])) idle position false) w ws
      (taken_pass h position w a.0 a.1 a.2 k) (taken_walk h position w a.0 a.1 a.2 k)
      (reads (with_pending h k (w ∷ [])) position (with_use k w seen) (pending_comes h k w seen s) (option_placed k w seen position o p))
  waits_as form.other a h position k seen s o p = fails_here _ w ws (other_fails (with_pending h k []) (option (id_of k)) position w u s.0 a)

both : (ws : List Text) → AllByRecursion IsUtf8 ws → Reads ws × Waits ws
unfolding uses_from
both [] us = (ended, unfinished)
  where
    ended : Reads []
    ended h position None s p = at_end h idle position false None s
    ended h position (Some seen) s p = at_end h idle position false (Some seen) s

    unfinished : Waits []
    unfinished h position k seen s o p = at_end (with_pending h k []) (option (id_of k)) position false None (s.0, waiting_fails h k)
both (w ∷ ws) us =
    let rest = both ws us.1 in
    (reads_as w ws us.0 rest.0 rest.1 (form_of w) (agree w), waits_as w ws us.0 rest.0 rest.1 (form_of w) (agree w))

-- ---- the whole

abbrev leaf : App
leaf = record { top = shape; subs = [] }

no_entered : (stop : Option (Text × List Text)) → entered leaf stop ≡ None
no_entered None = refl
no_entered (Some p) = refl

no_entered_fault : (stop : Option (Text × List Text)) → entered_fault leaf stop ≡ []
no_entered_fault None = refl
no_entered_fault (Some p) = refl

abbrev begun : Walk
begun = walk_at nothing_held idle 1 false

whole_fault : (words : List Text) → fault_of solpool words ≡ total begun (drop 1 words)
unfolding total end_fault walk_at
whole_fault words =
    let stop = (walk table [] nothing_held (drop 1 words)).stopped in
    ap (λ (a : App). built_fault a nothing_held (drop 1 words)) built_is
    ∙ ap₂ (λ (e : Option (Text × List Row)) (f : Kinds). level_fault shape [] nothing_held (drop 1 words) (is_some e) f) (no_entered stop) (no_entered_fault stop)

whole_rows : (words : List Text) → matches_of solpool words ≡ final begun (drop 1 words)
unfolding final walk_at
whole_rows words = ap (λ (a : App). rows_after a.top.rules (names_of a) (drop 1 words)) built_is

-- the parse of the words is what the reading says
pub parse_meets : (words : List Text) → AllByRecursion IsUtf8 (drop 1 words) → Meets (uses_from wide (drop 1 words) None []) (fault_of solpool words) (matches_of solpool words)
parse_meets words us =
    let m : Meets (uses_from wide (drop 1 words) None []) (total begun (drop 1 words)) (final begun (drop 1 words)) =
    (both (drop 1 words) us).0 nothing_held 1 (Some []) (refl, (refl, refl)) refl in
    subst (λ (f : Kinds). Meets (uses_from wide (drop 1 words) None []) f (matches_of solpool words)) (sym (whole_fault words))
    (subst (Meets (uses_from wide (drop 1 words) None []) (total begun (drop 1 words))) (sym (whole_rows words)) m)

-- ---- what the caller cites

each_text : (words : List Text) → All IsUtf8 words → AllByRecursion IsUtf8 words
each_text [] h = tt
each_text (w ∷ ws) h = (h 0 w (omega arith), each_text ws (λ k d lt. h (suc k) d (omega arith)))

later_texts : (words : List Text) → AllByRecursion IsUtf8 words → AllByRecursion IsUtf8 (drop 1 words)
later_texts [] h = tt
later_texts (w ∷ ws) h = h.1

all_meets : (words : List Text) → All IsUtf8 words → Meets (uses_from wide (drop 1 words) None []) (fault_of solpool words) (matches_of solpool words)
all_meets words us = parse_meets words (later_texts words (each_text words us))

-- a parse that fails by one of these kinds has no reading
pub refused_read : (words : List Text) (k : ErrorKind) → All IsUtf8 words → IsAmong k (fault_of solpool words) → wide_texts (drop 1 words) ≡ None
refused_read words k us among = go (uses_from wide (drop 1 words) None []) refl
  where
    go : (o : Option Uses) → uses_from wide (drop 1 words) None [] ≡ o → wide_texts (drop 1 words) ≡ None
    go None e = ap (option_map texts_at) e
    go (Some seen) e = absurd (subst (IsAmong k) (subst (λ (o : Option Uses). Meets o (fault_of solpool words) (matches_of solpool words)) e (all_meets words us)).0 among)

-- what the getters read of a parse that succeeds is the reading
pub taken_read : (words : List Text) (found : List Row) → All IsUtf8 words → fault_of solpool words ≡ [] → found ≡ matches_of solpool words
    → wide_texts (drop 1 words) ≡ Some (record { absgap = first_of (codes "absgap") found; relgap = first_of (codes "relgap") found; nodes = first_of (codes "nodes") found; file = first_of (codes "file") found })
taken_read words found us none is = go (uses_from wide (drop 1 words) None []) refl
  where
    go : (o : Option Uses) → uses_from wide (drop 1 words) None [] ≡ o
        → wide_texts (drop 1 words) ≡ Some (record { absgap = first_of (codes "absgap") found; relgap = first_of (codes "relgap") found; nodes = first_of (codes "nodes") found; file = first_of (codes "file") found })
    go None e = absurd (subst IsFault none (subst (λ (o : Option Uses). Meets o (fault_of solpool words) (matches_of solpool words)) e (all_meets words us)))
    go (Some seen) e =
        let m = subst (λ (o : Option Uses). Meets o (fault_of solpool words) (matches_of solpool words)) e (all_meets words us) in
        let found_is : rows seen ≡ found = sym m.1 ∙ sym is in
        let at_absgap : text_at absgap seen ≡ first_of (codes "absgap") found = sym (first_of_is absgap seen) ∙ ap (first_of (codes "absgap")) found_is in
        let at_relgap : text_at relgap seen ≡ first_of (codes "relgap") found = sym (first_of_is relgap seen) ∙ ap (first_of (codes "relgap")) found_is in
        let at_nodes : text_at nodes seen ≡ first_of (codes "nodes") found = sym (first_of_is nodes seen) ∙ ap (first_of (codes "nodes")) found_is in
        let at_file : text_at file seen ≡ first_of (codes "file") found = sym (first_of_is file seen) ∙ ap (first_of (codes "file")) found_is in
        let same : texts_at seen ≡ record { absgap = first_of (codes "absgap") found; relgap = first_of (codes "relgap") found; nodes = first_of (codes "nodes") found; file = first_of (codes "file") found } = λ i. record { absgap = at_absgap i; relgap = at_relgap i; nodes = at_nodes i; file = at_file i } in
        ap (option_map texts_at) e ∙ ap Some same
