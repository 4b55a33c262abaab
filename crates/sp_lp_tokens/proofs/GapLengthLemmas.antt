-- The gap before a token is the longest front that is a gap.
use Rattle.std.proofs.Common.{◌≡◌, ℕ, suc, ◌+◌, ◌≤◌, ◌⊎◌, inl, inr, Bool, true, false, not, ◌&&◌, ◌||◌, List, [], ◌∷◌, ◌++◌, length, take, drop, Option, Some, None, refl, sym, ap, subst, ◌∙◌, arith, append_assoc}
use Rattle.std.specs.Prelude.{if◌then◌else◌}
use Rattle.std.specs.List.{list_all}
use Rattle.std.proofs.lemmas.Bool.{and_parts, and_from}
use Rattle.std.proofs.lemmas.List.{take-append-drop, length-take-le, length-append}
use Rattle.sp_lp_tokens.specs.Gaps.{is_feed, is_blank, is_backslash, gap_length, GapPart, Space, Comment, has_no_feed, is_part, spelled, is_open, IsGap}

true_false : true ≡ false → ⊥
true_false e = cc

-- a comment and its line feed
comment_run : (text rest : List ℕ) → has_no_feed text ≡ true → gap_length true (text ++ 10 ∷ rest) ≡ length text + suc (gap_length false rest)
unfolding gap_length
comment_run [] rest h = omega arith
comment_run (b ∷ text) rest h =
    let p = and_parts (not (is_feed b)) (has_no_feed text) h in
    let ih : gap_length true (text ++ 10 ∷ rest) ≡ length text + suc (gap_length false rest) = comment_run text rest p.1 in
    rw p.0 (omega (arith, ih))

-- a comment that goes on
comment_goes : (text rest : List ℕ) → has_no_feed text ≡ true → length text ≤ gap_length true (text ++ rest)
unfolding gap_length
comment_goes [] rest h = omega arith
comment_goes (b ∷ text) rest h =
    let p = and_parts (not (is_feed b)) (has_no_feed text) h in
    let less : length text ≤ gap_length true (text ++ rest) = comment_goes text rest p.1 in
    rw p.0 (omega (arith, less))

covers : (parts : List GapPart) (last : Option (List ℕ)) (rest : List ℕ) → list_all is_part parts ≡ true → is_open last ≡ true → length (spelled parts last) ≤ gap_length false (spelled parts last ++ rest)
unfolding gap_length
covers [] None rest h o = omega arith
covers [] (Some text) rest h o = let less = comment_goes text rest o in omega (arith, less)
covers (Space b ∷ parts) last rest h o =
    let p = and_parts (is_blank b || is_feed b) (list_all is_part parts) h in
    let less : length (spelled parts last) ≤ gap_length false (spelled parts last ++ rest) = covers parts last rest p.1 o in
    rw p.0 (omega (arith, less))
covers (Comment text ∷ parts) last rest h o =
    let p = and_parts (has_no_feed text) (list_all is_part parts) h in
    let less : length (spelled parts last) ≤ gap_length false (spelled parts last ++ rest) = covers parts last rest p.1 o in
    let run = comment_run text (spelled parts last ++ rest) p.0 in
    let same : (text ++ 10 ∷ spelled parts last) ++ rest ≡ text ++ 10 ∷ (spelled parts last ++ rest) = append_assoc text (10 ∷ spelled parts last) rest in
    let long = length-append text (10 ∷ spelled parts last) in
    rw same (omega (arith, less, run, long))

-- no longer front is a gap
pub gap_is_longest : (bytes : List ℕ) (k : ℕ) → k ≤ length bytes → IsGap (take k bytes) → k ≤ gap_length false bytes
gap_is_longest bytes k le g =
    let front : take k bytes ++ drop k bytes ≡ bytes = take-append-drop k bytes in
    let long : length (take k bytes) ≡ k = length-take-le k bytes le in
    let cover : length (take k bytes) ≤ gap_length false (take k bytes ++ drop k bytes) = subst (λ (text : List ℕ). length text ≤ gap_length false (text ++ drop k bytes)) (sym g.text_is) (covers g.parts g.last (drop k bytes) g.parts_are g.last_is) in
    let whole : length (take k bytes) ≤ gap_length false bytes = subst (λ (text : List ℕ). length (take k bytes) ≤ gap_length false text) front cover in
    omega (arith, long, whole)

-- the rest of a comment, and what follows it
pub record IsCommentRest (text : List ℕ) : Type 0 where
  pub body : List ℕ
  pub body_is : has_no_feed body ≡ true
  pub rest_is : (text ≡ body) ⊎ ((gap : List ℕ) × IsGap gap × (text ≡ body ++ 10 ∷ gap))

abbrev pub IsRest : Bool → List ℕ → Type 0
IsRest true text = IsCommentRest text
IsRest false text = IsGap text

none : IsGap []
none = record { parts = []; last = None; parts_are = refl; last_is = refl; text_is = refl }

space : (b : ℕ) (text : List ℕ) → (is_blank b || is_feed b) ≡ true → IsGap text → IsGap (b ∷ text)
space b text s g = record { parts = Space b ∷ g.parts; last = g.last; parts_are = and_from (is_blank b || is_feed b) (list_all is_part g.parts) s g.parts_are; last_is = g.last_is; text_is = ap (λ t. b ∷ t) g.text_is }

comment : (text : List ℕ) → IsCommentRest text → IsGap (92 ∷ text)
comment text r = elim r.rest_is [ inl e ↦ alone e | inr h ↦ ended h.0 h.1 h.2 ]
  where
    alone : text ≡ r.body → IsGap (92 ∷ text)
    alone e = record { parts = []; last = Some r.body; parts_are = refl; last_is = r.body_is; text_is = ap (λ t. 92 ∷ t) e }

    ended : (gap : List ℕ) → IsGap gap → text ≡ r.body ++ 10 ∷ gap → IsGap (92 ∷ text)
    ended gap g e = record { parts = Comment r.body ∷ g.parts; last = g.last; parts_are = and_from (has_no_feed r.body) (list_all is_part g.parts) r.body_is g.parts_are; last_is = g.last_is; text_is = ap (λ t. 92 ∷ t) (e ∙ ap (λ t. r.body ++ 10 ∷ t) g.text_is) }

feed_is : (b : ℕ) → is_feed b ≡ true → b ≡ 10
feed_is b h = grind (arith)

backslash_is : (b : ℕ) → is_backslash b ≡ true → b ≡ 92
backslash_is b h = grind (arith)

longer : (b : ℕ) (text : List ℕ) → is_feed b ≡ false → IsCommentRest text → IsCommentRest (b ∷ text)
longer b text n r = record { body = b ∷ r.body; body_is = and_from (not (is_feed b)) (has_no_feed r.body) (ap not n) r.body_is; rest_is = elim r.rest_is [ inl e ↦ inl (ap (λ t. b ∷ t) e) | inr h ↦ inr (h.0, h.1, ap (λ t. b ∷ t) h.2) ] }

ends : (b : ℕ) (text : List ℕ) → is_feed b ≡ true → IsGap text → IsCommentRest (b ∷ text)
ends b text f g = record { body = []; body_is = refl; rest_is = inr (text, g, ap (λ c. c ∷ text) (feed_is b f)) }

pub front_is_gap : (c : Bool) (bytes : List ℕ) → IsRest c (take (gap_length c bytes) bytes)
unfolding gap_length
front_is_gap true [] = record { body = []; body_is = refl; rest_is = inl refl }
front_is_gap false [] = none
front_is_gap true (b ∷ bytes) = by (is_feed b) refl (λ c. front_is_gap c bytes)
  where
    by : (f : Bool) → is_feed b ≡ f → ((c : Bool) → IsRest c (take (gap_length c bytes) bytes)) → IsCommentRest (b ∷ take (gap_length (not f) bytes) bytes)
    by true e ih = ends b (take (gap_length false bytes) bytes) e (ih false)
    by false e ih = longer b (take (gap_length true bytes) bytes) e (ih true)
front_is_gap false (b ∷ bytes) = by (is_blank b || is_feed b) (is_backslash b) refl refl (λ c. front_is_gap c bytes)
  where
    by : (s c : Bool) → (is_blank b || is_feed b) ≡ s → is_backslash b ≡ c → ((c : Bool) → IsRest c (take (gap_length c bytes) bytes))
        → IsGap (take (if s then suc (gap_length false bytes) else (if c then suc (gap_length true bytes) else 0)) (b ∷ bytes))
    by true c e f ih = space b (take (gap_length false bytes) bytes) e (ih false)
    by false true e f ih = subst (λ (d : ℕ). IsGap (d ∷ take (gap_length true bytes) bytes)) (sym (backslash_is b f)) (comment (take (gap_length true bytes) bytes) (ih true))
    by false false e f ih = none
