use Rattle.std.proofs.Common.{◌≡◌, ◌∙◌, ◌∷◌, List, ℕ, Bor, [], ap, inr, map, subst, sym}
use Rattle.std.specs.List.{All}
use Rattle.std.specs.Str.{IsUtf8}
use Rattle.std.proofs.lemmas.Option.{MatchOption-at_none, MatchOption-at_some}
use Rattle.sp_args.proofs.GivesLemmas.{no_texts, read_as}
use Rattle.sp_args.proofs.reading.read_words.Goals as goal

each_text : (texts items : List (Bor (List ℕ))) → texts ≡ items → All IsUtf8 (map (λ s. s.now) items) → All IsUtf8 (map (λ s. s.now) texts)
each_text texts items is h = subst (λ (l : List (Bor (List ℕ))). All IsUtf8 (map (λ s. s.now) l)) (sym is) h

pub read_texts-requires : goal.read_texts-requires
read_texts-requires c =
    let made = MatchOption-at_some _ _ _ c.in-Ok-Some.field-0-is c.in-Ok-Some.ensures in
    each_text _ _ c.as_slice-in-Ok-Some.ensures.value made.1

pub returns-in-Ok-None-clause-reading : goal.returns-in-Ok-None-clause-reading
returns-in-Ok-None-clause-reading c =
    let none = MatchOption-at_none _ _ c.in-Ok-None.field-0-is c.in-Ok-None.ensures in
    inr (no_texts c.args.words.now (λ all. none (subst (All IsUtf8) (sym c.as_slice.ensures) all)))

pub returns-in-Ok-Some-clause-reading : goal.returns-in-Ok-Some-clause-reading
returns-in-Ok-Some-clause-reading c =
    let made = MatchOption-at_some _ _ _ c.in-Ok-Some.field-0-is c.in-Ok-Some.ensures in
    let all = map (λ s. s.now) c.as_slice-in-Ok-Some.result.now in
    let is : all ≡ [] ∷ c.args.words.now =
    ap (map (λ (s : Bor (List ℕ)). s.now)) c.as_slice-in-Ok-Some.ensures.value ∙ made.0 ∙ ap (λ (l : List (List ℕ)). [] ∷ l) c.as_slice.ensures in
    read_as [] c.args.words.now all c.read_texts.result is (each_text _ _ c.as_slice-in-Ok-Some.ensures.value made.1) c.read_texts.ensures.value
